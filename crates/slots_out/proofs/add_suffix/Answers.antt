-- `slots_out::add_suffix` meets its contract: what is left besides the rules of its attribute.
use Rattle.base.specs.Kit.{refl, arith}
use Rattle.layering.specs.Tree.{beyond}
use Rattle.slots_out.proofs.Suffix.{suffix_end, suffix-laid}
use Rattle.slots_out.proofs.add_suffix.Goals as goal

-- the suffix, with its padding within the output
pub put_padded-behind-requires : goal.put_padded-behind-requires
put_padded-behind-requires c =
    let end = suffix_end _ _ _ c.requires.long_line _ c.lowered_key-read.ensures _ refl c.args.before.at in
    omega (arith, c.requires.line_in_bounds (λ ps. beyond), end)

pub returns : goal.returns
returns c =
    suffix-laid _ _ _ c.requires.long_line _ c.lowered_key-read.ensures _ refl
    c.args.out.now _ c.args.before.at _ c.args.before.slots _ c.put_padded-behind.ensures c.ikey_of.ensures c.add_slot.ensures
