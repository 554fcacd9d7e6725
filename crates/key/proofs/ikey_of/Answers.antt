-- `key::ikey_of` meets its contract: zeroes behind the key's bytes do not count.
use Rattle.std.specs.Prelude.{◌-◌}
use Rattle.base.specs.Kit.{◌∙◌, ap, length}
use Rattle.key.specs.Ikey.{be, ikey_of}
use Rattle.key.proofs.Turns.{be-eight}
use Rattle.key.proofs.Part.{paste_zeros}
use Rattle.key.proofs.Ikey.{be-filled, be_of-take}
use Rattle.key.proofs.ikey_of.Goals as goal

pub returns : goal.returns
unfolding ikey_of
returns c =
    let front = c.first.result.now in
    c.from_be_bytes.ensures ∙ be-eight _ ∙ ap (be 8) (c.copy_in.ensures ∙ paste_zeros 8 front) ∙ be-filled 8 (8 - length front) front
    ∙ ap (be 8) c.first.ensures ∙ be_of-take 8 c.args.key.now
