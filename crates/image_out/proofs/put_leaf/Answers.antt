-- `image_out::put_leaf` meets its contract: six writes, one behind the other. Assumes nothing.
use Rattle.std.specs.Prelude.{◌≡◌}
use Rattle.base.specs.Kit.{arith, length, rules}
use Rattle.image_out.proofs.Rows.{slots_n}
use Rattle.image_out.proofs.RecordBytes.{leaf_puts}
use Rattle.image_out.proofs.put_leaf.Goals as goal

pub returns : goal.returns
returns c = λ fs e.
    let a = c.args in
    let h = c.requires.holds_slots in
    let i : length a.s.ikeys ≡ 15 = search rules in
    let v : length a.s.values ≡ 15 = search rules in
    let x : length a.s.suffixes ≡ 15 = search rules in
    leaf_puts a.out.now a.at a.s _ _ _ _ _ _ c.requires.at_in_bounds c.put_leaf_head.ensures (rw i at c.put_words.ensures) c.put_lens.ensures
    (rw v at c.put_words-2.ensures) (rw x at c.put_words-3.ensures) c.put_le.ensures fs e
    (omega (arith, h.few, slots_n a.s h.fields h.same, slots_n a.s fs e))
