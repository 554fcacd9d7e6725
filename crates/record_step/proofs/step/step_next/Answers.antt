-- Its leaf is not there; or its next slot is fast, and its key is out, or past the bound, and the record is changed in place; or it is not.
use Rattle.std.specs.Prelude.{◌≡◌, ◌+◌, ◌≤◌, Some}
use Rattle.base.specs.Kit.{ap, sym, ◌∙◌, true, get_or, rules}
use Rattle.moves.specs.CodeFastPath.{slot_of, fast_slot}
use Rattle.moves.proofs.FastLaws.{Fast, fast_facts}
use Rattle.moves.proofs.StoredKey.{key_fits}
use Rattle.walk_record.specs.Record.{leaf_at, position_at, is_record}
use Rattle.walk_record.proofs.Told.{record_is}
use Rattle.record_step.specs.CodeInPlace.{place_of}
use Rattle.record_step.proofs.InPlace.{in_numbers, leaf_gone, key-out, key-past}
use Rattle.record_step.proofs.step.step_next.Goals as goal
use Rattle.record_step.proofs.step.step_next.Goals.{Start, After-place_of-k, In-Some-fast_slot, After-store_key-stored}

-- it is a walk's record
is : (c : Start) → is_record c.args.numbers.now c.args.buf.now c.args.bound.now ≡ true
is c = record_is _ _ _ c.told-numbers c.told-buf c.told-bound c.requires.numbers_readable

low : (c : After-place_of-k) → c.place_of-k.result.offset ≤ 248
low c = rw c.place_of-k.ensures (in_numbers _ _ c.requires.image_value).offset-fits

-- with a fast slot
module _ (c : In-Some-fast_slot) where
  facts : Fast c.in-Some.leaf.image.now c.in-Some.leaf.at (record { 0 = get_or c.args.numbers.now position_at 0 }) c.place_of-k.result c.in-Some-fast_slot.s.slot
  facts = fast_facts _ _ _ _ _ (sym c.fast_slot.ensures.slot ∙ ap slot_of c.in-Some-fast_slot.is)

  -- of the record
  fast : fast_slot c.args.image.now (get_or c.args.numbers.now leaf_at 0) (record { 0 = get_or c.args.numbers.now position_at 0 }) (place_of c.args.numbers.now) ≡ Some c.in-Some-fast_slot.s.slot
  fast = let l = c.in-Some.ensures.leaf in rw (c.place_of-k.ensures, l.0, l.1) at (sym c.fast_slot.ensures.slot ∙ ap slot_of c.in-Some-fast_slot.is)

-- with the key stored: it fits
stored-fits : (c : After-store_key-stored) → c.store_key-stored.result.offset + c.store_key-stored.result.len ≤ 256
stored-fits c =
    rw (c.store_key-stored.ensures.0, c.in-Some-fast_slot.ensures.leaf)
    (key_fits _ _ _ _ (low (goal.at.After-store_key-stored c).After-place_of-k) (facts (goal.at.After-store_key-stored c).In-Some-fast_slot).storable)

pub returns-in_default : goal.returns-in_default
returns-in_default c =
    leaf_gone _ _ _ _ (is (goal.at.returns-in_default c).Start) c.requires.image_value c.requires.state_at_value _ c.told-out (sym c.in_default.ensures.there) _ c.no_leaf.ensures

pub store_key-stored-requires-clause-offset_value : goal.store_key-stored-requires-clause-offset_value
store_key-stored-requires-clause-offset_value c = rw c.in-Some-fast_slot.ensures.leaf (facts (goal.at.store_key-stored-requires-clause-offset_value c).In-Some-fast_slot).storable

pub hand_out-requires : goal.hand_out-requires
hand_out-requires c = stored-fits (goal.at.hand_out-requires c).After-store_key-stored

pub overflow_add-len : goal.overflow_add-len
overflow_add-len c = let fits = stored-fits (goal.at.overflow_add-len c).After-store_key-stored in search rules

pub returns-in-Some-hand_out : goal.returns-in-Some-hand_out
returns-in-Some-hand_out c =
    let r = c.requires in
    let l = c.in-Some.ensures.leaf in
    let at = goal.at.returns-in-Some-hand_out c in
    rw (c.put_key.ensures, c.after_key.ensures)
    (key-out _ _ _ _ (is at.Start) r.image_value r.state_at_value _ c.told-out (sym c.in-Some.ensures.there) _ (fast at.In-Some-fast_slot) _ c.part_of.ensures _ (rw (c.place_of-k.ensures, c.in-Some-fast_slot.ensures.leaf, l.0, l.1) at c.store_key-stored.ensures.0) _ (rw (c.place_of-k.ensures, c.in-Some-fast_slot.ensures.leaf, l.0, l.1) at c.store_key-stored.ensures.1) _ _ (rw (c.in-Some-fast_slot.ensures.leaf, l.0, l.1) at (sym c.in-Some-hand_out.is ∙ c.hand_out.ensures)) _ c.one_more_of-handed.ensures (c.copy_from_slice.ensures.after ∙ c.answer_numbers.ensures))

pub returns-in-None : goal.returns-in-None
returns-in-None c =
    let r = c.requires in
    let l = c.in-Some.ensures.leaf in
    let at = goal.at.returns-in-None c in
    rw c.put_key-in-None.ensures
    (key-past _ _ _ _ (is at.Start) r.image_value r.state_at_value _ c.told-out (sym c.in-Some.ensures.there) _ (fast at.In-Some-fast_slot) _ c.part_of.ensures _ (rw (c.place_of-k.ensures, c.in-Some-fast_slot.ensures.leaf, l.0, l.1) at c.store_key-stored.ensures.0) _ (rw (c.place_of-k.ensures, c.in-Some-fast_slot.ensures.leaf, l.0, l.1) at c.store_key-stored.ensures.1) _ (rw (c.in-Some-fast_slot.ensures.leaf, l.0, l.1) at (sym c.in-None.is ∙ c.hand_out.ensures)) _ c.read_handed-handed.ensures (c.copy_from_slice-in-None.ensures.after ∙ c.answer_numbers-in-None.ensures))
