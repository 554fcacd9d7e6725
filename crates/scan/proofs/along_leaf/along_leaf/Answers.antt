-- The loop's invariant is `Going`, with as many keys as moves; each way out of it has its law.
use Rattle.std.specs.Prelude.{◌+◌, ◌-◌, ◌≡◌, Some}
use Rattle.base.specs.Kit.{ap, sym, ◌∙◌, arith, length}
use Rattle.moves.specs.CodeFastPath.{slot_of, fast_slot}
use Rattle.moves.specs.Moves.{key_place, key_buf}
use Rattle.moves.proofs.FastLaws.{fast_facts}
use Rattle.moves.proofs.StoredKey.{key_fits}
use Rattle.scan.proofs.AlongLaws.{room, spent, gone, out, last_out, past}
use Rattle.scan.proofs.along_leaf.along_leaf.Goals as goal
use Rattle.scan.proofs.along_leaf.along_leaf.Goals.{In-Some-fast_slot, After-store_key-stored}

-- the fast slot, of the image and the walk's leaf
fast : (c : In-Some-fast_slot) → fast_slot c.args.image.now c.loop-moves.c.leaf c.loop-moves.c.position c.loop-moves.c.cursor ≡ Some c.in-Some-fast_slot.s.slot
fast c = let l = c.in-Some.ensures.leaf in rw (l.0, l.1) at (sym c.fast_slot.ensures.slot ∙ ap slot_of c.in-Some-fast_slot.is)

place : (c : After-store_key-stored) → c.store_key-stored.result ≡ key_place c.args.image.now c.loop-moves.c.leaf c.in-Some-fast_slot.s.slot c.loop-moves.c.cursor
place c = let l = c.in-Some.ensures.leaf in rw (c.in-Some-fast_slot.ensures.leaf, l.0, l.1) at c.store_key-stored.ensures.0

bytes : (c : After-store_key-stored) → c.store_key-stored.new.buf ≡ key_buf c.args.image.now c.loop-moves.c.leaf c.in-Some-fast_slot.s.slot c.loop-moves.c.cursor.offset c.loop-moves.buf
bytes c = let l = c.in-Some.ensures.leaf in rw (c.in-Some-fast_slot.ensures.leaf, l.0, l.1) at c.store_key-stored.ensures.1

pub returns-in_default : goal.returns-in_default
returns-in_default c =
    rw c.ended_by.ensures (gone _ _ _ _ _ _ _ _ _ _ _ c.loop-moves.invariant c.loop-moves-test.true (sym c.in_default.ensures.there))

pub store_key-stored-requires-clause-offset_value : goal.store_key-stored-requires-clause-offset_value
store_key-stored-requires-clause-offset_value c = rw c.in-Some-fast_slot.ensures.leaf (fast_facts _ _ _ _ _ (sym c.fast_slot.ensures.slot ∙ ap slot_of c.in-Some-fast_slot.is)).storable

pub hand_out-requires : goal.hand_out-requires
hand_out-requires c =
    let stored = (fast_facts _ _ _ _ _ (sym c.fast_slot.ensures.slot ∙ ap slot_of c.in-Some-fast_slot.is)).storable in
    rw (c.store_key-stored.ensures.0, c.in-Some-fast_slot.ensures.leaf) (key_fits _ _ _ _ (room _ _ _ _ _ _ _ _ _ _ _ c.loop-moves.invariant) stored)

pub returns-in_default-hand_out : goal.returns-in_default-hand_out
returns-in_default-hand_out c =
    let at = (goal.at.returns-in_default-hand_out c).After-store_key-stored in
    let l = c.in-Some.ensures.leaf in
    rw (c.ended_by-in_default-hand_out.ensures, c.go_on-c.ensures)
    (past _ _ _ _ _ _ _ _ _ _ _ c.loop-moves.invariant c.loop-moves-test.true (sym c.in-Some.ensures.there) _ (fast (goal.at.After-store_key-stored at).In-Some-fast_slot) _ (place at) _ (bytes at) (rw (c.in-Some-fast_slot.ensures.leaf, l.0, l.1) at (sym c.in_default-hand_out.is ∙ c.hand_out.ensures)))

pub returns-then-handed : goal.returns-then-handed
returns-then-handed c =
    let at = (goal.at.returns-then-handed c).After-store_key-stored in
    let l = c.in-Some.ensures.leaf in
    rw (c.ended_by-then-handed.ensures, c.go_on-c.ensures)
    (last_out _ _ _ _ _ _ _ _ _ _ _ c.loop-moves.invariant c.loop-moves-test.true (sym c.in-Some.ensures.there) _ (fast (goal.at.After-store_key-stored at).In-Some-fast_slot) _ (place at) _ (bytes at) _ (rw (c.in-Some-fast_slot.ensures.leaf, l.0, l.1) at (sym c.in-Some-hand_out.is ∙ c.hand_out.ensures)) c.if-handed.true)

pub loop-moves-preserved : goal.loop-moves-preserved
loop-moves-preserved c =
    let at = (goal.at.loop-moves-preserved c).After-store_key-stored in
    let l = c.in-Some.ensures.leaf in
    let inv = c.loop-moves.invariant in
    let one : c.args.found + (c.loop-moves.moves + 1 - c.args.done) ≡ c.args.found + (c.loop-moves.moves - c.args.done) + 1 = omega (arith, inv.grows) in
    rw (c.go_on-c.ensures, one)
    (out _ _ _ _ _ _ _ _ _ _ _ inv c.loop-moves-test.true (sym c.in-Some.ensures.there) _ (fast (goal.at.After-store_key-stored at).In-Some-fast_slot) _ (place at) _ (bytes at) _ (rw (c.in-Some-fast_slot.ensures.leaf, l.0, l.1) at (sym c.in-Some-hand_out.is ∙ c.hand_out.ensures)) c.if-handed.false)

pub returns : goal.returns
returns c =
    let all : c.loop-moves.moves ≡ length c.args.image.now = omega (arith, c.loop-moves.invariant.within) in
    rw c.ended_by-2.ensures (spent _ _ _ _ _ _ _ _ _ _ _ (rw all at c.loop-moves.invariant) (omega arith))
