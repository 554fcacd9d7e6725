-- Each answer of the fast path has its law; the loop makes every other step.
use Rattle.std.specs.Prelude.{◌+◌, ◌≤◌, ◌≡◌, Some}
use Rattle.base.specs.Kit.{ap, sym, ◌∙◌, arith, rules}
use Rattle.scan.specs.Types.{Held}
use Rattle.moves.specs.CodeMoves.{InRange}
use Rattle.moves.specs.CodeFastPath.{slot_of, fast_slot}
use Rattle.moves.proofs.StoredKey.{key_fits}
use Rattle.moves.proofs.FastLaws.{Fast, fast_facts}
use Rattle.scan.specs.Machine.{ctx_of, scan_of}
use Rattle.scan.proofs.BeginLaws.{in_range_lem}
use Rattle.scan.proofs.StepLaws.{gone, out, past}
use Rattle.scan.proofs.step.step_next.Goals as goal
use Rattle.scan.proofs.step.step_next.Goals.{After-scan_of-held, In-Some-fast_slot, After-store_key-stored}

-- past the test of the leaf: the numbers are in range
module _ (c : After-scan_of-held) where
  ranged : InRange c.args.walk.now.depth (ctx_of c.args.walk.now)
  ranged = in_range_lem c.args.walk.now _ c.requires.image_value

  here : c.scan_of-held.result.ctx ≡ ctx_of c.args.walk.now
  unfolding scan_of
  here = ap (λ (x : Held). x.ctx) c.scan_of-held.ensures

  low : c.scan_of-held.result.ctx.cursor.offset ≤ 248
  low = rw here (omega (arith, ranged.place, ranged.deep))

-- with a fast slot
module _ (c : In-Some-fast_slot) where
  facts : Fast c.in-Some.leaf.image.now c.in-Some.leaf.at c.scan_of-held.result.ctx.position c.scan_of-held.result.ctx.cursor c.in-Some-fast_slot.s.slot
  facts = fast_facts _ _ _ _ _ (sym c.fast_slot.ensures.slot ∙ ap slot_of c.in-Some-fast_slot.is)

  -- of the walk and its image
  fast : fast_slot c.args.image.now c.args.walk.now.leaf (ctx_of c.args.walk.now).position (ctx_of c.args.walk.now).cursor ≡ Some c.in-Some-fast_slot.s.slot
  fast =
      let l = c.in-Some.ensures.leaf in
      rw (here (goal.at.In-Some-fast_slot c).After-scan_of-held, l.0, l.1) at (sym c.fast_slot.ensures.slot ∙ ap slot_of c.in-Some-fast_slot.is)

-- with the key stored: it fits
stored-fits : (c : After-store_key-stored) → c.store_key-stored.result.offset + c.store_key-stored.result.len ≤ 256
stored-fits c =
    rw (c.store_key-stored.ensures.0, c.in-Some-fast_slot.ensures.leaf)
    (key_fits _ _ _ _ (low (goal.at.After-store_key-stored c).After-scan_of-held) (facts (goal.at.After-store_key-stored c).In-Some-fast_slot).storable)

pub returns-in_default : goal.returns-in_default
returns-in_default c = c.declined.ensures ∙ gone _ _ c.requires.state_value (sym c.in_default.ensures.there) _ c.no_leaf.ensures

pub store_key-stored-requires-clause-offset_value : goal.store_key-stored-requires-clause-offset_value
store_key-stored-requires-clause-offset_value c = rw c.in-Some-fast_slot.ensures.leaf (facts (goal.at.store_key-stored-requires-clause-offset_value c).In-Some-fast_slot).storable

pub hand_out-requires : goal.hand_out-requires
hand_out-requires c = stored-fits (goal.at.hand_out-requires c).After-store_key-stored

pub overflow_add-len : goal.overflow_add-len
overflow_add-len c = let fits = stored-fits (goal.at.overflow_add-len c).After-store_key-stored in search rules

pub returns-in-Some-hand_out : goal.returns-in-Some-hand_out
unfolding scan_of
returns-in-Some-hand_out c =
    let e = c.scan_of-held.ensures in
    let l = c.in-Some.ensures.leaf in
    c.stepped.ensures ∙ rw (c.go_on-held.ensures, e)
    (out _ _ c.requires.state_value (sym c.in-Some.ensures.there) _ (fast (goal.at.returns-in-Some-hand_out c).In-Some-fast_slot) _ c.end-end.ensures.key _ (rw (e, c.in-Some-fast_slot.ensures.leaf, l.0, l.1) at c.store_key-stored.ensures.0) _ (rw (e, c.in-Some-fast_slot.ensures.leaf, l.0, l.1) at c.store_key-stored.ensures.1) _ (rw (c.end-end.ensures.kind, c.in-Some-fast_slot.ensures.leaf, l.0, l.1) at (sym c.in-Some-hand_out.is ∙ c.hand_out.ensures)))

pub returns-in-None : goal.returns-in-None
unfolding scan_of
returns-in-None c =
    let e = c.scan_of-held.ensures in
    let l = c.in-Some.ensures.leaf in
    c.stepped-in-None.ensures ∙ rw (c.go_on-held.ensures, e)
    (past _ _ c.requires.state_value (sym c.in-Some.ensures.there) _ (fast (goal.at.returns-in-None c).In-Some-fast_slot) _ c.end-end.ensures.key _ (rw (e, c.in-Some-fast_slot.ensures.leaf, l.0, l.1) at c.store_key-stored.ensures.0) _ (rw (e, c.in-Some-fast_slot.ensures.leaf, l.0, l.1) at c.store_key-stored.ensures.1) (rw (c.end-end.ensures.kind, c.in-Some-fast_slot.ensures.leaf, l.0, l.1) at (sym c.in-None.is ∙ c.hand_out.ensures)))
