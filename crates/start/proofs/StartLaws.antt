-- Start's search in a leaf as a loop over positions; and where it comes to: a position of the leaf's or the one past the last, or a
-- slot that is one of the fifteen, where more than eight bytes are left.
use Rattle.std.specs.Prelude.{◌≡◌, ◌≤◌, ◌<◌, Result, Ok, Err}
use Rattle.base.specs.Kit.{refl, List, ℕ, arith, ltb-true}
use Rattle.base.specs.Decline.{and_then}
use Rattle.base.proofs.Choice.{pick_ind}
use Rattle.base.proofs.Declines.{then_ind}
use Rattle.node.specs.Layout.{permutation_at}
use Rattle.node.specs.Permuter.{size_of}
use Rattle.start.specs.Types.{Decline, Position, Slot, CursorPlace, StartMode, Above, From, Verdict, Pass, Stand, Enter, Started, At, EnterAt}
use Rattle.cursor.specs.CursorKey.{has_suffix}
use Rattle.search.specs.Helper.{position, slot_in}
use Rattle.start.specs.Start.{at_equal, short_verdict, suffix_verdict, long_verdict, verdict, by_verdict, start_from, start_position}
use Rattle.search.proofs.LoopLaws.{Loop, More, Ends, one_more, at_end, all_turns, order_ind}

module _ (mode : StartMode) (image : List ℕ) (leaf : ℕ) (k : CursorPlace) (buf : List ℕ) where
  abbrev pub start_turn : ℕ → Slot → Result Started Decline → Result Started Decline
  start_turn i slot rest = and_then (verdict mode image leaf k buf slot) (λ v. by_verdict v i slot rest)

  pub start_loop : Loop image leaf (λ i. Ok (At (position i))) start_turn (start_from mode image leaf k buf)
  unfolding start_from
  start_loop = record { none = λ i. refl; more = λ i n. refl }

  pub start_more : More image leaf start_turn (start_from mode image leaf k buf)
  start_more = one_more start_loop

  pub start_end : Ends (λ i. Ok (At (position i))) (start_from mode image leaf k buf)
  start_end = at_end start_loop

  -- a layer is entered only where more than eight bytes are left
  abbrev Enters : Verdict → Type 0
  Enters Pass = Unit {0}
  Enters Stand = Unit {0}
  Enters Enter = 8 < k.len

  abbrev Judged : Result Verdict Decline → Type 0
  Judged (Ok v) = Enters v
  Judged (Err d) = Unit {0}

  enters_equal : (m : StartMode) → Enters (at_equal m)
  unfolding at_equal
  enters_equal Above = tt
  enters_equal From = tt

  enters_where : (s : Slot) → Judged (verdict mode image leaf k buf s)
  unfolding verdict has_suffix long_verdict short_verdict suffix_verdict
  enters_where s =
      pick_ind Judged _
      (λ t. order_ind Judged _ tt
      (pick_ind Judged _ (λ u. tt)
      (λ u. pick_ind Judged _ (λ v. ltb-true 8 k.len t)
      (λ v. pick_ind Judged _
      (λ w. pick_ind Judged _ (λ r. tt) (λ r. pick_ind Judged _ (λ q. tt) (λ q. order_ind Judged _ tt (enters_equal mode) tt)))
      (λ w. tt)))) tt)
      (λ t. order_ind Enters _ tt (pick_ind Enters _ (λ u. enters_equal mode) (λ u. tt)) tt)

  abbrev size : ℕ
  size = size_of (permutation_at image leaf)

  abbrev Comes : Result Started Decline → Type 0
  Comes (Ok (At p)) = p.0 ≤ size
  Comes (Ok (EnterAt s)) = (s.0 < 15) × (8 < k.len)
  Comes (Err d) = Unit {0}

  by-verdict : (v : Verdict) (i : ℕ) (s : Slot) (rest : Result Started Decline) → i ≤ size → s.0 < 15 → Enters v → Comes rest
      → Comes (by_verdict v i s rest)
  unfolding by_verdict
  by-verdict Pass i s rest h g e r = r
  by-verdict Stand i s rest h g e r = h
  by-verdict Enter i s rest h g e r = (g, e)

  start_comes : Comes (start_position mode image leaf k buf)
  unfolding start_position
  start_comes =
      all_turns start_loop Comes size tt (λ i h. h)
      (λ i rest h s r. then_ind Comes (verdict mode image leaf k buf (slot_in image leaf i)) _ (λ d e. tt)
      (λ v e. by-verdict v i _ rest (omega arith) s (rw e at (enters_where (slot_in image leaf i))) r)) 0 size (omega arith)

  pub start-within : (p : Position) → start_position mode image leaf k buf ≡ Ok (At p) → p.0 ≤ size
  start-within p e = rw e at start_comes

  pub enter-within : (s : Slot) → start_position mode image leaf k buf ≡ Ok (EnterAt s) → (s.0 < 15) × (8 < k.len)
  enter-within s e = rw e at start_comes
