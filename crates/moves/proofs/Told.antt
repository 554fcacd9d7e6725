-- THE LAW `move_told`: over any bytes and any context, a move that hands out a key tells it as the last exactly where the key that cursor and
-- buffer then hold is the included end (02 [12]).
use Rattle.std.specs.Prelude.{◌≡◌, ◌+◌, Result, Ok, Err}
use Rattle.base.specs.Kit.{refl, Bool, true, false, List, ℕ, take}
use Rattle.base.proofs.Choice.{pick_ind}
use Rattle.base.proofs.Declines.{then_ind}
use Rattle.cursor.specs.RangeBound.{tested, is_last, at_end}
use Rattle.search.specs.Traversal.{reach}
use Rattle.search.specs.Helper.{lower_with_suffix}
use Rattle.start.specs.Start.{start_position}
use Rattle.moves.specs.Types.{Decline, Slot, CursorPlace, Side, Inside, AtEnd, Past, StartMode, Started, At, EnterAt, ScanState, Start, Retry, FindNext, Down, Up, ScanCtx, Outcome, Continue, Push, Emit, Exhausted, Pass}
use Rattle.moves.proofs.Answers.{taken_ind}
use Rattle.moves.specs.Moves.{Taken, kept, standing, begin, start_in, find_start, retry_in, find_retry, handle_down, handle_up, advance_leaf, onward, outcome_on, hand_out, emit_key, take_key, take_layer, take_slot, unless_dup, back_to_retry, find_slot, find_next, pass_in}

module _ (kind : ℕ) (bound : List ℕ) where
  abbrev pub Told : Outcome → CursorPlace → List ℕ → Type 0
  Told Continue k buf = Unit {0}
  Told (Push root) k buf = Unit {0}
  Told (Emit value last) k buf = last ≡ at_end kind bound (take (k.offset + k.len) buf)
  Told Exhausted k buf = Unit {0}

  abbrev pub Passes : List ℕ → Result Pass Decline → Type 0
  Passes buf (Ok p) = Told p.outcome p.ctx.cursor buf
  Passes buf (Err d) = Unit {0}

  abbrev Tells : Taken → Type 0
  Tells t = Passes t.buf t.pass

  -- A KEY, by the side on which the bound has it
  on_side : (k : CursorPlace) (buf : List ℕ) (value : ℕ) (side : Side) → (tested kind bound (take (k.offset + k.len) buf)).side ≡ side
      → Told (outcome_on side value) k buf
  unfolding outcome_on at_end is_last
  on_side k buf value Inside e = rw e
  on_side k buf value AtEnd e = rw e
  on_side k buf value Past e = tt

  module _ (image : List ℕ) (c : ScanCtx) where
    emits : (buf : List ℕ) (s : Slot) (k : CursorPlace) → Passes buf (Ok (emit_key image kind bound buf c s k))
    unfolding emit_key hand_out onward
    emits buf s k = pick_ind (λ (p : Pass). Passes buf (Ok p)) _ (λ t. tt) (λ t. on_side k buf _ _ refl)

    -- EVERY OTHER PASS hands out nothing. A search's answer is stood at, or 22 is met.
    start : (mode : StartMode) (buf : List ℕ) → Tells (find_start mode image buf c)
    unfolding find_start start_in begin standing kept
    start mode buf =
        taken_ind Tells buf (reach image c.cursor.ikey c.root) _ (λ d. tt)
        (λ leaf e. taken_ind Tells buf (start_position mode image leaf c.cursor buf) _ (λ d. tt) (λ o f. comes leaf o))
      where
        comes : (leaf : ℕ) (o : Started) → Tells (begin mode image buf c leaf o)
        comes leaf (At p) = tt
        comes leaf (EnterAt s) = tt

    retry : (buf : List ℕ) → Passes buf (find_retry image buf c)
    unfolding find_retry retry_in standing
    retry buf =
        then_ind (Passes buf) (reach image c.cursor.ikey c.root) _ (λ d e. tt)
        (λ leaf e. then_ind (Passes buf) (lower_with_suffix image leaf c.cursor buf) _ (λ d e. tt) (λ p e. tt))

    up : (buf : List ℕ) → Passes buf (handle_up image buf c)
    unfolding handle_up standing
    up buf = pick_ind (Passes buf) _ (λ t. tt) (λ t. then_ind (Passes buf) (lower_with_suffix image c.leaf _ buf) _ (λ d e. tt) (λ p e. tt))

    advance : (buf : List ℕ) → Passes buf (advance_leaf image buf c)
    unfolding advance_leaf standing
    advance buf =
        pick_ind (Passes buf) _ (λ t. tt)
        (λ t. pick_ind (Passes buf) _ (λ t. tt)
        (λ t. then_ind (Passes buf) (lower_with_suffix image _ c.cursor buf) _ (λ d e. tt) (λ p e. tt)))

    module _ (buf : List ℕ) where
      unless_dup_lem : (o : Result Bool Decline) (new : Taken) → Tells new → Tells (unless_dup o buf c new)
      unfolding unless_dup kept
      unless_dup_lem (Ok false) new g = g
      unless_dup_lem (Ok true) new g = tt
      unless_dup_lem (Err d) new g = tt

      takes : (s : Slot) → Tells (take_slot image kind bound buf c s)
      unfolding take_slot take_key take_layer kept
      takes s = pick_ind Tells _ (λ t. emits _ s _) (λ t. pick_ind Tells _ (λ t. tt) (λ t. pick_ind Tells _ (λ t. tt) (λ t. tt)))

      next : Tells (find_next image kind bound buf c)
      unfolding find_next find_slot back_to_retry kept
      next =
          pick_ind Tells _ (λ t. tt)
          (λ t. pick_ind Tells _ (λ t. advance buf)
          (λ t. pick_ind Tells _ (λ t. tt) (λ t. pick_ind Tells _ (λ t. tt) (λ t. unless_dup_lem _ _ (takes _)))))

  pub move_told : (s : ScanState) (image buf : List ℕ) (c : ScanCtx) → Tells (pass_in s image kind bound buf c)
  unfolding pass_in handle_down kept
  move_told (Start mode) image buf c = start image c mode buf
  move_told Retry image buf c = retry image c buf
  move_told FindNext image buf c = next image c buf
  move_told Down image buf c = tt
  move_told Up image buf c = up image c buf
