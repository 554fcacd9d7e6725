-- A move of the machine as the loop makes it: in Up the layer above is taken back, then one pass, then a layer that was found is entered.
use Rattle.std.specs.Prelude.{◌≡◌, Ok}
use Rattle.base.specs.Kit.{refl, sym, ◌∙◌, ap, true, false, true≢false, false≢true, List, ℕ, eq-eqb, ne_eqb}
use Rattle.base.specs.Pick.{pick}
use Rattle.moves.specs.Moves.{pass_in}
use Rattle.scan.specs.Types.{Held, ScanState, ScanStateStart as Start, ScanStateRetry as Retry, ScanStateFindNext as FindNext, Down, Up, Exhausted}
use Rattle.scan.specs.Machine.{is_up, popped, unstacked, before, moved_by, move_in, move}

pub up_state : (state : ScanState) → is_up state ≡ true → state ≡ Up
up_state (Start mode) e = absurd (false≢true e)
up_state Retry e = absurd (false≢true e)
up_state FindNext e = absurd (false≢true e)
up_state Down e = absurd (false≢true e)
up_state Up e = refl

pub not_up_state : (state : ScanState) → (state ≡ Up → ⊥) → is_up state ≡ false
not_up_state (Start mode) h = refl
not_up_state Retry h = refl
not_up_state FindNext h = refl
not_up_state Down h = refl
not_up_state Up h = absurd (h refl)

pub other_state : (state : ScanState) → is_up state ≡ false → state ≡ Up → ⊥
other_state state e u = true≢false (sym (ap is_up u) ∙ e)

module _ (image : List ℕ) (kind : ℕ) (bound : List ℕ) (s : Held) where
  -- in every state but Up
  pub pass-is : is_up s.ctx.state ≡ false → move image kind bound s ≡ moved_by s (pass_in s.ctx.state image kind bound s.buf s.ctx)
  unfolding move move_in before pick
  pass-is e = rw e

  module _ (e : is_up s.ctx.state ≡ true) where
    -- in Up, from a layer below the first
    pub up_is : (s.ctx.depth ≡ 0 → ⊥)
        → move image kind bound s ≡ moved_by (record { ctx = popped s.ctx s.stack; buf = s.buf; stack = unstacked s.ctx s.stack })
        (pass_in s.ctx.state image kind bound s.buf (popped s.ctx s.stack))
    unfolding move move_in before pick
    up_is h = rw (e, ne_eqb s.ctx.depth 0 h)

    -- in Up, from the first layer
    pub end_is : s.ctx.depth ≡ 0 → move image kind bound s ≡ record { outcome = Ok Exhausted; scan = s }
    unfolding move move_in pick
    end_is h = rw (e, eq-eqb s.ctx.depth 0 h)
