-- A move as `make_move` makes it: what it has made of what it holds when it comes to its pass, and what the pass makes of it the move.
use Rattle.std.specs.Prelude.{◌≡◌, ◌<◌, Ok, Err}
use Rattle.base.specs.Kit.{refl, ap, subst, List, ℕ, arith, length}
use Rattle.moves.specs.Moves.{pass_in}
use Rattle.moves.specs.CodeMoves.{InRange, MoveOk}
use Rattle.moves.proofs.Laws.{Between, Before, not_up, popped_in_range, pass_in_range, asked}
use Rattle.scan.specs.Types.{Held, ScanState, Up, Outcome, Continue, Push, Emit, Exhausted, Pass, Decline}
use Rattle.scan.specs.Machine.{is_up, pushing, passed_by, moved_by, popped, unstacked, move}
use Rattle.scan.proofs.MoveLaws.{not_up_state, pass-is, up_is}

-- no layer was found
pub not_pushed : (o : Outcome) (s : Held) → ((root : ℕ) → o ≡ Push root → ⊥) → pushing o s ≡ record { outcome = Ok o; scan = s }
unfolding pushing
not_pushed Continue s h = refl
not_pushed (Push root) s h = absurd (h root refl)
not_pushed (Emit value last) s h = refl
not_pushed Exhausted s h = refl

module _ (image : List ℕ) (kind : ℕ) (bound : List ℕ) (s : Held) where
  -- It has come to its pass, with t: the move from s is that pass, and the pass's numbers are in range.
  pub record Ready (t : Held) : Type 0 where
    pub is : move image kind bound s ≡ moved_by t (pass_in t.ctx.state image kind bound t.buf t.ctx)
    pub fits : Before t.ctx.state t.ctx
    pub same : t.buf ≡ s.buf

  module _ (h : Between s.ctx.state s.ctx) (t : Held) where
    -- no layer is taken back
    pub stays : (s.ctx.state ≡ Up → ⊥) → t ≡ s → Ready t
    stays u e = rw e (record { is = pass-is image kind bound s (not_up_state s.ctx.state u); fits = not_up s.ctx.state s.ctx u h; same = refl })

    -- the layer above is taken back
    pub pops : s.ctx.state ≡ Up → (s.ctx.depth ≡ 0 → ⊥)
        → t ≡ record { ctx = popped s.ctx s.stack; buf = s.buf; stack = unstacked s.ctx s.stack } → Ready t
    pops up d e =
        let r : InRange s.ctx.depth s.ctx = subst (λ (x : ScanState). Between x s.ctx) up h in
        rw e (record { is = up_is image kind bound s (ap is_up up) d; fits = rw up (popped_in_range s.ctx _ refl refl r (omega arith) refl); same = refl })

  module _ (t : Held) (r : Ready t) where
    pub asks : MoveOk t.ctx
    asks = asked t.ctx.state t.ctx r.fits

    -- the pass is declined
    pub declines : (d : Decline) → Err d ≡ (pass_in t.ctx.state image kind bound t.buf t.ctx).pass → (move image kind bound s).outcome ≡ Err d
    unfolding passed_by
    declines d e = rw (r.is, ← e)

    -- it is made: p and b are what it came to
    module _ (p : Pass) (b : List ℕ) (e : Ok p ≡ (pass_in t.ctx.state image kind bound t.buf t.ctx).pass) (f : b ≡ (pass_in t.ctx.state image kind bound t.buf t.ctx).buf) where
      pub passes : move image kind bound s ≡ pushing p.outcome (record { ctx = p.ctx; buf = b; stack = t.stack })
      unfolding passed_by
      passes = rw (r.is, ← e, ← f)

      pub room : length s.buf ≡ 256 → (root : ℕ) → p.outcome ≡ Push root → p.ctx.depth < 31
      room l root o = (pass_in_range t.ctx.state image kind bound t.buf t.ctx r.fits (rw r.same l) p e (Push root) o).1
