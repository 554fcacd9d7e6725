-- Two ways lead to the pass, with and without a layer taken back (`ready`), and each outcome of it has its law.
use Rattle.base.specs.Kit.{ap, sym, ◌∙◌, refl, rules}
use Rattle.base.proofs.Declines.{handed_on}
use Rattle.scan.specs.Types.{Held}
use Rattle.scan.specs.Machine.{is_up, pushing}
use Rattle.scan.proofs.MoveLaws.{end_is}
use Rattle.scan.proofs.MakeMove.{Ready, stays, pops, asks, declines, not_pushed, passes, room}
use Rattle.scan.proofs.forward_ctx.make_move.Goals as goal
use Rattle.scan.proofs.forward_ctx.make_move.Goals.{Joined-c, in-Up+else-c-eq0, in_default}

abbrev start : Joined-c → Held
start c = record { ctx = c.args.c; buf = c.args.held.now.buf; stack = c.args.held.now.stack }

abbrev at : Joined-c → Held
at c = record { ctx = c.match-c.c; buf = c.match-c.held.buf; stack = c.match-c.held.stack }

ready : (c : Joined-c) → Ready c.args.image.now c.args.end.kind c.args.end.key.now (start c) (at c)
ready c =
    elim c.match-c.branch [
      | in-Up+else-c-eq0 w ↦ pops _ _ _ _ c.requires.between _ w.in-Up.is w.if-c-eq0.false (rw (w.c-is, w.held-is, w.leave-c.ensures.popped, w.leave-c.ensures.unstacked))
      | in_default w ↦ stays _ _ _ _ c.requires.between _ w.in_default.not-Up (rw (w.c-is, w.held-is))
    ]

pub returns-then-c-eq0 : goal.returns-then-c-eq0
returns-then-c-eq0 c = end_is _ _ _ _ (ap is_up c.in-Up.is) c.if-c-eq0.true

pub one_move-requires-clause-move_ok : goal.one_move-requires-clause-move_ok
one_move-requires-clause-move_ok c = asks _ _ _ _ _ (ready (goal.at.one_move-requires-clause-move_ok c).Joined-c)

pub returns-in_err-p : goal.returns-in_err-p
returns-in_err-p c =
    rw (handed_on _ _ _ c.from_residual.ensures.1 refl)
    (declines _ _ _ _ _ (ready (goal.at.returns-in_err-p c).Joined-c) _ (sym c.in_err-p.was ∙ c.one_move.ensures.0))

pub returns-in_default-outcome : goal.returns-in_default-outcome
returns-in_default-outcome c =
    passes _ _ _ _ _ (ready (goal.at.returns-in_default-outcome c).Joined-c) _ _ (sym c.in_ok-p.was ∙ c.one_move.ensures.0) c.one_move.ensures.1
    ∙ not_pushed _ _ c.in_default-outcome.not-Push

pub enter-requires : goal.enter-requires
enter-requires c =
    room _ _ _ _ _ (ready (goal.at.enter-requires c).Joined-c) _ _ (sym c.in_ok-p.was ∙ c.one_move.ensures.0) c.one_move.ensures.1 (search rules) _ c.in-Push.is

pub returns : goal.returns
unfolding pushing
returns c =
    passes _ _ _ _ _ (ready (goal.at.returns c).Joined-c) _ _ (sym c.in_ok-p.was ∙ c.one_move.ensures.0) c.one_move.ensures.1
    ∙ rw (c.in-Push.is, c.enter.ensures.entered, c.enter.ensures.stacked)
