-- Where a step begins: a walk that passes the test of its numbers has them in range before its first move; and what a step comes to by
-- that test and by the walk's state.
use Rattle.std.specs.Prelude.{◌≡◌, ◌≤◌, ◌<◌, ◌^◌, None, Ok}
use Rattle.base.specs.Kit.{true, false, List, ℕ, arith, length}
use Rattle.base.specs.Pick.{pick}
use Rattle.scan.specs.Types.{ScanCtx, Walk, WalkRange, StartMode, WalkState, WalkStateStart as Start, WalkStateRetry as Retry, WalkStateFindNext as FindNext, Ended}
use Rattle.moves.specs.CodeMoves.{InRange}
use Rattle.moves.proofs.Laws.{Between}
use Rattle.walk.specs.Walk.{walk_ok}
use Rattle.walk.proofs.NumberLaws.{walk-fits}
use Rattle.scan.specs.Machine.{scan_state, ctx_of, is_ended, declined_with, answered, advance, step}

start_between : (mode : StartMode) (state : WalkState) (c : ScanCtx) → InRange c.depth c → Between (scan_state mode state) c
start_between mode Start c h = h
start_between mode Retry c h = h
start_between mode FindNext c h = h
start_between mode Ended c h = h

-- a walk's numbers are in range before the first move
pub in_range_lem : (w : Walk) (n : ℕ) → walk_ok w n ≡ true → InRange w.depth (ctx_of w)
in_range_lem w n e =
    let o = walk-fits w n e in
    record { place = o.offset-is; deep = o.depth-fits; within = o.end_fits; position = o.position-fits }

pub bound_fits : (w : Walk) (n : ℕ) → walk_ok w n ≡ true → w.bound.len ≤ 256
bound_fits w n e = let o = walk-fits w n e in omega arith

-- and its count can be raised
pub raised : (w : Walk) (n : ℕ) → walk_ok w n ≡ true → n < 2 ^ 63 → w.handed.count < 2 ^ 63
raised w n e h = omega (arith, (walk-fits w n e).count_fits, h)

pub starts_between : (w : Walk) (n : ℕ) → walk_ok w n ≡ true → Between (ctx_of w).state (ctx_of w)
starts_between w n e = start_between w.mode w.state _ (in_range_lem w n e)

-- A STEP, by the two tests that stand before its moves.
module _ (w : Walk) (image : List ℕ) where
  pub step_declined : walk_ok w (length image) ≡ false → declined_with WalkRange w ≡ step w image
  unfolding step pick
  step_declined e = rw e

  module _ (e : walk_ok w (length image) ≡ true) where
    pub step_ended : is_ended w.state ≡ true → answered (Ok None) 0 w ≡ step w image
    unfolding step pick
    step_ended f = rw (e, f)

    pub step_advances : is_ended w.state ≡ false → advance w image ≡ step w image
    unfolding step pick
    step_advances f = rw (e, f)
