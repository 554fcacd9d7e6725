-- The loop's invariant, `Midway`: the moves that are left come to what all of them come to, and the numbers are in range. Two ways lead
-- past the moves along a leaf (`holds`), and each outcome of the move (`moved`) has its law.
use Rattle.base.specs.Kit.{sym, ◌∙◌, arith, rules}
use Rattle.scan.specs.Types.{Held}
use Rattle.scan.specs.Machine.{scan_of}
use Rattle.walk.proofs.NumberLaws.{walk-fits}
use Rattle.scan.proofs.LoopLaws.{Turning, Made, along_so, begins, not_along, in-layer, along-on, along_ends, none, declines, made, goes_on_lem, counts, fits_key, emits, counts_last, exhausts}
use Rattle.scan.proofs.forward_ctx.make_moves.Goals as goal
use Rattle.scan.proofs.forward_ctx.make_moves.Goals.{In-Ok, Joined-is_along, then-is_along+in_default, else-is_along}

-- past the moves along a leaf
abbrev along : Joined-is_along → Held
along c = record { ctx = c.if-is_along.c; buf = c.if-is_along.held.buf; stack = c.if-is_along.held.stack }

holds : (c : Joined-is_along)
    → Turning c.args.whole c.args.walk.now c.args.image.now c.end-end.result.kind c.end-end.result.key.now c.loop-moves.moves (along c) c.if-is_along.moves c.if-is_along.keys c.if-is_along.tested
holds c =
    elim c.if-is_along.branch [
      | then-is_along+in_default w ↦
          along-on _ _ _ _ _ _ _ _ _ c.loop-moves.invariant (sym c.is_along.ensures ∙ w.if-is_along.true) _ _ w.along_leaf-a.ensures w.in_default.is _ _ _ _ (rw (w.c-is, w.held-is)) w.moves-is w.keys-is w.tested-is
      | else-is_along w ↦ not_along _ _ _ _ _ _ _ _ _ c.loop-moves.invariant c.loop-moves-test.true _ _ _ _ (rw (w.c-is, w.held-is)) w.moves-is w.keys-is w.tested-is
    ]

pub end-end-requires : goal.end-end-requires
end-end-requires c = let f = walk-fits _ _ c.requires.begun.0 in omega arith

pub loop-moves-init : goal.loop-moves-init
unfolding scan_of
loop-moves-init c =
    rw c.requires.from_walk (begins _ _ _ _ _ c.requires.begun.0 (search rules) c.end-end.ensures.kind c.end-end.ensures.key _ c.requires.begun.1)

pub along_leaf-a-requires : goal.along_leaf-a-requires
along_leaf-a-requires c =
    let on = sym c.is_along.ensures ∙ c.if-is_along.true in record { after_key = (along_so _ _ on).1; in_range = in-layer _ _ _ _ _ _ _ _ _ c.loop-moves.invariant on; found_le_done = c.loop-moves.invariant.few; done_in_bounds = c.loop-moves.invariant.within }

pub returns-in-Some : goal.returns-in-Some
returns-in-Some c =
    rw c.ended.ensures (along_ends _ _ _ _ _ _ _ _ _ c.loop-moves.invariant (sym c.is_along.ensures ∙ c.if-is_along.true) _ _ c.along_leaf-a.ensures _ c.in-Some.is)

-- the move, made
moved : (c : In-Ok)
    → Made c.args.whole c.args.walk.now c.args.image.now c.end-end.result.kind c.end-end.result.key.now c.in-Ok.p.outcome (record { ctx = c.in-Ok.p.ctx; buf = c.make_move.new.held.buf; stack = c.make_move.new.held.stack }) c.if-is_along.moves c.if-is_along.keys
moved c = let turn = holds (goal.at.In-Ok c).Joined-is_along in made _ _ _ _ _ _ _ _ _ turn.held turn.more _ _ (rw c.in-Ok.is at c.make_move.ensures)

pub returns-in-Err : goal.returns-in-Err
returns-in-Err c =
    let turn = holds (goal.at.returns-in-Err c).Joined-is_along in
    rw c.ended-in-Err.ensures (declines _ _ _ _ _ _ _ _ _ turn.held turn.more _ (rw c.in-Err.is at c.make_move.ensures) _)

pub loop-moves-preserved-in-Continue : goal.loop-moves-preserved-in-Continue
loop-moves-preserved-in-Continue c = goes_on_lem _ _ _ _ _ _ _ _ _ (moved (goal.at.loop-moves-preserved-in-Continue c).In-Ok) c.in-Continue.is

pub key_out-requires : goal.key_out-requires
key_out-requires c = fits_key _ _ _ _ _ _ _ _ _ (moved (goal.at.key_out-requires c).In-Ok) _ _ c.in-Emit.is

pub returns-then-not-whole : goal.returns-then-not-whole
returns-then-not-whole c =
    rw (c.ended-out.ensures, c.key_out.ensures) (emits _ _ _ _ _ _ _ _ _ (moved (goal.at.returns-then-not-whole c).In-Ok) _ _ c.in-Emit.is c.if-not-whole.true)

pub returns-then-last : goal.returns-then-last
returns-then-last c =
    rw c.ended-then-last.ensures (counts_last _ _ _ _ _ _ _ _ _ (moved (goal.at.returns-then-last c).In-Ok) _ _ c.in-Emit.is c.if-not-whole.false c.if-last.true)

pub loop-moves-preserved : goal.loop-moves-preserved
loop-moves-preserved c = counts _ _ _ _ _ _ _ _ _ (moved (goal.at.loop-moves-preserved c).In-Ok) _ _ c.in-Emit.is c.if-not-whole.false c.if-last.false

pub returns-in-Exhausted : goal.returns-in-Exhausted
returns-in-Exhausted c = rw c.ended-in-Exhausted.ensures (exhausts _ _ _ _ _ _ _ _ _ (moved (goal.at.returns-in-Exhausted c).In-Ok) c.in-Exhausted.is)

pub returns : goal.returns
returns c = rw c.ended-2.ensures (none _ _ _ _ _ _ _ _ _ c.loop-moves.invariant c.loop-moves-test.false)
