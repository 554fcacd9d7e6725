-- `reading::stations` meets its contract.
use Rattle.base.specs.Kit.{sym, ap, ◌∙◌, arith, length, length-drop}
use Rattle.base.proofs.Count.{left-more}
use Rattle.reading.proofs.Turns.{rest_is}
use Rattle.reading.proofs.Whole.{text-fits, station_passed}
use Rattle.reading.proofs.stations.Goals as goal
use Rattle.reading.proofs.stations.Goals.{then-rising, else-rising}

pub overflow_mul-line : goal.overflow_mul-line
overflow_mul-line c = omega (arith, text-fits _ _ _ _ c.in_ok-line.ensures, c.loop.invariant.0)

pub loop-preserved : goal.loop-preserved
loop-preserved c =
    let more = left-more c.args.count c.loop.counter c.loop-test.true in
    let r = rest_is c.loop.rest.now c.in_ok-line.line.next in (
      omega (arith, ap length r, length-drop c.in_ok-line.line.next c.loop.rest.now, c.loop.invariant.0),
      elim c.if-rising.branch [
        | then-rising w ↦
            rw (r, w.rising-is, w.follows-rising.ensures, c.first-key.ensures, c.max.ensures)
            (sym (station_passed _ _ _ _ c.in_ok-line.ensures _ _ _) ∙ (rw (more, w.if-rising.true) at c.loop.invariant.1))
        | else-rising w ↦
            rw (r, w.rising-is, w.if-rising.false, c.first-key.ensures, c.max.ensures)
            (sym (station_passed _ _ _ _ c.in_ok-line.ensures _ _ _) ∙ (rw (more, w.if-rising.false) at c.loop.invariant.1))
      ],
    )
