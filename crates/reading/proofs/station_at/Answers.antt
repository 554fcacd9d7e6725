-- One law for each way out.
use Rattle.reading.proofs.Turns.{rest_is}
use Rattle.reading.proofs.Lines.{line_beyond, line_no-key, line_no-value, line_rest, line_found}
use Rattle.reading.proofs.station_at.Goals as goal

pub returns-then-s-at : goal.returns-then-s-at
returns-then-s-at c = line_beyond _ _ _ c.if-s-at.true

pub returns-in_err-key : goal.returns-in_err-key
returns-in_err-key c =
    rw c.from_residual.ensures (line_no-key _ _ _ _ (rw (rest_is c.args.s.now c.args.at) at c.in_err-key.ensures))

pub returns-in_err-value : goal.returns-in_err-value
returns-in_err-value c =
    let k = rw (rest_is c.args.s.now c.args.at) at c.in_ok-key.ensures in
    rw c.from_residual-in_err-value.ensures (line_no-value _ _ _ _ _ k c.in_err-value.ensures)

pub overflow_sub-result : goal.overflow_sub-result
overflow_sub-result c =
    let k = rw (rest_is c.args.s.now c.args.at) at c.in_ok-key.ensures in
    line_rest _ _ _ _ _ k c.if-s-at.false _ _ c.in_ok-value.ensures

pub returns : goal.returns
returns c =
    let k = rw (rest_is c.args.s.now c.args.at) at c.in_ok-key.ensures in
    line_found _ _ _ _ _ k c.if-s-at.false _ _ c.in_ok-value.ensures
