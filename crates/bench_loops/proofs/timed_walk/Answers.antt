-- The placing decides: 0 where it is declined, else the count, by either form.
use Rattle.bench_loops.proofs.Counting.{declined, counted}
use Rattle.bench_loops.proofs.timed_walk.Goals as goal

pub returns-in_default : goal.returns-in_default
returns-in_default c = declined _ _ c.place_all.ensures _ c.accepted.ensures c.in_default.not-Ok

pub returns-then-form-eq0 : goal.returns-then-form-eq0
returns-then-form-eq0 c = counted _ _ c.place_all.ensures _ c.accepted.ensures _ c.in-Ok.is _ c.keys_by-keys.ensures

pub returns-else-form-eq0 : goal.returns-else-form-eq0
returns-else-form-eq0 c = counted _ _ c.place_all.ensures _ c.accepted.ensures _ c.in-Ok.is _ c.keys_by-keys-else-form-eq0.ensures
