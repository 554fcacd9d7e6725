use Rattle.std.specs.Prelude.{◌≡◌, ◌≤◌, ◌-◌}
use Rattle.start.specs.Start.{start_from, start_position}
use Rattle.start.proofs.start_position.Given as goal

abbrev pub invariant-loop-i : goal.invariant-loop-i
invariant-loop-i l =
    (l.i ≤ l.size) × (start_from l.judging.mode l.leaf.image.now l.leaf.at l.judging.c.place l.judging.c.buf.now l.i (l.size - l.i) ≡ start_position l.judging.mode l.leaf.image.now l.leaf.at l.judging.c.place l.judging.c.buf.now)
