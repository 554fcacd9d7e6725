-- The loop's invariant: what is left of the group, from the line reached on, comes to the same as the whole (`SoFar`).
use Rattle.std.specs.Prelude.{◌≡◌, ◌+◌}
use Rattle.groups.proofs.Found.{SoFar}
use Rattle.groups.proofs.group_of.Given as goal

abbrev pub invariant-loop : goal.invariant-loop
invariant-loop l =
    (l.g.shorts + l.g.longs ≡ l.counter) × SoFar l.lines.sheet.now l.lines.below l.lines.line l.lines.left l.first.ikey l.g
