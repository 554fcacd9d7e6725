use Rattle.std.specs.Prelude.{◌+◌, ◌-◌}
use Rattle.scan.proofs.AlongLaws.{Going}
use Rattle.scan.proofs.along_leaf.along_leaf.Given as goal

abbrev pub invariant-loop-moves : goal.invariant-loop-moves
invariant-loop-moves l = Going l.image l.end.kind l.end.key.now l.initial.buf l.initial.c l.found l.done l.buf l.c (l.found + (l.moves - l.done)) l.moves
