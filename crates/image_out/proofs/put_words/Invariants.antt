-- The loop's invariant: the words from i on, written behind those that are there, make the whole.
use Rattle.std.specs.Prelude.{◌≡◌, ◌*◌, ◌+◌, ◌-◌, ◌≤◌}
use Rattle.base.specs.Kit.{drop, length}
use Rattle.building.specs.Build.{words}
use Rattle.building.specs.CodeWritten.{put}
use Rattle.image_out.proofs.put_words.Given as goal

abbrev pub invariant-loop-i : goal.invariant-loop-i
invariant-loop-i l =
    (l.i ≤ length l.row) × (length l.out ≡ length l.initial.out) × (put l.out (l.at + 8 * l.i) (words 8 (length l.row - l.i) (drop l.i l.row)) ≡ put l.initial.out l.at (words 8 (length l.row) l.row))
