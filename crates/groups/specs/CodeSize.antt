-- SIZES AS CODE COUNTS THEM: no further than one byte past the longest image, so that no sum wraps.
use Rattle.std.specs.Prelude.{◌+◌, ◌-◌}
use Rattle.base.specs.Kit.{ℕ, min, leb}
use Rattle.base.specs.Pick.{pick}
use Rattle.groups.specs.declared.Tally.{Tally}

unfoldable pub capped : ℕ → ℕ
capped x = min x 16777217

-- A tally with one more group, of n slots and with so many bytes of suffixes and layers below: in the leaf at hand where it has the
-- room, else in a further leaf.
unfoldable pub counted : Tally → ℕ → ℕ → Tally
counted t n bytes =
    let more = capped (t.bytes + bytes) in
    pick (leb n t.room) (record { leaves = t.leaves; room = t.room - n; bytes = more })
    (record { leaves = capped (t.leaves + 1); room = 15 - n; bytes = capped (more + 400) })
