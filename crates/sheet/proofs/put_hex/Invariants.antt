use Rattle.std.specs.Prelude.{◌≡◌, ◌*◌}
use Rattle.base.specs.Kit.{length, drop, paste}
use Rattle.sheet.specs.Sheet.{hex_bytes}
use Rattle.sheet.proofs.put_hex.Given as goal

-- the digits of the bytes from i on, written at 2 * i, make the whole
abbrev pub invariant-loop-i : goal.invariant-loop-i
invariant-loop-i l =
    paste l.out (2 * l.i) (hex_bytes (drop l.i l.key)) (length (hex_bytes (drop l.i l.key))) ≡ paste l.initial.out 0 (hex_bytes l.key) (length (hex_bytes l.key))
