-- Little-endian numbers (01, "The image": "Integers are little-endian").
use Rattle.std.specs.Prelude.{◌+◌, ◌*◌}
use Rattle.base.specs.Kit.{List, ℕ, zero, suc, get_or}

-- The n bytes of s from `at` on as one number, the low byte first.
unfoldable pub le : ℕ → List ℕ → ℕ → ℕ
le zero s at = 0
le (suc n) s at = get_or s at 0 + 256 * le n s (at + 1)

unfoldable pub u16_at : List ℕ → ℕ → ℕ
u16_at s at = le 2 s at

unfoldable pub u32_at : List ℕ → ℕ → ℕ
u32_at s at = le 4 s at

unfoldable pub u64_at : List ℕ → ℕ → ℕ
u64_at s at = le 8 s at
