-- Parts of byte strings, and byte strings in a buffer of 256 bytes.
use Rattle.std.specs.Prelude.{◌++◌, ◌-◌}
use Rattle.base.specs.Kit.{List, ℕ, length, take, drop, replicate}

-- The n bytes of s from `at` on.
unfoldable pub part : List ℕ → ℕ → ℕ → List ℕ
part s at n = take n (drop at s)

-- A byte string in a buffer of 256 bytes (01: "Buffers are zero past what they hold").
unfoldable pub padded : List ℕ → List ℕ
padded s = s ++ replicate (256 - length s) 0
