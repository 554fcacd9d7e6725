-- The ikey of a byte string, and the bytes of an ikey
-- (01, "The image": "An ikey holds eight key bytes, first byte highest, zero-filled").
use Rattle.std.specs.Prelude.{◌∷◌, ◌+◌, ◌*◌, ◌/◌, ◌%◌, ◌^◌}
use Rattle.base.specs.Kit.{List, [], ℕ, zero, suc}

-- The first n bytes of s as one number, first byte highest, zero-filled.
unfoldable pub be : ℕ → List ℕ → ℕ
be zero s = 0
be (suc n) [] = 0
be (suc n) (a ∷ s) = a * 256 ^ n + be n s

unfoldable pub ikey_of : List ℕ → ℕ
ikey_of s = be 8 s

-- The low n bytes of a number, the highest of them first.
unfoldable pub digits : ℕ → ℕ → List ℕ
digits zero x = []
digits (suc n) x = x / 256 ^ n % 256 ∷ digits n x

unfoldable pub ikey_bytes : ℕ → List ℕ
ikey_bytes x = digits 8 x
