-- Byte strings: what is made of bytes by joining, cutting and filling, and what is written out of a number, has bytes
-- only.
use Rattle.std.specs.Prelude.{◌∷◌, ◌++◌, ◌<◌}
use Rattle.base.specs.Kit.{List, [], ℕ, zero, suc, arith, get_or, take, drop}
use Rattle.key.specs.Ikey.{digits, ikey_bytes}
use Rattle.key.specs.Part.{part}

-- Every element is a byte.
abbrev pub Bytes : List ℕ → Type 0
Bytes [] = Unit {0}
Bytes (a ∷ s) = (a < 256) × Bytes s

-- the form in which a function's proof is told it
pub bytes_of : (s : List ℕ) → ((i : ℕ) → get_or s i 0 < 256) → Bytes s
bytes_of [] h = tt
bytes_of (a ∷ s) h = (h 0, bytes_of s (λ i. h (suc i)))

pub bytes-append : (s t : List ℕ) → Bytes s → Bytes t → Bytes (s ++ t)
bytes-append [] t bs bt = bt
bytes-append (a ∷ s) t bs bt = (bs.0, bytes-append s t bs.1 bt)

pub bytes_take : (n : ℕ) (s : List ℕ) → Bytes s → Bytes (take n s)
bytes_take zero s b = tt
bytes_take (suc n) [] b = tt
bytes_take (suc n) (a ∷ s) b = (b.0, bytes_take n s b.1)

pub bytes_drop : (n : ℕ) (s : List ℕ) → Bytes s → Bytes (drop n s)
bytes_drop zero s b = b
bytes_drop (suc n) [] b = tt
bytes_drop (suc n) (a ∷ s) b = bytes_drop n s b.1

pub bytes-part : (s : List ℕ) (i n : ℕ) → Bytes s → Bytes (part s i n)
unfolding part
bytes-part s i n b = bytes_take n (drop i s) (bytes_drop i s b)

pub digits-bytes : (n x : ℕ) → Bytes (digits n x)
unfolding digits
digits-bytes zero x = tt
digits-bytes (suc n) x = (omega arith, digits-bytes n x)

pub ikey_bytes-bytes : (x : ℕ) → Bytes (ikey_bytes x)
unfolding ikey_bytes
ikey_bytes-bytes x = digits-bytes 8 x
