-- What a copy into zeroes comes to.
use Rattle.std.specs.Prelude.{◌≡◌, ◌++◌, ◌-◌}
use Rattle.base.specs.Kit.{List, ℕ, zero, suc, zero-add, zero-sub, sub-zero, suc-sub-suc, length, drop, replicate, paste, take-length}

drop-replicate : (n m a : ℕ) → drop n (replicate m a) ≡ replicate (m - n) a
drop-replicate zero m a = rw sub-zero
drop-replicate (suc n) zero a = rw zero-sub
drop-replicate (suc n) (suc m) a = rw suc-sub-suc (drop-replicate n m a)

-- a byte string copied into n zeroes
pub paste_zeros : (n : ℕ) (s : List ℕ) → paste (replicate n 0) 0 s (length s) ≡ s ++ replicate (n - length s) 0
paste_zeros n s = rw (take-length, zero-add, drop-replicate (length s) n 0)
