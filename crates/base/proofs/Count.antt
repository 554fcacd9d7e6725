-- What is left of a count, for loops whose definition recurses on it.
use Rattle.std.specs.Prelude.{◌≡◌, ◌+◌, ◌-◌, ◌<◌}
use Rattle.base.specs.Kit.{ℕ, suc, arith}

-- one more turn: something is left, and a turn takes one of it
pub left-more : (n i : ℕ) → i < n → n - i ≡ suc (n - (i + 1))
left-more n i h = omega arith
