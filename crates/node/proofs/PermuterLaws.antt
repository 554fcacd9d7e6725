-- The permutation's size has four bits.
use Rattle.std.specs.Prelude.{◌<◌}
use Rattle.base.specs.Kit.{ℕ, arith}
use Rattle.node.specs.Permuter.{size_of}

pub size_fits : (permutation : ℕ) → size_of permutation < 16
size_fits permutation = omega arith
