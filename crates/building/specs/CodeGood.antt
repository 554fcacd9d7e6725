-- WHAT A LAYER IS GIVEN, for contracts of code that builds one: keys that fit the layers left, values that fit their word.
use Rattle.std.specs.Prelude.{◌*◌, ◌^◌, ◌≤◌, ◌<◌}
use Rattle.base.specs.Kit.{ℕ, length}
use Rattle.key.proofs.Bytes.{Bytes}
use Rattle.layering.specs.Keys.{Pair}

-- What a layer with m layers on a way down may be given at a depth.
pub record Good (m depth : ℕ) (x : Pair) : Type 0 where
  pub bytes : Bytes x.key
  pub short : length x.key ≤ 8 * m
  pub value : x.value < 2 ^ 64
  pub some : 0 < depth → 0 < length x.key
