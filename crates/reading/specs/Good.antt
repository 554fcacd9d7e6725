-- WHICH SHEETS HAVE A TEXT: keys are byte strings, and decimals "stay below 2^64" (01).
use Rattle.std.specs.Prelude.{◌<◌, ◌^◌}
use Rattle.base.specs.Kit.{ℕ, length, get_or}
use Rattle.layering.specs.Keys.{Pair}
use Rattle.layering.specs.Ascending.{All}
use Rattle.reading.specs.Form.{Sheet}

pub record GoodPair (x : Pair) : Type 0 where
  pub bytes : (i : ℕ) → get_or x.key i 0 < 256
  pub small : x.value < 2 ^ 64

pub record Good (x : Sheet) : Type 0 where
  pub pairs : All GoodPair x.pairs
  pub count : length x.pairs < 2 ^ 64
  pub figure : x.figure < 2 ^ 64
