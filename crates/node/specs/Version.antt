-- Version bits (01, "The image": "Version bit 31 marks a leaf; bits 0, 1, 2 and 29 (lock, inserting, splitting,
-- deleted) are clear at rest"). No other bit is read.
use Rattle.std.specs.Prelude.{◌/◌, ◌%◌, ◌^◌}
use Rattle.base.specs.Kit.{Bool, true, false, ℕ, eqb}
use Rattle.base.specs.Pick.{pick}

-- Whether bit k of a word is set.
unfoldable pub bit : ℕ → ℕ → Bool
bit word k = eqb (word / 2 ^ k % 2) 1

abbrev pub is_leaf : ℕ → Bool
is_leaf version = bit version 31

unfoldable pub at_rest : ℕ → Bool
at_rest version =
    pick (bit version 0) false (pick (bit version 1) false (pick (bit version 2) false (pick (bit version 29) false true)))
