-- A choice by a test, of any type: what every definition of the other crates is written with.
-- It stays shut until a proof says `unfolding pick`, so that `pick_ind` (proofs/Choice.antt) finds its arguments.
use Rattle.base.specs.Kit.{Bool, true, false}

-- `pick t a b`: a where the test t is true, b where it is false.
unfoldable pub pick : {A : Type 0} → Bool → A → A → A
pick true a b = a
pick false a b = b
