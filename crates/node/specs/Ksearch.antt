-- The search in an internode (01, module 5: "a search equal to separator i goes to child i+1").
use Rattle.std.specs.Prelude.{◌+◌}
use Rattle.base.specs.Kit.{List, ℕ, zero, suc, ltb, eqb}
use Rattle.base.specs.Pick.{pick}
use Rattle.node.specs.Layout.{separator_at}

-- The child that a search for `ikey` goes to in the internode at `at`, from separator i on with n separators left: the
-- first separator above the ikey is the upper end of that child, one equal to it the lower end.
unfoldable pub upper_bound : List ℕ → ℕ → ℕ → ℕ → ℕ → ℕ
upper_bound image at ikey i zero = i
upper_bound image at ikey i (suc n) =
    pick (ltb ikey (separator_at image at i)) i
    (pick (eqb ikey (separator_at image at i)) (i + 1) (upper_bound image at ikey (i + 1) n))
