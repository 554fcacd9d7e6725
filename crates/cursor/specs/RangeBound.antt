-- The bound (01: "bound kind 0 unbounded, 1 included, 2 excluded"; module 2: "`contains`, plain byte order").
use Rattle.base.specs.Kit.{Bool, true, false, List, ℕ, eqb, length, replicate}
use Rattle.base.specs.Pick.{pick}
use Rattle.key.specs.Comparisons.{compared}
use Rattle.key.specs.Part.{padded}
use Rattle.std.specs.declared.cmp.Ordering.{Ordering}
use Rattle.std.specs.declared.cmp.Ordering.TheVariants.{Less, Equal, Greater}
use Rattle.cursor.specs.declared.range_bound.RangeBound.{RangeBound}
use Rattle.cursor.specs.declared.range_bound.Side.{Side}
use Rattle.cursor.specs.declared.range_bound.Side.TheVariants.{Inside, AtEnd, Past}
use Rattle.cursor.specs.declared.range_bound.Tested.{Tested}

-- The side on which a bound of kind 1 or 2 has a key, by the key's order to the bound's (02 [12]: "The bound test shall tell inside, exactly
-- at the included end, and past").
unfoldable pub side_of : ℕ → Ordering → Side
side_of kind Less = Inside
side_of kind Equal = pick (eqb kind 1) AtEnd Past
side_of kind Greater = Past

-- The bound test (02 [4]: "Its answer is proved to be plain byte order's, and it returns its comparisons too"): a key compared with the
-- bound's by eights, and nothing where there is no bound.
unfoldable pub tested : ℕ → List ℕ → List ℕ → Tested
tested kind bound key =
    let c = compared key bound in
    pick (eqb kind 0) (record { side = Inside; comparisons = 0 }) (record { side = side_of kind c.order; comparisons = c.comparisons })

-- The sides whose keys a walk hands out, and the one whose key is its last.
unfoldable pub is_within : Side → Bool
is_within Inside = true
is_within AtEnd = true
is_within Past = false

unfoldable pub is_last : Side → Bool
is_last Inside = false
is_last AtEnd = true
is_last Past = false

-- Whether a key lies within a bound.
unfoldable pub contains : ℕ → List ℕ → List ℕ → Bool
contains kind bound key = is_within (tested kind bound key).side

-- Whether a key is exactly at the included end.
unfoldable pub at_end : ℕ → List ℕ → List ℕ → Bool
at_end kind bound key = is_last (tested kind bound key).side

-- The bound that a placing keeps ("13: bound key over 256 bytes, for kind 0 too, whose bound is then kept as length 0";
-- "Buffers are zero past what they hold").
unfoldable pub bound_of : ℕ → List ℕ → RangeBound
bound_of kind key =
    pick (eqb kind 0) (record { kind = 0; len = 0; key = replicate 256 0 })
    (record { kind = kind; len = length key; key = padded key })
