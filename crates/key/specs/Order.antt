-- Plain byte order (01, module 2: "`contains`, plain byte order"; 02 [1]: "byte order decides").
use Rattle.std.specs.Prelude.{◌∷◌}
use Rattle.base.specs.Kit.{List, [], ℕ, ltb}
use Rattle.base.specs.Pick.{pick}
use Rattle.std.specs.declared.cmp.Ordering.{Ordering}
use Rattle.std.specs.declared.cmp.Ordering.TheVariants.{Less, Equal, Greater}

-- Two numbers compared.
unfoldable pub order : ℕ → ℕ → Ordering
order a b = pick (ltb a b) Less (pick (ltb b a) Greater Equal)

-- The first comparison decides; where it finds no difference, the second.
unfoldable pub then : Ordering → Ordering → Ordering
then Less o = Less
then Equal o = o
then Greater o = Greater

-- Two byte strings compared, byte by byte; one that ends where the other goes on stands before it.
unfoldable pub byte_order : List ℕ → List ℕ → Ordering
byte_order [] [] = Equal
byte_order [] (b ∷ t) = Less
byte_order (a ∷ s) [] = Greater
byte_order (a ∷ s) (b ∷ t) = then (order a b) (byte_order s t)
