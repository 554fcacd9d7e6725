-- A record as the functions hold it: the reader of its kind, and where it stands.
use Rattle.std.specs.Prelude.{◌≡◌}
use Rattle.base.specs.Kit.{List, ℕ}
use Rattle.search.specs.Types.{RecordKind, Leaf, Internode, Record, LeafThere, InternodeThere}

unfoldable pub kind_of : Record → RecordKind
kind_of (LeafThere r) = Leaf
kind_of (InternodeThere r) = Internode

unfoldable pub StandsAt : Record → List ℕ → ℕ → Type 0
StandsAt (LeafThere r) image at = (r.image.now ≡ image) × (r.at ≡ at)
StandsAt (InternodeThere r) image at = (r.image.now ≡ image) × (r.at ≡ at)
