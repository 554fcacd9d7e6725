-- A LEAF'S PARTS, as code lays them one behind the other: each suffix or sub-layer from the place reached on, and its slot behind the
-- slots so far. The laws that join these to a leaf's bytes are in proofs/Laid.antt.
use Rattle.std.specs.Prelude.{◌∷◌, ◌++◌, ◌+◌}
use Rattle.base.specs.Kit.{List, [], ℕ}
use Rattle.layering.specs.Tree.{Fields, Node, Slots, none, value, layer}
use Rattle.layering.specs.Accepted.{room, end_n}
use Rattle.building.specs.Build.{stands_at, start_at, root_at, placed_n, suffix_bytes, bytes_n}
use Rattle.building.specs.CodeWritten.{put}

-- The output, the place reached, and what the slots so far say.
pub record Laid : Type 0 where
  pub out : List ℕ
  pub at : ℕ
  pub fields : List Fields

unfoldable pub laid_value : Laid → Fields → Laid
laid_value l s =
    record { out = put l.out l.at (suffix_bytes s); at = l.at + room s; fields = l.fields ++ (start_at l.at s ∷ []) }

unfoldable pub laid_layer : Laid → Fields → Node → Laid
laid_layer l s n =
    record { out = put l.out l.at (bytes_n (placed_n l.at 0 n)); at = end_n l.at n; fields = l.fields ++ (root_at (stands_at l.at n) s ∷ []) }

unfoldable pub laid : Laid → Slots → Laid
laid l none = l
laid l (value s r) = laid (laid_value l s) r
laid l (layer s n r) = laid (laid_layer l s n) r
