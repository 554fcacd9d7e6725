-- The three numbers of acceptance, of a tree (01, "What each operation declines": "Acceptance gives the numbers of leaves, value slots and
-- sub-layers").
use Rattle.layering.specs.Tree.{Node}
use Rattle.layering.specs.Keys.{leaves_n, values_n, layers_n}
use Rattle.verify.specs.Types.{Counts}

unfoldable pub tree_counts : Node → Counts
tree_counts n = record { leaves = leaves_n n; value_slots = values_n n; sub_layers = layers_n n }
