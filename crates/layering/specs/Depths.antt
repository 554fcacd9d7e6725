-- The depth of each live key of a tree (02 [13]: "the depth at which the last key was found"): that of the layer in which the tree holds it.
use Rattle.std.specs.Prelude.{◌∷◌, ◌++◌, ◌+◌}
use Rattle.base.specs.Kit.{Bool, true, false, List, [], ℕ}
use Rattle.base.specs.Pick.{pick}
use Rattle.key.specs.Ikey.{ikey_bytes}
use Rattle.key.specs.Order.{byte_order}
use Rattle.std.specs.declared.cmp.Ordering.{Ordering}
use Rattle.std.specs.declared.cmp.Ordering.TheVariants.{Less, Equal, Greater}
use Rattle.layering.specs.Tree.{Node, leaf, internode, beyond, Kids, last, more, Slots, none, value, layer, tree_of}
use Rattle.layering.specs.Keys.{own_bytes}

-- A key with the depth of its layer.
pub record KeyDepth : Type 0 where
  pub key : List ℕ
  pub depth : ℕ

-- The live keys of a subtree of a layer at depth d, whose keys all begin with p, in the order of `pairs_n`: "Layer depth d (root 0)".
unfoldable mutual
  pub depths_n : ℕ → List ℕ → Node → List KeyDepth
  depths_n d p (leaf h s) = depths_s d p s
  depths_n d p (internode h k) = depths_k d p k
  depths_n d p beyond = []

  pub depths_k : ℕ → List ℕ → Kids → List KeyDepth
  depths_k d p (last n) = depths_n d p n
  depths_k d p (more n x k) = depths_n d p n ++ depths_k d p k

  pub depths_s : ℕ → List ℕ → Slots → List KeyDepth
  depths_s d p none = []
  depths_s d p (value s r) = pick s.live (record { key = p ++ own_bytes s; depth = d } ∷ depths_s d p r) (depths_s d p r)
  depths_s d p (layer s n r) = depths_n (d + 1) (p ++ ikey_bytes s.ikey) n ++ depths_s d p r

unfoldable pub is_same : Ordering → Bool
is_same Less = false
is_same Equal = true
is_same Greater = false

-- The depth that a list has for a key; 0 where it has none.
unfoldable pub depth_in : List KeyDepth → List ℕ → ℕ
depth_in [] key = 0
depth_in (x ∷ l) key = pick (is_same (byte_order x.key key)) x.depth (depth_in l key)

-- THE DEPTH OF A LIVE KEY OF AN IMAGE.
unfoldable pub depth_of : List ℕ → List ℕ → ℕ
depth_of image key = depth_in (depths_n 0 [] (tree_of image)) key
