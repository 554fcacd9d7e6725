-- THE OUTPUT WHILE CODE WRITES: a record's bytes in it, the previous leaf's `next`, and a subtree behind a layer's last leaf.
use Rattle.std.specs.Prelude.{◌≡◌, ◌+◌, ◌≤◌}
use Rattle.base.specs.Kit.{List, ℕ, eqb, length, paste}
use Rattle.base.specs.Pick.{pick}
use Rattle.layering.specs.Tree.{Node, leaf, internode, beyond, Kids, last, more}
use Rattle.layering.specs.Accepted.{end_n, end_s}
use Rattle.building.specs.Build.{first_leaf_n, first_leaf_k, placed_n, placed_k, le_bytes, bytes_n, bytes_k}

-- s, whole, in d from `at` on
abbrev pub put : List ℕ → ℕ → List ℕ → List ℕ
put d at s = paste d at s (length s)

-- where the last leaf of a subtree stands, counted from the subtree's first byte
unfoldable mutual
  pub last_n : Node → ℕ
  last_n (leaf h s) = end_s 0 s
  last_n (internode h k) = last_k k
  last_n beyond = 0

  pub last_k : Kids → ℕ
  last_k (last n) = last_n n
  last_k (more n x k) = end_n 0 n + last_k k

-- The layer's last leaf so far is at `prev`, wholly before `at`; 0 where it has none.
abbrev pub Behind : ℕ → ℕ → Type 0
Behind prev at = (prev ≡ 0 → ⊥) → prev + 400 ≤ at

-- The leaf at `prev`, where there is one, names the leaf at x.
unfoldable pub linked : ℕ → ℕ → List ℕ → List ℕ
linked prev x out = pick (eqb prev 0) out (put out (prev + 392) (le_bytes 8 x))

-- The output with a subtree, or an internode's children, written from `at` on, behind the leaf at `prev`.
unfoldable pub written : List ℕ → ℕ → ℕ → Node → List ℕ
written out at prev n = linked prev (first_leaf_n at n) (put out at (bytes_n (placed_n at 0 n)))

unfoldable pub written_k : List ℕ → ℕ → ℕ → Kids → List ℕ
written_k out at prev k = linked prev (first_leaf_k at k) (put out at (bytes_k (placed_k at 0 k)))
