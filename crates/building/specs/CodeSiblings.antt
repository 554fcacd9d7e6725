-- SUBTREES SIDE BY SIDE, as code writes them behind the first child of an internode: the output, the place behind them, the layer's last
-- leaf, and where their records stand. The laws that join these to an internode's bytes are in proofs/Siblings.antt.
use Rattle.std.specs.Prelude.{◌∷◌, ◌+◌}
use Rattle.base.specs.Kit.{List, [], map, ℕ, length, replicate, flatten}
use Rattle.layering.specs.Tree.{Node}
use Rattle.layering.specs.Accepted.{end_n}
use Rattle.building.specs.Shape.{first_ikey_n}
use Rattle.building.specs.Build.{stands_at, le_bytes, words}
use Rattle.building.specs.CodeWritten.{put, last_n, written}

unfoldable pub written_l : List ℕ → ℕ → ℕ → List Node → List ℕ
written_l out at prev [] = out
written_l out at prev (n ∷ ns) = written_l (written out at prev n) (end_n at n) (at + last_n n) ns

unfoldable pub end_l : ℕ → List Node → ℕ
end_l at [] = at
end_l at (n ∷ ns) = end_l (end_n at n) ns

unfoldable pub last_l : ℕ → ℕ → List Node → ℕ
last_l at prev [] = prev
last_l at prev (n ∷ ns) = last_l (end_n at n) (at + last_n n) ns

unfoldable pub stands_l : ℕ → List Node → List ℕ
stands_l at [] = []
stands_l at (n ∷ ns) = stands_at at n ∷ stands_l (end_n at n) ns

-- An internode's bytes, of n separators and the children beside them.
unfoldable pub internode_row : ℕ → List ℕ → List ℕ → List ℕ
internode_row n separators children =
    flatten (le_bytes 4 0 ∷ le_bytes 1 n ∷ replicate 3 0 ∷ words 8 15 separators ∷ words 8 16 children ∷ [])

-- The output once the subtrees ns are written behind a first child, whose record stands at `node`, and their internode behind them.
unfoldable pub closed : List ℕ → ℕ → ℕ → ℕ → List Node → List ℕ
closed out at prev node ns =
    put (written_l out at prev ns) (end_l at ns) (internode_row (length ns) (map first_ikey_n ns) (node ∷ stands_l at ns))
