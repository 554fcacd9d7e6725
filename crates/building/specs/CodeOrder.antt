-- THE ORDER IN WHICH CODE BUILDS: group by group, leaf by leaf, and internodes from the top, for code that has no room for a level. The laws
-- that join these to specs/Shape.antt are in proofs/Runs.antt, LeafByLeaf.antt and Tower.antt.
use Rattle.std.specs.Prelude.{◌∷◌, ◌+◌, ◌-◌, ◌^◌}
use Rattle.base.specs.Kit.{List, [], ℕ, zero, suc, eqb, leb, drop}
use Rattle.base.specs.Pick.{pick}
use Rattle.key.specs.Ikey.{ikey_of}
use Rattle.layering.specs.Tree.{Node, beyond, Slots, none}
use Rattle.layering.specs.Keys.{Pair, leaves_s}
use Rattle.building.specs.Shape.{size_s, join_s, fill, internode_of}

-- The pairs at the front of a list that have the ikey k, and those behind them.
unfoldable pub run : ℕ → List Pair → List Pair
run k [] = []
run k (y ∷ l) = let r = y ∷ run k l in pick (eqb k (ikey_of y.key)) r []

unfoldable pub behind_run : ℕ → List Pair → List Pair
behind_run k [] = []
behind_run k (y ∷ l) = let r = behind_run k l in pick (eqb k (ikey_of y.key)) r (y ∷ l)

-- The slots of the groups that fit a leaf with this room, and the groups that are left.
unfoldable pub filled : ℕ → List Slots → Slots
filled room [] = none
filled room (g ∷ gs) = let s = join_s g (filled (room - size_s g) gs) in pick (leb (size_s g) room) s none

unfoldable pub left : ℕ → List Slots → List Slots
left room [] = []
left room (g ∷ gs) = let l = left (room - size_s g) gs in pick (leb (size_s g) room) l (g ∷ gs)

-- The leaves of groups that begin a new leaf; none where no group is left.
unfoldable pub leaves_behind : List Slots → List Slots
leaves_behind [] = []
leaves_behind (g ∷ gs) = fill 15 (g ∷ gs)

-- The groups that are left behind k leaves.
unfoldable pub after : ℕ → List Slots → List Slots
after zero gs = gs
after (suc k) gs = after k (left 15 gs)

unfoldable pub head_n : List Node → Node
head_n [] = beyond
head_n (n ∷ ns) = n

-- At most i subtrees side by side, each made by t of the first k of what is left.
unfoldable pub siblings : (List Node → Node) → ℕ → ℕ → List Node → List Node
siblings t k zero ns = []
siblings t k (suc i) [] = []
siblings t k (suc i) (n ∷ ns) = t (n ∷ ns) ∷ siblings t k i (drop k (n ∷ ns))

-- The subtree of height h over the first 16 ^ h of the nodes.
unfoldable pub tower : ℕ → List Node → Node
tower zero ns = head_n ns
tower (suc h) ns = internode_of (tower h ns) (siblings (tower h) (16 ^ h) 15 (drop (16 ^ h) ns))

-- The leaves of all layers below the slots of some groups; and how many an image holds: 16,777,216 bytes, 400 to a leaf.
abbrev pub leaves_l : List Slots → ℕ
leaves_l [] = 0
leaves_l (s ∷ l) = leaves_s s + leaves_l l

abbrev pub limit : ℕ
limit = 41943
