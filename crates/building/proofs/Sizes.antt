-- SIZES, as a first pass can count them without building anything: a layer takes the room of its groups' suffixes and sub-layers, 400 bytes
-- for each leaf and 256 for each internode; the leaves are counted by the groups' slots alone, the internodes by the leaves alone.
-- Assumes nothing of what the slots are.
use Rattle.std.specs.Prelude.{◌≡◌, ◌∷◌, ◌++◌, ◌+◌, ◌*◌, ◌/◌, ◌-◌, ◌≤◌, ◌<◌}
use Rattle.base.specs.Kit.{Bool, true, false, refl, ap, ap₂, ◌∙◌, List, [], map, ℕ, zero, suc, arith, leb, length, take, drop, length-drop, length-map, take-append-drop, lt-leb}
use Rattle.base.specs.Pick.{pick}
use Rattle.layering.specs.Tree.{Node, leaf, internode, beyond, Kids, last, more, Slots, none, value, layer}
use Rattle.layering.specs.Keys.{Pair}
use Rattle.layering.specs.Accepted.{room, end_n, end_k, end_s}
use Rattle.building.specs.Shape.{group_slots, groups, size_s, join_s, onto_s, fill, leaf_of, kids_of, internode_of, level_over, root_over, leaves_of, layer_over}
use Rattle.building.proofs.Fill.{fill-some}
use Rattle.building.proofs.Levels.{level-length, level-some}
use Rattle.building.proofs.Tower.{level_covers}

-- a subtree takes the same bytes wherever it begins
mutual
  unfolding end_n

  pub shift_n : (n : Node) (at : ℕ) → end_n at n ≡ at + end_n 0 n
  shift_n (leaf h s) at = omega (arith, shift_s s at)
  shift_n (internode h k) at = omega (arith, shift_k k at)
  shift_n beyond at = omega arith

  pub shift_k : (k : Kids) (at : ℕ) → end_k at k ≡ at + end_k 0 k
  shift_k (last n) at = shift_n n at
  shift_k (more n x k) at = omega (arith, shift_n n at, shift_k k (end_n at n), shift_k k (end_n 0 n))

  pub shift_s : (s : Slots) (at : ℕ) → end_s at s ≡ at + end_s 0 s
  shift_s none at = omega arith
  shift_s (value s r) at = omega (arith, shift_s r (at + room s), shift_s r (0 + room s))
  shift_s (layer s n r) at = omega (arith, shift_n n at, shift_s r (end_n at n), shift_s r (end_n 0 n))

-- NODES SIDE BY SIDE
abbrev pub sizes_n : List Node → ℕ
sizes_n [] = 0
sizes_n (n ∷ ns) = end_n 0 n + sizes_n ns

kids_size : (n : Node) (ns : List Node) → end_k 0 (kids_of n ns) ≡ sizes_n (n ∷ ns)
unfolding kids_of end_n
kids_size n [] = omega arith
kids_size n (m ∷ ns) = omega (arith, shift_k (kids_of m ns) (end_n 0 n), kids_size m ns)

sizes_n-append : (a b : List Node) → sizes_n (a ++ b) ≡ sizes_n a + sizes_n b
sizes_n-append [] b = omega arith
sizes_n-append (n ∷ a) b = omega (arith, sizes_n-append a b)

level_size : (f : ℕ) (ns : List Node) → length ns ≤ f → sizes_n (level_over f ns) ≡ sizes_n ns + 256 * length (level_over f ns)
unfolding level_over internode_of end_n
level_size zero [] h = refl
level_size zero (n ∷ ns) h = absurd (omega arith)
level_size (suc f) [] h = refl
level_size (suc f) (n ∷ ns) h =
    omega (
      arith,
      kids_size n (take 15 ns),
      level_size f (drop 15 ns) (omega (arith, length-drop 15 ns)),
      sizes_n-append (take 15 ns) (drop 15 ns),
      ap sizes_n (take-append-drop 15 ns),
    )

-- The internodes over n nodes.
unfoldable pub internodes : ℕ → ℕ → ℕ
internodes zero n = 0
internodes (suc f) n = let k = (n + 15) / 16 in let more = k + internodes f k in pick (leb n 1) 0 more

pub root_size : (f : ℕ) (ns : List Node) → 0 < length ns → length ns ≤ f → end_n 0 (root_over f ns) ≡ sizes_n ns + 256 * internodes f (length ns)
unfolding root_over internodes pick
root_size zero ns h k = absurd (omega arith)
root_size (suc f) [] h k = absurd (omega arith)
root_size (suc f) (n ∷ []) h k = omega arith
root_size (suc f) (n ∷ m ∷ ns) h k =
    let g : ℕ = suc (suc (length ns)) in
    let l : List Node = level_over g (n ∷ m ∷ ns) in
    let up = level-length g (n ∷ m ∷ ns) in
    let down = level_covers g (n ∷ m ∷ ns) (omega arith) in
    let e : (g + 15) / 16 ≡ length l = omega arith in
    rw (lt-leb g 1 (omega arith), e)
    (omega (arith, root_size f l (level-some g (n ∷ m ∷ ns) (omega arith) (omega arith)) (omega arith), level_size g (n ∷ m ∷ ns) (omega arith)))

-- LEAVES
abbrev pub sizes_s : List Slots → ℕ
sizes_s [] = 0
sizes_s (s ∷ l) = end_s 0 s + sizes_s l

join-room : (a b : Slots) → end_s 0 (join_s a b) ≡ end_s 0 a + end_s 0 b
unfolding join_s end_n
join-room none b = omega arith
join-room (value s r) b = omega (arith, shift_s (join_s r b) (0 + room s), shift_s r (0 + room s), join-room r b)
join-room (layer s n r) b = omega (arith, shift_s (join_s r b) (end_n 0 n), shift_s r (end_n 0 n), join-room r b)

onto-room : (g : Slots) (l : List Slots) → sizes_s (onto_s g l) ≡ end_s 0 g + sizes_s l
unfolding onto_s
onto-room g [] = refl
onto-room g (s ∷ l) = omega (arith, join-room g s)

fill-room : (r : ℕ) (gs : List Slots) → sizes_s (fill r gs) ≡ sizes_s gs
unfolding fill pick end_n
fill-room r [] = omega arith
fill-room r (g ∷ gs) =
    let w : ℕ = pick (leb (size_s g) r) r 15 - size_s g in
    go (leb (size_s g) r) (onto_s g (fill w gs)) ∙ onto-room g (fill w gs) ∙ ap (λ (n : ℕ). end_s 0 g + n) (fill-room w gs)
  where
    go : (t : Bool) (l : List Slots) → sizes_s (pick t l (none ∷ l)) ≡ sizes_s l
    go true l = refl
    go false l = omega arith

leaves_size : (l : List Slots) → sizes_n (map leaf_of l) ≡ sizes_s l + 400 * length l
unfolding leaf_of end_n
leaves_size [] = refl
leaves_size (s ∷ l) = omega (arith, leaves_size l)

-- How many leaves, past the one that has this room, the groups of these slot numbers want.
unfoldable pub more_leaves : ℕ → List ℕ → ℕ
more_leaves r [] = 0
more_leaves r (n ∷ l) =
    let fits = leb n r in
    let rest = more_leaves (pick fits r 15 - n) l in
    pick fits rest (suc rest)

onto-length : (g : Slots) (l : List Slots) → 0 < length l → length (onto_s g l) ≡ length l
unfolding onto_s
onto-length g [] h = absurd (omega arith)
onto-length g (s ∷ l) h = refl

pub fill-length : (r : ℕ) (gs : List Slots) → length (fill r gs) ≡ suc (more_leaves r (map size_s gs))
unfolding fill more_leaves pick
fill-length r [] = refl
fill-length r (g ∷ gs) =
    let w : ℕ = pick (leb (size_s g) r) r 15 - size_s g in
    go (leb (size_s g) r) (onto_s g (fill w gs)) (more_leaves w (map size_s gs)) (onto-length g (fill w gs) (fill-some w gs) ∙ fill-length w gs)
  where
    go : (t : Bool) (l : List Slots) (n : ℕ) → length l ≡ suc n → length (pick t l (none ∷ l)) ≡ suc (pick t n (suc n))
    go true l n e = e
    go false l n e = ap suc e

-- A LAYER
pub layer_size : (sub : List Pair → Node) (ps : List Pair) (at : ℕ)
    → let gs : List Slots = map (group_slots sub) (groups ps) in
    let n : ℕ = suc (more_leaves 15 (map size_s gs)) in
    end_n at (layer_over sub ps) ≡ at + sizes_s gs + 400 * n + 256 * internodes n n
unfolding layer_over leaves_of
layer_size sub ps at =
    let gs : List Slots = map (group_slots sub) (groups ps) in
    let l : List Slots = fill 15 gs in
    let e : length (map leaf_of l) ≡ suc (more_leaves 15 (map size_s gs)) = length-map l leaf_of ∙ fill-length 15 gs in
    let r : end_n 0 (root_over (length (map leaf_of l)) (map leaf_of l)) ≡ sizes_n (map leaf_of l) + 256 * internodes (length (map leaf_of l)) (length (map leaf_of l)) =
    root_size (length (map leaf_of l)) (map leaf_of l) (omega arith) (omega arith) in
    let q : internodes (length (map leaf_of l)) (length (map leaf_of l)) ≡ internodes (suc (more_leaves 15 (map size_s gs))) (suc (more_leaves 15 (map size_s gs))) =
    ap₂ internodes e e in
    omega (arith, shift_n (root_over (length (map leaf_of l)) (map leaf_of l)) at, leaves_size l, fill-room 15 gs, fill-length 15 gs)
