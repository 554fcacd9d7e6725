-- INTERNODES FROM THE TOP. The same root, made the way that code goes which has no room for a level: a subtree of height h + 1 is one of
-- height h and up to fifteen more beside it. Assumes nothing of what the nodes are.
use Rattle.std.specs.Prelude.{◌≡◌, ◌∷◌, ◌+◌, ◌*◌, ◌^◌, ◌≤◌, ◌<◌}
use Rattle.base.specs.Kit.{refl, ap, ap₂, sym, ◌∙◌, List, [], ℕ, zero, suc, pow-succ', one-le-pow, arith, length, take, drop, length-drop, drop-drop, drop-nil}
use Rattle.layering.specs.Tree.{Node}
use Rattle.building.specs.Shape.{internode_of, level_over, root_over}
use Rattle.building.specs.CodeOrder.{head_n, siblings, tower}
use Rattle.building.proofs.Levels.{level-length, level-some}

-- ONE LEVEL, with enough room for all nodes
level : List Node → List Node
level ns = level_over (length ns) ns

enough : (f g : ℕ) (ns : List Node) → length ns ≤ f → length ns ≤ g → level_over f ns ≡ level_over g ns
unfolding level_over
enough zero zero ns h k = refl
enough zero (suc g) [] h k = refl
enough zero (suc g) (n ∷ ns) h k = absurd (omega arith)
enough (suc f) zero [] h k = refl
enough (suc f) zero (n ∷ ns) h k = absurd (omega arith)
enough (suc f) (suc g) [] h k = refl
enough (suc f) (suc g) (n ∷ ns) h k =
    ap (λ (l : List Node). internode_of n (take 15 ns) ∷ l)
    (enough f g (drop 15 ns) (omega (arith, length-drop 15 ns)) (omega (arith, length-drop 15 ns)))

level-nil : level [] ≡ []
unfolding level level_over
level-nil = refl

level-cons : (n : Node) (ns : List Node) → level (n ∷ ns) ≡ internode_of n (take 15 ns) ∷ level (drop 15 ns)
unfolding level level_over
level-cons n ns =
    ap (λ (l : List Node). internode_of n (take 15 ns) ∷ l)
    (enough (length ns) (length (drop 15 ns)) (drop 15 ns) (omega (arith, length-drop 15 ns)) (omega arith))

level-drop : (k : ℕ) (ns : List Node) → drop k (level ns) ≡ level (drop (16 * k) ns)
level-drop zero ns = refl
level-drop (suc k) [] =
    let e : drop (16 * suc k) [] ≡ [] = drop-nil {A = Node} (16 * suc k) in rw (e, level-nil) refl
level-drop (suc k) (n ∷ ns) =
    let e : 16 * suc k ≡ suc (15 + 16 * k) = omega arith in
    rw (e, level-cons n ns, ← drop-drop (16 * k) 15 ns) (level-drop k (drop 15 ns))

-- a level has a sixteenth of the nodes
pub level_covers : (f : ℕ) (ns : List Node) → length ns ≤ f → length ns ≤ 16 * length (level_over f ns)
unfolding level_over
level_covers zero ns h = omega arith
level_covers (suc f) [] h = omega arith
level_covers (suc f) (n ∷ ns) h =
    omega (arith, level_covers f (drop 15 ns) (omega (arith, length-drop 15 ns)), length-drop 15 ns)

-- A TOWER over a level is one higher
singles : (i : ℕ) (ns : List Node) → siblings head_n 1 i ns ≡ take i ns
unfolding siblings head_n
singles zero ns = refl
singles (suc i) [] = refl
singles (suc i) (n ∷ ns) = ap (λ (l : List Node). n ∷ l) (singles i ns)

Raised : ℕ → Type 0
Raised h = (n : Node) (ns : List Node) → tower (suc h) (n ∷ ns) ≡ tower h (level (n ∷ ns))

pub siblings-cons : (t : List Node → Node) (k i : ℕ) (l : List Node) → 0 < length l → siblings t k (suc i) l ≡ t l ∷ siblings t k i (drop k l)
unfolding siblings
siblings-cons t k i [] h = absurd (omega arith)
siblings-cons t k i (n ∷ l) h = refl

level_drops : (h : ℕ) (ns : List Node) → level (drop (16 ^ suc h) ns) ≡ drop (16 ^ h) (level ns)
level_drops h ns = rw (pow-succ' 16 h) (sym (level-drop (16 ^ h) ns))

raised_beside : (h : ℕ) → Raised h → (i : ℕ) (ns : List Node) → siblings (tower (suc h)) (16 ^ suc h) i ns ≡ siblings (tower h) (16 ^ h) i (level ns)
unfolding siblings Raised level
raised_beside h r zero ns = refl
raised_beside h r (suc i) [] = ap (siblings (tower h) (16 ^ h) (suc i)) (sym level-nil)
raised_beside h r (suc i) (n ∷ ns) =
    ap₂ (λ (a : Node) (b : List Node). a ∷ b) (r n ns)
    (raised_beside h r i (drop (16 ^ suc h) (n ∷ ns)) ∙ ap (siblings (tower h) (16 ^ h) i) (level_drops h (n ∷ ns)))
    ∙ sym (siblings-cons (tower h) (16 ^ h) i (level (n ∷ ns)) (level-some (suc (length ns)) (n ∷ ns) (omega arith) (omega arith)))

raised : (h : ℕ) → Raised h
unfolding Raised tower head_n
raised zero n ns = rw (level-cons n ns) (ap (internode_of n) (singles 15 ns))
raised (suc h) n ns =
    ap₂ internode_of (raised h n ns)
    (raised_beside h (raised h) 15 (drop (16 ^ suc h) (n ∷ ns)) ∙ ap (siblings (tower h) (16 ^ h) 15) (level_drops h (n ∷ ns)))

-- THE ROOT is the lowest tower over all nodes.
pub root-tower : (h f : ℕ) (ns : List Node) → 0 < length ns → length ns ≤ f → length ns ≤ 16 ^ h → ((j : ℕ) → h ≡ suc j → 16 ^ j < length ns)
    → root_over f ns ≡ tower h ns
unfolding root_over tower head_n Raised level
root-tower h zero ns a b c d = absurd (omega arith)
root-tower h (suc f) [] a b c d = absurd (omega arith)
root-tower zero (suc f) (n ∷ []) a b c d = refl
root-tower (suc h) (suc f) (n ∷ []) a b c d = absurd (omega (arith, d h refl, one-le-pow h 16 (omega arith)))
root-tower zero (suc f) (n ∷ m ∷ ns) a b c d = absurd (omega arith)
root-tower (suc h) (suc f) (n ∷ m ∷ ns) a b c d =
    let l : List Node = level_over (suc (suc (length ns))) (n ∷ m ∷ ns) in
    let up = level-length (suc (suc (length ns))) (n ∷ m ∷ ns) in
    let down = level_covers (suc (suc (length ns))) (n ∷ m ∷ ns) (omega arith) in
    root-tower h f l (level-some (suc (suc (length ns))) (n ∷ m ∷ ns) (omega arith) (omega arith)) (omega arith) (omega arith)
    (λ j e. let w : 16 ^ h ≡ 16 * 16 ^ j = rw (e, pow-succ' 16 j) refl in omega (arith, d h refl))
    ∙ sym (raised h n (m ∷ ns))
