-- TOWERS: subtrees of one height over some nodes can be written where the nodes can; how many there are, where they end, and the height of a
-- layer's root. The laws about what can be written assume it of the nodes; the others assume nothing of them.
use Rattle.std.proofs.lemmas.Grind.{common_steps}
use Rattle.std.specs.Prelude.{◌≡◌, ◌⊎◌, ◌∷◌, ◌+◌, ◌*◌, ◌^◌, ◌≤◌, ◌<◌}
use Rattle.base.specs.Kit.{refl, inl, inr, List, [], ℕ, zero, suc, add-zero, zero-add, one-le-pow, eq-or-lt_of_le, arith, length, drop, dec_le}
use Rattle.layering.specs.Tree.{Node}
use Rattle.layering.specs.Accepted.{end_n}
-- each leaf takes 400 bytes
pub use Rattle.layering.proofs.Size.{leaves_fit_n as leaves_end}
use Rattle.building.specs.Shape.{internode_of, root_over}
use Rattle.building.specs.CodeOrder.{head_n, siblings, tower}
use Rattle.building.specs.CodeSiblings.{end_l}
use Rattle.building.proofs.Plain.{PlainN}
use Rattle.building.proofs.Fill.{Each}
use Rattle.building.proofs.Levels.{kids-separators}
use Rattle.building.proofs.Tower.{root-tower}
use Rattle.building.proofs.Siblings.{grow_l, siblings_end, plain_k_of}

-- SUBTREES SIDE BY SIDE
pub siblings-none : (t : List Node → Node) (k i : ℕ) → siblings t k i [] ≡ []
unfolding siblings
siblings-none t k zero = refl
siblings-none t k (suc i) = refl

pub siblings-few : (t : List Node → Node) (k i : ℕ) (ns : List Node) → length (siblings t k i ns) ≤ i
unfolding siblings
siblings-few t k zero ns = omega arith
siblings-few t k (suc i) [] = omega arith
siblings-few t k (suc i) (n ∷ ns) = omega (arith, siblings-few t k i (drop k (n ∷ ns)))

pub drop-tower : (h : ℕ) (ns : List Node) → drop (15 * 16 ^ h) (drop (16 ^ h) ns) ≡ drop (16 ^ suc h) ns
drop-tower h ns = grind (arith, common_steps)

-- WHAT CAN BE WRITTEN
pub each-drop : {A : Type 0} (P : A → Type 0) (k : ℕ) (l : List A) → Each P l → Each P (drop k l)
each-drop P zero l e = e
each-drop P (suc k) [] e = tt
each-drop P (suc k) (x ∷ l) e = each-drop P k l e.1

module _ (m : ℕ) where
  Plain : ℕ → Type 0
  Plain h = (ns : List Node) → 0 < length ns → Each (PlainN m 0) ns → PlainN m h (tower h ns)

  siblings_all : (h : ℕ) → Plain h → (k i : ℕ) (ns : List Node) → Each (PlainN m 0) ns → Each (PlainN m h) (siblings (tower h) k i ns)
  unfolding siblings Plain
  siblings_all h p k zero ns e = tt
  siblings_all h p k (suc i) [] e = tt
  siblings_all h p k (suc i) (n ∷ ns) e =
      (p (n ∷ ns) (omega arith) e, siblings_all h p k i (drop k (n ∷ ns)) (each-drop (PlainN m 0) k (n ∷ ns) e))

  pub tower_plain : (h : ℕ) (ns : List Node) → 0 < length ns → Each (PlainN m 0) ns → PlainN m h (tower h ns)
  unfolding tower head_n internode_of PlainN Plain
  tower_plain zero [] a e = absurd (omega arith)
  tower_plain zero (n ∷ ns) a e = e.0
  tower_plain (suc h) ns a e =
      let l : List Node = siblings (tower h) (16 ^ h) 15 (drop (16 ^ h) ns) in
      let q : Each (PlainN m h) l = siblings_all h (tower_plain h) (16 ^ h) 15 (drop (16 ^ h) ns) (each-drop (PlainN m 0) (16 ^ h) ns e) in
      (refl, kids-separators (tower h ns) l, siblings-few (tower h) (16 ^ h) 15 (drop (16 ^ h) ns), h, refl, plain_k_of m h (tower h ns) l (tower_plain h ns a e) q)

  pub siblings_plain : (h k i : ℕ) (ns : List Node) → Each (PlainN m 0) ns → Each (PlainN m h) (siblings (tower h) k i ns)
  unfolding Plain
  siblings_plain h = siblings_all h (tower_plain h)

-- PLACES
pub tower_end : (h : ℕ) (ns : List Node) (at : ℕ)
    → end_l (end_n at (tower h ns)) (siblings (tower h) (16 ^ h) 15 (drop (16 ^ h) ns)) + 256 ≡ end_n at (tower (suc h) ns)
unfolding tower
tower_end h ns at = siblings_end at (tower h ns) (siblings (tower h) (16 ^ h) 15 (drop (16 ^ h) ns))

pub tower-grows : (h k : ℕ) (ns : List Node) (at : ℕ) → h ≤ k → end_n at (tower h ns) ≤ end_n at (tower k ns)
tower-grows h zero ns at l = let e : h ≡ 0 = omega arith in rw e (omega arith)
tower-grows h (suc k) ns at l = go (eq-or-lt_of_le l) (tower-grows h k ns at)
  where
    go : (h ≡ suc k) ⊎ (h < suc k) → (h ≤ k → end_n at (tower h ns) ≤ end_n at (tower k ns)) → end_n at (tower h ns) ≤ end_n at (tower (suc k) ns)
    go (inl e) f = rw e (omega arith)
    go (inr o) f =
        omega (arith, f (omega arith), tower_end k ns at, grow_l (siblings (tower k) (16 ^ k) 15 (drop (16 ^ k) ns)) (end_n at (tower k ns)))

-- THE HEIGHT
pub low : (h : ℕ) → 16 ^ h < 41944 → h ≤ 3
low zero l = omega arith
low (suc zero) l = omega arith
low (suc (suc zero)) l = omega arith
low (suc (suc (suc zero))) l = omega arith
low (suc (suc (suc (suc h)))) l = absurd (omega (arith, one-le-pow h 16 (omega arith)))

-- the least power of 16 that is n or more
Least : ℕ → Type 0
Least n = (h : ℕ) × (n ≤ 16 ^ h) × ((j : ℕ) → h ≡ suc j → 16 ^ j < n)

below_power : (n : ℕ) → n ≤ 16 ^ n
below_power zero = omega arith
below_power (suc n) = omega (arith, below_power n, one-le-pow n 16 (omega arith))

least : (n f h : ℕ) → n ≤ 16 ^ (f + h) → ((j : ℕ) → h ≡ suc j → 16 ^ j < n) → Least n
unfolding Least
least n zero h a b = (h, rw (zero-add h) at a, b)
least n (suc f) h a b = go (dec_le n (16 ^ h)) (least n f (suc h))
  where
    go : Dec (n ≤ 16 ^ h) → (n ≤ 16 ^ (f + suc h) → ((j : ℕ) → suc h ≡ suc j → 16 ^ j < n) → Least n) → Least n
    go (yes l) r = (h, l, b)
    go (no l) r =
        let e : suc f + h ≡ f + suc h = omega arith in
        r (rw e at a) (λ j q. let d : h ≡ j = omega arith in rw (← d) (omega arith))

pub height : (ns : List Node) → 0 < length ns
    → (h : ℕ) × (root_over (length ns) ns ≡ tower h ns) × (length ns ≤ 16 ^ h) × ((j : ℕ) → h ≡ suc j → 16 ^ j < length ns)
unfolding Least
height ns a =
    let n : ℕ = length ns in
    let r = least n n 0 (rw (add-zero n) (below_power n)) (λ j q. absurd (omega arith)) in
    (r.0, root-tower r.0 n ns a (omega arith) r.1 r.2, r.1, r.2)
