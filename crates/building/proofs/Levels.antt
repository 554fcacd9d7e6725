-- INTERNODES. What a level of internodes over some nodes, and all levels up to the root, do: pairs and leaves stay, the ranges hold, and
-- sixteen times the nodes want one more internode on a path. Assumes nothing of what the nodes are.
use Rattle.std.specs.Prelude.{◌≡◌, ◌∷◌, ◌++◌, ◌+◌, ◌*◌, ◌-◌, ◌^◌, ◌≤◌, ◌<◌}
use Rattle.base.specs.Kit.{refl, ap, sym, ◌∙◌, List, [], append_assoc, append-nil, ℕ, zero, suc, arith, length, take, drop, length-append, length-take, length-drop, take-append-drop}
use Rattle.base.specs.Pick.{pick}
use Rattle.node.specs.Version.{bit, at_rest}
use Rattle.layering.specs.Tree.{Node, leaf, internode, beyond, Kids, last, more}
use Rattle.layering.specs.Keys.{Pair, pairs_n, pairs_k, leaves_n, leaves_k, values_n, values_k}
use Rattle.layering.specs.Accepted.{ShortPathsN, ShortPathsK, AscendN, AscendK, InRangeN, InRangeK, FieldsN, FieldsK}
use Rattle.building.specs.Shape.{first_ikey_n, first_ikey_k, kids_of, internode_of, level_over, root_over}
use Rattle.building.specs.Build.{offset_n, separators_k}
use Rattle.building.proofs.Plain.{PlainN, PlainK}
use Rattle.building.proofs.Fill.{Each}

-- What is kept of a node: at most m layers below it and k internodes on a path.
pub record NodeOk (m k depth : ℕ) (q : List ℕ) (n : Node) : Type 0 where
  pub plain : PlainN m k n
  pub fields : FieldsN depth n
  pub ascend : AscendN n
  pub paths : ShortPathsN n
  pub count : values_n n ≡ length (pairs_n q n)
  pub offset : offset_n n ≡ 0

-- Nodes side by side, with ikeys from lo up to but not at hi.
abbrev pub Beside : ℕ → ℕ → List Node → Type 0
Beside lo hi [] = ⊥
Beside lo hi (n ∷ ns) = InRangeK lo hi (kids_of n ns)

-- PAIRS AND LEAVES
abbrev pub pairs_l : List ℕ → List Node → List Pair
pairs_l q [] = []
pairs_l q (n ∷ ns) = pairs_n q n ++ pairs_l q ns

abbrev pub leaves_l : List Node → ℕ
leaves_l [] = 0
leaves_l (n ∷ ns) = leaves_n n + leaves_l ns

kids-pairs : (q : List ℕ) (n : Node) (ns : List Node) → pairs_k q (kids_of n ns) ≡ pairs_l q (n ∷ ns)
unfolding kids_of pairs_n
kids-pairs q n [] = sym (append-nil (pairs_n q n))
kids-pairs q n (m ∷ ns) = ap (λ (l : List Pair). pairs_n q n ++ l) (kids-pairs q m ns)

kids_leaves : (n : Node) (ns : List Node) → leaves_k (kids_of n ns) ≡ leaves_l (n ∷ ns)
unfolding kids_of leaves_n
kids_leaves n [] = omega arith
kids_leaves n (m ∷ ns) = ap (λ (l : ℕ). leaves_n n + l) (kids_leaves m ns)

pairs_l-append : (q : List ℕ) (a b : List Node) → pairs_l q (a ++ b) ≡ pairs_l q a ++ pairs_l q b
pairs_l-append q [] b = refl
pairs_l-append q (n ∷ a) b = rw (pairs_l-append q a b) (sym (append_assoc (pairs_n q n) (pairs_l q a) (pairs_l q b)))

leaves_l-append : (a b : List Node) → leaves_l (a ++ b) ≡ leaves_l a + leaves_l b
leaves_l-append [] b = omega arith
leaves_l-append (n ∷ a) b = omega (arith, leaves_l-append a b)

level-pairs : (q : List ℕ) (f : ℕ) (ns : List Node) → length ns ≤ f → pairs_l q (level_over f ns) ≡ pairs_l q ns
unfolding level_over internode_of pairs_n
level-pairs q zero [] h = refl
level-pairs q zero (n ∷ ns) h = absurd (omega arith)
level-pairs q (suc f) [] h = refl
level-pairs q (suc f) (n ∷ ns) h =
    rw (kids-pairs q n (take 15 ns), level-pairs q f (drop 15 ns) (omega (arith, length-drop 15 ns)))
    (append_assoc (pairs_n q n) (pairs_l q (take 15 ns)) (pairs_l q (drop 15 ns))
    ∙ ap (λ (l : List Pair). pairs_n q n ++ l) (sym (pairs_l-append q (take 15 ns) (drop 15 ns)) ∙ ap (pairs_l q) (take-append-drop 15 ns)))

level_leaves : (f : ℕ) (ns : List Node) → length ns ≤ f → leaves_l (level_over f ns) ≡ leaves_l ns
unfolding level_over internode_of leaves_n
level_leaves zero [] h = refl
level_leaves zero (n ∷ ns) h = absurd (omega arith)
level_leaves (suc f) [] h = refl
level_leaves (suc f) (n ∷ ns) h =
    omega (
      arith,
      kids_leaves n (take 15 ns),
      level_leaves f (drop 15 ns) (omega (arith, length-drop 15 ns)),
      leaves_l-append (take 15 ns) (drop 15 ns),
      ap leaves_l (take-append-drop 15 ns),
    )

-- HOW MANY NODES
level-nil : (f : ℕ) → level_over f [] ≡ []
unfolding level_over
level-nil zero = refl
level-nil (suc f) = refl

pub level-length : (f : ℕ) (ns : List Node) → 16 * length (level_over f ns) ≤ length ns + 15
unfolding level_over
level-length zero ns = omega arith
level-length (suc f) [] = omega arith
level-length (suc f) (n ∷ ns) = go (drop 15 ns) refl (level-length f (drop 15 ns))
  where
    go : (b : List Node) → drop 15 ns ≡ b → 16 * length (level_over f (drop 15 ns)) ≤ length (drop 15 ns) + 15
        → 16 * suc (length (level_over f (drop 15 ns))) ≤ suc (length ns) + 15
    go [] e h = omega (arith, ap length (ap (level_over f) e ∙ level-nil f))
    go (m ∷ b) e h = omega (arith, ap length e, length-drop 15 ns)

pub level-some : (f : ℕ) (ns : List Node) → 0 < length ns → length ns ≤ f → 0 < length (level_over f ns)
unfolding level_over
level-some zero ns h k = absurd (omega arith)
level-some (suc f) [] h k = absurd (omega arith)
level-some (suc f) (n ∷ ns) h k = omega arith

-- all levels
pub root-pairs : (q : List ℕ) (f : ℕ) (ns : List Node) → 0 < length ns → length ns ≤ f → pairs_n q (root_over f ns) ≡ pairs_l q ns
unfolding root_over
root-pairs q zero ns h k = absurd (omega arith)
root-pairs q (suc f) [] h k = absurd (omega arith)
root-pairs q (suc f) (n ∷ []) h k = sym (append-nil (pairs_n q n))
root-pairs q (suc f) (n ∷ m ∷ ns) h k =
    let l : List Node = level_over (suc (suc (length ns))) (n ∷ m ∷ ns) in
    root-pairs q f l (level-some (suc (suc (length ns))) (n ∷ m ∷ ns) (omega arith) (omega arith))
    (omega (arith, level-length (suc (suc (length ns))) (n ∷ m ∷ ns)))
    ∙ level-pairs q (suc (suc (length ns))) (n ∷ m ∷ ns) (omega arith)

pub root_leaves : (f : ℕ) (ns : List Node) → 0 < length ns → length ns ≤ f → leaves_n (root_over f ns) ≡ leaves_l ns
unfolding root_over
root_leaves zero ns h k = absurd (omega arith)
root_leaves (suc f) [] h k = absurd (omega arith)
root_leaves (suc f) (n ∷ []) h k = omega arith
root_leaves (suc f) (n ∷ m ∷ ns) h k =
    let l : List Node = level_over (suc (suc (length ns))) (n ∷ m ∷ ns) in
    root_leaves f l (level-some (suc (suc (length ns))) (n ∷ m ∷ ns) (omega arith) (omega arith))
    (omega (arith, level-length (suc (suc (length ns))) (n ∷ m ∷ ns)))
    ∙ level_leaves (suc (suc (length ns))) (n ∷ m ∷ ns) (omega arith)

-- MORE ROOM FOR PATHS
mutual
  unfolding PlainN

  widen_n : (n : Node) (m k j : ℕ) → k ≤ j → PlainN m k n → PlainN m j n
  widen_n (leaf h s) m k j l p = p
  widen_n (internode h ks) m k j l p =
      (p.0, p.1, p.2, j - 1, omega (arith, p.4), widen_k ks m p.3 (j - 1) (omega (arith, p.4)) p.5)
  widen_n beyond m k j l p = p

  widen_k : (ks : Kids) (m k j : ℕ) → k ≤ j → PlainK m k ks → PlainK m j ks
  widen_k (last n) m k j l p = widen_n n m k j l p
  widen_k (more n x ks) m k j l p = (p.0, widen_n n m k j l p.1, widen_k ks m k j l p.2)

-- ONE LEVEL
pub kids-first : (n : Node) (ns : List Node) → first_ikey_k (kids_of n ns) ≡ first_ikey_n n
unfolding kids_of first_ikey_n
kids-first n [] = refl
kids-first n (m ∷ ns) = refl

pub kids-separators : (n : Node) (ns : List Node) → length ns ≡ length (separators_k (kids_of n ns))
unfolding kids_of separators_k
kids-separators n [] = refl
kids-separators n (m ∷ ns) = ap suc (kids-separators m ns)

-- nodes side by side, cut before m
cut : (n : Node) (a : List Node) (m : Node) (b : List Node) (lo hi : ℕ) → InRangeK lo hi (kids_of n (a ++ m ∷ b))
    → InRangeK lo (first_ikey_n m) (kids_of n a) × (lo < first_ikey_n m) × (first_ikey_n m < hi) × InRangeK (first_ikey_n m) hi (kids_of m b)
unfolding kids_of InRangeN
cut n [] m b lo hi r = (r.2, r.0, r.1, r.3)
cut n (d ∷ a) m b lo hi r =
    let t = cut d a m b (first_ikey_n d) hi r.3 in
    ((r.0, t.1, r.2, t.0), omega (arith, r.0, t.1), t.2, t.3)

-- one more node in front
front : (n : Node) (l : List Node) (lo x hi : ℕ) → InRangeN lo x n → lo < x → x < hi → Beside x hi l
    → ((m : Node) (b : List Node) → l ≡ m ∷ b → first_ikey_n m ≡ x) → Beside lo hi (n ∷ l)
unfolding kids_of InRangeN
front n [] lo x hi r a b s f = absurd s
front n (m ∷ l) lo x hi r a b s f =
    let e : first_ikey_n m ≡ x = f m l refl in
    (omega arith, omega arith, rw e r, rw e s)

as-node : (n : Node) (a : List Node) (lo hi : ℕ) → InRangeK lo hi (kids_of n a) → InRangeN lo hi (internode_of n a)
unfolding internode_of InRangeN
as-node n a lo hi r = r

alone : (n : Node) (a : List Node) (lo hi : ℕ) → InRangeK lo hi (kids_of n a) → InRangeK lo hi (kids_of (internode_of n a) [])
unfolding internode_of kids_of InRangeN
alone n a lo hi r = r

pub each_append : {A : Type 0} (P : A → Type 0) (a b : List A) → Each P (a ++ b) → Each P a × Each P b
each_append P [] b e = (tt, e)
each_append P (x ∷ a) b e = let r = each_append P a b e.1 in ((e.0, r.0), r.1)

module _ (m depth : ℕ) (q : List ℕ) where
  kids_ok : (k : ℕ) (n : Node) (ns : List Node) (lo hi : ℕ) → hi ≤ 2 ^ 64 → Each (NodeOk m k depth q) (n ∷ ns) → InRangeK lo hi (kids_of n ns)
      → PlainK m k (kids_of n ns) × FieldsK depth (kids_of n ns) × AscendK (kids_of n ns) × ShortPathsK (kids_of n ns)
      × (values_k (kids_of n ns) ≡ length (pairs_k q (kids_of n ns)))
  unfolding kids_of PlainN FieldsN AscendN ShortPathsN values_n pairs_n InRangeN
  kids_ok k n [] lo hi b e r = (e.0.plain, e.0.fields, e.0.ascend, e.0.paths, e.0.count)
  kids_ok k n (d ∷ ns) lo hi b e r =
      let t = kids_ok k d ns (first_ikey_n d) hi b e.1 r.3 in (
        (omega (arith, r.1), e.0.plain, t.0),
        (e.0.fields, t.1),
        (e.0.ascend, t.2),
        (e.0.paths, t.3),
        omega (arith, e.0.count, t.4, length-append (pairs_n q n) (pairs_k q (kids_of d ns))),
      )

  internode_ok : (k : ℕ) (n : Node) (ns : List Node) (lo hi : ℕ) → hi ≤ 2 ^ 64 → length ns ≤ 15 → Each (NodeOk m k depth q) (n ∷ ns)
      → InRangeK lo hi (kids_of n ns) → NodeOk m (suc k) depth q (internode_of n ns)
  unfolding internode_of offset_n PlainN FieldsN AscendN ShortPathsN values_n pairs_n bit at_rest pick
  internode_ok k n ns lo hi b l e r =
      let t = kids_ok k n ns lo hi b e r in
      record {
        plain = (refl, kids-separators n ns, l, k, refl, t.0);
        fields = (refl, t.1);
        ascend = t.2;
        paths = (l, t.3);
        count = t.4;
        offset = refl;
      }

  -- what one level gives
  Level : ℕ → ℕ → ℕ → ℕ → List Node → Type 0
  Level k lo hi x l = Each (NodeOk m (suc k) depth q) l × Beside lo hi l × ((d : Node) (b : List Node) → l ≡ d ∷ b → first_ikey_n d ≡ x)

  starts : (n : Node) (a l : List Node) (x : ℕ) → first_ikey_n n ≡ x → (d : Node) (b : List Node) → internode_of n a ∷ l ≡ d ∷ b → first_ikey_n d ≡ x
  unfolding internode_of first_ikey_n
  starts n a l x e d b h =
      let f : internode_of n a ≡ d = cc in
      sym (ap first_ikey_n f) ∙ kids-first n a ∙ e

  level_ok : (f k : ℕ) (n : Node) (ns : List Node) (lo hi : ℕ) → length ns < f → hi ≤ 2 ^ 64 → Each (NodeOk m k depth q) (n ∷ ns)
      → InRangeK lo hi (kids_of n ns) → Level k lo hi (first_ikey_n n) (level_over f (n ∷ ns))
  unfolding level_over Level
  level_ok zero k n ns lo hi h b e r = absurd (omega arith)
  level_ok (suc f) k n ns lo hi h b e r =
      go (drop 15 ns) (take-append-drop 15 ns) (omega (arith, length-drop 15 ns)) (λ d ns' lo'. level_ok f k d ns' lo' hi)
    where
      a : List Node
      a = take 15 ns

      few : length a ≤ 15
      few = omega (arith, length-take 15 ns)

      go : (c : List Node) → a ++ c ≡ ns → length c ≤ f
          → ((d : Node) (ns' : List Node) (lo' : ℕ) → length ns' < f → hi ≤ 2 ^ 64 → Each (NodeOk m k depth q) (d ∷ ns')
          → InRangeK lo' hi (kids_of d ns') → Level k lo' hi (first_ikey_n d) (level_over f (d ∷ ns')))
          → Level k lo hi (first_ikey_n n) (internode_of n a ∷ level_over f c)
      go [] g j ih =
          let w : a ≡ ns = sym (append-nil a) ∙ g in
          let ra : InRangeK lo hi (kids_of n a) = rw w r in
          let ea : Each (NodeOk m k depth q) (n ∷ a) = rw w e in
          rw (level-nil f)
          ((internode_ok k n a lo hi b few ea ra, tt), alone n a lo hi ra, starts n a [] (first_ikey_n n) refl)
      go (d ∷ c) g j ih =
          let t = cut n a d c lo hi (rw g r) in
          let e' : Each (NodeOk m k depth q) (n ∷ (a ++ d ∷ c)) = rw g e in
          let s = each_append (NodeOk m k depth q) a (d ∷ c) e'.1 in
          let u = ih d c (first_ikey_n d) (omega arith) b s.1 t.3 in (
            (internode_ok k n a lo (first_ikey_n d) (omega (arith, t.2)) few (e'.0, s.0) t.0, u.0),
            front (internode_of n a) (level_over f (d ∷ c)) lo (first_ikey_n d) hi (as-node n a lo (first_ikey_n d) t.0) t.1 t.2 u.1 u.2,
            starts n a (level_over f (d ∷ c)) (first_ikey_n n) refl,
          )

  -- ALL LEVELS
  pub root_ok : (f j k : ℕ) (ns : List Node) (lo hi : ℕ) → length ns ≤ f → length ns ≤ 16 ^ j → k + j ≤ 12 → hi ≤ 2 ^ 64
      → Each (NodeOk m k depth q) ns → Beside lo hi ns → NodeOk m 12 depth q (root_over f ns) × InRangeN lo hi (root_over f ns)
  unfolding root_over Level kids_of InRangeN
  root_ok zero j k [] lo hi h i w b e r = absurd r
  root_ok zero j k (n ∷ ns) lo hi h i w b e r = absurd (omega arith)
  root_ok (suc f) j k [] lo hi h i w b e r = absurd r
  root_ok (suc f) j k (n ∷ []) lo hi h i w b e r =
      let o = e.0 in (
        record {
          plain = widen_n n m k 12 (omega arith) o.plain;
          fields = o.fields;
          ascend = o.ascend;
          paths = o.paths;
          count = o.count;
          offset = o.offset;
        },
        r,
      )
  root_ok (suc f) zero k (n ∷ d ∷ ns) lo hi h i w b e r = absurd (omega arith)
  root_ok (suc f) (suc j) k (n ∷ d ∷ ns) lo hi h i w b e r =
      let l = level-length (suc (suc (length ns))) (n ∷ d ∷ ns) in
      let t = level_ok (suc (suc (length ns))) k n (d ∷ ns) lo hi (omega arith) b e r in
      root_ok f j (suc k) (level_over (suc (suc (length ns))) (n ∷ d ∷ ns)) lo hi (omega arith) (omega arith) (omega arith) b t.0 t.1
