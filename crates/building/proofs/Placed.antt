-- What setting the places of a tree does: the records lie in post-order, the leaves are linked, what can be written still can; and what it
-- leaves as it was: pairs, numbers, paths, order, ranges and fields. Assumes of the tree only that it can be written (PlainN).
use Rattle.std.proofs.lemmas.Grind.{common_steps}
use Rattle.std.specs.Prelude.{◌⊎◌, ◌≡◌, ◌∷◌, ◌++◌, ◌+◌, ◌*◌, ◌^◌, ◌≤◌, ◌<◌}
use Rattle.base.specs.Kit.{inl, inr, refl, ap, ap₂, sym, ◌∙◌, List, ℕ, suc, arith, length, length-append, eq-eqb}
use Rattle.base.specs.Pick.{pick}
use Rattle.key.specs.Ikey.{ikey_bytes}
use Rattle.layering.specs.Tree.{Fields, Node, leaf, internode, beyond, Kids, last, more, Slots, none, value, layer}
use Rattle.layering.specs.Keys.{Pair, own_bytes, pairs_n, pairs_k, pairs_s, leaves_n, leaves_k, leaves_s, values_n, values_k, values_s, layers_n, layers_k, layers_s}
use Rattle.layering.specs.Accepted.{room, end_n, end_k, end_s, InPostOrderN, InPostOrderK, InPostOrderS, ShortPathsN, ShortPathsK, ShortPathsS, Before, BeforeFirst, AscendN, AscendK, AscendS, InRangeN, InRangeK, InRangeS, first_n, first_k, LinkedN, LinkedK, LinkedS, EndsHere, HasSuffix, FieldsN, FieldsK, FieldsS}
use Rattle.building.specs.Shape.{identity, size_s}
use Rattle.building.specs.Build.{stands_at, first_leaf_n, first_leaf_k, start_at, root_at, placed_n, placed_k, placed_s, fields_s, leaf_bytes, offset_n, separators_k, internode_bytes, suffix_bytes, bytes_n, bytes_k, bytes_s}
use Rattle.building.proofs.Plain.{PlainV, PlainL, PlainN, PlainK, PlainS, leaf_bytes-length, internode_bytes-length}

-- THE PLACE REACHED
mutual
  unfolding placed_n end_n room start_at

  pub end_n_placed : (n : Node) (b at next : ℕ) → end_n b (placed_n at next n) ≡ end_n b n
  end_n_placed (leaf h s) b at next = ap (λ (y : ℕ). y + 400) (end_s_placed s b at)
  end_n_placed (internode h k) b at next = ap (λ (y : ℕ). y + 256) (end_k_placed k b at next)
  end_n_placed beyond b at next = refl

  pub end_k_placed : (k : Kids) (b at next : ℕ) → end_k b (placed_k at next k) ≡ end_k b k
  end_k_placed (last n) b at next = end_n_placed n b at next
  end_k_placed (more n x k) b at next =
      rw (end_n_placed n b at (first_leaf_k (end_n at n) k)) (end_k_placed k (end_n b n) (end_n at n) next)

  pub end_s_placed : (s : Slots) (b at : ℕ) → end_s b (placed_s at s) ≡ end_s b s
  end_s_placed none b at = refl
  end_s_placed (value s r) b at = end_s_placed r (b + room s) (at + room s)
  end_s_placed (layer s n r) b at = rw (end_n_placed n b at 0) (end_s_placed r (end_n b n) (end_n at n))

-- POST-ORDER
starts : (s : Fields) (at : ℕ) → s.keylenx ≡ 64 → (start_at at s).start ≡ at
unfolding start_at pick
starts s at e = rw (eq-eqb s.keylenx 64 e) refl

mutual
  unfolding placed_n end_n room start_at PlainN InPostOrderN

  pub post_order_n : (n : Node) (m j at next : ℕ) → PlainN m j n → InPostOrderN at (placed_n at next n)
  post_order_n (leaf h s) m j at next p = (post_order_s s m at p.4, sym (end_s_placed s at at))
  post_order_n (internode h k) m j at next p = (post_order_k k m p.3 at next p.5, sym (end_k_placed k at at next))
  post_order_n beyond m j at next p = p

  pub post_order_k : (k : Kids) (m j at next : ℕ) → PlainK m j k → InPostOrderK at (placed_k at next k)
  post_order_k (last n) m j at next p = post_order_n n m j at next p
  post_order_k (more n x k) m j at next p = (
    post_order_n n m j at (first_leaf_k (end_n at n) k) p.1,
    rw (end_n_placed n at at (first_leaf_k (end_n at n) k)) (post_order_k k m j (end_n at n) next p.2),
  )

  pub post_order_s : (s : Slots) (m at : ℕ) → PlainS m s → InPostOrderS at (placed_s at s)
  post_order_s none m at p = tt
  post_order_s (value s r) m at p = (starts s at, post_order_s r m (at + room s) p.1)
  post_order_s (layer s n r) m at p =
      (post_order_n n p.2 12 at 0 p.4, rw (end_n_placed n at at 0) (post_order_s r m (end_n at n) p.1))

-- LINKS
mutual
  unfolding placed_n first_leaf_n first_n

  pub first_n_placed : (n : Node) (at next : ℕ) → first_n (placed_n at next n) ≡ first_leaf_n at n
  first_n_placed (leaf h s) at next = refl
  first_n_placed (internode h k) at next = first_k_placed k at next
  first_n_placed beyond at next = refl

  pub first_k_placed : (k : Kids) (at next : ℕ) → first_k (placed_k at next k) ≡ first_leaf_k at k
  first_k_placed (last n) at next = first_n_placed n at next
  first_k_placed (more n x k) at next = first_n_placed n at (first_leaf_k (end_n at n) k)

mutual
  unfolding placed_n LinkedN PlainN

  pub linked_n : (n : Node) (m j at next : ℕ) → PlainN m j n → LinkedN next (placed_n at next n)
  linked_n (leaf h s) m j at next p = (refl, linked_s s m at p.4)
  linked_n (internode h k) m j at next p = linked_k k m p.3 at next p.5
  linked_n beyond m j at next p = p

  pub linked_k : (k : Kids) (m j at next : ℕ) → PlainK m j k → LinkedK next (placed_k at next k)
  linked_k (last n) m j at next p = linked_n n m j at next p
  linked_k (more n x k) m j at next p =
      (rw (first_k_placed k (end_n at n) next) (linked_n n m j at (first_leaf_k (end_n at n) k) p.1), linked_k k m j (end_n at n) next p.2)

  pub linked_s : (s : Slots) (m at : ℕ) → PlainS m s → LinkedS (placed_s at s)
  linked_s none m at p = tt
  linked_s (value s r) m at p = linked_s r m (at + room s) p.1
  linked_s (layer s n r) m at p = (linked_n n p.2 12 at 0 p.4, linked_s r m (end_n at n) p.1)

-- WHAT STAYS: the pairs and the numbers
mutual
  unfolding placed_n pairs_n own_bytes start_at root_at

  pub pairs_n_placed : (n : Node) (q : List ℕ) (at next : ℕ) → pairs_n q (placed_n at next n) ≡ pairs_n q n
  pairs_n_placed (leaf h s) q at next = pairs_s_placed s q at
  pairs_n_placed (internode h k) q at next = pairs_k_placed k q at next
  pairs_n_placed beyond q at next = refl

  pub pairs_k_placed : (k : Kids) (q : List ℕ) (at next : ℕ) → pairs_k q (placed_k at next k) ≡ pairs_k q k
  pairs_k_placed (last n) q at next = pairs_n_placed n q at next
  pairs_k_placed (more n x k) q at next =
      ap₂ (λ (a b : List Pair). a ++ b) (pairs_n_placed n q at (first_leaf_k (end_n at n) k)) (pairs_k_placed k q (end_n at n) next)

  pub pairs_s_placed : (s : Slots) (q : List ℕ) (at : ℕ) → pairs_s q (placed_s at s) ≡ pairs_s q s
  pairs_s_placed none q at = refl
  pairs_s_placed (value s r) q at = rw (pairs_s_placed r q (at + room s)) refl
  pairs_s_placed (layer s n r) q at =
      ap₂ (λ (a b : List Pair). a ++ b) (pairs_n_placed n (q ++ ikey_bytes s.ikey) at 0) (pairs_s_placed r q (end_n at n))

mutual
  unfolding placed_n values_n leaves_n layers_n

  pub numbers_n : (n : Node) (at next : ℕ) → (values_n (placed_n at next n) ≡ values_n n) × (leaves_n (placed_n at next n) ≡ leaves_n n) × (layers_n (placed_n at next n) ≡ layers_n n)
  numbers_n (leaf h s) at next = let e = numbers_s s at in (e.0, ap (λ (y : ℕ). 1 + y) e.1, e.2)
  numbers_n (internode h k) at next = numbers_k k at next
  numbers_n beyond at next = (refl, refl, refl)

  pub numbers_k : (k : Kids) (at next : ℕ) → (values_k (placed_k at next k) ≡ values_k k) × (leaves_k (placed_k at next k) ≡ leaves_k k) × (layers_k (placed_k at next k) ≡ layers_k k)
  numbers_k (last n) at next = numbers_n n at next
  numbers_k (more n x k) at next =
      let e = numbers_n n at (first_leaf_k (end_n at n) k) in
      let f = numbers_k k (end_n at n) next in
      (ap₂ (λ (a b : ℕ). a + b) e.0 f.0, ap₂ (λ (a b : ℕ). a + b) e.1 f.1, ap₂ (λ (a b : ℕ). a + b) e.2 f.2)

  pub numbers_s : (s : Slots) (at : ℕ) → (values_s (placed_s at s) ≡ values_s s) × (leaves_s (placed_s at s) ≡ leaves_s s) × (layers_s (placed_s at s) ≡ layers_s s)
  numbers_s none at = (refl, refl, refl)
  numbers_s (value s r) at = let f = numbers_s r (at + room s) in (ap (λ (y : ℕ). 1 + y) f.0, f.1, f.2)
  numbers_s (layer s n r) at =
      let e = numbers_n n at 0 in
      let f = numbers_s r (end_n at n) in
      (ap₂ (λ (a b : ℕ). a + b) e.0 f.0, ap₂ (λ (a b : ℕ). a + b) e.1 f.1, ap₂ (λ (a b : ℕ). 1 + a + b) e.2 f.2)

-- the paths, the order, the ranges, the fields
mutual
  unfolding placed_n ShortPathsN

  pub paths_n : (n : Node) (at next : ℕ) → ShortPathsN n → ShortPathsN (placed_n at next n)
  paths_n (leaf h s) at next a = paths_s s at a
  paths_n (internode h k) at next a = (a.0, paths_k k at next a.1)
  paths_n beyond at next a = a

  paths_k : (k : Kids) (at next : ℕ) → ShortPathsK k → ShortPathsK (placed_k at next k)
  paths_k (last n) at next a = paths_n n at next a
  paths_k (more n x k) at next a = (paths_n n at (first_leaf_k (end_n at n) k) a.0, paths_k k (end_n at n) next a.1)

  paths_s : (s : Slots) (at : ℕ) → ShortPathsS s → ShortPathsS (placed_s at s)
  paths_s none at a = tt
  paths_s (value s r) at a = paths_s r (at + room s) a
  paths_s (layer s n r) at a = (paths_n n at 0 a.0, paths_s r (end_n at n) a.1)

before_placed : (s : Fields) (r : Slots) (at : ℕ) → BeforeFirst s r → BeforeFirst s (placed_s at r)
unfolding placed_n BeforeFirst Before start_at root_at
before_placed s none at b = b
before_placed s (value t r) at b = b
before_placed s (layer t n r) at b = b

before-start : (s : Fields) (r : Slots) (at : ℕ) → BeforeFirst s r → BeforeFirst (start_at at s) r
unfolding BeforeFirst Before start_at
before-start s none at b = b
before-start s (value t r) at b = b
before-start s (layer t n r) at b = b

before_root : (s : Fields) (r : Slots) (at : ℕ) → BeforeFirst s r → BeforeFirst (root_at at s) r
unfolding BeforeFirst Before root_at
before_root s none at b = b
before_root s (value t r) at b = b
before_root s (layer t n r) at b = b

mutual
  unfolding placed_n AscendN

  pub ascend_n : (n : Node) (at next : ℕ) → AscendN n → AscendN (placed_n at next n)
  ascend_n (leaf h s) at next a = ascend_s s at a
  ascend_n (internode h k) at next a = ascend_k k at next a
  ascend_n beyond at next a = a

  ascend_k : (k : Kids) (at next : ℕ) → AscendK k → AscendK (placed_k at next k)
  ascend_k (last n) at next a = ascend_n n at next a
  ascend_k (more n x k) at next a = (ascend_n n at (first_leaf_k (end_n at n) k) a.0, ascend_k k (end_n at n) next a.1)

  ascend_s : (s : Slots) (at : ℕ) → AscendS s → AscendS (placed_s at s)
  ascend_s none at a = tt
  ascend_s (value s r) at a =
      (before-start s (placed_s (at + room s) r) at (before_placed s r (at + room s) a.0), ascend_s r (at + room s) a.1)
  ascend_s (layer s n r) at a =
      (before_root s (placed_s (end_n at n) r) (stands_at at n) (before_placed s r (end_n at n) a.0), ascend_n n at 0 a.1, ascend_s r (end_n at n) a.2)

mutual
  unfolding placed_n InRangeN start_at root_at

  pub range_n : (n : Node) (lo hi at next : ℕ) → InRangeN lo hi n → InRangeN lo hi (placed_n at next n)
  range_n (leaf h s) lo hi at next a = range_s s lo hi at a
  range_n (internode h k) lo hi at next a = range_k k lo hi at next a
  range_n beyond lo hi at next a = a

  range_k : (k : Kids) (lo hi at next : ℕ) → InRangeK lo hi k → InRangeK lo hi (placed_k at next k)
  range_k (last n) lo hi at next a = range_n n lo hi at next a
  range_k (more n x k) lo hi at next a =
      (a.0, a.1, range_n n lo x at (first_leaf_k (end_n at n) k) a.2, range_k k x hi (end_n at n) next a.3)

  range_s : (s : Slots) (lo hi at : ℕ) → InRangeS lo hi s → InRangeS lo hi (placed_s at s)
  range_s none lo hi at a = tt
  range_s (value s r) lo hi at a = (a.0, a.1, range_s r lo hi (at + room s) a.2)
  range_s (layer s n r) lo hi at a = (a.0, a.1, range_n n 0 (2 ^ 64) at 0 a.2, range_s r lo hi (end_n at n) a.3)

fields-start : (s : Fields) (depth at : ℕ) → EndsHere depth s ⊎ HasSuffix depth s → EndsHere depth (start_at at s) ⊎ HasSuffix depth (start_at at s)
unfolding start_at
fields-start s depth at (inl e) = inl (record { short = e.short; some = e.some; filled = e.filled })
fields-start s depth at (inr e) = inr (record { long = e.long; some = e.some; fits = e.fits })

mutual
  unfolding placed_n FieldsN

  pub fields_n : (n : Node) (depth at next : ℕ) → FieldsN depth n → FieldsN depth (placed_n at next n)
  fields_n (leaf h s) depth at next a = (a.0, a.1, fields_ss s depth at a.2)
  fields_n (internode h k) depth at next a = (a.0, fields_k k depth at next a.1)
  fields_n beyond depth at next a = a

  fields_k : (k : Kids) (depth at next : ℕ) → FieldsK depth k → FieldsK depth (placed_k at next k)
  fields_k (last n) depth at next a = fields_n n depth at next a
  fields_k (more n x k) depth at next a = (fields_n n depth at (first_leaf_k (end_n at n) k) a.0, fields_k k depth (end_n at n) next a.1)

  fields_ss : (s : Slots) (depth at : ℕ) → FieldsS depth s → FieldsS depth (placed_s at s)
  fields_ss none depth at a = tt
  fields_ss (value s r) depth at a = (fields-start s depth at a.0, fields_ss r depth (at + room s) a.1)
  fields_ss (layer s n r) depth at a = (a.0, fields_n n (depth + 1) at 0 a.1, fields_ss r depth (end_n at n) a.2)

-- WHAT CAN BE WRITTEN STILL CAN
pub size_s_placed : (s : Slots) (at : ℕ) → size_s (placed_s at s) ≡ size_s s
unfolding size_s placed_n
size_s_placed none at = refl
size_s_placed (value s r) at = ap suc (size_s_placed r (at + room s))
size_s_placed (layer s n r) at = ap suc (size_s_placed r (end_n at n))

pub separators_k_placed : (k : Kids) (at next : ℕ) → separators_k (placed_k at next k) ≡ separators_k k
unfolding separators_k placed_n
separators_k_placed (last n) at next = refl
separators_k_placed (more n x k) at next = ap (λ (l : List ℕ). x ∷ l) (separators_k_placed k (end_n at n) next)

pub offset_placed : (n : Node) (at next : ℕ) → stands_at at n ≡ offset_n (placed_n at next n)
unfolding stands_at offset_n placed_n
offset_placed (leaf h s) at next = refl
offset_placed (internode h k) at next = refl
offset_placed beyond at next = refl

plain-start : (s : Fields) (at : ℕ) → PlainV s → PlainV (start_at at s)
unfolding start_at pick
plain-start s at v = grind (arith, common_steps)

plain_root : (s : Fields) (n : Node) (at next : ℕ) → PlainL s n → PlainL (root_at (stands_at at n) s) (placed_n at next n)
unfolding root_at
plain_root s n at next v =
    record {
      ikey = v.ikey;
      keylenx = v.keylenx;
      root = offset_placed n at next;
      start = v.start;
      len = v.len;
      suffix = v.suffix;
    }

-- places only grow
mutual
  unfolding end_n

  pub grow_n : (n : Node) (at : ℕ) → at ≤ end_n at n
  grow_n (leaf h s) at = omega (arith, grow_s s at)
  grow_n (internode h k) at = omega (arith, grow_k k at)
  grow_n beyond at = omega arith

  pub grow_k : (k : Kids) (at : ℕ) → at ≤ end_k at k
  grow_k (last n) at = grow_n n at
  grow_k (more n x k) at = omega (arith, grow_n n at, grow_k k (end_n at n))

  pub grow_s : (s : Slots) (at : ℕ) → at ≤ end_s at s
  grow_s none at = omega arith
  grow_s (value s r) at = omega (arith, grow_s r (at + room s))
  grow_s (layer s n r) at = omega (arith, grow_n n at, grow_s r (end_n at n))

mutual
  unfolding end_n first_leaf_n PlainN

  first_within_n : (n : Node) (m j at : ℕ) → PlainN m j n → first_leaf_n at n ≤ end_n at n
  first_within_n (leaf h s) m j at p = omega arith
  first_within_n (internode h k) m j at p = omega (arith, first_within_k k m p.3 at p.5)
  first_within_n beyond m j at p = absurd p

  first_within_k : (k : Kids) (m j at : ℕ) → PlainK m j k → first_leaf_k at k ≤ end_k at k
  first_within_k (last n) m j at p = first_within_n n m j at p
  first_within_k (more n x k) m j at p = omega (arith, first_within_n n m j at p.1, grow_k k (end_n at n))

mutual
  unfolding end_n placed_n PlainN

  pub plain_n : (n : Node) (m j at next : ℕ) → end_n at n < 2 ^ 64 → next < 2 ^ 64 → PlainN m j n → PlainN m j (placed_n at next n)
  plain_n (leaf h s) m j at next b c p = (
    p.0,
    p.1 ∙ ap (λ (y : ℕ). identity + y) (sym (size_s_placed s at)),
    c,
    rw (size_s_placed s at) p.3,
    plain_s s m at (omega arith) p.4,
  )
  plain_n (internode h k) m j at next b c p =
      (p.0, p.1 ∙ sym (ap length (separators_k_placed k at next)), p.2, p.3, p.4, plain_k k m p.3 at next (omega arith) c p.5)
  plain_n beyond m j at next b c p = p

  pub plain_k : (k : Kids) (m j at next : ℕ) → end_k at k < 2 ^ 64 → next < 2 ^ 64 → PlainK m j k → PlainK m j (placed_k at next k)
  plain_k (last n) m j at next b c p = plain_n n m j at next b c p
  plain_k (more n x k) m j at next b c p = (
    p.0,
    plain_n n m j at (first_leaf_k (end_n at n) k) (omega (arith, grow_k k (end_n at n))) (omega (arith, first_within_k k m j (end_n at n) p.2)) p.1,
    plain_k k m j (end_n at n) next b c p.2,
  )

  pub plain_s : (s : Slots) (m at : ℕ) → end_s at s < 2 ^ 64 → PlainS m s → PlainS m (placed_s at s)
  plain_s none m at b p = tt
  plain_s (value s r) m at b p = (plain-start s at p.0, plain_s r m (at + room s) b p.1)
  plain_s (layer s n r) m at b p = (
    plain_root s n at 0 p.0,
    plain_s r m (end_n at n) b p.1,
    p.2,
    p.3,
    plain_n n p.2 12 at 0 (omega (arith, grow_s r (end_n at n))) (omega arith) p.4,
  )

-- HOW MANY BYTES: as many as before, and 400 at least for each leaf
suffix-same : (s : Fields) (at : ℕ) → suffix_bytes (start_at at s) ≡ suffix_bytes s
unfolding suffix_bytes start_at room
suffix-same s at = refl

mutual
  unfolding placed_n bytes_n

  pub size_n_placed : (n : Node) (at next : ℕ) → length (bytes_n (placed_n at next n)) ≡ length (bytes_n n)
  size_n_placed (leaf h s) at next =
      simp (length-append, leaf_bytes-length) (ap (λ (y : ℕ). y + 400) (size_s-bytes s at))
  size_n_placed (internode h k) at next =
      simp (length-append, internode_bytes-length) (ap (λ (y : ℕ). y + 256) (size_k-bytes k at next))
  size_n_placed beyond at next = refl

  pub size_k-bytes : (k : Kids) (at next : ℕ) → length (bytes_k (placed_k at next k)) ≡ length (bytes_k k)
  size_k-bytes (last n) at next = size_n_placed n at next
  size_k-bytes (more n x k) at next =
      simp length-append (ap₂ (λ (a b : ℕ). a + b) (size_n_placed n at (first_leaf_k (end_n at n) k)) (size_k-bytes k (end_n at n) next))

  pub size_s-bytes : (s : Slots) (at : ℕ) → length (bytes_s (placed_s at s)) ≡ length (bytes_s s)
  size_s-bytes none at = refl
  size_s-bytes (value s r) at =
      simp length-append (ap₂ (λ (a b : ℕ). a + b) (ap length (suffix-same s at)) (size_s-bytes r (at + room s)))
  size_s-bytes (layer s n r) at =
      simp length-append (ap₂ (λ (a b : ℕ). a + b) (size_n_placed n at 0) (size_s-bytes r (end_n at n)))

mutual
  unfolding bytes_n leaves_n

  pub leaves-bytes_n : (n : Node) → 400 * leaves_n n ≤ length (bytes_n n)
  leaves-bytes_n (leaf h s) = omega (arith, leaves-bytes_s s, length-append (bytes_s s) (leaf_bytes h (fields_s s)), leaf_bytes-length h (fields_s s))
  leaves-bytes_n (internode h k) = omega (arith, leaves-bytes_k k, length-append (bytes_k k) (internode_bytes h k))
  leaves-bytes_n beyond = omega arith

  leaves-bytes_k : (k : Kids) → 400 * leaves_k k ≤ length (bytes_k k)
  leaves-bytes_k (last n) = leaves-bytes_n n
  leaves-bytes_k (more n x k) = omega (arith, leaves-bytes_n n, leaves-bytes_k k, length-append (bytes_n n) (bytes_k k))

  leaves-bytes_s : (s : Slots) → 400 * leaves_s s ≤ length (bytes_s s)
  leaves-bytes_s none = omega arith
  leaves-bytes_s (value s r) = omega (arith, leaves-bytes_s r, length-append (suffix_bytes s) (bytes_s r))
  leaves-bytes_s (layer s n r) = omega (arith, leaves-bytes_n n, leaves-bytes_s r, length-append (bytes_n n) (bytes_s r))
