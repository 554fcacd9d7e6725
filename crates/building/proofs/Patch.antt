-- THE NEXT LEAF, written later. A subtree's bytes with the leaf behind it at `next` are those with 0 there, and `next` written into its last
-- leaf. So code may write a leaf before it knows where the next one stands. Assumes that the subtree can be written (PlainN).
use Rattle.std.proofs.lemmas.Grind.{common_steps}
use Rattle.std.specs.Prelude.{◌≡◌, ◌∷◌, ◌++◌, ◌+◌, ◌≤◌}
use Rattle.base.specs.Kit.{refl, ap, ap₂, sym, ◌∙◌, List, [], map, flatten, append_assoc, append-nil, ℕ, arith, length, replicate, length-append}
use Rattle.layering.specs.Tree.{Fields, LeafHead, InternodeHead, Node, leaf, internode, beyond, Kids, last, more}
use Rattle.layering.specs.Accepted.{end_n, end_k, end_s}
use Rattle.building.specs.Build.{first_leaf_k, placed_n, placed_k, placed_s, le_bytes, words, fields_s, mask, suffix_word, leaf_bytes, offset_n, children_k, separators_k, internode_bytes, bytes_n, bytes_k, bytes_s}
use Rattle.building.proofs.Stands.{le_bytes-length, words-length}
use Rattle.building.proofs.Plain.{PlainN, PlainK, length_n, length_k, length_s}
use Rattle.building.proofs.Placed.{size_n_placed, size_k-bytes, size_s-bytes}
use Rattle.building.proofs.Sizes.{shift_k}
use Rattle.building.specs.CodeWritten.{put, last_n, last_k}
use Rattle.building.proofs.Puts.{put_right, put-left}

-- the last eight bytes of a leaf
put_end : (a b w : List ℕ) (i : ℕ) → length a ≡ i → length b ≡ length w → put (a ++ b) i w ≡ a ++ w
put_end a b w i e f = grind (arith, common_steps)

leaf_front : LeafHead → List Fields → List ℕ
leaf_front h l =
    flatten (
    le_bytes 4 h.version ∷ le_bytes 2 (mask l) ∷ replicate 2 0 ∷ le_bytes 8 h.permutation
    ∷ words 8 15 (map (λ (s : Fields). s.ikey) l) ∷ words 1 15 (map (λ (s : Fields). s.keylenx) l) ∷ replicate 1 0
    ∷ words 8 15 (map (λ (s : Fields). s.value) l) ∷ words 8 15 (map suffix_word l) ∷ []
    )

leaf_front-length : (h : LeafHead) (l : List Fields) → length (leaf_front h l) ≡ 392
unfolding leaf_front flatten
leaf_front-length h l = simp (length-append, le_bytes-length, words-length)

leaf_split : (h : LeafHead) (l : List Fields) → leaf_bytes h l ≡ leaf_front h l ++ le_bytes 8 h.next
unfolding leaf_bytes leaf_front flatten
leaf_split h l = simp (append_assoc, append-nil)

leaf_patch : (h g : LeafHead) (l : List Fields) → leaf_front h l ≡ leaf_front g l → put (leaf_bytes g l) 392 (le_bytes 8 h.next) ≡ leaf_bytes h l
leaf_patch h g l e =
    rw (leaf_split g l, leaf_split h l, e)
    (put_end (leaf_front g l) (le_bytes 8 g.next) (le_bytes 8 h.next) 392 (leaf_front-length g l) (le_bytes-length 8 g.next ∙ sym (le_bytes-length 8 h.next)))

front_same : (h g : LeafHead) (l : List Fields) → h.version ≡ g.version → h.permutation ≡ g.permutation → leaf_front h l ≡ leaf_front g l
unfolding leaf_front
front_same h g l e f = rw (e, f) refl

-- what an internode says does not depend on the leaf behind it
children-same : (k : Kids) (at next : ℕ) → children_k (placed_k at next k) ≡ children_k (placed_k at 0 k)
unfolding children_k placed_n offset_n
children-same (last n) at next = ap (λ (x : ℕ). x ∷ []) (offset-same n at next)
  where
    offset-same : (n : Node) (at next : ℕ) → offset_n (placed_n at next n) ≡ offset_n (placed_n at 0 n)
    offset-same (leaf h s) at next = refl
    offset-same (internode h k) at next = refl
    offset-same beyond at next = refl
children-same (more n x k) at next = ap (λ (l : List ℕ). offset_n (placed_n at (first_leaf_k (end_n at n) k) n) ∷ l) (children-same k (end_n at n) next)

separators-same : (k : Kids) (at next : ℕ) → separators_k (placed_k at next k) ≡ separators_k (placed_k at 0 k)
unfolding separators_k placed_n
separators-same (last n) at next = refl
separators-same (more n x k) at next = ap (λ (l : List ℕ). x ∷ l) (separators-same k (end_n at n) next)

inner-same : (h : InternodeHead) (k j : Kids) → children_k k ≡ children_k j → separators_k k ≡ separators_k j → internode_bytes h k ≡ internode_bytes h j
unfolding internode_bytes
inner-same h k j e f = rw (e, f) refl

-- the last leaf is within the subtree
mutual
  unfolding last_n end_n PlainN

  pub last_within_n : (n : Node) (m j : ℕ) → PlainN m j n → last_n n + 400 ≤ end_n 0 n
  last_within_n (leaf h s) m j p = omega arith
  last_within_n (internode h k) m j p = omega (arith, last_within_k k m p.3 p.5)
  last_within_n beyond m j p = absurd p

  pub last_within_k : (k : Kids) (m j : ℕ) → PlainK m j k → last_k k + 400 ≤ end_k 0 k
  last_within_k (last n) m j p = last_within_n n m j p
  last_within_k (more n x k) m j p = omega (arith, last_within_k k m j p.2, shift_k k (end_n 0 n))

mutual
  unfolding last_n bytes_n placed_n PlainN

  pub patch_n : (n : Node) (m j at next : ℕ) → PlainN m j n
      → put (bytes_n (placed_n at 0 n)) (last_n n + 392) (le_bytes 8 next) ≡ bytes_n (placed_n at next n)
  patch_n (leaf h s) m j at next p =
      let a : List ℕ = bytes_s (placed_s at s) in
      let e : length a ≡ end_s 0 s = size_s-bytes s at ∙ (let w : 0 + length (bytes_s s) ≡ length (bytes_s s) = omega arith in sym w ∙ length_s s m 0 p.4) in
      let g : LeafHead = record { offset = end_s at s; version = h.version; permutation = h.permutation; next = 0 } in
      let f : LeafHead = record { offset = end_s at s; version = h.version; permutation = h.permutation; next = next } in
      ap (λ (i : ℕ). put (a ++ leaf_bytes g (fields_s (placed_s at s))) (i + 392) (le_bytes 8 next)) (sym e)
      ∙ put_right a (leaf_bytes g (fields_s (placed_s at s))) (le_bytes 8 next) 392
      ∙ ap (λ (r : List ℕ). a ++ r) (leaf_patch f g (fields_s (placed_s at s)) (front_same f g (fields_s (placed_s at s)) refl refl))
  patch_n (internode h k) m j at next p =
      let g : InternodeHead = record { offset = end_k at k; version = h.version; nkeys = h.nkeys } in
      put-left (bytes_k (placed_k at 0 k)) (internode_bytes g (placed_k at 0 k)) (le_bytes 8 next) (last_k k + 392)
      (omega (arith, le_bytes-length 8 next, last_within_k k m p.3 p.5, size_k-bytes k at 0, length_k k m p.3 0 p.5))
      ∙ ap₂ (λ (a b : List ℕ). a ++ b) (patch_k k m p.3 at next p.5)
      (inner-same g (placed_k at 0 k) (placed_k at next k) (sym (children-same k at next)) (sym (separators-same k at next)))
  patch_n beyond m j at next p = absurd p

  pub patch_k : (k : Kids) (m j at next : ℕ) → PlainK m j k
      → put (bytes_k (placed_k at 0 k)) (last_k k + 392) (le_bytes 8 next) ≡ bytes_k (placed_k at next k)
  patch_k (last n) m j at next p = patch_n n m j at next p
  patch_k (more n x k) m j at next p =
      let a : List ℕ = bytes_n (placed_n at (first_leaf_k (end_n at n) k) n) in
      let e : length a ≡ end_n 0 n =
      size_n_placed n at (first_leaf_k (end_n at n) k) ∙ (let w : 0 + length (bytes_n n) ≡ length (bytes_n n) = omega arith in sym w ∙ length_n n m j 0 p.1) in
      let i : end_n 0 n + last_k k + 392 ≡ length a + (last_k k + 392) = omega arith in
      ap (λ (y : ℕ). put (a ++ bytes_k (placed_k (end_n at n) 0 k)) y (le_bytes 8 next)) i
      ∙ put_right a (bytes_k (placed_k (end_n at n) 0 k)) (le_bytes 8 next) (last_k k + 392)
      ∙ ap (λ (r : List ℕ). a ++ r) (patch_k k m j (end_n at n) next p.2)
