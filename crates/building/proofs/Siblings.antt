-- AN INTERNODE CHILD BY CHILD. The output once a first child, the subtrees behind it and their internode are written one after the other is
-- that with the internode's subtree written; the place behind it, its record, its last leaf and its first ikey. The laws about what is
-- written assume that the children can be written (PlainN) and that the output has room; the others assume nothing.
use Rattle.std.specs.Prelude.{◌≡◌, ◌∷◌, ◌+◌, ◌^◌, ◌≤◌, ◌<◌}
use Rattle.base.specs.Kit.{Bool, true, false, refl, ap, ap₂, ◌∙◌, List, [], map, ℕ, arith, eqb, eqb-false, length}
use Rattle.base.specs.Pick.{pick}
use Rattle.layering.specs.Tree.{Node, leaf, internode, beyond, Kids, last, more, Slots, none, value, layer}
use Rattle.layering.specs.Accepted.{end_n, end_k}
use Rattle.building.specs.Shape.{first_ikey_s, first_ikey_n, first_ikey_k, kids_of, internode_of}
use Rattle.building.specs.Build.{stands_at, first_leaf_n, first_leaf_k, placed_n, placed_k, le_bytes, children_k, separators_k, internode_bytes, bytes_n}
use Rattle.building.specs.CodeWritten.{put, last_n, last_k, Behind, linked, written, written_k}
use Rattle.building.specs.CodeSiblings.{written_l, end_l, last_l, stands_l, internode_row, closed}
use Rattle.building.proofs.Stands.{le_bytes-length}
use Rattle.building.proofs.Plain.{PlainN, PlainK, PlainS, length_n}
use Rattle.building.proofs.Placed.{separators_k_placed, offset_placed, size_n_placed, grow_n}
use Rattle.building.proofs.Fill.{Each}
use Rattle.building.proofs.Levels.{kids-first}
use Rattle.building.proofs.Sizes.{shift_n}
use Rattle.building.proofs.Puts.{put-length}
use Rattle.building.proofs.Patch.{last_within_n}
use Rattle.building.proofs.Written.{beside, closing}

-- PLACES
pub grow_l : (ns : List Node) (at : ℕ) → at ≤ end_l at ns
unfolding end_l
grow_l [] at = omega arith
grow_l (n ∷ ns) at = omega (arith, grow_n n at, grow_l ns (end_n at n))

kids_end : (at : ℕ) (n : Node) (ns : List Node) → end_l (end_n at n) ns ≡ end_k at (kids_of n ns)
unfolding end_l end_n kids_of
kids_end at n [] = refl
kids_end at n (d ∷ ns) = kids_end (end_n at n) d ns

pub siblings_end : (at : ℕ) (n : Node) (ns : List Node) → end_l (end_n at n) ns + 256 ≡ end_n at (internode_of n ns)
unfolding end_n internode_of
siblings_end at n ns = ap (λ (y : ℕ). y + 256) (kids_end at n ns)

pub siblings_stand : (at : ℕ) (n : Node) (ns : List Node) → end_l (end_n at n) ns ≡ stands_at at (internode_of n ns)
unfolding stands_at internode_of
siblings_stand at n ns = kids_end at n ns

kids-last : (at : ℕ) (n : Node) (ns : List Node) → last_l (end_n at n) (at + last_n n) ns ≡ at + last_k (kids_of n ns)
unfolding last_l last_n kids_of
kids-last at n [] = refl
kids-last at n (d ∷ ns) = omega (arith, kids-last (end_n at n) d ns, shift_n n at)

pub siblings-last : (at : ℕ) (n : Node) (ns : List Node) → last_l (end_n at n) (at + last_n n) ns ≡ at + last_n (internode_of n ns)
unfolding last_n internode_of
siblings-last at n ns = kids-last at n ns

pub siblings-first : (n : Node) (ns : List Node) → first_ikey_n (internode_of n ns) ≡ first_ikey_n n
unfolding first_ikey_n internode_of
siblings-first n ns = kids-first n ns

-- WHAT THE INTERNODE SAYS
kids_stand : (at next : ℕ) (n : Node) (ns : List Node) → stands_at at n ∷ stands_l (end_n at n) ns ≡ children_k (placed_k at next (kids_of n ns))
unfolding stands_l children_k placed_n kids_of
kids_stand at next n [] = ap (λ (x : ℕ). x ∷ []) (offset_placed n at next)
kids_stand at next n (d ∷ ns) =
    ap₂ (λ (x : ℕ) (l : List ℕ). x ∷ l) (offset_placed n at (first_leaf_k (end_n at n) (kids_of d ns))) (kids_stand (end_n at n) next d ns)

kids_ikeys : (n : Node) (ns : List Node) → map first_ikey_n ns ≡ separators_k (kids_of n ns)
unfolding separators_k kids_of
kids_ikeys n [] = refl
kids_ikeys n (d ∷ ns) = ap (λ (l : List ℕ). first_ikey_n d ∷ l) (kids_ikeys d ns)

-- WHAT CAN BE WRITTEN
mutual
  unfolding PlainN first_ikey_n first_ikey_s

  pub first_small : (n : Node) (m j : ℕ) → PlainN m j n → first_ikey_n n < 2 ^ 64
  first_small (leaf h s) m j p = first_small_s s m p.4
  first_small (internode h k) m j p = first_small_k k m p.3 p.5
  first_small beyond m j p = absurd p

  first_small_k : (k : Kids) (m j : ℕ) → PlainK m j k → first_ikey_k k < 2 ^ 64
  first_small_k (last n) m j p = first_small n m j p
  first_small_k (more n x k) m j p = first_small n m j p.1

  first_small_s : (s : Slots) (m : ℕ) → PlainS m s → first_ikey_s s < 2 ^ 64
  first_small_s none m p = omega arith
  first_small_s (value s r) m p = p.0.ikey
  first_small_s (layer s n r) m p = p.0.ikey

pub plain_k_of : (m j : ℕ) (n : Node) (ns : List Node) → PlainN m j n → Each (PlainN m j) ns → PlainK m j (kids_of n ns)
unfolding PlainN kids_of
plain_k_of m j n [] p e = p
plain_k_of m j n (d ∷ ns) p e = (first_small d m j e.0, p, plain_k_of m j d ns e.0 e.1)

-- THE OUTPUT
linked-length : (prev x : ℕ) (out : List ℕ) → Behind prev (length out) → length (linked prev x out) ≡ length out
unfolding linked pick
linked-length prev x out h = go (eqb prev 0) refl
  where
    go : (b : Bool) → eqb prev 0 ≡ b → length (pick b out (put out (prev + 392) (le_bytes 8 x))) ≡ length out
    go true e = refl
    go false e = put-length out (le_bytes 8 x) (prev + 392) (omega (arith, h (eqb-false prev 0 e), le_bytes-length 8 x))

pub written-length : (out : List ℕ) (m j at prev : ℕ) (n : Node) → PlainN m j n → Behind prev at → end_n at n ≤ length out
    → length (written out at prev n) ≡ length out
unfolding written
written-length out m j at prev n p b c =
    let s : List ℕ = bytes_n (placed_n at 0 n) in
    let o : length (put out at s) ≡ length out = put-length out s at (omega (arith, size_n_placed n at 0, length_n n m j at p)) in
    linked-length prev (first_leaf_n at n) (put out at s) (λ z. omega (arith, b z, grow_n n at)) ∙ o

pub last-behind : (m j at : ℕ) (n : Node) → PlainN m j n → Behind (at + last_n n) (end_n at n)
last-behind m j at n p z = omega (arith, last_within_n n m j p, shift_n n at)

kids-written : (out : List ℕ) (m j at prev : ℕ) (n : Node) (ns : List Node) → PlainN m j n → Each (PlainN m j) ns → 0 < at → Behind prev at
    → end_l (end_n at n) ns ≤ length out → written_l (written out at prev n) (end_n at n) (at + last_n n) ns ≡ written_k out at prev (kids_of n ns)
unfolding written_l end_l written written_k kids_of first_leaf_n placed_n bytes_n
kids-written out m j at prev n [] p e a b c = refl
kids-written out m j at prev n (d ∷ ns) p e a b c =
    let l = written-length out m j at prev n p b (omega (arith, grow_n d (end_n at n), grow_l ns (end_n (end_n at n) d))) in
    kids-written (written out at prev n) m j (end_n at n) (at + last_n n) d ns e.0 e.1 (omega (arith, grow_n n at)) (last-behind m j at n p) (omega arith)
    ∙ beside out m j at prev (first_ikey_n d) n (kids_of d ns) p (plain_k_of m j d ns e.0 e.1) a b (omega (arith, kids_end (end_n at n) d ns))

row_kids : (at i : ℕ) (n : Node) (ns : List Node)
    → internode_row (length ns) (map first_ikey_n ns) (stands_at at n ∷ stands_l (end_n at n) ns)
    ≡ internode_bytes (record { offset = i; version = 0; nkeys = length ns }) (placed_k at 0 (kids_of n ns))
unfolding internode_row internode_bytes
row_kids at i n ns = rw (kids_stand at 0 n ns, kids_ikeys n ns, separators_k_placed (kids_of n ns) at 0) refl

pub siblings-closed : (out : List ℕ) (m j at prev : ℕ) (n : Node) (ns : List Node) → PlainN m j n → Each (PlainN m j) ns → length ns ≤ 15 → 0 < at
    → Behind prev at → end_l (end_n at n) ns + 256 ≤ length out
    → closed (written out at prev n) (end_n at n) (at + last_n n) (stands_at at n) ns ≡ written out at prev (internode_of n ns)
unfolding closed internode_of
siblings-closed out m j at prev n ns p e f a b c =
    let k : Kids = kids_of n ns in
    let t : end_l (end_n at n) ns ≡ end_k at k = kids_end at n ns in
    rw (kids-written out m j at prev n ns p e a b (omega arith), row_kids at (end_k at k) n ns, t)
    (closing out m j at prev (record { offset = 0; version = 0; nkeys = length ns }) k (plain_k_of m j n ns p e) b (omega arith))
