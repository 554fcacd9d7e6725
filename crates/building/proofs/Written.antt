-- WRITING IN ORDER. What is in the output once a subtree is written behind a layer's last leaf, and how that is made: a first child, then
-- the children behind it, then the internode. These are the steps of code that writes each record once, in post-order, and sets the
-- previous leaf's `next` when it comes to a leaf. Assumes that the tree can be written (PlainN), and that the output has room for it.
use Rattle.std.specs.Prelude.{◌≡◌, ◌++◌, ◌+◌, ◌≤◌, ◌<◌}
use Rattle.base.specs.Kit.{Bool, true, false, refl, ap, ap₂, sym, ◌∙◌, List, ℕ, arith, eqb, length, length-append, ne_eqb, eqb-false}
use Rattle.base.specs.Pick.{pick}
use Rattle.sheet.proofs.Paste.{paste-append}
use Rattle.layering.specs.Tree.{Node, internode, Kids, more, InternodeHead}
use Rattle.layering.specs.Accepted.{end_n, end_k}
use Rattle.building.specs.Build.{first_leaf_n, first_leaf_k, placed_n, placed_k, le_bytes, internode_bytes, bytes_n, bytes_k}
use Rattle.building.proofs.Stands.{le_bytes-length}
use Rattle.building.proofs.Plain.{PlainN, PlainK, internode_bytes-length, length_n, length_k}
use Rattle.building.proofs.Placed.{size_n_placed, size_k-bytes, grow_n, grow_k}
use Rattle.building.specs.CodeWritten.{put}
use Rattle.building.proofs.Puts.{put-length, put-left, put_commute, put-inside}
use Rattle.building.specs.CodeWritten.{last_n, Behind, linked, written, written_k}
use Rattle.building.proofs.Patch.{patch_n, last_within_n}

-- a leaf's link stays whatever is written behind it
linked-behind : (prev x : ℕ) (out t : List ℕ) (j : ℕ) → Behind prev j → j + length t ≤ length out → put (linked prev x out) j t ≡ linked prev x (put out j t)
unfolding linked pick
linked-behind prev x out t j h k = go (eqb prev 0) refl
  where
    go : (b : Bool) → eqb prev 0 ≡ b → put (pick b out (put out (prev + 392) (le_bytes 8 x))) j t ≡ pick b (put out j t) (put (put out j t) (prev + 392) (le_bytes 8 x))
    go true e = refl
    go false e = put_commute out (le_bytes 8 x) t (prev + 392) j (omega (arith, h (eqb-false prev 0 e), le_bytes-length 8 x)) k

linked-some : (prev x : ℕ) (out : List ℕ) → 0 < prev → linked prev x out ≡ put out (prev + 392) (le_bytes 8 x)
unfolding linked pick
linked-some prev x out h = rw (ne_eqb prev 0 (λ e. omega arith)) refl

-- how many bytes
size_n : (n : Node) (m j at next : ℕ) → PlainN m j n → at + length (bytes_n (placed_n at next n)) ≡ end_n at n
size_n n m j at next p = omega (arith, size_n_placed n at next, length_n n m j at p)

size_k : (k : Kids) (m j at next : ℕ) → PlainK m j k → at + length (bytes_k (placed_k at next k)) ≡ end_k at k
size_k k m j at next p = omega (arith, size_k-bytes k at next, length_k k m j at p)

-- A CHILD AND THOSE BEHIND IT
pub beside : (out : List ℕ) (m j at prev x : ℕ) (n : Node) (k : Kids) → PlainN m j n → PlainK m j k → 0 < at → Behind prev at → end_k (end_n at n) k ≤ length out
    → written_k (written out at prev n) (end_n at n) (at + last_n n) k ≡ written_k out at prev (more n x k)
unfolding written written_k placed_n bytes_n first_leaf_n
beside out m j at prev x n k p q a b c =
    let s : List ℕ = bytes_n (placed_n at 0 n) in
    let t : List ℕ = bytes_k (placed_k (end_n at n) 0 k) in
    let f : ℕ = first_leaf_n at n in
    let w : List ℕ = le_bytes 8 (first_leaf_k (end_n at n) k) in
    let sn : at + length s ≡ end_n at n = size_n n m j at 0 p in
    let tn : end_n at n + length t ≡ end_k (end_n at n) k = size_k k m j (end_n at n) 0 q in
    let ln : last_n n + 400 ≤ length s = omega (arith, last_within_n n m j p, length_n n m j 0 p, size_n_placed n at 0) in
    let o : length (put out at s) ≡ length out = put-length out s at (omega (arith, grow_k k (end_n at n))) in
    let o2 : length (put (put out at s) (end_n at n) t) ≡ length out = put-length (put out at s) t (end_n at n) (omega arith) ∙ o in
    let g : ℕ = last_n n + 392 in
    let i : at + last_n n + 392 ≡ at + g = omega arith in
    linked-some (at + last_n n) (first_leaf_k (end_n at n) k) (put (linked prev f (put out at s)) (end_n at n) t) (omega arith)
    ∙ ap₂ (λ (r : List ℕ) (y : ℕ). put r y w) (linked-behind prev f (put out at s) t (end_n at n) (λ z. omega (arith, b z, grow_n n at)) (omega arith)) i
    ∙ linked-behind prev f (put (put out at s) (end_n at n) t) w (at + g) (λ z. omega (arith, b z)) (omega (arith, le_bytes-length 8 (first_leaf_k (end_n at n) k)))
    ∙ ap (linked prev f)
    (ap (λ (r : List ℕ). put r (at + g) w) (paste-append out at s t (end_n at n) (sym sn) (omega arith))
    ∙ put-inside out (s ++ t) w at g (omega (arith, length-append s t, le_bytes-length 8 (first_leaf_k (end_n at n) k))) (omega (arith, length-append s t))
    ∙ ap (put out at) (put-left s t w g (omega (arith, le_bytes-length 8 (first_leaf_k (end_n at n) k))) ∙ ap (λ (r : List ℕ). r ++ t) (patch_n n m j at (first_leaf_k (end_n at n) k) p)))

-- THE INTERNODE behind its children
pub closing : (out : List ℕ) (m j at prev : ℕ) (h : InternodeHead) (k : Kids) → PlainK m j k → Behind prev at → end_k at k + 256 ≤ length out
    → put (written_k out at prev k) (end_k at k) (internode_bytes (record { offset = end_k at k; version = h.version; nkeys = h.nkeys }) (placed_k at 0 k))
    ≡ written out at prev (internode h k)
unfolding written written_k placed_n bytes_n first_leaf_n
closing out m j at prev h k q b c =
    let s : List ℕ = bytes_k (placed_k at 0 k) in
    let t : List ℕ = internode_bytes (record { offset = end_k at k; version = h.version; nkeys = h.nkeys }) (placed_k at 0 k) in
    let tl : length t ≡ 256 = internode_bytes-length (record { offset = end_k at k; version = h.version; nkeys = h.nkeys }) (placed_k at 0 k) in
    let sn : at + length s ≡ end_k at k = size_k k m j at 0 q in
    let o : length (put out at s) ≡ length out = put-length out s at (omega arith) in
    linked-behind prev (first_leaf_k at k) (put out at s) t (end_k at k) (λ z. omega (arith, b z, grow_k k at)) (omega arith)
    ∙ ap (linked prev (first_leaf_k at k)) (paste-append out at s t (end_k at k) (sym sn) (omega arith))
