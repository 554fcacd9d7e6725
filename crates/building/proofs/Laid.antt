-- A LEAF, written part by part. Laying parts one behind the other is laying them all; what is then in the output, with the record behind it
-- and the previous leaf's `next` set, is the leaf written. Assumes that the slots can be written (PlainS), and that there is room.
use Rattle.std.specs.Prelude.{◌≡◌, ◌∷◌, ◌++◌, ◌+◌, ◌≤◌, ◌^◌}
use Rattle.base.specs.Kit.{refl, ap, sym, ◌∙◌, List, [], append_assoc, append-nil, ℕ, arith, length, paste-zero, length-append}
use Rattle.sheet.proofs.Paste.{paste-append}
use Rattle.layering.specs.Tree.{Fields, Slots, none, value, layer}
use Rattle.layering.specs.Accepted.{room, end_n, end_s}
use Rattle.building.specs.Shape.{size_s, join_s, identity, leaf_of}
use Rattle.building.specs.Build.{first_leaf_n, stands_at, start_at, root_at, placed_n, placed_s, fields_s, leaf_bytes, suffix_bytes, bytes_n, bytes_s}
use Rattle.building.specs.CodeWritten.{put, linked, written}
use Rattle.building.specs.CodeLaid.{Laid, laid_value, laid_layer, laid}
use Rattle.building.proofs.Plain.{PlainN, PlainS, fields_s-length, leaf_bytes-length, suffix_bytes-length, length_n, length_s}
use Rattle.building.proofs.Puts.{put-length}
use Rattle.building.proofs.Placed.{size_n_placed, size_s-bytes, grow_s, size_s_placed}

pub laid_join : (l : Laid) (a b : Slots) → laid l (join_s a b) ≡ laid (laid l a) b
unfolding laid join_s
laid_join l none b = refl
laid_join l (value s r) b = laid_join (laid_value l s) r b
laid_join l (layer s n r) b = laid_join (laid_layer l s n) r b

-- the place reached, and how many slots
pub laid-at : (l : Laid) (s : Slots) → (laid l s).at ≡ end_s l.at s
unfolding laid laid_value laid_layer end_n
laid-at l none = refl
laid-at l (value s r) = laid-at (laid_value l s) r
laid-at l (layer s n r) = laid-at (laid_layer l s n) r

pub laid-count : (l : Laid) (s : Slots) → length (laid l s).fields ≡ length l.fields + size_s s
unfolding laid laid_value laid_layer size_s
laid-count l none = omega arith
laid-count l (value s r) = laid-count (laid_value l s) r ∙ simp length-append (omega arith)
laid-count l (layer s n r) = laid-count (laid_layer l s n) r ∙ simp length-append (omega arith)

-- ALL PARTS AT ONCE
same-suffix : (at : ℕ) (s : Fields) → suffix_bytes (start_at at s) ≡ suffix_bytes s
unfolding suffix_bytes start_at room
same-suffix at s = refl

same-laid : {o q : List ℕ} {f g : List Fields} {e : ℕ} → o ≡ q → f ≡ g
    → ◌≡◌ {A = Laid} (record { out = o; at = e; fields = f }) (record { out = q; at = e; fields = g })
same-laid {e = e} x y = rw (x, y) refl

pub laid-whole : (s : Slots) (m : ℕ) (l : Laid) → PlainS m s → end_s l.at s ≤ length l.out
    → laid l s ≡ record { out = put l.out l.at (bytes_s (placed_s l.at s)); at = end_s l.at s; fields = l.fields ++ fields_s (placed_s l.at s) }
unfolding laid laid_value laid_layer placed_n bytes_n fields_s end_n PlainN
laid-whole none m l p h = same-laid (paste-zero l.out l.at []) (sym (append-nil l.fields))
laid-whole (value s r) m l p h =
    let at : ℕ = l.at in
    let a : List ℕ = suffix_bytes s in
    let b : List ℕ = bytes_s (placed_s (at + room s) r) in
    let n : length a ≡ room s = suffix_bytes-length s p.0 in
    let g = grow_s r (at + room s) in
    let bl : at + room s + length b ≡ end_s (at + room s) r = ap (λ (y : ℕ). at + room s + y) (size_s-bytes r (at + room s)) ∙ length_s r m (at + room s) p.1 in
    laid-whole r m (laid_value l s) p.1 (rw (put-length l.out a at (omega arith)) h)
    ∙ same-laid (paste-append l.out at a b (at + room s) (omega arith) (omega arith) ∙ ap (λ (t : List ℕ). put l.out at (t ++ b)) (sym (same-suffix at s)))
    (append_assoc l.fields (start_at at s ∷ []) (fields_s (placed_s (at + room s) r)))
laid-whole (layer s n r) m l p h =
    let at : ℕ = l.at in
    let a : List ℕ = bytes_n (placed_n at 0 n) in
    let b : List ℕ = bytes_s (placed_s (end_n at n) r) in
    let al : at + length a ≡ end_n at n = ap (λ (y : ℕ). at + y) (size_n_placed n at 0) ∙ length_n n p.2 12 at p.4 in
    let g = grow_s r (end_n at n) in
    let bl : end_n at n + length b ≡ end_s (end_n at n) r = ap (λ (y : ℕ). end_n at n + y) (size_s-bytes r (end_n at n)) ∙ length_s r m (end_n at n) p.1 in
    laid-whole r m (laid_layer l s n) p.1 (rw (put-length l.out a at (omega arith)) h)
    ∙ same-laid (paste-append l.out at a b (end_n at n) (sym al) (omega arith)) (append_assoc l.fields (root_at (stands_at at n) s ∷ []) (fields_s (placed_s (end_n at n) r)))

-- THE LEAF: its parts, its record behind them, and the previous leaf's `next`.
pub leaf-written : (s : Slots) (m : ℕ) (out : List ℕ) (at prev : ℕ) → PlainS m s → end_s at s + 400 ≤ length out
    → let l = laid (record { out = out; at = at; fields = [] }) s in
    linked prev l.at (put l.out l.at (leaf_bytes (record { offset = l.at; version = 2 ^ 31; permutation = identity + length l.fields; next = 0 }) l.fields))
    ≡ written out at prev (leaf_of s)
unfolding written first_leaf_n placed_n bytes_n leaf_of
leaf-written s m out at prev p h =
    let fs : List Fields = fields_s (placed_s at s) in
    let a : List ℕ = bytes_s (placed_s at s) in
    let e : laid (record { out = out; at = at; fields = [] }) s ≡ record { out = put out at a; at = end_s at s; fields = fs } =
    laid-whole s m (record { out = out; at = at; fields = [] }) p (omega arith) in
    let n : length fs ≡ size_s s = fields_s-length (placed_s at s) ∙ size_s_placed s at in
    let al : at + length a ≡ end_s at s = ap (λ (y : ℕ). at + y) (size_s-bytes s at) ∙ length_s s m at p in
    let b : List ℕ = leaf_bytes (record { offset = end_s at s; version = 2 ^ 31; permutation = identity + size_s s; next = 0 }) fs in
    let bl : length b ≡ 400 = leaf_bytes-length (record { offset = end_s at s; version = 2 ^ 31; permutation = identity + size_s s; next = 0 }) fs in
    rw (e, n) (ap (linked prev (end_s at s)) (paste-append out at a b (end_s at s) (sym al) (omega arith)))
