-- The live pairs of an image that obeys 01's rules are such as a sheet may have: keys of at most 256 bytes, bytes only, that rise, and
-- values below 2^64. Assumes that the image has bytes only.
use Rattle.std.specs.Prelude.{◌≡◌, ◌∷◌, ◌++◌, ◌+◌, ◌^◌, ◌≤◌, ◌<◌}
use Rattle.base.specs.Kit.{refl, subst, true, List, [], ℕ, length, get_or, le-leb}
use Rattle.base.proofs.Choice.{pick_ind}
use Rattle.key.specs.Ikey.{ikey_bytes}
use Rattle.key.specs.Order.{byte_order}
use Rattle.std.specs.declared.cmp.Ordering.TheVariants.{Less}
use Rattle.key.proofs.Bytes.{Bytes}
use Rattle.node.specs.Le.{u64_at}
use Rattle.node.specs.Layout.{child_at, root_offset}
use Rattle.layering.specs.Tree.{Node, leaf, internode, beyond, Kids, last, more, Slots, none, value, layer, fields_at, tree_of}
use Rattle.layering.specs.Keys.{Pair, pairs_n, pairs_k, pairs_s, live_pairs}
use Rattle.layering.specs.Ascending.{All, Ascending}
use Rattle.layering.specs.Accepted.{Obeys}
use Rattle.layering.proofs.Row.{stop, From, keys, keys_from_lem, all_append, all_map}
use Rattle.layering.proofs.Flat.{flat_n}
use Rattle.layering.proofs.Held.{HeldN, HeldK, HeldS, held}
use Rattle.layering.proofs.Real.{le-lt}
use Rattle.layering.proofs.Pairs.{row-pairs, obeys-row, pairs-short}
use Rattle.reading.specs.Fault.{rise_above, keys_rise}
use Rattle.building.proofs.Theorem.{Fine}

-- A value below 2^64.
abbrev Small : Pair → Type 0
Small x = x.value < 2 ^ 64

module _ (image : List ℕ) (b : (i : ℕ) → get_or image i 0 < 256) where
  value-small : (l i : ℕ) → (fields_at image l i).value < 2 ^ 64
  unfolding fields_at u64_at
  value-small l i = le-lt image b 8 _

  mutual
    unfolding pairs_n HeldN

    small_n : (n : Node) (p : List ℕ) (l : ℕ) → HeldN image l n → All Small (pairs_n p n)
    small_n (leaf h s) p l c = small_s s p l 0 c.2
    small_n (internode h k) p l c = small_k k p l 0 c.2
    small_n beyond p l c = tt

    small_k : (k : Kids) (p : List ℕ) (l i : ℕ) → HeldK image l i k → All Small (pairs_k p k)
    small_k (last n) p l i c = small_n n p (child_at image l i) c.1
    small_k (more n x k) p l i c =
        all_append Small (pairs_n p n) (pairs_k p k) (small_n n p (child_at image l i) c.2) (small_k k p l (i + 1) c.3)

    small_s : (s : Slots) (p : List ℕ) (l i : ℕ) → HeldS image l i s → All Small (pairs_s p s)
    small_s none p l i c = tt
    small_s (value s t) p l i c =
        let rest : All Small (pairs_s p t) = small_s t p l (i + 1) c.3 in
        pick_ind (All Small) s.live (λ q. (rw c.1 (value-small l i), rest)) (λ q. rest)
    small_s (layer s n t) p l i c =
        all_append Small (pairs_n (p ++ ikey_bytes s.ikey) n) (pairs_s p t) (small_n n (p ++ ikey_bytes s.ikey) s.value c.3)
        (small_s t p l (i + 1) c.4)

  live_small : All Small (live_pairs image)
  unfolding live_pairs
  live_small = small_n (tree_of image) [] (root_offset image) (held image)

  module _ (o : Obeys image) where
    live-bytes : All (λ (x : Pair). Bytes x.key) (live_pairs image)
    unfolding live_pairs
    live-bytes =
        subst (All (λ (x : Pair). Bytes x.key)) (row-pairs (tree_of image) [])
        (all_map (From [] 0) (λ (x : Pair). Bytes x.key) (λ x f. rw f.is f.bytes) (keys [] (flat_n (tree_of image) stop))
        (keys_from_lem [] 0 (flat_n (tree_of image) stop) (obeys-row image b o)))

    pub live_fine : All Fine (live_pairs image)
    live_fine = go (live_pairs image) live-bytes (pairs-short image o) live_small
      where
        go : (l : List Pair) → All (λ (x : Pair). Bytes x.key) l → All (λ (x : Pair). length x.key ≤ 256) l → All Small l → All Fine l
        go [] k s v = tt
        go (x ∷ l) k s v = (record { bytes = k.0; short = s.0; value = v.0 }, go l k.1 s.1 v.1)

-- Fine pairs that ascend rise as a sheet's do.
rise-behind : (j : List ℕ) (l : List Pair) → All (λ (y : Pair). byte_order j y.key ≡ Less) l → Ascending l → All Fine l → rise_above j l ≡ true
unfolding rise_above Ascending
rise-behind j [] h a f = refl
rise-behind j (x ∷ l) h a f = rw (le-leb (length x.key) 256 f.0.short, h.0) (rise-behind x.key l a.0 a.1 f.1)

pub fine_rise : (l : List Pair) → Ascending l → All Fine l → keys_rise l ≡ true
unfolding keys_rise Ascending
fine_rise [] a f = refl
fine_rise (x ∷ l) a f = rw (le-leb (length x.key) 256 f.0.short) (rise-behind x.key l a.0 a.1 f.1)
