-- The live pairs of an image that obeys 01's rules: their keys ascend strictly in plain byte order, and have at most 256
-- bytes. The order comes from the row of the tree; it assumes that the image has bytes only.
use Rattle.std.specs.Prelude.{◌≡◌, ◌++◌, ◌+◌, ◌*◌, ◌≤◌, ◌<◌}
use Rattle.base.specs.Kit.{◌∙◌, subst, List, [], append-nil, ℕ, arith, length, get_or, drop, length-append, length-take}
use Rattle.base.proofs.Choice.{pick_ind}
use Rattle.key.specs.Part.{part}
use Rattle.node.specs.Layout.{child_at, root_offset}
use Rattle.key.specs.Ikey.{ikey_bytes}
use Rattle.key.proofs.Ikey.{ikey_bytes-length}
use Rattle.layering.specs.Tree.{Fields, Node, leaf, internode, beyond, Kids, last, more, Slots, none, value, layer, fields_at, tree_of}
use Rattle.layering.specs.Keys.{Pair, own_bytes, pairs_n, pairs_k, pairs_s, live_pairs}
use Rattle.layering.specs.Accepted.{FieldsN, FieldsK, FieldsS, Obeys}
use Rattle.layering.specs.Ascending.{All, Ascending}
use Rattle.layering.proofs.Row.{stop, keys, Asc, keys-ascend, all_append}
use Rattle.layering.proofs.Flat.{flat_n, flat_keys_n}
use Rattle.layering.proofs.Part.{own-fits}
use Rattle.layering.proofs.Held.{HeldN, HeldK, HeldS, held}
use Rattle.layering.proofs.Real.{RealN, real_n}
use Rattle.layering.proofs.Ascend.{row-ascends}

-- a tree's pairs are those of its row
pub row-pairs : (n : Node) (p : List ℕ) → keys p (flat_n n stop) ≡ pairs_n p n
unfolding keys
row-pairs n p = flat_keys_n n p stop ∙ append-nil (pairs_n p n)

pub obeys_real : (image : List ℕ) → ((i : ℕ) → get_or image i 0 < 256) → Obeys image → RealN (tree_of image)
obeys_real image b o =
    real_n image b (tree_of image) (root_offset image) 8 (held image) o.post-order (omega (arith, o.to_trailer, o.long))

pub obeys-row : (image : List ℕ) → ((i : ℕ) → get_or image i 0 < 256) → Obeys image → Asc 0 (flat_n (tree_of image) stop)
obeys-row image b o = row-ascends (tree_of image) o.slots o.separators o.fields (obeys_real image b o)

pub pairs-ascend : (image : List ℕ) → ((i : ℕ) → get_or image i 0 < 256) → Obeys image → Ascending (live_pairs image)
unfolding live_pairs
pairs-ascend image b o =
    subst Ascending (row-pairs (tree_of image) []) (keys-ascend [] 0 (flat_n (tree_of image) stop) (obeys-row image b o))

-- A key of at most 256 bytes.
abbrev Short : Pair → Type 0
Short x = length x.key ≤ 256

module _ (image : List ℕ) where
  -- a suffix is no longer than its length says
  cut : (s : Fields) (l i : ℕ) → s ≡ fields_at image l i → length s.suffix ≤ s.len
  unfolding fields_at part
  cut s l i e = rw e (omega (arith, length-take (fields_at image l i).len (drop (fields_at image l i).start image)))

  -- the keys of a subtree at some depth, whose prefix has eight bytes for each layer above
  mutual
    unfolding pairs_n FieldsN HeldN

    short_n : (n : Node) (p : List ℕ) (depth l : ℕ) → length p ≡ 8 * depth → depth ≤ 31
        → FieldsN depth n → HeldN image l n → All Short (pairs_n p n)
    short_n (leaf h s) p depth l e d f c = short_s s p depth l 0 e d f.2 c.2
    short_n (internode h k) p depth l e d f c = short_k k p depth l 0 e d f.1 c.2
    short_n beyond p depth l e d f c = tt

    short_k : (k : Kids) (p : List ℕ) (depth l i : ℕ) → length p ≡ 8 * depth → depth ≤ 31
        → FieldsK depth k → HeldK image l i k → All Short (pairs_k p k)
    short_k (last n) p depth l i e d f c = short_n n p depth (child_at image l i) e d f c.1
    short_k (more n x k) p depth l i e d f c =
        all_append Short (pairs_n p n) (pairs_k p k) (short_n n p depth (child_at image l i) e d f.0 c.2)
        (short_k k p depth l (i + 1) e d f.1 c.3)

    short_s : (s : Slots) (p : List ℕ) (depth l i : ℕ) → length p ≡ 8 * depth → depth ≤ 31
        → FieldsS depth s → HeldS image l i s → All Short (pairs_s p s)
    short_s none p depth l i e d f c = tt
    short_s (value s t) p depth l i e d f c =
        let rest : All Short (pairs_s p t) = short_s t p depth l (i + 1) e d f.1 c.3 in
        pick_ind (All Short) s.live
        (λ q. (omega (arith, length-append p (own_bytes s), own-fits s f.0 d (cut s l i c.1)), rest)) (λ q. rest)
    short_s (layer s n t) p depth l i e d f c =
        all_append Short (pairs_n (p ++ ikey_bytes s.ikey) n) (pairs_s p t)
        (short_n n (p ++ ikey_bytes s.ikey) (depth + 1) s.value
        (omega (arith, length-append p (ikey_bytes s.ikey), ikey_bytes-length s.ikey)) (omega (arith, f.0)) f.1
        c.3)
        (short_s t p depth l (i + 1) e d f.2 c.4)

pub pairs-short : (image : List ℕ) → Obeys image → All (λ (x : Pair). length x.key ≤ 256) (live_pairs image)
unfolding live_pairs
pairs-short image o =
    short_n image (tree_of image) [] 0 (root_offset image) (omega arith) (omega arith) o.fields (held image)
