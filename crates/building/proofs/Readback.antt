-- READING BACK. Proved: where the bytes of a tree stand in an image, the tree at its offset is that tree. Assumes that the tree can be
-- written (PlainN), lies in post-order, and that the image is no longer than 01 allows.
use Rattle.std.proofs.lemmas.Grind.{common_steps}
use Rattle.std.specs.Prelude.{◌≡◌, ◌∷◌, ◌++◌, ◌+◌, ◌%◌, ◌-◌, ◌^◌, ◌≤◌, ◌<◌}
use Rattle.base.specs.Kit.{Bool, true, false, refl, ap, ap₂, sym, ◌∙◌, List, [], ℕ, zero, suc, arith, eqb, length, get_or, replicate, length-append, append_snoc, eqb-true, eqb-false, le-leb, lt-leb}
use Rattle.base.specs.Pick.{pick}
use Rattle.key.specs.Part.{part}
use Rattle.node.specs.Version.{bit}
use Rattle.node.specs.Layout.{version_at, permutation_at, nkeys_at, separator_at, child_at}
use Rattle.layering.specs.Tree.{Fields, LeafHead, InternodeHead, Node, leaf, internode, beyond, Kids, last, more, Slots, none, value, layer, fields_at, slots_from, leaf_head, leaf_at, kids_from, internode_head, node_at, layer_at}
use Rattle.layering.specs.Accepted.{room, end_n, InPostOrderN, InPostOrderK, InPostOrderS}
use Rattle.building.specs.Shape.{identity, size_s}
use Rattle.building.specs.Build.{fields_s, leaf_bytes, offset_n, children_k, separators_k, internode_bytes, suffix_bytes, bytes_n, bytes_k, bytes_s}
use Rattle.building.proofs.Stands.{Stands, stands-left, stands_right, stands-part}
use Rattle.building.proofs.Numbers.{identity_size}
use Rattle.building.proofs.Records.{Fits, leaf-version, leaf-permutation, leaf-next, leaf_fields, inner-version, inner-nkeys, inner_separator, inner_child}
use Rattle.building.proofs.Plain.{PlainV, PlainL, PlainN, PlainK, PlainS, fields_s-length, suffix_bytes-length, length_n, length_k, length_s}

-- one element behind those of `front`
behind : {A : Type 0} (front : List A) (a : A) (rest l : List A) → front ++ a ∷ rest ≡ l → front ++ (a ∷ []) ++ rest ≡ l
behind front a rest l e = append_snoc front a rest ∙ e

longer : {A : Type 0} (front : List A) (a : A) → length (front ++ (a ∷ [])) ≡ length front + 1
longer front a = length-append front (a ∷ [])

taken : (front : List ℕ) (a : ℕ) (rest l : List ℕ) (b : ℕ) → front ++ a ∷ rest ≡ l → a < b → (x i : ℕ) → length front ≡ i
    → x ≡ get_or l i 0 % b → x ≡ a
taken front a rest l b e s x i j q = grind (arith, common_steps)

-- what the kind of a record decides
is_leaf_lem : (sub : ℕ → Node) (image : List ℕ) (k at : ℕ) → bit (version_at image at) 31 ≡ true → node_at sub image k at ≡ leaf_at sub image at
unfolding node_at pick
is_leaf_lem sub image zero at e = rw e refl
is_leaf_lem sub image (suc k) at e = rw e refl

is-internode : (sub : ℕ → Node) (image : List ℕ) (k at : ℕ) → bit (version_at image at) 31 ≡ false
    → node_at sub image (suc k) at ≡ internode (internode_head image at) (kids_from (node_at sub image k) image at 0 (nkeys_at image at))
unfolding node_at pick
is-internode sub image k at e = rw e refl

no_part : (s : List ℕ) (at : ℕ) → part s at 0 ≡ []
unfolding part
no_part s at = refl

leaf-bit : bit (2 ^ 31) 31 ≡ true
unfolding bit
leaf-bit = refl

internode-bit : bit 0 31 ≡ false
unfolding bit
internode-bit = refl

module _ (image : List ℕ) (short : length image ≤ 16777216) where
  -- the record of a subtree stands in the image
  pub fits_in : (n : Node) (m k at : ℕ) → PlainN m k n → InPostOrderN at n → Stands image at (bytes_n n) → offset_n n < 2 ^ 32
  unfolding PlainN InPostOrderN bytes_n offset_n
  fits_in (leaf h s) m k at p o st =
      omega (arith, o.1, length_s s m at p.4, length-append (bytes_s s) (leaf_bytes h (fields_s s)), st.fits)
  fits_in (internode h ks) m k at p o st =
      omega (arith, o.1, length_k ks m p.3 at p.5, length-append (bytes_k ks) (internode_bytes h ks), st.fits)
  fits_in beyond m k at p o st = absurd p

  -- the numbers of a slot fit
  fits-value : (s : Fields) (at : ℕ) → PlainV s → (s.keylenx ≡ 64 → s.start ≡ at) → Stands image at (suffix_bytes s) → Fits image s
  unfolding suffix_bytes pick
  fits-value s at v o st = go (eqb s.keylenx 64) refl st
    where
      go : (t : Bool) → eqb s.keylenx 64 ≡ t
          → Stands image at (pick t (s.suffix ++ replicate (room s - length s.suffix) 0) []) → Fits image s
      go true e w =
          let a : s.start ≡ at = o (eqb-true s.keylenx 64 e) in
          let b : Stands image at s.suffix = stands-left image at s.suffix (replicate (room s - length s.suffix) 0) w in
          record {
            ikey = v.ikey;
            keylenx = omega (arith, v.keylenx);
            value = v.value;
            start = omega (arith, b.fits);
            len = v.short;
            suffix = rw (a, v.whole) (stands-part image at s.suffix b);
          }
      go false e w =
          let c : (s.start ≡ 0) × (s.suffix ≡ []) = v.bare (eqb-false s.keylenx 64 e) in
          let n : s.len ≡ 0 = v.whole ∙ ap length c.1 in
          record {
            ikey = v.ikey;
            keylenx = omega (arith, v.keylenx);
            value = v.value;
            start = omega arith;
            len = v.short;
            suffix = rw (n, c.1) (no_part image s.start);
          }

  fits-layer : (s : Fields) (n : Node) → PlainL s n → offset_n n < 2 ^ 32 → Fits image s
  fits-layer s n v b =
      record {
        ikey = v.ikey;
        keylenx = omega (arith, v.keylenx);
        value = omega (arith, v.root);
        start = omega (arith, v.start);
        len = omega (arith, v.len);
        suffix = rw (v.len, v.suffix) (no_part image s.start);
      }

  -- a leaf that stands at its offset, and an internode
  module _ (h : LeafHead) (l : List Fields) (st : Stands image h.offset (leaf_bytes h l))
      (v : h.version ≡ 2 ^ 31) (n : ℕ) (f : n ≤ 15) (q : h.permutation ≡ identity + n) (b : h.next < 2 ^ 64) where
    small-permutation : h.permutation < 2 ^ 64
    unfolding identity
    small-permutation = rw q (omega arith)

    head-is : leaf_head image h.offset ≡ h
    unfolding leaf_head
    head-is =
        rw (leaf-version image h.offset h l st (rw v (omega arith)), leaf-permutation image h.offset h l st small-permutation, leaf-next image h.offset h l st b)
        refl

    size_is : permutation_at image h.offset % 16 ≡ n
    size_is = rw (leaf-permutation image h.offset h l st small-permutation, q) (identity_size n (omega arith))

    leaf_there_lem : bit (version_at image h.offset) 31 ≡ true
    leaf_there_lem = rw (leaf-version image h.offset h l st (rw v (omega arith)), v) leaf-bit

  module _ (h : InternodeHead) (k : Kids) (st : Stands image h.offset (internode_bytes h k)) (v : h.version ≡ 0) (f : h.nkeys ≤ 15) where
    inner_head-is : internode_head image h.offset ≡ h
    unfolding internode_head
    inner_head-is =
        rw (inner-version image h.offset h k st (rw v (omega arith)), inner-nkeys image h.offset h k st (omega arith)) refl

    inner_there : bit (version_at image h.offset) 31 ≡ false
    inner_there = rw (inner-version image h.offset h k st (rw v (omega arith)), v) internode-bit

  -- the slots of a leaf at `off`, and the children of an internode there
  abbrev Reads : ℕ → ℕ → LeafHead → List Fields → Type 0
  Reads off n h l = Stands image off (leaf_bytes h l) × (length l ≤ 15) × (h.permutation ≡ identity + n) × (n ≤ 15)

  abbrev ReadsK : ℕ → List ℕ → List ℕ → Type 0
  ReadsK off cs ss =
      ((i : ℕ) → i < 16 → child_at image off i ≡ get_or cs i 0 % 2 ^ 64) × ((i : ℕ) → i < 15 → separator_at image off i ≡ get_or ss i 0 % 2 ^ 64)
      × (length ss ≤ 15)

  -- one slot
  take-value : (sub : ℕ → Node) (off i n : ℕ) (s : Fields) (t : Slots) → fields_at image off i ≡ s → s.keylenx < 128
      → slots_from sub image off (i + 1) n ≡ t → slots_from sub image off i (suc n) ≡ value s t
  unfolding slots_from pick
  take-value sub off i n s t e b r = rw (e, lt-leb 128 s.keylenx b, r) refl

  take-layer : (sub : ℕ → Node) (off i n : ℕ) (s : Fields) (d : Node) (t : Slots) → fields_at image off i ≡ s → 128 ≤ s.keylenx
      → sub s.value ≡ d → slots_from sub image off (i + 1) n ≡ t → slots_from sub image off i (suc n) ≡ layer s d t
  unfolding slots_from pick
  take-layer sub off i n s d t e b g r = rw (e, le-leb 128 s.keylenx b, g, r) refl

  mutual
    unfolding PlainN InPostOrderN bytes_n offset_n layer_at leaf_at kids_from fields_s size_s slots_from children_k separators_k end_n

    pub read_n : (n : Node) (m k at : ℕ) → PlainN m k n → InPostOrderN at n → Stands image at (bytes_n n)
        → node_at (layer_at image m) image k (offset_n n) ≡ n
    read_n (leaf h s) m k at p o st =
        let sb : Stands image at (bytes_s s) = stands-left image at (bytes_s s) (leaf_bytes h (fields_s s)) st in
        let lb : Stands image h.offset (leaf_bytes h (fields_s s)) =
        stands_right image at (bytes_s s) (leaf_bytes h (fields_s s)) st h.offset (length_s s m at p.4 ∙ sym o.1) in
        is_leaf_lem (layer_at image m) image k h.offset (leaf_there_lem h (fields_s s) lb p.0 (size_s s) p.3 p.1 p.2)
        ∙ ap₂ leaf (head-is h (fields_s s) lb p.0 (size_s s) p.3 p.1 p.2)
        (rw (size_is h (fields_s s) lb p.0 (size_s s) p.3 p.1 p.2)
        (read_s s m at h.offset (size_s s) h (fields_s s) [] refl (lb, omega (arith, fields_s-length s, p.3), p.1, p.3) p.4 o.0 sb))
    read_n (internode h ks) m k at p o st =
        let sb : Stands image at (bytes_k ks) = stands-left image at (bytes_k ks) (internode_bytes h ks) st in
        let lb : Stands image h.offset (internode_bytes h ks) =
        stands_right image at (bytes_k ks) (internode_bytes h ks) st h.offset (length_k ks m p.3 at p.5 ∙ sym o.1) in
        rw p.4
        (is-internode (layer_at image m) image p.3 h.offset (inner_there h ks lb p.0 p.2)
        ∙ ap₂ internode (inner_head-is h ks lb p.0 p.2)
        (rw (inner-nkeys image h.offset h ks lb (omega (arith, p.2)), p.1)
        (read_k ks m p.3 at h.offset (children_k ks) (separators_k ks) [] [] refl refl refl
        (inner_child image h.offset h ks lb, inner_separator image h.offset h ks lb, omega (arith, p.1, p.2)) p.5 o.0 sb)))
    read_n beyond m k at p o st = absurd p

    read_k : (ks : Kids) (m k at off : ℕ) (cs ss fc fs : List ℕ) → fc ++ children_k ks ≡ cs → fs ++ separators_k ks ≡ ss
        → length fc ≡ length fs → ReadsK off cs ss → PlainK m k ks → InPostOrderK at ks → Stands image at (bytes_k ks)
        → kids_from (node_at (layer_at image m) image k) image off (length fs) (length (separators_k ks)) ≡ ks
    read_k (last n) m k at off cs ss fc fs ec es e r p o st =
        let b : length fs < 16 = omega (arith, r.2, ap length es, length-append fs []) in
        let c : child_at image off (length fs) ≡ offset_n n =
        taken fc (offset_n n) [] cs (2 ^ 64) ec (omega (arith, fits_in n m k at p o st)) _ (length fs) e (r.0 (length fs) b) in
        ap last (rw c (read_n n m k at p o st))
    read_k (more n x ks) m k at off cs ss fc fs ec es e r p o st =
        let sn : Stands image at (bytes_n n) = stands-left image at (bytes_n n) (bytes_k ks) st in
        let sk : Stands image (end_n at n) (bytes_k ks) =
        stands_right image at (bytes_n n) (bytes_k ks) st (end_n at n) (length_n n m k at p.1) in
        let b : length fs < 15 = omega (arith, r.2, ap length es, length-append fs (x ∷ separators_k ks)) in
        let c : child_at image off (length fs) ≡ offset_n n =
        taken fc (offset_n n) (children_k ks) cs (2 ^ 64) ec (omega (arith, fits_in n m k at p.1 o.0 sn)) _ (length fs) e (r.0 (length fs) (omega arith)) in
        let d : separator_at image off (length fs) ≡ x =
        taken fs x (separators_k ks) ss (2 ^ 64) es p.0 _ (length fs) refl (r.1 (length fs) b) in
        let rest : kids_from (node_at (layer_at image m) image k) image off (length fs + 1) (length (separators_k ks)) ≡ ks =
        rw (longer fs x) at (read_k ks m k (end_n at n) off cs ss (fc ++ (offset_n n ∷ [])) (fs ++ (x ∷ [])) (behind fc (offset_n n) (children_k ks) cs ec)
        (behind fs x (separators_k ks) ss es) (omega (arith, longer fc (offset_n n), longer fs x)) r p.2 o.1 sk) in
        rw (c, d, rest, read_n n m k at p.1 o.0 sn) refl

    read_s : (s : Slots) (m at off n : ℕ) (h : LeafHead) (l front : List Fields) → front ++ fields_s s ≡ l → Reads off n h l
        → PlainS m s → InPostOrderS at s → Stands image at (bytes_s s)
        → slots_from (layer_at image m) image off (length front) (size_s s) ≡ s
    read_s none m at off n h l front e r p o st = refl
    read_s (value s t) m at off n h l front e r p o st =
        let ss : Stands image at (suffix_bytes s) = stands-left image at (suffix_bytes s) (bytes_s t) st in
        let sr : Stands image (at + room s) (bytes_s t) =
        stands_right image at (suffix_bytes s) (bytes_s t) st (at + room s) (ap (λ (y : ℕ). at + y) (suffix_bytes-length s p.0)) in
        take-value (layer_at image m) off (length front) (size_s t) s t
        (leaf_fields image off h l r.0 front s (fields_s t) e r.1 n r.2 r.3 (fits-value s at p.0 o.0 ss))
        p.0.keylenx
        (rw (longer front s) at (read_s t m (at + room s) off n h l (front ++ (s ∷ [])) (behind front s (fields_s t) l e) r p.1 o.1 sr))
    read_s (layer s d t) m at off n h l front e r p o st =
        let sd : Stands image at (bytes_n d) = stands-left image at (bytes_n d) (bytes_s t) st in
        let sr : Stands image (end_n at d) (bytes_s t) =
        stands_right image at (bytes_n d) (bytes_s t) st (end_n at d) (length_n d p.2 12 at p.4) in
        take-layer (layer_at image m) off (length front) (size_s t) s d t
        (leaf_fields image off h l r.0 front s (fields_s t) e r.1 n r.2 r.3 (fits-layer s d p.0 (fits_in d p.2 12 at p.4 o.0 sd)))
        (omega (arith, p.0.keylenx))
        (rw (p.3, p.0.root) (read_n d p.2 12 at p.4 o.0 sd))
        (rw (longer front s) at (read_s t m (end_n at d) off n h l (front ++ (s ∷ [])) (behind front s (fields_s t) l e) r p.1 o.1 sr))
