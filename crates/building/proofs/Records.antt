-- What is read of a record that was written: each field of a leaf and of an internode. Assumes nothing.
use Rattle.std.proofs.lemmas.Grind.{common_steps}
use Rattle.std.specs.Prelude.{◌≡◌, ◌∷◌, ◌++◌, ◌+◌, ◌*◌, ◌%◌, ◌^◌, ◌≤◌, ◌<◌}
use Rattle.base.specs.Kit.{false, refl, ap, sym, ◌∙◌, List, [], map, flatten, ℕ, zero, suc, mod-eq_of_lt, arith, length, get_or, take, replicate, length-append, length-replicate}
use Rattle.key.specs.Part.{part}
use Rattle.node.specs.Le.{le, u16_at, u32_at, u64_at}
use Rattle.node.specs.Permuter.{slot_at}
use Rattle.node.specs.Layout.{live_at, suffix_at, version_at, permutation_at, next_at, nkeys_at, separator_at, child_at}
use Rattle.layering.specs.Tree.{Fields, LeafHead, InternodeHead, Kids, fields_at}
use Rattle.building.specs.Shape.{identity}
use Rattle.building.specs.Build.{le_bytes, words, mask, suffix_word, leaf_bytes, children_k, separators_k, internode_bytes}
use Rattle.building.proofs.Stands.{Stands, le_bytes-length, words-length, stands-left, stands_right, stands-le, stands-words}
use Rattle.building.proofs.Numbers.{identity_slot, mask_lt, mask-bit}

ruleset widths = (length-append, le_bytes-length, words-length, length-replicate)

-- part i of several that are written one behind the other
pub parted : (image : List ℕ) (l : List (List ℕ)) (i at to : ℕ) → Stands image at (flatten l) → i < length l
    → at + length (flatten (take i l)) ≡ to → Stands image to (get_or l i [])
unfolding flatten
parted image [] i at to h j e = absurd (omega arith)
parted image (a ∷ l) zero at to h j e =
    let f : at ≡ to = omega arith in rw (← f) (stands-left image at a (flatten l) h)
parted image (a ∷ l) (suc i) at to h j e =
    parted image l i (at + length a) to (stands_right image at a (flatten l) h (at + length a) refl) (omega arith)
    (omega (arith, length-append a (flatten (take i l))))

-- the field of the slot behind those of `before`
pub got : {B : Type 0} (g : Fields → B) (before : List Fields) (f : Fields) (rest : List Fields) (d : B)
    → get_or (map g (before ++ f ∷ rest)) (length before) d ≡ g f
got g [] f rest d = refl
got g (a ∷ before) f rest d = got g before f rest d

-- What a slot may say: numbers that fit their words, and the bytes of its suffix stand where it says.
pub record Fits (image : List ℕ) (f : Fields) : Type 0 where
  pub ikey : f.ikey < 2 ^ 64
  pub keylenx : f.keylenx < 256
  pub value : f.value < 2 ^ 64
  pub start : f.start < 2 ^ 32
  pub len : f.len < 2 ^ 32
  pub suffix : part image f.start f.len ≡ f.suffix

module _ (image : List ℕ) (at : ℕ) (h : LeafHead) (l : List Fields) (st : Stands image at (leaf_bytes h l)) where
  abbrev parts : List (List ℕ)
  parts =
      le_bytes 4 h.version ∷ le_bytes 2 (mask l) ∷ replicate 2 0 ∷ le_bytes 8 h.permutation
      ∷ words 8 15 (map (λ (s : Fields). s.ikey) l) ∷ words 1 15 (map (λ (s : Fields). s.keylenx) l) ∷ replicate 1 0
      ∷ words 8 15 (map (λ (s : Fields). s.value) l) ∷ words 8 15 (map suffix_word l) ∷ le_bytes 8 h.next ∷ []

  leaf-part : (i n : ℕ) → i < 10 → length (flatten (take i parts)) ≡ n → Stands image (at + n) (get_or parts i [])
  unfolding leaf_bytes
  leaf-part i n j e = parted image parts i at (at + n) st j (ap (λ (y : ℕ). at + y) e)

  pub leaf-version : h.version < 2 ^ 32 → version_at image at ≡ h.version
  unfolding u32_at flatten
  leaf-version b = let e : at + 0 ≡ at = omega arith in rw e at (stands-le image 4 h.version (at + 0) (leaf-part 0 0 (omega arith) refl)) ∙ mod-eq_of_lt b

  pub leaf-mask : u16_at image (at + 4) ≡ mask l % 2 ^ 16
  unfolding u16_at flatten
  leaf-mask = stands-le image 2 (mask l) (at + 4) (leaf-part 1 4 (omega arith) (simp widths))

  pub leaf-permutation : h.permutation < 2 ^ 64 → permutation_at image at ≡ h.permutation
  unfolding u64_at flatten
  leaf-permutation b = stands-le image 8 h.permutation (at + 8) (leaf-part 3 8 (omega arith) (simp widths)) ∙ mod-eq_of_lt b

  pub leaf-next : h.next < 2 ^ 64 → next_at image at ≡ h.next
  unfolding u64_at flatten
  leaf-next b = stands-le image 8 h.next (at + 392) (leaf-part 9 392 (omega arith) (simp widths)) ∙ mod-eq_of_lt b

  module _ (i : ℕ) (b : i < 15) where
    pub leaf-ikey : u64_at image (at + 16 + 8 * i) ≡ get_or (map (λ (s : Fields). s.ikey) l) i 0 % 2 ^ 64
    unfolding u64_at flatten
    leaf-ikey = stands-words image 8 15 (map (λ (s : Fields). s.ikey) l) i (at + 16) b (leaf-part 4 16 (omega arith) (simp widths))

    pub leaf-keylenx : get_or image (at + 136 + i) 0 ≡ get_or (map (λ (s : Fields). s.keylenx) l) i 0 % 256
    unfolding le flatten
    leaf-keylenx =
        let e : at + 136 + 1 * i ≡ at + 136 + i = omega arith in
        let r : le 1 image (at + 136 + 1 * i) ≡ get_or (map (λ (s : Fields). s.keylenx) l) i 0 % 256 =
        stands-words image 1 15 (map (λ (s : Fields). s.keylenx) l) i (at + 136) b (leaf-part 5 136 (omega arith) (simp widths)) in
        let q : le 1 image (at + 136 + i) ≡ get_or (map (λ (s : Fields). s.keylenx) l) i 0 % 256 = rw e at r in
        omega arith

    pub leaf-value : u64_at image (at + 152 + 8 * i) ≡ get_or (map (λ (s : Fields). s.value) l) i 0 % 2 ^ 64
    unfolding u64_at flatten
    leaf-value = stands-words image 8 15 (map (λ (s : Fields). s.value) l) i (at + 152) b (leaf-part 7 152 (omega arith) (simp widths))

    pub leaf-suffix : u64_at image (at + 272 + 8 * i) ≡ get_or (map suffix_word l) i 0 % 2 ^ 64
    unfolding u64_at flatten
    leaf-suffix = stands-words image 8 15 (map suffix_word l) i (at + 272) b (leaf-part 8 272 (omega arith) (simp widths))

  -- the slot behind those of `before`
  module _ (before : List Fields) (f : Fields) (rest : List Fields) (e : before ++ f ∷ rest ≡ l) (few : length l ≤ 15)
      (n : ℕ) (p : h.permutation ≡ identity + n) (m : n ≤ 15) (w : Fits image f) where
    at_slot : length before < 15
    at_slot = omega (arith, ap length e, length-append before (f ∷ rest))

    slot_is : slot_at (permutation_at image at) (record { 0 = length before }) ≡ record { 0 = length before }
    unfolding identity
    slot_is =
        let q : permutation_at image at ≡ identity + n = leaf-permutation (rw p (omega arith)) ∙ p in
        rw q (identity_slot n (length before) (omega arith) at_slot)

    -- a field by its word
    of_word : (g : Fields → ℕ) (x b : ℕ) → x ≡ get_or (map g l) (length before) 0 % b → g f < b → x ≡ g f
    of_word g x b q k = grind (arith, common_steps)

    slot_word : u64_at image (at + 272 + 8 * length before) ≡ suffix_word f
    unfolding suffix_word
    slot_word = of_word suffix_word _ (2 ^ 64) (leaf-suffix (length before) at_slot) (omega (arith, w.start, w.len))

    slot-live : live_at image at (record { 0 = length before }) ≡ f.live
    unfolding live_at
    slot-live =
        rw (leaf-mask, mod-eq_of_lt (mask_lt l 16 (omega arith)), mask-bit l (length before))
        (ap (λ (t : List Fields). get_or (map (λ (s : Fields). s.live) t) (length before) false) (sym e)
        ∙ got (λ (s : Fields). s.live) before f rest false)

    slot-start : (suffix_at image at (record { 0 = length before })).start ≡ f.start
    unfolding suffix_at suffix_word
    slot-start = rw slot_word (omega (arith, w.start))

    slot-len : (suffix_at image at (record { 0 = length before })).len ≡ f.len
    unfolding suffix_at suffix_word
    slot-len = rw slot_word (omega (arith, w.start))

    pub leaf_fields : fields_at image at (length before) ≡ f
    unfolding fields_at
    leaf_fields =
        rw (
          slot_is,
          of_word (λ (s : Fields). s.ikey) _ (2 ^ 64) (leaf-ikey (length before) at_slot) w.ikey,
          of_word (λ (s : Fields). s.keylenx) _ 256 (leaf-keylenx (length before) at_slot) w.keylenx,
          slot-live,
          of_word (λ (s : Fields). s.value) _ (2 ^ 64) (leaf-value (length before) at_slot) w.value,
          slot-start,
          slot-len,
          w.suffix,
        ) refl

-- AN INTERNODE
module _ (image : List ℕ) (at : ℕ) (h : InternodeHead) (k : Kids) (st : Stands image at (internode_bytes h k)) where
  abbrev inner : List (List ℕ)
  inner = le_bytes 4 h.version ∷ le_bytes 1 h.nkeys ∷ replicate 3 0 ∷ words 8 15 (separators_k k) ∷ words 8 16 (children_k k) ∷ []

  inner-part : (i n : ℕ) → i < 5 → length (flatten (take i inner)) ≡ n → Stands image (at + n) (get_or inner i [])
  unfolding internode_bytes
  inner-part i n j e = parted image inner i at (at + n) st j (ap (λ (y : ℕ). at + y) e)

  pub inner-version : h.version < 2 ^ 32 → version_at image at ≡ h.version
  unfolding u32_at flatten
  inner-version b = let e : at + 0 ≡ at = omega arith in rw e at (stands-le image 4 h.version (at + 0) (inner-part 0 0 (omega arith) refl)) ∙ mod-eq_of_lt b

  pub inner-nkeys : h.nkeys < 256 → nkeys_at image at ≡ h.nkeys
  unfolding le flatten
  inner-nkeys b =
      let r : le 1 image (at + 4) ≡ h.nkeys % 256 = stands-le image 1 h.nkeys (at + 4) (inner-part 1 4 (omega arith) (simp widths)) in
      omega arith

  module _ (i : ℕ) where
    pub inner_separator : i < 15 → separator_at image at i ≡ get_or (separators_k k) i 0 % 2 ^ 64
    unfolding u64_at flatten
    inner_separator b = stands-words image 8 15 (separators_k k) i (at + 8) b (inner-part 3 8 (omega arith) (simp widths))

    pub inner_child : i < 16 → child_at image at i ≡ get_or (children_k k) i 0 % 2 ^ 64
    unfolding u64_at flatten
    inner_child b = stands-words image 8 16 (children_k k) i (at + 128) b (inner-part 4 128 (omega arith) (simp widths))
