-- The records that the code collects, one slot or one child more at a time. Assumes nothing.
use Rattle.std.specs.Prelude.{◌≡◌, ◌++◌, ◌∷◌, ◌*◌, ◌+◌, ◌-◌, ◌<◌, ◌^◌, ◌≤◌}
use Rattle.base.specs.Kit.{◌∙◌, refl, Bool, false, true, List, [], map, suc, ℕ, pow-le-pow_right, pow-suc, pow-succ', add-one, arith, get_or, length, length-append, replicate, set, append_snoc, map-append, length-map, set_at}
use Rattle.base.specs.Pick.{pick}
use Rattle.base.proofs.Count.{left-more}
use Rattle.layering.specs.Tree.{Fields}
use Rattle.building.specs.Build.{mask, suffix_word}
use Rattle.building.proofs.Numbers.{mask_lt}
use Rattle.image_out.specs.declared.LeafSlots.{LeafSlots}
use Rattle.image_out.specs.declared.Children.{Children}
use Rattle.image_out.specs.CodeRows.{row_of, slots_of, children_of}

-- one number more in a row
row-set : (n i x : ℕ) (xs : List ℕ) → length xs ≡ i → i < n → set (row_of n xs) i x ≡ row_of n (xs ++ (x ∷ []))
unfolding row_of
row-set n i x xs e h =
    let l : length (xs ++ (x ∷ [])) ≡ i + 1 = omega (arith, length-append xs (x ∷ [])) in
    rw (l, e, left-more n i h, append_snoc) (set_at xs 0 (replicate (n - (i + 1)) 0) x i e)

-- one field more of one slot more
field-set : (g : Fields → ℕ) (fs : List Fields) (f : Fields) (x : ℕ) → length fs < 15 → g f ≡ x
    → set (row_of 15 (map g fs)) (length fs) x ≡ row_of 15 (map g (fs ++ (f ∷ [])))
field-set g fs f x h e = rw (← e, map-append) (row-set 15 (length fs) (g f) (map g fs) (length-map fs g) h)

-- one bit more
twice : (b : Bool) (n : ℕ) → pick b (2 ^ suc n) 0 ≡ 2 * pick b (2 ^ n) 0
unfolding pick
twice true n = pow-succ' 2 n
twice false n = refl

mask-more : (fs : List Fields) (f : Fields) → mask fs + pick f.live (2 ^ length fs) 0 ≡ mask (fs ++ (f ∷ []))
unfolding mask
mask-more [] f = omega arith
mask-more (s ∷ fs) f = omega (arith, mask-more fs f, twice f.live (length fs))

module _ (s : LeafSlots) (fs : List Fields) (e : s ≡ slots_of fs) where
  pub slots_n : s.n ≡ length fs
  unfolding slots_of
  slots_n = rw e

  -- the first slot's ikey, 0 where there is none
  pub slots-first : get_or s.ikeys 0 0 ≡ get_or (map (λ (s : Fields). s.ikey) fs) 0 0
  unfolding slots_of row_of
  slots-first = rw e (go fs)
    where
      go : (l : List Fields) → get_or (slots_of l).ikeys 0 0 ≡ get_or (map (λ (s : Fields). s.ikey) l) 0 0
      go [] = refl
      go (f ∷ l) = refl

  -- A SLOT MORE
  pub slot-more : (f : Fields) (ikey len value suffix m : ℕ) (live : Bool) → length fs < 15 → f.ikey ≡ ikey → f.keylenx ≡ len → f.value ≡ value
      → suffix_word f ≡ suffix → f.live ≡ live → m ≡ s.mask + pick live s.bit 0
      → record {
        ikeys = set s.ikeys s.n ikey;
        lens = set s.lens s.n len;
        values = set s.values s.n value;
        suffixes = set s.suffixes s.n suffix;
        mask = m;
        bit = s.bit * 2;
        n = s.n + 1;
      }
      ≡ slots_of (fs ++ (f ∷ []))
  unfolding slots_of
  slot-more f ikey len value suffix m live h a b c d l k =
      let o : length (fs ++ (f ∷ [])) ≡ length fs + 1 = length-append fs (f ∷ []) in
      let q : m ≡ mask (fs ++ (f ∷ [])) = k ∙ rw (e, ← l) (mask-more fs f) in
      rw (
        q,
        e,
        field-set (λ (s : Fields). s.ikey) fs f ikey h a,
        field-set (λ (s : Fields). s.keylenx) fs f len h b,
        field-set (λ (s : Fields). s.value) fs f value h c,
        field-set suffix_word fs f suffix h d,
        o,
        add-one,
        pow-suc,
      ) refl

-- A CHILD MORE
module _ (c : Children) (xs cs : List ℕ) (e : c ≡ children_of xs cs) where
  pub children_n : c.n ≡ length xs
  unfolding children_of
  children_n = rw e

  pub child-more : (x node : ℕ) → c.n < 15 → length cs ≡ length xs + 1
      → record { separators = set c.separators c.n x; nodes = set c.nodes (c.n + 1) node; n = c.n + 1 }
      ≡ children_of (xs ++ (x ∷ [])) (cs ++ (node ∷ []))
  unfolding children_of
  child-more x node h l =
      let k : length xs < 15 = rw e at h in
      rw (e, row-set 15 (length xs) x xs refl k, row-set 16 (length xs + 1) node cs l (omega arith), length-append xs (x ∷ [])) refl

-- THE NUMBERS of a record that has room for a slot
module _ (s : LeafSlots) (fs : List Fields) (e : s ≡ slots_of fs) (few : length fs ≤ 14) where
  pub slot_bit : s.bit ≤ 16384
  unfolding slots_of
  slot_bit = rw e (pow-le-pow_right {n = 2} (omega arith) {i = length fs} {j = 14} few)

  pub slot_mask : s.mask < 16384
  unfolding slots_of
  slot_mask = rw e (mask_lt fs 14 few)

-- what a slot more rests on, and a child more
pub ruleset slot_rules = (slots_n, slot_bit, slot_mask, slot-more)

pub ruleset child_rules = (child-more)
