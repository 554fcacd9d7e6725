-- What the code's records of a leaf and of an internode hold before they are written: rows of numbers, zero past those that are used.
use Rattle.std.specs.Prelude.{◌≡◌, ◌++◌, ◌∷◌, ◌*◌, ◌+◌, ◌-◌, ◌/◌, ◌^◌, ◌≤◌}
use Rattle.base.specs.Kit.{List, [], map, ℕ, length, replicate, flatten}
use Rattle.layering.specs.Tree.{Fields, LeafHead}
use Rattle.building.specs.Shape.{identity}
use Rattle.building.specs.Build.{le_bytes, mask, suffix_word}
use Rattle.image_out.specs.declared.LeafSlots.{LeafSlots}
use Rattle.image_out.specs.declared.Children.{Children}

-- The numbers xs in a row of n, zero past them.
unfoldable pub row_of : ℕ → List ℕ → List ℕ
row_of n xs = xs ++ replicate (n - length xs) 0

-- A leaf's slots so far: a row for each field, the live mask, the next slot's bit of it, and how many there are.
unfoldable pub slots_of : List Fields → LeafSlots
slots_of fs =
    record {
      ikeys = row_of 15 (map (λ (s : Fields). s.ikey) fs);
      lens = row_of 15 (map (λ (s : Fields). s.keylenx) fs);
      values = row_of 15 (map (λ (s : Fields). s.value) fs);
      suffixes = row_of 15 (map suffix_word fs);
      mask = mask fs;
      bit = 2 ^ length fs;
      n = length fs;
    }

-- The record holds slots, and no more than `most`.
pub record HoldsSlots (most : ℕ) (s : LeafSlots) : Type 0 where
  pub fields : List Fields
  pub same : s ≡ slots_of fields
  pub few : length fields ≤ most

-- What a leaf that is written says of itself before the next one is linked: "version bits but 31 are clear", "every permutation is the
-- identity".
abbrev pub fresh_head : ℕ → ℕ → LeafHead
fresh_head at n = record { offset = at; version = 2 ^ 31; permutation = identity + n; next = 0 }

-- An internode's separators and children so far.
unfoldable pub children_of : List ℕ → List ℕ → Children
children_of xs cs = record { separators = row_of 15 xs; nodes = row_of 16 cs; n = length xs }

-- "each suffix (padded to a multiple of 8)"
abbrev pub whole_words : List ℕ → List ℕ
whole_words s = s ++ replicate ((length s + 7) / 8 * 8 - length s) 0

-- "Trailer, the last 32 bytes, pointing back: root offset, key count, image length, edition (1), each u64."
abbrev pub trailer_bytes : ℕ → ℕ → ℕ → List ℕ
trailer_bytes at root count = flatten (le_bytes 8 root ∷ le_bytes 8 count ∷ le_bytes 8 (at + 32) ∷ le_bytes 8 1 ∷ [])
