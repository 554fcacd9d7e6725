-- What callers of the searches cite: a leaf that a descent comes to lies in the image, and a position that a search in a leaf
-- comes to is one of the leaf's or the one past the last.
use Rattle.std.specs.Prelude.{◌≡◌, ◌+◌, ◌-◌, ◌%◌, ◌≤◌, ◌<◌, Result, Ok, Err, Option, Some, None}
use Rattle.base.specs.Kit.{refl, true, false≢true, List, ℕ, zero, suc, arith, length}
use Rattle.base.specs.Decline.{and_then}
use Rattle.base.proofs.Choice.{pick_ind}
use Rattle.base.proofs.Declines.{then_ind}
use Rattle.search.specs.Types.{Decline, Unreadable, Ordering, Less, Equal, Greater, Position, Slot, CursorPlace, RecordKind, Leaf, Internode, KeyIndexedPosition, NotFound, Found}
use Rattle.node.specs.Layout.{permutation_at}
use Rattle.node.specs.Permuter.{size_of}
use Rattle.search.specs.Traversal.{record_at, by_kind, found_leaf, leaf_there, child_for, reach_from, reach}
use Rattle.search.specs.Helper.{slot_in, lower_with_position, stored_order, after_inline, not_below, after_suffix, behind, past_layer, past_inline, past_suffix, at_match, at_found, lower_with_suffix}
use Rattle.search.proofs.TraversalLaws.{leaf_in, not_first, turn_at}
use Rattle.search.proofs.LoopLaws.{all_turns, order_ind}
use Rattle.search.proofs.HelperLaws.{lower_loop, inline_loop, suffix_loop}

is_leaf_lem : (r : Result RecordKind Decline) → found_leaf r ≡ true → r ≡ Ok Leaf
unfolding found_leaf by_kind
is_leaf_lem (Ok Leaf) e = refl
is_leaf_lem (Ok Internode) e = absurd (false≢true e)
is_leaf_lem (Err d) e = absurd (false≢true e)

-- a leaf lies before the trailer, at a multiple of 8
pub leaf_there_lem : (image : List ℕ) (at : ℕ) → leaf_there image at ≡ true → (8 ≤ at) × (at + 432 ≤ length image) × (at % 8 ≡ 0)
unfolding leaf_there
leaf_there_lem image at e = let found = leaf_in image at (is_leaf_lem (record_at image at) e) in (found.1, omega arith, found.0)

-- a leaf that a descent comes to is one
module _ (image : List ℕ) (ikey l : ℕ) where
  declined-leaf : (d : Decline) → ◌≡◌ {A = Result ℕ Decline} (Err d) (Ok l) → ⊥
  declined-leaf d e = cc

  ends : (r : Result RecordKind Decline) (at : ℕ) → record_at image at ≡ r → (rest : Result ℕ Decline)
      → (rest ≡ Ok l → record_at image l ≡ Ok Leaf) → turn_at image ikey r at rest ≡ Ok l → record_at image l ≡ Ok Leaf
  unfolding by_kind and_then
  ends (Ok Leaf) at h rest f e = let s : at ≡ l = cc in rw s at h
  ends (Ok Internode) at h rest f e = f (not_first _ _ _ _ (declined-leaf Unreadable) (not_first _ _ _ _ (declined-leaf Unreadable) e).1).1
  ends (Err d) at h rest f e = absurd (declined-leaf d e)

  from-leaf : (n at : ℕ) → reach_from n image ikey at ≡ Ok l → record_at image l ≡ Ok Leaf
  unfolding reach_from
  from-leaf zero at e = absurd (declined-leaf Unreadable e)
  from-leaf (suc n) at e = ends (record_at image at) at refl _ (from-leaf n (child_for image at ikey)) e

  pub reach-leaf : (root : ℕ) → reach image ikey root ≡ Ok l → leaf_there image l ≡ true
  unfolding reach leaf_there found_leaf by_kind
  reach-leaf root e = rw (from-leaf (root + 1) root e)

-- a position that a search comes to; the size is below 16
module _ (image : List ℕ) (leaf : ℕ) where
  abbrev size : ℕ
  size = size_of (permutation_at image leaf)

  -- a search by the whole key: the position is at most the size
  abbrev Within : Result Position Decline → Type 0
  Within (Ok p) = p.0 ≤ size
  Within (Err d) = Unit {0}

  -- a search by ikey: the same, and one that is found is the position of its slot
  abbrev Finds : Result KeyIndexedPosition Decline → Type 0
  Finds (Ok (NotFound p)) = p.0 ≤ size
  Finds (Ok (Found p s)) = (p.0 < size) × (s.0 < 15) × (s ≡ slot_in image leaf p.0)
  Finds (Err d) = Unit {0}

  pub lower_finds : (ikey : ℕ) → Finds (lower_with_position image leaf ikey)
  unfolding lower_with_position
  lower_finds ikey =
      all_turns (lower_loop image leaf ikey) Finds size tt (λ i h. h)
      (λ i rest h s r. order_ind Finds _ (omega arith) (h, s, refl) r) 0 size (omega arith)

  not-below : (o : Option Ordering) (i : ℕ) (rest : Result Position Decline) → i ≤ size → Within rest → Within (not_below o i rest)
  unfolding not_below
  not-below (Some Less) i rest h r = h
  not-below (Some Equal) i rest h r = h
  not-below (Some Greater) i rest h r = r
  not-below None i rest h r = r

  module _ (k : CursorPlace) where
    inline-within : (i n : ℕ) → i + n ≤ size → Within (after_inline image leaf k i n)
    inline-within =
        all_turns (inline_loop image leaf k) Within size tt (λ i h. h)
        (λ i rest h s r. pick_ind Within _ (λ t. omega arith) (λ f. pick_ind Within _ (λ t. omega arith) (λ f. r)))

    -- past the first slot of the cursor's ikey
    past_inline_lem : (i : ℕ) (o : Ordering) → i < size → Within (past_inline image leaf k i o)
    unfolding past_inline behind
    past_inline_lem i Less h = omega arith
    past_inline_lem i Equal h = omega arith
    past_inline_lem i Greater h = inline-within (i + 1) (size - (i + 1)) (omega arith)

    module _ (buf : List ℕ) where
      suffix_within : (i n : ℕ) → i + n ≤ size → Within (after_suffix image leaf k buf i n)
      suffix_within =
          all_turns (suffix_loop image leaf k buf) Within size tt (λ i h. h)
          (λ i rest h s r. pick_ind Within _ (λ t. omega arith)
          (λ f. then_ind Within (stored_order image leaf k buf (slot_in image leaf i)) _ (λ d e. tt) (λ o e. not-below o i rest (omega arith) r)))

      past-suffix : (i : ℕ) (o : Option Ordering) → i < size → Within (past_suffix image leaf k buf i o)
      unfolding past_suffix behind
      past-suffix i (Some Less) h = omega arith
      past-suffix i (Some Equal) h = omega arith
      past-suffix i (Some Greater) h = suffix_within (i + 1) (size - (i + 1)) (omega arith)
      past-suffix i None h = suffix_within (i + 1) (size - (i + 1)) (omega arith)

      at_match_lem : (i : ℕ) (s : Slot) → i < size → Within (at_match image leaf k buf i s)
      unfolding at_match past_layer
      at_match_lem i s h =
          pick_ind Within _ (λ t. pick_ind Within _ (λ t. omega arith) (λ f. omega arith))
          (λ f. pick_ind Within _ (λ t. past_inline_lem i _ h)
          (λ f. then_ind Within (stored_order image leaf k buf s) _ (λ d e. tt) (λ o e. past-suffix i o h)))

      at_found_lem : (f : KeyIndexedPosition) → Finds (Ok f) → Within (at_found image leaf k buf f)
      unfolding at_found
      at_found_lem (NotFound p) h = h
      at_found_lem (Found p s) h = at_match_lem p.0 s h.0

      within_lem : Within (lower_with_suffix image leaf k buf)
      unfolding lower_with_suffix
      within_lem =
          then_ind Within (lower_with_position image leaf k.ikey) _ (λ d e. tt) (λ f e. at_found_lem f (rw e at (lower_finds k.ikey)))

      pub lower-within : (p : Position) → lower_with_suffix image leaf k buf ≡ Ok p → p.0 ≤ size
      lower-within p e = rw e at within_lem
