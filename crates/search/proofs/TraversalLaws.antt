-- What `readable` says, and a record that is found; and the descent to a leaf.
use Rattle.std.specs.Prelude.{◌≡◌, ◌&&◌, ◌+◌, ◌%◌, ◌≤◌, ◌<◌, Result, Ok, Err}
use Rattle.base.specs.Kit.{refl, sym, ◌∙◌, Bool, true, false, not, and-eq-true_iff, List, ℕ, zero, suc, add-one, arith, leb-true, leb-false, eqb-true, le-leb, lt-leb, lt-ltb, le-ltb, not-false, leb, ltb, eqb, length}
use Rattle.base.specs.Pick.{pick}
use Rattle.base.specs.Decline.{and_then}
use Rattle.node.specs.Layout.{nkeys_at}
use Rattle.search.specs.Traversal.{readable, record_at, by_kind, child_for, reach_from, reach}
use Rattle.search.specs.Types.{Decline, Unreadable, RecordKind, Leaf, Internode}

module _ (image : List ℕ) (at n : ℕ) where
  pub in_image : readable image at n ≡ true → (8 ≤ at) × (at + n + 32 ≤ length image)
  unfolding readable
  in_image e =
      let both = (and-eq-true_iff (leb 8 at) (leb (at + n + 32) (length image))).0 e in
      (leb-true 8 at both.0, leb-true (at + n + 32) (length image) both.1)

-- a choice that is not its first, or not its second
pub not_first : {A : Type 0} (b : Bool) (x y z : A) → (x ≡ z → ⊥) → pick b x y ≡ z → (b ≡ false) × (y ≡ z)
unfolding pick
not_first true x y z h e = absurd (h e)
not_first false x y z h e = (refl, e)

pub not_second : {A : Type 0} (b : Bool) (x y z : A) → (y ≡ z → ⊥) → pick b x y ≡ z → (b ≡ true) × (x ≡ z)
unfolding pick
not_second true x y z h e = (refl, e)
not_second false x y z h e = absurd (h e)

-- a record that is found lies in the image, at a multiple of 8
module _ (image : List ℕ) (at : ℕ) where
  pub in-record : not (eqb (at % 8) 0 && readable image at 256) ≡ false → (at % 8 ≡ 0) × (8 ≤ at) × (at + 256 + 32 ≤ length image)
  in-record e =
      let both = (and-eq-true_iff (eqb (at % 8) 0) (readable image at 256)).0 (not-false _ e) in
      let in_image = in_image image at 256 both.1 in
      (eqb-true (at % 8) 0 both.0, in_image.0, in_image.1)

  pub leaf_in : record_at image at ≡ Ok Leaf → (at % 8 ≡ 0) × (8 ≤ at) × (at + 400 + 32 ≤ length image)
  unfolding record_at
  leaf_in e =
      let unreadable : ◌≡◌ {A = Result RecordKind Decline} (Err Unreadable) (Ok Leaf) → ⊥ = λ u. cc in
      let internode : ◌≡◌ {A = Result RecordKind Decline} (Ok Internode) (Ok Leaf) → ⊥ = λ u. cc in
      let placed = not_first _ _ _ _ unreadable e in
      let marked = not_first _ _ _ _ internode (not_first _ _ _ _ unreadable placed.1).1 in
      let whole = in_image image at 400 (not_second _ _ _ _ unreadable marked.1).0 in
      ((in-record placed.0).0, whole.0, whole.1)

-- the second of a choice, where it is taken
pick_second : {A : Type 0} (b : Bool) (x y z : A) → (b ≡ false → y ≡ z) → pick b x y ≡ pick b x z
unfolding pick
pick_second true x y z e = refl
pick_second false x y z e = e refl

module _ (image : List ℕ) (ikey : ℕ) where
  -- what a descent says of a record, by what it says of the child
  abbrev pub turn_of : RecordKind → ℕ → Result ℕ Decline → Result ℕ Decline
  turn_of kind at rest =
      by_kind kind (Ok at) (pick (ltb 15 (nkeys_at image at)) (Err Unreadable) (pick (leb at (child_for image at ikey)) (Err Unreadable) rest))

  abbrev pub turn_at : Result RecordKind Decline → ℕ → Result ℕ Decline → Result ℕ Decline
  turn_at r at rest = and_then r (λ kind. turn_of kind at rest)

  turn-same : (r : Result RecordKind Decline) (at : ℕ) (x y : Result ℕ Decline) → (child_for image at ikey < at → x ≡ y) → turn_at r at x ≡ turn_at r at y
  unfolding and_then
  turn-same (Ok kind) at x y e =
      rw (pick_second (leb at (child_for image at ikey)) (Err Unreadable) x y (λ f. e (leb-false at (child_for image at ikey) f)))
  turn-same (Err d) at x y e = refl

  -- any count above the offset is enough
  enough : (n m at : ℕ) → at < n → at < m → reach_from n image ikey at ≡ reach_from m image ikey at
  unfolding reach_from
  enough zero m at h g = absurd (omega arith)
  enough (suc n) zero at h g = absurd (omega arith)
  enough (suc n) (suc m) at h g = turn-same _ at _ _ (λ l. enough n m (child_for image at ikey) (omega arith) (omega arith))

  pub reach_turn : (at : ℕ) → reach image ikey at ≡ turn_at (record_at image at) at (reach image ikey (child_for image at ikey))
  unfolding reach_from reach
  reach_turn at =
      rw (add-one at) (turn-same _ at _ _ (λ l. enough at (child_for image at ikey + 1) (child_for image at ikey) l (omega arith)))

  -- The descent from `at` comes to w, as the whole does.
  module _ (at : ℕ) (w : Result ℕ Decline) (same : reach image ikey at ≡ w) where
    turn_is : (r : Result RecordKind Decline) → r ≡ record_at image at → turn_at r at (reach image ikey (child_for image at ikey)) ≡ w
    turn_is r e = rw e (sym (reach_turn at) ∙ same)

    pub no_record : (d : Decline) → Err d ≡ record_at image at → Err d ≡ w
    unfolding and_then
    no_record d e = turn_is (Err d) e

    -- k is the kind of record that was found at `at`
    module _ (k : RecordKind) (e : Ok k ≡ record_at image at) where
      same_turn : (kind : RecordKind) → k ≡ kind → turn_of kind at (reach image ikey (child_for image at ikey)) ≡ w
      unfolding and_then
      same_turn kind h = rw (← h) (turn_is (Ok k) e)

      pub at_leaf : k ≡ Leaf → Ok at ≡ w
      unfolding by_kind
      at_leaf h = same_turn Leaf h

      -- an internode of n keys
      module _ (h : k ≡ Internode) (n : ℕ) (f : n ≡ nkeys_at image at) where
        pub too_many : 15 < n → Err Unreadable ≡ w
        unfolding by_kind pick
        too_many l = rw (← f, lt-ltb 15 n l) at (same_turn Internode h)

        module _ (l : n ≤ 15) (child : ℕ) (g : child ≡ child_for image at ikey) where
          pub not_lower : at ≤ child → Err Unreadable ≡ w
          unfolding by_kind pick
          not_lower o = rw (← f, le-ltb 15 n l, ← g, le-leb at child o) at (same_turn Internode h)

          pub lower : child < at → reach image ikey child ≡ w
          unfolding by_kind pick
          lower o = rw (← f, le-ltb 15 n l, ← g, lt-leb at child o) at (same_turn Internode h)
