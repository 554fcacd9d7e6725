-- THE SLOTS OF SHORT KEYS, line by line: those of the lines left, behind those added, are all. Assumes nothing.
use Rattle.std.specs.Prelude.{◌≡◌, ◌∷◌, ◌++◌, ◌+◌, ◌-◌, ◌≤◌, ◌<◌}
use Rattle.base.specs.Kit.{refl, sym, ap, subst, ◌∙◌, true, List, [], append_assoc, append-nil, map, ℕ, suc, arith, length, length-append}
use Rattle.layering.specs.Tree.{Fields}
use Rattle.layering.specs.Keys.{Pair}
use Rattle.layering.specs.Ascending.{All}
use Rattle.layering.proofs.Row.{all_map}
use Rattle.building.specs.Shape.{ends_here}
use Rattle.building.specs.Build.{suffix_word}
use Rattle.reading.specs.Pairs.{pairs_in}
use Rattle.groups.specs.CodeGroups.{lowered, lines_at, OneLine, LoweredRead}
use Rattle.groups.specs.declared.Lowered.{Lowered}
use Rattle.groups.proofs.Lines.{here, lines-first, lines_rest, one_line}
use Rattle.image_out.specs.CodeRows.{slots_of, HoldsSlots}
use Rattle.image_out.specs.declared.LeafSlots.{LeafSlots}
use Rattle.slots_out.specs.CodeSlots.{ShortLines}

-- The loop's invariant: i of n lines are added, and the others stand at `place`.
pub record ShortsSoFar (s : List ℕ) (d line n : ℕ) (first : LeafSlots) (place : ℕ) (slots : LeafSlots) (i : ℕ) : Type 0 where
  pub fewer : i ≤ n
  pub added : List Fields
  pub count : length added ≡ i
  pub whole : added ++ map ends_here (lines_at s d place (n - i)) ≡ map ends_here (lines_at s d line n)
  pub held : (fs : List Fields) → first ≡ slots_of fs → slots ≡ slots_of (fs ++ added)
  pub left : ShortLines s d place (n - i)

pub shorts-none : (s : List ℕ) (d line n : ℕ) (first : LeafSlots) → ShortLines s d line n → ShortsSoFar s d line n first line first 0
shorts-none s d line n first h =
    let z : n - 0 ≡ n = omega arith in
    record {
      fewer = omega arith;
      added = [];
      count = refl;
      whole = rw z;
      held = λ fs e. rw append-nil e;
      left = rw z h;
    }

module _ (s : List ℕ) (d line n : ℕ) (first : LeafSlots) (place : ℕ) (slots : LeafSlots) (i : ℕ) (I : ShortsSoFar s d line n first place slots i) where
  pub shorts_end : n ≤ i → (fs : List Fields) → first ≡ slots_of fs → slots ≡ slots_of (fs ++ map ends_here (lines_at s d line n))
  unfolding lines_at lowered pairs_in
  shorts_end h fs e =
      let z : n - i ≡ 0 = omega (arith, I.fewer) in
      let a : I.added ≡ map ends_here (lines_at s d line n) = sym (append-nil I.added) ∙ (rw z at I.whole) in
      I.held fs e ∙ ap (λ (l : List Fields). slots_of (fs ++ l)) a

  module _ (h : i < n) where
    pub shorts_line : OneLine s place
    shorts_line =
        one_line s d place (n - i) I.left.deep (omega arith) I.left.lines
        (all_map _ _ (λ x k. omega (arith, k, I.left.deep)) (lines_at s d place (n - i)) I.left.short)

    pub shorts-room : HoldsSlots (15 - n) first → n ≤ 15 → HoldsSlots 14 slots
    shorts-room H f =
        record {
          fields = H.fields ++ I.added;
          same = I.held H.fields H.same;
          few = omega (arith, length-append H.fields I.added, H.few, I.count);
        }

    module _ (r : Lowered) (R : LoweredRead s d place r) where
      lines_split : lines_at s d place (n - i) ≡ here s d place r ∷ lines_at s d r.next (n - (i + 1))
      lines_split =
          let z : n - i ≡ suc (n - (i + 1)) = omega arith in
          rw z (lines-first s d place r R (n - (i + 1)))

      pub shorts-len : r.len ≤ 8
      shorts-len = omega (arith, R.len, (subst (All (λ (x : Pair). length x.key ≤ 8)) lines_split I.left.short).0)

      pub shorts_turn : (next : LeafSlots)
          → ((fs : List Fields) (f : Fields) → slots ≡ slots_of fs → f.ikey ≡ r.ikey → f.keylenx ≡ r.len → f.value ≡ r.value → suffix_word f ≡ 0 → f.live ≡ true
          → next ≡ slots_of (fs ++ (f ∷ [])))
          → ShortsSoFar s d line n first r.next next (i + 1)
      unfolding ends_here suffix_word
      shorts_turn next a =
          let z : n - i ≡ suc (n - (i + 1)) = omega arith in
          let x : Pair = here s d place r in
          record {
            fewer = omega arith;
            added = I.added ++ (ends_here x ∷ []);
            count = length-append I.added (ends_here x ∷ []) ∙ omega (arith, I.count);
            whole =
                append_assoc I.added (ends_here x ∷ []) (map ends_here (lines_at s d r.next (n - (i + 1))))
                ∙ ap (λ (l : List Pair). I.added ++ map ends_here l) (sym lines_split) ∙ I.whole;
            held = λ fs e.
                a (fs ++ I.added) (ends_here x) (I.held fs e) (sym R.ikey) (sym R.len) refl refl refl
                ∙ ap slots_of (append_assoc fs I.added (ends_here x ∷ []));
            left =
                record {
                  deep = I.left.deep;
                  lines = lines_rest s d place r R (n - (i + 1)) (rw z at I.left.lines);
                  short = (subst (All (λ (x : Pair). length x.key ≤ 8)) lines_split I.left.short).1;
                };
          }

-- what `add_shorts` rests on
pub ruleset short_rules = (shorts-none, shorts-room, shorts_turn)
