-- THE SUFFIX OF A LONG KEY: one station line whose key goes on below the layer, as it was read; its suffix written and its slot added is its
-- group's part laid. Assumes nothing.
use Rattle.std.specs.Prelude.{◌≡◌, ◌∷◌, ◌++◌, ◌+◌, ◌*◌, ◌-◌, ◌/◌, ◌≤◌, ◌<◌}
use Rattle.base.specs.Kit.{refl, sym, ap, subst, ◌∙◌, List, [], ℕ, true, arith, length, take, drop}
use Rattle.base.specs.Pick.{pick}
use Rattle.key.specs.Ikey.{ikey_of}
use Rattle.layering.specs.Tree.{Fields, Node, beyond}
use Rattle.layering.specs.Keys.{Pair}
use Rattle.layering.specs.Ascending.{All}
use Rattle.layering.specs.Accepted.{room, end_n, end_s}
use Rattle.layering.proofs.Row.{all_map}
use Rattle.building.specs.Shape.{has_suffix, long_slots}
use Rattle.building.specs.Build.{start_at, suffix_bytes, suffix_word}
use Rattle.building.specs.CodeWritten.{put}
use Rattle.building.specs.CodeLaid.{laid_value, laid}
use Rattle.reading.specs.Pairs.{pairs_in}
use Rattle.reading.specs.CodeViews.{key_at}
use Rattle.reading.proofs.Turns.{rest_is}
use Rattle.groups.specs.CodeGroups.{lower, lowered, lines_at, OneLine, LoweredRead, LoweredKeyRead}
use Rattle.groups.specs.declared.Lowered.{Lowered}
use Rattle.groups.specs.declared.LoweredKey.{LoweredKey}
use Rattle.groups.proofs.Lines.{one_line, lines-first}
use Rattle.image_out.specs.CodeRows.{slots_of, whole_words}
use Rattle.image_out.specs.declared.LeafSlots.{LeafSlots}
use Rattle.slots_out.specs.CodeSlots.{LongLine, GroupLaid}
use Rattle.slots_out.specs.declared.Slotted.{Slotted}

module _ (s : List ℕ) (d line : ℕ) (L : LongLine s d line) where
  pub long_one : OneLine s line
  long_one = one_line s d line 1 L.deep (omega arith) L.lines (all_map _ _ (λ (x : Pair) h. h.1) (lines_at s d line 1) L.long)

  module _ (r : LoweredKey) (R : LoweredKeyRead s d line r) where
    -- the line's pair, as the layer has it
    abbrev long : Pair
    long = lower d (record { key = key_at (drop line s); value = r.value })

    one-long : lines_at s d line 1 ≡ long ∷ []
    unfolding lines_at lowered pairs_in
    one-long =
        let l : Lowered = record { ikey = ikey_of long.key; len = length long.key; value = r.value; next = r.next } in
        let R' : LoweredRead s d line l = record { is = R.is; ikey = refl; len = refl; on = R.on; inside = R.inside } in
        lines-first s d line l R' 0

    pub key_sizes : (8 < length r.key.now) × (length r.key.now ≤ 256)
    key_sizes =
        let h : (8 < length long.key) × (length long.key ≤ 256 - 8 * d) =
        (subst (All (λ (x : Pair). (8 < length x.key) × (length x.key ≤ 256 - 8 * d))) one-long L.long).0 in
        rw R.key (h.0, omega (arith, h.1))

    module _ (p : List ℕ) (e : p ≡ take (length r.key.now - 8) (drop 8 r.key.now)) where
      suffix-is : p ≡ drop 8 long.key
      suffix-is = e ∙ rest_is r.key.now 8 ∙ ap (drop 8) R.key

      -- the place behind the suffix, as the contract has it
      pub suffix_end : (at : ℕ) → end_s at (long_slots (λ ps. beyond) (lines_at s d line 1)) ≡ at + (length p + 7) / 8 * 8
      unfolding long_slots end_n room has_suffix pick
      suffix_end at = rw (one-long, suffix-is)

      -- THE PART: the suffix p, written, and the slot with the key's ikey.
      pub suffix-laid : (out out' : List ℕ) (at ikey : ℕ) (slots : LeafSlots) (t : Slotted)
          → (t.at ≡ at + (length p + 7) / 8 * 8) × (out' ≡ put out at (whole_words p)) → ikey ≡ ikey_of r.key.now
          → ((fs : List Fields) (f : Fields) → slots ≡ slots_of fs → f.ikey ≡ ikey → f.keylenx ≡ 64 → f.value ≡ r.value
          → suffix_word f ≡ at + length p * 4294967296 → f.live ≡ true → t.slots ≡ slots_of (fs ++ (f ∷ [])))
          → (fs : List Fields) (sub : List Pair → Node) → slots ≡ slots_of fs
          → GroupLaid out' t (laid (record { out = out; at = at; fields = fs }) (long_slots sub (lines_at s d line 1)))
      unfolding long_slots laid laid_value has_suffix start_at suffix_bytes room suffix_word pick
      suffix-laid out out' at ikey slots t w i add fs sub g =
          rw one-long
          (record {
            bytes = w.1 ∙ rw suffix-is;
            at = w.0 ∙ rw suffix-is;
            slots = add fs (start_at at (has_suffix long)) g (sym (i ∙ ap ikey_of R.key)) refl refl (omega (arith, ap (λ (l : List ℕ). length l) suffix-is)) refl;
          })
