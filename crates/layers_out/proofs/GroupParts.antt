-- ONE GROUP among the lines that are left: how many slots it takes; its short keys, then a suffix or a layer for the long ones, laid one
-- behind the other, are the group laid. Assumes nothing.
use Rattle.std.specs.Prelude.{◌≡◌, ◌∷◌, ◌++◌, ◌+◌, ◌*◌, ◌-◌, ◌≤◌, ◌<◌}
use Rattle.base.specs.Kit.{refl, subst, ap, ap₂, sym, ◌∙◌, List, [], map, false, ℕ, suc, min, arith, length, length-append, length-map}
use Rattle.layering.specs.Tree.{Fields, Node, none}
use Rattle.layering.specs.Keys.{Pair, leaves_s}
use Rattle.layering.specs.Accepted.{end_n, end_s}
use Rattle.building.specs.Shape.{ends_here, has_layer, below as lower_pair, long_slots, size_s, join_s, layer_of}
use Rattle.building.specs.Build.{stands_at, root_at, placed_n, bytes_n, suffix_word}
use Rattle.building.specs.CodeOrder.{leaves_l, limit}
use Rattle.building.specs.CodeWritten.{put}
use Rattle.building.specs.CodeLaid.{Laid, laid_layer, laid}
use Rattle.building.proofs.Groups.{all_both}
use Rattle.building.proofs.Laid.{laid_join, laid-at}
use Rattle.groups.specs.CodeGroups.{lowered, lines_at, Lines, OneLine, group_of, shorts_of, longs_of, short_slots, LongsFit, GroupRead, LoweredRead}
use Rattle.groups.specs.CodeLines.{slots_in, first_slots}
use Rattle.reading.specs.Pairs.{pairs_in}
use Rattle.groups.specs.declared.Group.{Group}
use Rattle.groups.specs.declared.LayerLines.{LayerLines}
use Rattle.groups.specs.declared.FirstGroup.{FirstGroup}
use Rattle.groups.specs.declared.Lowered.{Lowered}
use Rattle.groups.proofs.Lines.{lines-length, one_line, lines-first, here}
use Rattle.groups.proofs.GroupLaws.{group_parts, group_size, shorts-short, lines-below}
use Rattle.groups.proofs.Firsts.{first_longs, first_few, RestOf, begins, behind_slots, rest_slots, BelowOf}
use Rattle.image_out.specs.CodeRows.{slots_of, HoldsSlots}
use Rattle.image_out.specs.declared.LeafSlots.{LeafSlots}
use Rattle.image_out.proofs.Rows.{slots_n}
use Rattle.slots_out.specs.CodeSlots.{ShortLines, LongLine, GroupLaid}
use Rattle.slots_out.specs.declared.Slotted.{Slotted}
use Rattle.slots_out.proofs.Parts.{laid-shorts, laid-layer, LayerSlot, layer_slot_lem}
use Rattle.layers_out.specs.CodeCycle.{Room, layer_at, LayerRoom, LayerWrote}
use Rattle.layers_out.specs.declared.run.Run.{Run}

-- one long key is laid without the layers below
one-long : (sub sub' : List Pair → Node) (l : List Pair) → length l ≡ 1 → long_slots sub l ≡ long_slots sub' l
unfolding long_slots
one-long sub sub' [] h = refl
one-long sub sub' (x ∷ []) h = refl
one-long sub sub' (x ∷ y ∷ l) h = absurd (omega arith)

-- several are laid as their layer
module _ (m : ℕ) where
  several_end : (l : List Pair) (at : ℕ) → 2 ≤ length l → end_s at (long_slots (layer_of m) l) ≡ end_n at (layer_of m (map lower_pair l))
  unfolding long_slots end_n
  several_end [] at h = absurd (omega arith)
  several_end (x ∷ []) at h = absurd (omega arith)
  several_end (x ∷ y ∷ l) at h = refl

  several-laid : (x : Pair) (l : List Pair) (k : Laid) → 0 < length l → laid k (long_slots (layer_of m) (x ∷ l)) ≡ laid_layer k (has_layer x) (layer_of m (map lower_pair (x ∷ l)))
  several-laid x [] k h = absurd (omega arith)
  several-laid x (y ∷ l) k h = laid-layer (layer_of m) x y l k

-- no long key has no slot
none-long : (sub : List Pair → Node) (s : List ℕ) (d line n : ℕ) → n ≡ 0 → long_slots sub (lines_at s d line n) ≡ none
unfolding lines_at lowered pairs_in long_slots
none-long sub s d line n e = rw e refl

laid_so : (out out' : List ℕ) (at : ℕ) (q : Run) (all : LeafSlots) (fs : List Fields) (x : Pair) (node : Node) → out' ≡ put out at (bytes_n (placed_n at 0 node)) → q.at ≡ end_n at node
    → all ≡ slots_of (fs ++ (root_at (stands_at at node) (has_layer x) ∷ []))
    → GroupLaid out' (record { at = q.at; slots = all }) (laid_layer (record { out = out; at = at; fields = fs }) (has_layer x) node)
unfolding laid_layer
laid_so out out' at q all fs x node a b c = record { bytes = a; at = b; slots = c }

module _ (f : FirstGroup) where
  abbrev m : ℕ
  m = f.lines.below

  abbrev s : List ℕ
  s = f.lines.sheet.now

  abbrev g : Group
  g = f.group

  abbrev r : GroupRead s (31 - m) f.lines.line f.lines.left g
  r = f.read

  abbrev pairs : List Pair
  pairs = group_of (lines_at s (31 - m) f.lines.line f.lines.left)

  -- HOW MANY SLOTS
  shorts-count : length (shorts_of pairs) ≡ g.shorts
  shorts-count = ap length (sym r.shorts) ∙ lines-length s (31 - m) f.lines.line g.shorts r.short-lines

  longs-count : length (longs_of pairs) ≡ g.longs
  longs-count = ap length (sym r.longs) ∙ lines-length s (31 - m) g.long_line g.longs r.long-lines

  pub slots-count : size_s (first_slots f.lines) ≡ g.shorts + min 1 g.longs
  slots-count = group_size (layer_of m) pairs ∙ ap₂ (λ (a b : ℕ). a + min 1 b) shorts-count longs-count

  -- beside those that a leaf has
  pub slots-sum : (slots : LeafSlots) (fs : List Fields) (k : ℕ) → slots ≡ slots_of fs → k ≡ g.shorts + min 1 g.longs
      → length fs + size_s (first_slots f.lines) ≡ slots.n + k
  slots-sum slots fs k e h = omega (arith, slots-count, slots_n slots fs e)

  pub shorts-few : g.shorts ≤ 15
  shorts-few = omega (arith, first_few f)

  -- THE LINES BEHIND IT
  pub rest-few : (r : LayerLines) → RestOf f r → leaves_l (slots_in f.lines) ≤ limit → leaves_l (slots_in r) ≤ limit
  rest-few r e few =
      let k : leaves_l (slots_in f.lines) ≡ leaves_s (first_slots f.lines) + leaves_l (behind_slots f) = ap leaves_l (begins f f.lines refl) in
      rw (rest_slots f r e) (omega (arith, k, few))

  -- ITS SLOTS, laid from l on
  abbrev longs : LongsFit s m g.long_line g.longs
  longs = first_longs f

  parts : first_slots f.lines ≡ join_s (short_slots (shorts_of pairs)) (long_slots (layer_of m) (longs_of pairs))
  parts = group_parts (layer_of m) pairs

  pub shorts-given : ShortLines s (31 - m) f.lines.line g.shorts
  shorts-given =
      record { deep = omega arith; lines = r.short-lines; short = rw r.shorts (shorts-short pairs) }

  pub laid_group : (l : Laid) → laid l (first_slots f.lines)
      ≡ laid (record { out = l.out; at = l.at; fields = l.fields ++ map ends_here (lines_at s (31 - m) f.lines.line g.shorts) }) (long_slots (layer_of m) (lines_at s (31 - m) g.long_line g.longs))
  laid_group l =
      rw (r.shorts, r.longs) (ap (laid l) parts ∙ laid_join l (short_slots (shorts_of pairs)) (long_slots (layer_of m) (longs_of pairs))
      ∙ ap (λ (k : Laid). laid k (long_slots (layer_of m) (longs_of pairs))) (laid-shorts (shorts_of pairs) (shorts-short pairs) l))

  -- where its long keys end
  pub longs_end : (at : ℕ) → end_s at (first_slots f.lines) ≡ end_s at (long_slots (layer_of m) (lines_at s (31 - m) g.long_line g.longs))
  longs_end at =
      let l : Laid = record { out = []; at = at; fields = [] } in
      sym (laid-at l (first_slots f.lines)) ∙ ap (λ (k : Laid). k.at) (laid_group l)
      ∙ laid-at (record { out = []; at = at; fields = [] ++ map ends_here (lines_at s (31 - m) f.lines.line g.shorts) }) (long_slots (layer_of m) (lines_at s (31 - m) g.long_line g.longs))

  module _ (slots : LeafSlots) (h : HoldsSlots (15 - size_s (first_slots f.lines)) slots) where
    pub shorts-room : HoldsSlots (15 - g.shorts) slots
    shorts-room = record { fields = h.fields; same = h.same; few = omega (arith, h.few, slots-count) }

    module _ (more : LeafSlots) (added : (fs : List Fields) → slots ≡ slots_of fs → more ≡ slots_of (fs ++ map ends_here (lines_at s (31 - m) f.lines.line g.shorts))) where
      pub long-room : 0 < g.longs → HoldsSlots 14 more
      long-room k =
          record {
            fields = h.fields ++ map ends_here (lines_at s (31 - m) f.lines.line g.shorts);
            same = added h.fields h.same;
            few =
                omega (
                  arith,
                  length-append h.fields (map ends_here (lines_at s (31 - m) f.lines.line g.shorts)),
                  length-map (lines_at s (31 - m) f.lines.line g.shorts) ends_here,
                  lines-length s (31 - m) f.lines.line g.shorts r.short-lines,
                  h.few,
                  slots-count,
                  first_few f,
                );
          }

      -- NONE GOES ON
      pub shorts_only : (out : List ℕ) (at : ℕ) → g.longs ≡ 0
          → (fs : List Fields) → slots ≡ slots_of fs → GroupLaid out (record { at = at; slots = more }) (laid (record { out = out; at = at; fields = fs }) (first_slots f.lines))
      unfolding laid
      shorts_only out at z fs e =
          rw (laid_group (record { out = out; at = at; fields = fs }), none-long (layer_of m) s (31 - m) g.long_line g.longs z) (record { bytes = refl; at = refl; slots = added fs e })

      -- ONE GOES ON, with a suffix
      module _ (one : g.longs ≡ 1) where
        one-line : Lines s g.long_line 1
        one-line = subst (Lines s g.long_line) one r.long-lines

        pub suffix-given : LongLine s (31 - m) g.long_line
        suffix-given =
            let k : 8 * suc m ≡ 256 - 8 * (31 - m) = omega (arith, f.lines.fit.deep) in
            record {
              deep = omega arith;
              lines = one-line;
              long =
                  rw (← one, ← k) (all_both (λ (x : Pair). 8 < length x.key) (λ (x : Pair). length x.key ≤ 8 * suc m)
                  (λ (x : Pair). (8 < length x.key) × (length x.key ≤ 8 * suc m)) (λ x a b. (a, b)) (lines_at s (31 - m) g.long_line g.longs) longs.long longs.short);
            }

        pub suffix-room : (out : List ℕ) (at : ℕ) → Room out at 0 (end_s at (first_slots f.lines))
            → (sub : List Pair → Node) → end_s at (long_slots sub (lines_at s (31 - m) g.long_line 1)) ≤ length out
        suffix-room out at w sub =
            let l : List Pair = lines_at s (31 - m) g.long_line 1 in
            let k : length l ≡ 1 = lines-length s (31 - m) g.long_line 1 one-line in
            let e : end_s at (first_slots f.lines) ≡ end_s at (long_slots (layer_of m) l) =
            longs_end at ∙ ap (λ (y : ℕ). end_s at (long_slots (layer_of m) (lines_at s (31 - m) g.long_line y))) one in
            omega (arith, e, w.fits, ap (end_s at) (one-long sub (layer_of m) l k))

        pub suffix-laid : (out out' : List ℕ) (at : ℕ) (q : Slotted)
            → ((fs : List Fields) (sub : List Pair → Node) → more ≡ slots_of fs
            → GroupLaid out' q (laid (record { out = out; at = at; fields = fs }) (long_slots sub (lines_at s (31 - m) g.long_line 1))))
            → (fs : List Fields) → slots ≡ slots_of fs → GroupLaid out' q (laid (record { out = out; at = at; fields = fs }) (first_slots f.lines))
        suffix-laid out out' at q e fs k =
            rw (laid_group (record { out = out; at = at; fields = fs }), ap (lines_at s (31 - m) g.long_line) one) (e (fs ++ map ends_here (lines_at s (31 - m) f.lines.line g.shorts)) (layer_of m) (added fs k))

      -- SEVERAL GO ON, in a layer
      module _ (not-none : g.longs ≡ 0 → ⊥) (not-one : g.longs ≡ 1 → ⊥) where
        several : 2 ≤ g.longs
        several = omega (arith, not-none, not-one)

        pub layers-left : 0 < m
        layers-left = (longs.sub several).0

        abbrev long_pairs : List Pair
        long_pairs = lines_at s (31 - m) g.long_line g.longs

        pub head_line : OneLine s g.long_line
        head_line =
            let k : 8 * suc m ≡ 256 - 8 * (31 - m) = omega (arith, f.lines.fit.deep) in
            one_line s (31 - m) g.long_line g.longs (omega arith) (omega arith) r.long-lines (rw (← k) longs.short)

        module _ (b : LayerLines) (e : BelowOf f b) where
          same-layer : layer_at b ≡ layer_of m (map lower_pair long_pairs)
          same-layer =
              let d : b.below ≡ m - 1 = omega (arith, e.1) in
              let a : suc (m - 1) ≡ m = omega (arith, layers-left) in
              let c : 31 - (m - 1) ≡ 31 - m + 1 = omega (arith, layers-left, f.lines.fit.deep) in
              rw (e.0, d, e.2, e.3, a, c) (ap (layer_of m) (lines-below s (31 - m) g.long_line g.longs))

          layer_end_lem : (at : ℕ) → end_s at (first_slots f.lines) ≡ end_n at (layer_at b)
          layer_end_lem at = longs_end at ∙ several_end m long_pairs at (rw (lines-length s (31 - m) g.long_line g.longs r.long-lines) several) ∙ ap (end_n at) (sym same-layer)

          pub layer-room : (out : List ℕ) (at : ℕ) → Room out at 0 (end_s at (first_slots f.lines)) → LayerRoom out at b
          layer-room out at w = record { some = w.some; fits = rw (← layer_end_lem at) w.fits; short = w.short }

          pub layer-laid : (out out' : List ℕ) (at : ℕ) (q : Run) (head : Lowered) (all : LeafSlots) → LoweredRead s (31 - m) g.long_line head
              → LayerWrote out out' at q (layer_at b)
              → ((fs : List Fields) (f : Fields) → more ≡ slots_of fs → f.ikey ≡ head.ikey → f.keylenx ≡ 128 → f.value ≡ q.node → suffix_word f ≡ 0 → f.live ≡ false
              → all ≡ slots_of (fs ++ (f ∷ [])))
              → (fs : List Fields) → slots ≡ slots_of fs
              → GroupLaid out' (record { at = q.at; slots = all }) (laid (record { out = out; at = at; fields = fs }) (first_slots f.lines))
          layer-laid out out' at q head all h w add fs k' =
              let k : suc (g.longs - 1) ≡ g.longs = omega arith in
              let x : Pair = here s (31 - m) g.long_line head in
              let l : List Pair = lines_at s (31 - m) head.next (g.longs - 1) in
              let first : long_pairs ≡ x ∷ l = ap (lines_at s (31 - m) g.long_line) (sym k) ∙ lines-first s (31 - m) g.long_line head h (g.longs - 1) in
              let some_more : 0 < length l = omega (arith, ap length first, lines-length s (31 - m) g.long_line g.longs r.long-lines) in
              let node : Node = layer_of m (map lower_pair (x ∷ l)) in
              let same : layer_at b ≡ node = same-layer ∙ ap (λ (y : List Pair). layer_of m (map lower_pair y)) first in
              let gs : List Fields = fs ++ map ends_here (lines_at s (31 - m) f.lines.line g.shorts) in
              let slot : LayerSlot (stands_at at node) x (root_at (stands_at at node) (has_layer x)) = layer_slot_lem (stands_at at node) x in
              rw (laid_group (record { out = out; at = at; fields = fs }), first, several-laid m x l (record { out = out; at = at; fields = gs }) some_more)
              (laid_so out out' at q all gs x node (w.bytes ∙ rw same refl) (w.at ∙ rw same refl)
              (add gs (root_at (stands_at at node) (has_layer x)) (added fs k') (slot.ikey ∙ sym h.ikey) slot.keylenx (slot.value ∙ sym (w.node ∙ rw same refl)) slot.word slot.live))

-- what a group rests on
pub ruleset group_rules = (shorts-given, shorts-room, long-room)
