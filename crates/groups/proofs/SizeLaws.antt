-- THE SIZE OF A LAYER, group by group: what is left, counted on from a tally, comes to the same as the whole; and the internodes over some
-- leaves, level by level.
use Rattle.std.specs.Prelude.{◌≡◌, ◌∷◌, ◌+◌, ◌*◌, ◌/◌, ◌%◌, ◌-◌, ◌≤◌, ◌<◌}
use Rattle.base.specs.Kit.{refl, sym, ap, ap₂, subst, ◌∙◌, Bool, true, false, List, [], map, ℕ, zero, suc, min, arith, leb, leb-true, leb-false, le-leb, lt-leb, ne_eqb, length, length-drop}
use Rattle.base.specs.Pick.{pick}
use Rattle.base.proofs.Choice.{by_test}
use Rattle.layering.specs.Tree.{Node, Slots, value}
use Rattle.layering.specs.Keys.{Pair}
use Rattle.layering.specs.Ascending.{All}
use Rattle.layering.proofs.Row.{all_map}
use Rattle.reading.specs.Pairs.{pairs_in}
use Rattle.layering.specs.Accepted.{room, end_n, end_s}
use Rattle.building.specs.Shape.{ends_here, has_suffix, below, long_slots, group_slots, groups, size_s, layer_of}
use Rattle.building.proofs.Sizes.{internodes, more_leaves, sizes_s, layer_size}
use Rattle.groups.specs.declared.Tally.{Tally}
use Rattle.groups.specs.declared.Group.{Group}
use Rattle.groups.specs.declared.Lowered.{Lowered}
use Rattle.groups.specs.CodeGroups.{lowered, lines_at, OneLine, LoweredRead, group_of, shorts_of, longs_of, Fit, LongsFit, slots_at, GroupRead}
use Rattle.groups.specs.CodeSize.{capped, counted}
use Rattle.groups.proofs.Lines.{lines-length, here, lines-first, one_line}
use Rattle.groups.proofs.GroupLaws.{group_size, group-few, lines-below, fit_group, group-step}

-- the next multiple of eight, as the library has it
pub next_eight : (n : ℕ) → n + (8 - n % 8) % 8 ≡ (n + 7) / 8 * 8
next_eight n = omega arith

-- SUMS THAT ARE CAPPED
pub capped_most : (r a : ℕ) → r ≡ capped a → r ≤ 16777217
unfolding capped
capped_most r a e = omega arith

-- INTERNODES: any number of turns that is enough gives the same
pub internodes_enough : (f g n : ℕ) → n ≤ f → n ≤ g → internodes f n ≡ internodes g n
unfolding internodes pick
internodes_enough zero zero n h k = refl
internodes_enough zero (suc g) n h k = rw (le-leb n 1 (omega arith))
internodes_enough (suc f) zero n h k = rw (le-leb n 1 (omega arith))
internodes_enough (suc f) (suc g) n h k =
    by_test (leb n 1) (λ t. rw t) (λ e. rw e (ap (λ (m : ℕ). (n + 15) / 16 + m)
    (internodes_enough f g ((n + 15) / 16) (omega (arith, leb-false n 1 e)) (omega (arith, leb-false n 1 e)))))

pub internodes-more : (n : ℕ) → 1 < n → internodes n n ≡ (n + 15) / 16 + internodes ((n + 15) / 16) ((n + 15) / 16)
unfolding internodes pick
internodes-more zero h = absurd (omega arith)
internodes-more (suc n) h =
    rw (lt-leb (suc n) 1 h) (ap (λ (m : ℕ). (suc n + 15) / 16 + m) (internodes_enough n ((suc n + 15) / 16) ((suc n + 15) / 16) (omega arith) (omega arith)))

pub level_more : (n m : ℕ) → 1 < n → m ≡ n / 16 + min 1 (n % 16) → internodes n n ≡ m + internodes m m
level_more n m h e = let q : m ≡ (n + 15) / 16 = omega arith in rw q (internodes-more n h)

pub internodes_none : (n : ℕ) → n ≤ 1 → internodes n n ≡ 0
unfolding internodes pick
internodes_none zero h = refl
internodes_none (suc n) h = rw (le-leb (suc n) 1 h)

-- A TALLY of groups gs of which hs are left.
pub record Tallied (gs hs : List Slots) (t : Tally) : Type 0 where
  pub few : t.leaves ≤ 16777217
  pub small : t.bytes ≤ 16777217
  pub leaves : capped (t.leaves + more_leaves t.room (map size_s hs)) ≡ capped (suc (more_leaves 15 (map size_s gs)))
  pub bytes : capped (t.bytes + (sizes_s hs + 400 * more_leaves t.room (map size_s hs)))
      ≡ capped (sizes_s gs + 400 * suc (more_leaves 15 (map size_s gs)))

pub tallied-none : (gs : List Slots) → Tallied gs gs (record { leaves = 1; room = 15; bytes = 400 })
tallied-none gs =
    let n : ℕ = more_leaves 15 (map size_s gs) in
    record {
      few = omega arith;
      small = omega arith;
      leaves = ap capped (omega arith);
      bytes = ap capped (omega arith);
    }

module _ (gs hs : List Slots) (h : Slots) (t : Tally) (n b : ℕ) (size : n ≡ size_s h) (room_of : b ≡ capped (end_s 0 h)) where
  more_here : leb n t.room ≡ true → more_leaves t.room (map size_s (h ∷ hs)) ≡ more_leaves (t.room - n) (map size_s hs)
  unfolding more_leaves pick
  more_here u = let v : leb (size_s h) t.room ≡ true = rw (← size) u in rw (v, size)

  more-next : leb n t.room ≡ false → more_leaves t.room (map size_s (h ∷ hs)) ≡ suc (more_leaves (15 - n) (map size_s hs))
  unfolding more_leaves pick
  more-next u = let v : leb (size_s h) t.room ≡ false = rw (← size) u in rw (v, size)

  pub tallied-more : Tallied gs (h ∷ hs) t → Tallied gs hs (counted t n b)
  unfolding counted pick capped
  tallied-more T =
      by_test (leb n t.room)
      (λ u.
      rw u (record {
        few = T.few;
        small = omega arith;
        leaves = rw (← more_here u) T.leaves;
        bytes = omega (arith, T.bytes, more_here u, room_of);
      }))
      (λ f.
      rw f (record {
        few = omega arith;
        small = omega arith;
        leaves = omega (arith, T.leaves, more-next f);
        bytes = omega (arith, T.bytes, more-next f, room_of);
      }))

-- all groups counted
pub tallied_all : (gs : List Slots) (t : Tally) → Tallied gs [] t
    → let n : ℕ = suc (more_leaves 15 (map size_s gs)) in
    capped (t.bytes + 256 * internodes t.leaves t.leaves) ≡ capped (sizes_s gs + 400 * n + 256 * internodes n n)
unfolding capped more_leaves
tallied_all gs t T =
    let n : ℕ = suc (more_leaves 15 (map size_s gs)) in
    by_test (leb n 16777217)
    (λ u.
    let e : t.leaves ≡ n = omega (arith, T.leaves, T.few, leb-true n 16777217 u) in
    let i : internodes t.leaves t.leaves ≡ internodes n n = ap₂ internodes e e in
    omega (arith, T.bytes))
    (λ f. omega (arith, T.bytes, leb-false n 16777217 f))

-- THE BYTES OF A GROUP are those of its longs.
short-room : (x : Pair) → length x.key ≤ 8 → room (ends_here x) ≡ 0
unfolding room ends_here pick
short-room x h = rw (ne_eqb (length x.key) 64 (λ z. omega arith))

pub group-room : (sub : List Pair → Node) (g : List Pair) → end_s 0 (group_slots sub g) ≡ end_s 0 (long_slots sub (longs_of g))
unfolding group_slots longs_of long_slots end_n pick
group-room sub [] = refl
group-room sub (x ∷ l) = go (leb (length x.key) 8) refl (group-room sub l)
  where
    go : (t : Bool) → leb (length x.key) 8 ≡ t → end_s 0 (group_slots sub l) ≡ end_s 0 (long_slots sub (longs_of l))
        → end_s 0 (pick t (value (ends_here x) (group_slots sub l)) (long_slots sub (x ∷ l))) ≡ end_s 0 (long_slots sub (pick t (longs_of l) (x ∷ l)))
    go true e h = ap (λ (n : ℕ). end_s (0 + n) (group_slots sub l)) (short-room x (leb-true (length x.key) 8 e)) ∙ h
    go false e h = refl

-- no long key, one, and more
module _ (s : List ℕ) (m line : ℕ) where
  pub long-none : (n : ℕ) → n ≡ 0 → 0 ≡ capped (end_s 0 (long_slots (layer_of m) (lines_at s (31 - m) line n)))
  unfolding lines_at lowered pairs_in long_slots end_n capped
  long-none n e = rw e refl

  -- what is known of the one long key, which has len bytes
  pub record Suffix (n len : ℕ) : Type 0 where
    pub some : 8 < len
    pub short : len ≤ 256
    pub room : (len - 8 + 7) / 8 * 8 ≡ capped (end_s 0 (long_slots (layer_of m) (lines_at s (31 - m) line n)))

  suffix-room : (x : Pair) → end_s 0 (long_slots (layer_of m) (x ∷ [])) ≡ (length x.key - 8 + 7) / 8 * 8
  unfolding long_slots has_suffix end_n room pick
  suffix-room x = rw (length-drop 8 x.key) (omega arith)

  pub long-one : (r : Lowered) → LoweredRead s (31 - m) line r → (n : ℕ) → n ≡ 1 → LongsFit s m line n → Suffix n r.len
  unfolding lines_at lowered pairs_in capped
  long-one r R n o L =
      let e : lines_at s (31 - m) line n ≡ here s (31 - m) line r ∷ [] = rw o (lines-first s (31 - m) line r R 0) in
      let a = (subst (All (λ (x : Pair). 8 < length x.key)) e L.long).0 in
      let b = (subst (All (λ (x : Pair). length x.key ≤ 8 * suc m)) e L.short).0 in
      let l : r.len ≡ length (here s (31 - m) line r).key = R.len in
      let h : r.len ≤ 256 = omega (arith, L.deep) in
      let q : end_s 0 (long_slots (layer_of m) (lines_at s (31 - m) line n)) ≡ (r.len - 8 + 7) / 8 * 8 =
      ap (λ (l : List Pair). end_s 0 (long_slots (layer_of m) l)) e ∙ suffix-room (here s (31 - m) line r) ∙ ap (λ (n : ℕ). (n - 8 + 7) / 8 * 8) (sym l) in
      record { some = omega arith; short = h; room = omega arith }

  layer-room : (l : List Pair) → 2 ≤ length l → end_s 0 (long_slots (layer_of m) l) ≡ end_n 0 (layer_of m (map below l))
  unfolding long_slots end_n
  layer-room [] h = absurd (omega arith)
  layer-room (x ∷ []) h = absurd (omega arith)
  layer-room (x ∷ y ∷ l) h = refl

  pub long-more : (n : ℕ) → 2 ≤ n → LongsFit s m line n
      → capped (end_n 0 (layer_of (suc (m - 1)) (lines_at s (31 - (m - 1)) line n))) ≡ capped (end_s 0 (long_slots (layer_of m) (lines_at s (31 - m) line n)))
  long-more n h L =
      let w : 0 < m = (L.sub h).0 in
      let d : 31 - (m - 1) ≡ 31 - m + 1 = omega (arith, L.deep) in
      let e : suc (m - 1) ≡ m = omega arith in
      rw (d, e, lines-below s (31 - m) line n)
      (ap capped (sym (layer-room (lines_at s (31 - m) line n) (omega (arith, lines-length s (31 - m) line n L.lines)))))

  pub long_line : (n : ℕ) → 0 < n → LongsFit s m line n → OneLine s line
  long_line n h L =
      one_line s (31 - m) line n (omega arith) h L.lines
      (all_map (λ (x : Pair). length x.key ≤ 8 * suc m) _ (λ x g. omega (arith, L.deep)) (lines_at s (31 - m) line n) L.short)

-- A LAYER, from the tally of its groups.
pub layer_tallied : (s : List ℕ) (m line left : ℕ) (t : Tally) → Tallied (slots_at s m line left) [] t
    → capped (t.bytes + 256 * internodes t.leaves t.leaves) ≡ capped (end_n 0 (layer_of (suc m) (lines_at s (31 - m) line left)))
unfolding slots_at layer_of
layer_tallied s m line left t T =
    tallied_all (slots_at s m line left) t T ∙ ap capped (omega (arith, layer_size (layer_of m) (lines_at s (31 - m) line left) 0))

-- THE LOOP'S END, where no line is left, and its turn, by a group that was found.
pub all_tallied : (s : List ℕ) (m at rest : ℕ) (gs : List Slots) (t : Tally) → rest ≡ 0 → Tallied gs (slots_at s m at rest) t → Tallied gs [] t
unfolding slots_at lines_at lowered pairs_in groups
all_tallied s m at rest gs t e T = subst (λ (n : ℕ). Tallied gs (slots_at s m at n) t) e T

module _ (s : List ℕ) (m at rest : ℕ) (F : Fit s m at rest) (some : 0 < rest) (g : Group) (G : GroupRead s (31 - m) at rest g) where
  abbrev first : List Pair
  first = group_of (lines_at s (31 - m) at rest)

  pub slots_are : g.shorts + min 1 g.longs ≡ size_s (group_slots (layer_of m) first)
  slots_are =
      let a : g.shorts ≡ length (shorts_of first) = sym (lines-length s (31 - m) at g.shorts G.short-lines) ∙ ap length G.shorts in
      let b : g.longs ≡ length (longs_of first) =
      sym (lines-length s (31 - m) g.long_line g.longs G.long-lines) ∙ ap length G.longs in
      omega (arith, group_size (layer_of m) first)

  pub slots-few : g.shorts + min 1 g.longs ≤ 15
  slots-few = omega (arith, slots_are, group-few m (31 - m) (layer_of m) first (fit_group s m at rest F))

  pub tally_turn : (gs : List Slots) (t : Tally) (b : ℕ) → b ≡ capped (end_s 0 (long_slots (layer_of m) (lines_at s (31 - m) g.long_line g.longs)))
      → Tallied gs (slots_at s m at rest) t
      → Tallied gs (slots_at s m g.behind (rest - (g.shorts + g.longs))) (counted t (g.shorts + min 1 g.longs) b)
  tally_turn gs t b e T =
      tallied-more gs (slots_at s m g.behind (rest - (g.shorts + g.longs))) (group_slots (layer_of m) first) t (g.shorts + min 1 g.longs) b slots_are
      (e ∙ ap (λ (l : List Pair). capped (end_s 0 (long_slots (layer_of m) l))) G.longs ∙ ap capped (sym (group-room (layer_of m) first)))
      (subst (λ (l : List Slots). Tallied gs l t) (group-step s m at rest F g G some) T)
