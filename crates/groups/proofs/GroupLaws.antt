-- THE FIRST GROUP of what a layer is given: its slots, which are those of its shorts and then those of its longs; the groups behind it; and
-- what the layer of its longs is given.
use Rattle.std.specs.Prelude.{◌≡◌, ◌∷◌, ◌++◌, ◌+◌, ◌*◌, ◌-◌, ◌≤◌, ◌<◌}
use Rattle.base.specs.Kit.{refl, sym, ap, ap₂, subst, ◌∙◌, Bool, true, false, List, [], map, ℕ, suc, min, arith, leb, eqb, leb-true, leb-false, eqb-true, length, take, drop, drop-drop}
use Rattle.base.specs.Pick.{pick}
use Rattle.key.specs.Ikey.{ikey_of}
use Rattle.key.proofs.Bytes.{Bytes}
use Rattle.layering.specs.Tree.{Node, value}
use Rattle.layering.specs.Keys.{Pair}
use Rattle.layering.specs.Ascending.{All, Ascending}
use Rattle.layering.proofs.Row.{all_map}
use Rattle.reading.specs.Pairs.{pairs_in}
use Rattle.building.specs.Shape.{ends_here, below, long_slots, group_slots, groups, size_s, join_s, layer_of}
use Rattle.building.specs.CodeOrder.{run, behind_run}
use Rattle.building.specs.CodeGood.{Good}
use Rattle.building.proofs.Runs.{groups-run}
use Rattle.building.proofs.Fill.{join_size}
use Rattle.building.proofs.Groups.{all_split, ascending_split, Of, Long, longs as longs-behind, below_ascending, good-below, group-few as few-slots}
use Rattle.groups.specs.declared.Group.{Group}
use Rattle.groups.specs.CodeGroups.{lower, lowered, lines_at, group_of, behind_group, shorts_of, longs_of, short_slots, Fit, LongsFit, slots_at, GroupRead}
use Rattle.groups.proofs.Lines.{lines-length}
use Rattle.groups.proofs.Found.{shorts-longs}

-- GROUP BY GROUP
run_split : (k : ℕ) (l : List Pair) → run k l ++ behind_run k l ≡ l
unfolding run behind_run pick
run_split k [] = refl
run_split k (x ∷ l) = go (eqb k (ikey_of x.key)) (run_split k l)
  where
    go : (t : Bool) → run k l ++ behind_run k l ≡ l → pick t (x ∷ run k l) [] ++ pick t (behind_run k l) (x ∷ l) ≡ x ∷ l
    go true e = ap (λ (r : List Pair). x ∷ r) e
    go false e = refl

run_of : (k : ℕ) (l : List Pair) → Of k (run k l)
unfolding run pick
run_of k [] = tt
run_of k (x ∷ l) = go (eqb k (ikey_of x.key)) refl (run_of k l)
  where
    go : (t : Bool) → eqb k (ikey_of x.key) ≡ t → Of k (run k l) → Of k (pick t (x ∷ run k l) [])
    go true e h = (sym (eqb-true k (ikey_of x.key) e), h)
    go false e h = tt

group_of_lem : (ps : List Pair) → (k : ℕ) × Of k (group_of ps)
unfolding group_of
group_of_lem [] = (0, tt)
group_of_lem (x ∷ l) = (ikey_of x.key, (refl, run_of (ikey_of x.key) l))

pub group_split : (ps : List Pair) → group_of ps ++ behind_group ps ≡ ps
unfolding group_of behind_group
group_split [] = refl
group_split (x ∷ l) = ap (λ (r : List Pair). x ∷ r) (run_split (ikey_of x.key) l)

pub groups_of : (ps : List Pair) → 0 < length ps → groups ps ≡ group_of ps ∷ groups (behind_group ps)
unfolding group_of behind_group
groups_of [] h = absurd (omega arith)
groups_of (x ∷ l) h = groups-run x l

-- THE SLOTS OF A GROUP
module _ (sub : List Pair → Node) where
  pub group_parts : (g : List Pair) → group_slots sub g ≡ join_s (short_slots (shorts_of g)) (long_slots sub (longs_of g))
  unfolding group_slots short_slots long_slots join_s shorts_of longs_of pick
  group_parts [] = refl
  group_parts (x ∷ l) = go (leb (length x.key) 8) (group_parts l)
    where
      go : (t : Bool) → group_slots sub l ≡ join_s (short_slots (shorts_of l)) (long_slots sub (longs_of l))
          → pick t (value (ends_here x) (group_slots sub l)) (long_slots sub (x ∷ l))
          ≡ join_s (short_slots (pick t (x ∷ shorts_of l) [])) (long_slots sub (pick t (longs_of l) (x ∷ l)))
      go true e = ap (value (ends_here x)) e
      go false e = refl

  shorts_size : (l : List Pair) → size_s (short_slots l) ≡ length l
  unfolding short_slots size_s
  shorts_size [] = refl
  shorts_size (x ∷ l) = ap suc (shorts_size l)

  longs_size : (l : List Pair) → size_s (long_slots sub l) ≡ min 1 (length l)
  unfolding long_slots size_s
  longs_size [] = refl
  longs_size (x ∷ []) = refl
  longs_size (x ∷ y ∷ l) = omega arith

  pub group_size : (g : List Pair) → size_s (group_slots sub g) ≡ length (shorts_of g) + min 1 (length (longs_of g))
  group_size g =
      ap size_s (group_parts g) ∙ join_size (short_slots (shorts_of g)) (long_slots sub (longs_of g))
      ∙ ap₂ (λ (a b : ℕ). a + b) (shorts_size (shorts_of g)) (longs_size (longs_of g))

-- SHORTS AND LONGS
pub shorts-short : (g : List Pair) → All (λ (x : Pair). length x.key ≤ 8) (shorts_of g)
unfolding shorts_of pick
shorts-short [] = tt
shorts-short (x ∷ l) = go (leb (length x.key) 8) refl (shorts-short l)
  where
    go : (t : Bool) → leb (length x.key) 8 ≡ t → All (λ (x : Pair). length x.key ≤ 8) (shorts_of l)
        → All (λ (x : Pair). length x.key ≤ 8) (pick t (x ∷ shorts_of l) [])
    go true e h = (leb-true (length x.key) 8 e, h)
    go false e h = tt

abbrev FirstLong : List Pair → Type 0
FirstLong [] = Unit {0}
FirstLong (x ∷ l) = 8 < length x.key

first-long : (g : List Pair) → FirstLong (longs_of g)
unfolding longs_of pick
first-long [] = tt
first-long (x ∷ l) = go (leb (length x.key) 8) refl (first-long l)
  where
    go : (t : Bool) → leb (length x.key) 8 ≡ t → FirstLong (longs_of l) → FirstLong (pick t (longs_of l) (x ∷ l))
    go true e h = h
    go false e h = leb-false (length x.key) 8 e

-- What is known of the first group of an ascending list, as a layer at a depth has it.
pub record GroupFit (m depth : ℕ) (g : List Pair) : Type 0 where
  pub ascend : Ascending g
  pub good : All (Good (suc m) depth) g
  pub one : (k : ℕ) × Of k g

all-bytes : (m depth : ℕ) (g : List Pair) → All (Good m depth) g → All (λ (x : Pair). Bytes x.key) g
all-bytes m depth g h = all_map (Good m depth) (λ (x : Pair). Bytes x.key) (λ x y. y.bytes) g h

module _ (m depth : ℕ) where
  pub group-fit : (ps : List Pair) → Ascending ps → All (Good (suc m) depth) ps → GroupFit m depth (group_of ps)
  group-fit ps a g =
      record {
        ascend = (ascending_split (group_of ps) (behind_group ps) (subst Ascending (sym (group_split ps)) a)).0;
        good = (all_split (Good (suc m) depth) (group_of ps) (behind_group ps) (subst (All (Good (suc m) depth)) (sym (group_split ps)) g)).0;
        one = group_of_lem ps;
      }

  -- a part of a group
  longs-fit : (g : List Pair) → GroupFit m depth g → GroupFit m depth (longs_of g)
  longs-fit g G =
      let s = shorts-longs g in
      record {
        ascend = (ascending_split (shorts_of g) (longs_of g) (subst Ascending (sym s) G.ascend)).1;
        good = (all_split (Good (suc m) depth) (shorts_of g) (longs_of g) (subst (All (Good (suc m) depth)) (sym s) G.good)).1;
        one = (G.one.0, (all_split _ (shorts_of g) (longs_of g) (subst (Of G.one.0) (sym s) G.one.1)).1);
      }

  pub group-few : (sub : List Pair → Node) (g : List Pair) → GroupFit m depth g → size_s (group_slots sub g) ≤ 15
  unfolding group_slots size_s
  group-few sub [] G = omega arith
  group-few sub (x ∷ l) G =
      omega (arith, few-slots sub x l G.ascend (all-bytes (suc m) depth (x ∷ l) G.good) (subst (λ (k : ℕ). Of k l) (sym G.one.1.0) G.one.1.1))

  -- all behind the first long key are long
  from-long : (l : List Pair) → FirstLong l → GroupFit m depth l → (p : List ℕ) × All (Long p) l
  from-long [] h G = ([], tt)
  from-long (x ∷ l) h G = (
    take 8 x.key,
    (
      record { long = h; front = refl },
      longs-behind x l h G.ascend (all-bytes (suc m) depth (x ∷ l) G.good) (subst (λ (k : ℕ). Of k l) (sym G.one.1.0) G.one.1.1),
    ),
  )

  pub longs-long : (g : List Pair) → GroupFit m depth g → (p : List ℕ) × All (Long p) (longs_of g)
  longs-long g G = from-long (longs_of g) (first-long g) (longs-fit g G)

-- THE LAYER BELOW: a further eight bytes less
lowered-below : (d : ℕ) (l : List Pair) → map (lower (d + 1)) l ≡ map below (map (lower d) l)
unfolding below
lowered-below d [] = refl
lowered-below d (x ∷ l) =
    let e : 8 * d + 8 ≡ 8 * (d + 1) = omega arith in
    let k : drop (8 * (d + 1)) x.key ≡ drop 8 (drop (8 * d) x.key) = ap (λ (n : ℕ). drop n x.key) (sym e) ∙ sym (drop-drop 8 (8 * d) x.key) in
    rw (k, lowered-below d l)

pub lines-below : (s : List ℕ) (d line n : ℕ) → lines_at s (d + 1) line n ≡ map below (lines_at s d line n)
unfolding lines_at lowered
lines-below s d line n = lowered-below d (pairs_in n (drop line s))

-- A GROUP THAT WAS FOUND
module _ (s : List ℕ) (m line left : ℕ) (F : Fit s m line left) where
  pub fit_group : GroupFit m (31 - m) (group_of (lines_at s (31 - m) line left))
  fit_group = group-fit m (31 - m) (lines_at s (31 - m) line left) F.ascend F.good

  layers-left : (l : List Pair) → 0 < length l → (p : List ℕ) → All (Long p) l → All (Good (suc m) (31 - m)) l → 0 < m
  layers-left [] h p a b = absurd (omega arith)
  layers-left (x ∷ l) h p a b = omega (arith, a.0.long, b.0.short)

  module _ (g : Group) (G : GroupRead s (31 - m) line left g) where
    pub group-step : 0 < left
        → slots_at s m line left ≡ group_slots (layer_of m) (group_of (lines_at s (31 - m) line left)) ∷ slots_at s m g.behind (left - (g.shorts + g.longs))
    unfolding slots_at
    group-step h =
        rw (groups_of (lines_at s (31 - m) line left) (omega (arith, lines-length s (31 - m) line left F.lines)), G.rest)

    pub fit-rest : Fit s m g.behind (left - (g.shorts + g.longs))
    fit-rest =
        let ps : List Pair = lines_at s (31 - m) line left in
        record {
          deep = F.deep;
          lines = G.rest_lines;
          ascend = rw G.rest (ascending_split (group_of ps) (behind_group ps) (subst Ascending (sym (group_split ps)) F.ascend)).1;
          good =
              rw G.rest (all_split (Good (suc m) (31 - m)) (group_of ps) (behind_group ps)
              (subst (All (Good (suc m) (31 - m))) (sym (group_split ps)) F.good)).1;
        }

    long-fit : GroupFit m (31 - m) (lines_at s (31 - m) g.long_line g.longs)
    long-fit = rw G.longs (longs-fit m (31 - m) (group_of (lines_at s (31 - m) line left)) fit_group)

    all-long : (p : List ℕ) × All (Long p) (lines_at s (31 - m) g.long_line g.longs)
    all-long = rw G.longs (longs-long m (31 - m) (group_of (lines_at s (31 - m) line left)) fit_group)

    long-below : 0 < m → Fit s (m - 1) g.long_line g.longs
    long-below h =
        let l : List Pair = lines_at s (31 - m) g.long_line g.longs in
        let d : 31 - (m - 1) ≡ 31 - m + 1 = omega (arith, F.deep) in
        let n : suc (m - 1) ≡ m = omega arith in
        let e : lines_at s (31 - (m - 1)) g.long_line g.longs ≡ map below l = rw d (lines-below s (31 - m) g.long_line g.longs) in
        record {
          deep = omega (arith, F.deep);
          lines = G.long-lines;
          ascend =
              rw e (below_ascending long-fit.one.0 all-long.0 l long-fit.ascend (all-bytes (suc m) (31 - m) l long-fit.good) long-fit.one.1 all-long.1);
          good = rw (e, n, d) (good-below m (31 - m) all-long.0 l long-fit.good all-long.1);
        }

    pub fit-longs : LongsFit s m g.long_line g.longs
    fit-longs =
        let l : List Pair = lines_at s (31 - m) g.long_line g.longs in
        record {
          deep = F.deep;
          lines = G.long-lines;
          long = all_map (Long all-long.0) (λ (x : Pair). 8 < length x.key) (λ x h. h.long) l all-long.1;
          short = all_map (Good (suc m) (31 - m)) (λ (x : Pair). length x.key ≤ 8 * suc m) (λ x h. h.short) l long-fit.good;
          sub =
              λ n.
              let h : 0 < m = layers-left l (omega (arith, lines-length s (31 - m) g.long_line g.longs G.long-lines)) all-long.0 all-long.1 long-fit.good in
              (h, long-below h);
        }
