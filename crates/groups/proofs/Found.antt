-- A GROUP FOUND, line by line: what is left of a group, from the line reached on, comes to the same as the whole.
use Rattle.std.specs.Prelude.{◌≡◌, ◌∷◌, ◌++◌, ◌+◌, ◌-◌, ◌≤◌, ◌<◌}
use Rattle.base.specs.Kit.{refl, sym, ap, ◌∙◌, Bool, true, false, List, [], append-nil, map, ℕ, suc, arith, add-one, leb, eqb, le-leb, lt-leb, leb-true, leb-false, eq-eqb, ne_eqb, eqb-true, eqb-false, length, length-append, drop, map-append, append_snoc}
use Rattle.base.specs.Pick.{pick}
use Rattle.base.proofs.Choice.{by_test}
use Rattle.key.specs.Ikey.{ikey_of}
use Rattle.layering.specs.Keys.{Pair}
use Rattle.reading.specs.Read.{station}
use Rattle.reading.specs.Pairs.{pairs_in, behind}
use Rattle.reading.specs.CodeViews.{key_at}
use Rattle.building.specs.CodeOrder.{run, behind_run}
use Rattle.groups.specs.declared.Group.{Group}
use Rattle.groups.specs.declared.Lowered.{Lowered}
use Rattle.groups.specs.CodeGroups.{lower, lowered, lines_at, Lines, LoweredRead, group_of, behind_group, shorts_of, longs_of, Fit, GroupRead, grown}
use Rattle.groups.proofs.Lines.{lines-length, lines_more, here, lines-first, fit_next}

-- RUNS, SHORTS AND LONGS, a pair at a time.
pub run_more : (k : ℕ) (x : Pair) (l : List Pair) → ikey_of x.key ≡ k → (run k (x ∷ l) ≡ x ∷ run k l) × (behind_run k (x ∷ l) ≡ behind_run k l)
unfolding run behind_run pick
run_more k x l e = let t = eq-eqb k (ikey_of x.key) (sym e) in (rw t, rw t)

pub run_end : (k : ℕ) (x : Pair) (l : List Pair) → (ikey_of x.key ≡ k → ⊥) → (run k (x ∷ l) ≡ []) × (behind_run k (x ∷ l) ≡ x ∷ l)
unfolding run behind_run pick
run_end k x l e = let t = ne_eqb k (ikey_of x.key) (λ h. e (sym h)) in (rw t, rw t)

pub group-run : (x : Pair) (l : List Pair) → (group_of (x ∷ l) ≡ run (ikey_of x.key) (x ∷ l)) × (behind_group (x ∷ l) ≡ behind_run (ikey_of x.key) (x ∷ l))
unfolding group_of behind_group
group-run x l = let t = run_more (ikey_of x.key) x l refl in (sym t.0, sym t.1)

module _ (x : Pair) (l : List Pair) where
  pub short-more : length x.key ≤ 8 → (shorts_of (x ∷ l) ≡ x ∷ shorts_of l) × (longs_of (x ∷ l) ≡ longs_of l)
  unfolding shorts_of longs_of pick
  short-more h = let t = le-leb (length x.key) 8 h in (rw t, rw t)

  pub long_begins : 8 < length x.key → (shorts_of (x ∷ l) ≡ []) × (longs_of (x ∷ l) ≡ x ∷ l)
  unfolding shorts_of longs_of pick
  long_begins h = let t = lt-leb (length x.key) 8 h in (rw t, rw t)

-- the shorts, and behind them the longs, are the group
pub shorts-longs : (g : List Pair) → shorts_of g ++ longs_of g ≡ g
unfolding shorts_of longs_of pick
shorts-longs [] = refl
shorts-longs (x ∷ l) = go (leb (length x.key) 8) (shorts-longs l)
  where
    go : (t : Bool) → shorts_of l ++ longs_of l ≡ l → pick t (x ∷ shorts_of l) [] ++ pick t (longs_of l) (x ∷ l) ≡ x ∷ l
    go true e = ap (λ (r : List Pair). x ∷ r) e
    go false e = refl

-- WHAT IS LEFT of a group g of which b longs are found.
unfoldable pub shorts_left : ℕ → List Pair → List Pair
shorts_left b g = pick (eqb b 0) (shorts_of g) []

unfoldable pub longs_left : ℕ → List Pair → List Pair
longs_left b g = pick (eqb b 0) (longs_of g) g

none_left : (b : ℕ) → (shorts_left b [] ≡ []) × (longs_left b [] ≡ [])
unfolding shorts_left longs_left shorts_of longs_of pick
none_left b = (go (eqb b 0), go (eqb b 0))
  where
    go : (t : Bool) → pick {A = List Pair} t [] [] ≡ []
    go true = refl
    go false = refl

left-short : (b : ℕ) (x : Pair) (l : List Pair) → b ≡ 0 → length x.key ≤ 8
    → (shorts_left b (x ∷ l) ≡ x ∷ shorts_left 0 l) × (longs_left b (x ∷ l) ≡ longs_left 0 l)
unfolding shorts_left longs_left pick
left-short b x l z h = rw z (short-more x l h)

left-long : (b : ℕ) (x : Pair) (l : List Pair) → (b ≡ 0 → 8 < length x.key)
    → (shorts_left b (x ∷ l) ≡ shorts_left (b + 1) l) × (longs_left b (x ∷ l) ≡ x ∷ longs_left (b + 1) l)
unfolding shorts_left longs_left pick
left-long b x l h =
    rw (ne_eqb (b + 1) 0 (λ z. omega arith)) (by_test (eqb b 0)
    (λ t. rw t (long_begins x l (h (eqb-true b 0 t))))
    (λ f. rw f (refl, refl)))

-- a pair goes from what is left, z, to what is found, a
moved : (a a' z z' w : List Pair) (x : Pair) → a ++ z ≡ w → z ≡ x ∷ z' → a' ≡ a ++ (x ∷ []) → a' ++ z' ≡ w
moved a a' z z' w x h e f = ap (λ (l : List Pair). l ++ z') f ∙ append_snoc a x z' ∙ ap (λ (l : List Pair). a ++ l) (sym e) ∙ h

-- A BLOCK: b lines from a place on, which end at another.
pub record Block (s : List ℕ) (from b to : ℕ) : Type 0 where
  pub lines : Lines s from b
  pub ends : behind b (drop from s) ≡ drop to s

empty_block : (s : List ℕ) (at : ℕ) → at ≤ length s → Block s at 0 at
unfolding pairs_in behind
empty_block s at h = record { lines = record { inside = h; whole = refl }; ends = refl }

module _ (s : List ℕ) (d from b to : ℕ) (r : Lowered) (R : LoweredRead s d to r) (B : Block s from b to) where
  one_more_lem : (pairs_in (b + 1) (drop from s) ≡ pairs_in b (drop from s) ++ (record { key = key_at (drop to s); value = r.value } ∷ []))
      × (behind (b + 1) (drop from s) ≡ drop r.next s)
  one_more_lem =
      rw (add-one b) (lines_more b (drop from s) (record { key = key_at (drop to s); value = r.value }) (drop r.next s)
      (ap station B.ends ∙ R.is))

  block_more : Block s from (b + 1) r.next
  block_more =
      record {
        lines = record {
          inside = B.lines.inside;
          whole =
              omega (
                arith,
                ap length one_more_lem.0,
                length-append (pairs_in b (drop from s)) (record { key = key_at (drop to s); value = r.value } ∷ []),
                B.lines.whole,
              );
        };
        ends = one_more_lem.1;
      }

  block-lines : lines_at s d from (b + 1) ≡ lines_at s d from b ++ (here s d to r ∷ [])
  unfolding lines_at lowered
  block-lines = ap (map (lower d)) one_more_lem.0 ∙ map-append (lower d) (pairs_in b (drop from s)) (record { key = key_at (drop to s); value = r.value } ∷ [])

-- A GROUP OF THE IKEY k SO FAR.
module _ (s : List ℕ) (below line left k : ℕ) where
  abbrev pub all : List Pair
  all = run k (lines_at s (31 - below) line left)

  abbrev pub ahead : Group → List Pair
  ahead g = lines_at s (31 - below) g.behind (left - (g.shorts + g.longs))

  pub record SoFar (g : Group) : Type 0 where
    pub front : Block s line g.shorts g.long_line
    pub back : Block s g.long_line g.longs g.behind
    pub fewer : g.shorts + g.longs ≤ left
    pub fit : Fit s below g.behind (left - (g.shorts + g.longs))
    pub shorts : lines_at s (31 - below) line g.shorts ++ shorts_left g.longs (run k (ahead g)) ≡ shorts_of all
    pub longs : lines_at s (31 - below) g.long_line g.longs ++ longs_left g.longs (run k (ahead g)) ≡ longs_of all
    pub rest : behind_run k (ahead g) ≡ behind_run k (lines_at s (31 - below) line left)

  pub so_far_none : Fit s below line left → SoFar (record { shorts = 0; longs = 0; long_line = line; behind = line })
  unfolding lines_at lowered pairs_in shorts_left longs_left pick
  so_far_none F =
      let e : left - 0 ≡ left = omega arith in
      record {
        front = empty_block s line F.lines.inside;
        back = empty_block s line F.lines.inside;
        fewer = omega arith;
        fit = rw e F;
        shorts = rw e;
        longs = rw e;
        rest = rw e;
      }

  -- one line more, whose ikey is k
  module _ (g : Group) (m : ℕ) (e : left - (g.shorts + g.longs) ≡ suc m) (r : Lowered) (R : LoweredRead s (31 - below) g.behind r) (same : r.ikey ≡ k)
      (G : SoFar g) where
    abbrev x : Pair
    x = here s (31 - below) g.behind r

    abbrev next : List Pair
    next = lines_at s (31 - below) r.next m

    run_is : (run k (ahead g) ≡ x ∷ run k next) × (behind_run k (ahead g) ≡ behind_run k next)
    run_is = rw (e, lines-first s (31 - below) g.behind r R m) (run_more k x next (sym R.ikey ∙ same))

    fit_is : Fit s below r.next m
    fit_is = fit_next s below g.behind m r R (rw e at G.fit)

    -- it is a short
    short_turn : g.longs ≡ 0 → r.len ≤ 8 → SoFar (record { shorts = g.shorts + 1; longs = 0; long_line = r.next; behind = r.next })
    unfolding lines_at lowered pairs_in behind
    short_turn z n =
        let c : left - (g.shorts + 1 + 0) ≡ m = omega arith in
        let t = left-short g.longs x (run k next) z (omega (arith, R.len)) in
        let B : Block s line g.shorts g.behind = record { lines = G.front.lines; ends = G.front.ends ∙ rw z at G.back.ends } in
        record {
          front = block_more s (31 - below) line g.shorts g.behind r R B;
          back = empty_block s r.next R.inside;
          fewer = omega (arith, e, G.fewer);
          fit = rw c fit_is;
          shorts =
              rw c (moved (lines_at s (31 - below) line g.shorts) _ _ (shorts_left 0 (run k next)) _ x G.shorts (ap (shorts_left g.longs) run_is.0 ∙ t.0)
              (block-lines s (31 - below) line g.shorts g.behind r R B));
          longs =
              rw c (sym t.1 ∙ ap (longs_left g.longs) (sym run_is.0)
              ∙ ap (λ (b : ℕ). lines_at s (31 - below) g.long_line b ++ longs_left g.longs (run k (ahead g))) (sym z) ∙ G.longs);
          rest = rw c (sym run_is.1 ∙ G.rest);
        }

    -- it is a long
    long_turn : (g.longs ≡ 0 → 8 < r.len)
        → SoFar (record { shorts = g.shorts; longs = g.longs + 1; long_line = g.long_line; behind = r.next })
    long_turn n =
        let c : left - (g.shorts + (g.longs + 1)) ≡ m = omega arith in
        let t = left-long g.longs x (run k next) (λ z. omega (arith, R.len, n z)) in
        record {
          front = G.front;
          back = block_more s (31 - below) g.long_line g.longs g.behind r R G.back;
          fewer = omega (arith, e, G.fewer);
          fit = rw c fit_is;
          shorts = rw (c, ← t.0, ← run_is.0) G.shorts;
          longs =
              rw c (moved (lines_at s (31 - below) g.long_line g.longs) _ _ (longs_left (g.longs + 1) (run k next)) _ x G.longs (ap (longs_left g.longs) run_is.0 ∙ t.1)
              (block-lines s (31 - below) g.long_line g.longs g.behind r R G.back));
          rest = rw c (sym run_is.1 ∙ G.rest);
        }

    so_far_more : SoFar (grown g r.len r.next)
    unfolding grown pick
    so_far_more =
        by_test (eqb g.longs 0)
        (λ t.
        by_test (leb r.len 8)
        (λ u. rw (t, u) (short_turn (eqb-true g.longs 0 t) (leb-true r.len 8 u)))
        (λ v. rw (t, v) (long_turn (λ z. leb-false r.len 8 v))))
        (λ f. rw f (long_turn (λ z. absurd (eqb-false g.longs 0 f z))))

  pub so_far_next : (g : Group) (r : Lowered) → LoweredRead s (31 - below) g.behind r → r.ikey ≡ k → g.shorts + g.longs < left → SoFar g
      → SoFar (grown g r.len r.next)
  so_far_next g r R same more G = so_far_more g (left - (g.shorts + g.longs) - 1) (omega arith) r R same G

  -- no line more
  so_far_end : (g : Group) (x : Pair) (l : List Pair) → SoFar g → lines_at s (31 - below) line left ≡ x ∷ l → ikey_of x.key ≡ k
      → (run k (ahead g) ≡ []) × (behind_run k (ahead g) ≡ ahead g) → GroupRead s (31 - below) line left g
  so_far_end g x l G f q n =
      let o : (group_of (lines_at s (31 - below) line left) ≡ all) × (behind_group (lines_at s (31 - below) line left) ≡ behind_run k (lines_at s (31 - below) line left)) =
      rw (f, ← q) (group-run x l) in
      let a : lines_at s (31 - below) line g.shorts ≡ shorts_of all =
      sym (append-nil _) ∙ rw (n.0, (none_left g.longs).0) at G.shorts in
      let b : lines_at s (31 - below) g.long_line g.longs ≡ longs_of all =
      sym (append-nil _) ∙ rw (n.0, (none_left g.longs).1) at G.longs in
      record {
        some =
            omega (
              arith,
              ap length (ap (run k) f ∙ (run_more k x l q).0),
              ap length (shorts-longs all),
              length-append (shorts_of all) (longs_of all),
              ap length a,
              ap length b,
              lines-length s (31 - below) line g.shorts G.front.lines,
              lines-length s (31 - below) g.long_line g.longs G.back.lines,
            );
        fewer = G.fewer;
        shorts = rw o.0 a;
        longs = rw o.0 b;
        rest = rw o.1 (sym n.1 ∙ G.rest);
        short-lines = G.front.lines;
        long-lines = G.back.lines;
        rest_lines = G.fit.lines;
      }

-- THE LOOP'S ENDS, where f is the first line: no line is left, or one of another ikey.
module _ (s : List ℕ) (below line left : ℕ) (some : 0 < left) (f : Lowered) (R : LoweredRead s (31 - below) line f)
    (g : Group) (G : SoFar s below line left f.ikey g) where
  ended : (run f.ikey (ahead s below line left f.ikey g) ≡ []) × (behind_run f.ikey (ahead s below line left f.ikey g) ≡ ahead s below line left f.ikey g)
      → GroupRead s (31 - below) line left g
  ended h =
      let e : left ≡ suc (left - 1) = omega arith in
      so_far_end s below line left f.ikey g (here s (31 - below) line f) (lines_at s (31 - below) f.next (left - 1)) G
      (ap (lines_at s (31 - below) line) e ∙ lines-first s (31 - below) line f R (left - 1)) (sym R.ikey) h

  pub group_whole : left ≤ g.shorts + g.longs → GroupRead s (31 - below) line left g
  unfolding lines_at lowered pairs_in run behind_run
  group_whole h = let e : left - (g.shorts + g.longs) ≡ 0 = omega arith in ended (rw e (refl, refl))

  pub group_cut : (r : Lowered) → LoweredRead s (31 - below) g.behind r → g.shorts + g.longs < left → (r.ikey ≡ f.ikey → ⊥)
      → GroupRead s (31 - below) line left g
  group_cut r Q h d =
      let m : ℕ = left - (g.shorts + g.longs) - 1 in
      let e : left - (g.shorts + g.longs) ≡ suc m = omega arith in
      ended (rw (e, lines-first s (31 - below) g.behind r Q m)
      (run_end f.ikey (here s (31 - below) g.behind r) (lines_at s (31 - below) r.next m) (λ z. d (Q.ikey ∙ z))))

pub grown_one : (g : Group) (len next : ℕ) → (grown g len next).shorts + (grown g len next).longs ≡ g.shorts + g.longs + 1
unfolding grown pick
grown_one g len next =
    by_test (eqb g.longs 0)
    (λ t. by_test (leb len 8) (λ u. rw (t, u) (omega (arith, eqb-true g.longs 0 t))) (λ v. rw (t, v) (omega arith)))
    (λ f. rw f (omega arith))
