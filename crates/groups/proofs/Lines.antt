-- LINES of a sheet, one after the other: the first of some and the others; one more behind some. What a layer is given, without its
-- first line, is what a layer may be given.
use Rattle.std.specs.Prelude.{◌≡◌, ◌∷◌, ◌++◌, ◌*◌, ◌-◌, ◌≤◌, ◌<◌}
use Rattle.base.specs.Kit.{refl, sym, ap, subst, ◌∙◌, List, [], map, ℕ, zero, suc, arith, length, drop, length-drop, length-map}
use Rattle.layering.specs.Keys.{Pair}
use Rattle.layering.specs.Ascending.{All, Ascending}
use Rattle.layering.proofs.Row.{all_map}
use Rattle.reading.specs.Read.{Got, none, got, station}
use Rattle.reading.specs.Pairs.{cons_if, pairs_in, rest_if, behind}
use Rattle.reading.specs.CodeViews.{key_at}
use Rattle.building.specs.CodeGood.{Good}
use Rattle.groups.specs.declared.Lowered.{Lowered}
use Rattle.groups.specs.CodeGroups.{lower, lowered, lines_at, Lines, OneLine, LoweredRead, Fit}

pub lines-length : (s : List ℕ) (d line n : ℕ) → Lines s line n → length (lines_at s d line n) ≡ n
unfolding lines_at lowered
lines-length s d line n h = length-map (pairs_in n (drop line s)) (lower d) ∙ h.whole

-- ONE MORE LINE, x, behind b lines of a text.
cons-more : (b : ℕ) (t : List ℕ) (g : Got Pair) (x : Pair) (u : List ℕ)
    → ((r : List ℕ) → station (behind b r) ≡ got x u → (pairs_in (suc b) r ≡ pairs_in b r ++ (x ∷ [])) × (behind (suc b) r ≡ u))
    → station t ≡ g → station (rest_if t g (behind b)) ≡ got x u
    → (cons_if g (pairs_in (suc b)) ≡ cons_if g (pairs_in b) ++ (x ∷ [])) × (rest_if t g (behind (suc b)) ≡ u)
unfolding cons_if rest_if
cons-more b t none x u f e h = let z : none ≡ got x u = sym e ∙ h in absurd (let y : ◌≡◌ {A = ℕ} 0 1 = cc in omega arith)
cons-more b t (got y r) x u f e h = let k = f r h in (ap (λ (l : List Pair). y ∷ l) k.0, k.1)

pub lines_more : (b : ℕ) (t : List ℕ) (x : Pair) (u : List ℕ) → station (behind b t) ≡ got x u
    → (pairs_in (suc b) t ≡ pairs_in b t ++ (x ∷ [])) × (behind (suc b) t ≡ u)
unfolding pairs_in behind cons_if rest_if
lines_more zero t x u h = (rw h, rw h)
lines_more (suc b) t x u h = cons-more b t (station t) x u (λ r. lines_more b r x u) refl h

-- THE FIRST LINE of some, as it was read.
abbrev pub here : List ℕ → ℕ → ℕ → Lowered → Pair
here s d line r = lower d (record { key = key_at (drop line s); value = r.value })

module _ (s : List ℕ) (d line : ℕ) (r : Lowered) (R : LoweredRead s d line r) where
  pub pairs_first : (n : ℕ) → pairs_in (suc n) (drop line s) ≡ record { key = key_at (drop line s); value = r.value } ∷ pairs_in n (drop r.next s)
  unfolding pairs_in cons_if
  pairs_first n = rw R.is

  pub lines-first : (n : ℕ) → lines_at s d line (suc n) ≡ here s d line r ∷ lines_at s d r.next n
  unfolding lines_at lowered
  lines-first n = ap (map (lower d)) (pairs_first n)

  pub lines_rest : (n : ℕ) → Lines s line (suc n) → Lines s r.next n
  lines_rest n h = record { inside = R.inside; whole = omega (arith, h.whole, ap length (pairs_first n)) }

pub fit_next : (s : List ℕ) (below line n : ℕ) (r : Lowered) → LoweredRead s (31 - below) line r → Fit s below line (suc n) → Fit s below r.next n
unfolding Ascending
fit_next s below line n r R F =
    let e = lines-first s (31 - below) line r R n in
    record {
      deep = F.deep;
      lines = lines_rest s (31 - below) line r R n F.lines;
      ascend = (subst Ascending e F.ascend).1;
      good = (subst (All (Good (suc below) (31 - below))) e F.good).1;
    }

-- A LINE THAT CAN BE READ: its key fits a buffer.
first_short : (d : ℕ) (g : Got Pair) (n : ℕ) → d ≤ 31 → length (cons_if g (pairs_in n)) ≡ suc n
    → All (λ (x : Pair). length x.key ≤ 256 - 8 * d) (map (lower d) (cons_if g (pairs_in n)))
    → (length (cons_if g (pairs_in 0)) ≡ 1) × All (λ (x : Pair). length x.key ≤ 256) (cons_if g (pairs_in 0))
unfolding cons_if pairs_in
first_short d none n h e a = absurd (omega arith)
first_short d (got x r) n h e a = (refl, (omega (arith, a.0, length-drop (8 * d) x.key), tt))

pub one_line : (s : List ℕ) (d line n : ℕ) → d ≤ 31 → 0 < n → Lines s line n → All (λ (x : Pair). length x.key ≤ 256 - 8 * d) (lines_at s d line n)
    → OneLine s line
unfolding lines_at lowered pairs_in
one_line s d line zero h k l a = absurd (omega arith)
one_line s d line (suc n) h k l a =
    let t = first_short d (station (drop line s)) n h l.whole a in
    record { whole = t.0; short = t.1 }

pub fit_line : (s : List ℕ) (below line left : ℕ) → Fit s below line left → 0 < left → OneLine s line
fit_line s below line left F h =
    one_line s (31 - below) line left (omega arith) h F.lines
    (all_map (Good (suc below) (31 - below)) _ (λ x g. omega (arith, g.short, F.deep)) (lines_at s (31 - below) line left) F.good)
