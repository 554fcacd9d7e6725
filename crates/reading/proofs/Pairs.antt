-- The pairs of the lines from a place on: the first of them, as `station_at` reads it; a run of lines in two parts; and those of a sheet.
use Rattle.std.specs.Prelude.{◌≡◌, ◌∷◌, ◌++◌, ◌+◌, ◌-◌, ◌≤◌, ◌<◌, Option, None, Some, Result, Ok, Err}
use Rattle.std.specs.Option.{is_some}
use Rattle.base.specs.Kit.{refl, sym, ap, subst, ◌∙◌, true, List, [], ℕ, zero, suc, arith, zero-add, length, length-append, take, drop, drop_at, sets, sets-eq, take_at}
use Rattle.base.specs.declared.Decline.{Decline}
use Rattle.layering.specs.Keys.{Pair}
use Rattle.sheet.specs.Sheet.{first_line}
use Rattle.reading.specs.Form.{Sheet}
use Rattle.reading.specs.Read.{Got, none, got, next, station, stations, read_head, read_end, body}
use Rattle.reading.specs.Pairs.{cons_if, pairs_in, rest_if, behind}
use Rattle.reading.specs.Fault.{read_sheet}
use Rattle.reading.specs.Opened.{opened}
use Rattle.reading.specs.CodeViews.{key_at, StationRead}
use Rattle.reading.specs.declared.Line.{Line}
use Rattle.reading.specs.declared.Opened.{Opened}
use Rattle.reading.proofs.Gets.{next-then, got_same}
use Rattle.reading.proofs.Sheets.{head-text, body-text, formed-sheet}

-- a key that fits stands whole at the front of its buffer
pub stored-whole : (k buf : List ℕ) → length k ≤ length buf → take (length k) (sets buf 0 k) ≡ k
stored-whole k buf h = ap (take (length k)) (sets-eq k buf 0 (omega arith)) ∙ take_at k (drop (0 + length k) buf) (length k) refl

-- THE LINE AT A PLACE, as the code reads it.
module _ (s : List ℕ) (at : ℕ) (buf buf' : List ℕ) where
  module _ (R : StationRead s at buf buf' None) where
    pub line-none : station (drop at s) ≡ none
    line-none = sym R.seen

    pub pairs-none : (n : ℕ) → pairs_in (suc n) (drop at s) ≡ []
    unfolding pairs_in cons_if
    pairs-none n = rw line-none

  module _ (r : Line) (R : StationRead s at buf buf' (Some r)) where
    pub line-got : station (drop at s) ≡ got (record { key = key_at (drop at s); value = r.value }) (drop r.next s)
    line-got = sym R.seen

    pub behind_more : (n : ℕ) → behind (suc n) (drop at s) ≡ behind n (drop r.next s)
    unfolding behind rest_if
    behind_more n = rw line-got

    pub pairs-more : (n : ℕ) → pairs_in (suc n) (drop at s) ≡ record { key = key_at (drop at s); value = r.value } ∷ pairs_in n (drop r.next s)
    unfolding pairs_in cons_if
    pairs-more n = rw line-got

-- What is known of the first of n lines that are all there.
pub record FirstLine (s : List ℕ) (at n : ℕ) (r : Line) : Type 0 where
  pub pairs : pairs_in n (drop at s) ≡ record { key = key_at (drop at s); value = r.value } ∷ pairs_in (n - 1) (drop r.next s)
  pub rest : length (pairs_in (n - 1) (drop r.next s)) ≡ n - 1
  pub len : r.key_len ≡ length (key_at (drop at s))
  pub on : at < r.next
  pub inside : r.next ≤ length s

-- It is there.
pub station-some : (s : List ℕ) (at n : ℕ) (buf buf' : List ℕ) (r : Option Line) → 0 < n → length (pairs_in n (drop at s)) ≡ n
    → StationRead s at buf buf' r → is_some r ≡ true
station-some s at zero buf buf' r h e R = absurd (omega arith)
station-some s at (suc n) buf buf' None h e R = absurd (omega (arith, ap length (pairs-none s at buf buf' R n)))
station-some s at (suc n) buf buf' (Some r) h e R = refl

pub station-first : (s : List ℕ) (at n : ℕ) (buf buf' : List ℕ) (r : Line) → 0 < n → length (pairs_in n (drop at s)) ≡ n
    → StationRead s at buf buf' (Some r) → FirstLine s at n r
station-first s at zero buf buf' r h e R = absurd (omega arith)
station-first s at (suc n) buf buf' r h e R =
    let p = pairs-more s at buf buf' r R n in
    let z : suc n - 1 ≡ n = omega arith in
    record { pairs = rw z p; rest = rw z (omega (arith, ap length p)); len = R.found.0; on = R.found.1; inside = R.found.2 }

-- FEWER LINES are the first of more; a run of lines that are all there, in two parts.
cons_take : (a n : ℕ) (g : Got Pair) → ((r : List ℕ) → pairs_in a r ≡ take a (pairs_in n r)) → cons_if g (pairs_in a) ≡ take (suc a) (cons_if g (pairs_in n))
unfolding cons_if
cons_take a n none f = refl
cons_take a n (got x r) f = ap (λ (l : List Pair). x ∷ l) (f r)

pub pairs-take : (a n : ℕ) (s : List ℕ) → a ≤ n → pairs_in a s ≡ take a (pairs_in n s)
unfolding pairs_in
pairs-take zero n s h = refl
pairs-take (suc a) zero s h = absurd (omega arith)
pairs-take (suc a) (suc n) s h = cons_take a n (station s) (λ r. pairs-take a n r (omega arith))

abbrev Split : ℕ → ℕ → List Pair → List Pair → List Pair → Type 0
Split a b whole front back = (whole ≡ front ++ back) × (length front ≡ a) × (length back ≡ b)

cons_split : (a b : ℕ) (s : List ℕ) (g : Got Pair)
    → ((r : List ℕ) → length (pairs_in (a + b) r) ≡ a + b → Split a b (pairs_in (a + b) r) (pairs_in a r) (pairs_in b (behind a r)))
    → length (cons_if g (pairs_in (a + b))) ≡ suc (a + b)
    → Split (suc a) b (cons_if g (pairs_in (a + b))) (cons_if g (pairs_in a)) (pairs_in b (rest_if s g (behind a)))
unfolding cons_if rest_if
cons_split a b s none f h = absurd (omega arith)
cons_split a b s (got x r) f h =
    let k = f r (omega arith) in
    (ap (λ (l : List Pair). x ∷ l) k.0, ap suc k.1, k.2)

pub pairs_split : (a b : ℕ) (s : List ℕ) → length (pairs_in (a + b) s) ≡ a + b
    → (pairs_in (a + b) s ≡ pairs_in a s ++ pairs_in b (behind a s)) × (length (pairs_in a s) ≡ a) × (length (pairs_in b (behind a s)) ≡ b)
unfolding pairs_in behind
pairs_split zero b s h = (rw (zero-add b), refl, rw (← zero-add b) h)
pairs_split (suc a) b s h =
    let e : suc a + b ≡ suc (a + b) = omega arith in
    rw e (cons_split a b s (station s) (pairs_split a b) (rw e at h))

-- THE LINES OF A SHEET.
stations-pairs : (n : ℕ) (s : List ℕ) (xs : List Pair) (r : List ℕ) → stations n s ≡ got xs r → (pairs_in n s ≡ xs) × (behind n s ≡ r)
unfolding stations pairs_in cons_if behind rest_if
stations-pairs zero s xs r g = got_same (λ xs r. ([] ≡ xs) × (s ≡ r)) g (refl, refl)
stations-pairs (suc n) s xs r g =
    next-then (station s) _ g λ x s₁ gx g₁.
    next-then (stations n s₁) _ g₁ λ ys s₂ gy g₂.
    let k = stations-pairs n s₁ ys s₂ gy in
    got_same (λ xs r. (pairs_in (suc n) s ≡ xs) × (behind (suc n) s ≡ r)) g₂ (rw (gx, k.0), rw (gx, k.1))

body-pairs : (n : ℕ) (s : List ℕ) {x : Sheet} {r : List ℕ} → body n s ≡ got x r → pairs_in n s ≡ x.pairs
unfolding body
body-pairs n s g =
    next-then (stations n s) _ g λ xs s₁ gx g₁.
    next-then (read_end s₁) _ g₁ λ m s₂ gm g₂.
    got_same (λ x r. pairs_in n s ≡ x.pairs) g₂ (stations-pairs n s xs s₁ gx).0

module _ (s : List ℕ) (x : Sheet) (g : read_sheet s ≡ Ok x) where
  lines : (pairs_in (length x.pairs) (drop (length (first_line (length x.pairs))) s) ≡ x.pairs)
      × (length (first_line (length x.pairs)) ≤ length s)
  unfolding read_sheet
  lines =
      let o = formed-sheet (next (read_head s) body) g in
      next-then (read_head s) body o.1 λ n r gn gb.
      let h = head-text s gn in
      let c : n ≡ length x.pairs = (body-text n r gb).2 in
      let e : drop (length (first_line n)) s ≡ r = ap (drop (length (first_line n))) h.0 ∙ drop_at (first_line n) r (length (first_line n)) refl in
      let p : pairs_in n (drop (length (first_line n)) s) ≡ x.pairs = rw e (body-pairs n r gb) in
      let l : length (first_line n) ≤ length s = omega (arith, ap length h.0, length-append (first_line n) r) in
      subst (λ (m : ℕ). (pairs_in m (drop (length (first_line m)) s) ≡ x.pairs) × (length (first_line m) ≤ length s)) c (p, l)

  pub read_pairs : pairs_in (length x.pairs) (drop (length (first_line (length x.pairs))) s) ≡ x.pairs
  read_pairs = lines.0

-- WHAT `read_sheet` SAYS of a sheet: its lines' number and where they start.
pub record SheetOpened (s : List ℕ) (r : Opened) (x : Sheet) : Type 0 where
  pub is : read_sheet s ≡ Ok x
  pub count : r.count ≡ length x.pairs
  pub pairs : pairs_in r.count (drop r.line s) ≡ x.pairs
  pub line : r.line ≤ length s

pub opened-sheet : (s : List ℕ) (r : Opened) → Ok r ≡ opened (read_sheet s) → (x : Sheet) × SheetOpened s r x
unfolding opened read_sheet
opened-sheet s r e = go (read_sheet s) refl e
  where
    go : (a : Result Sheet Decline) → read_sheet s ≡ a → Ok r ≡ opened a → (x : Sheet) × SheetOpened s r x
    go (Err d) g h = let z : ◌≡◌ {A = Result Opened Decline} (Ok r) (Err d) = h in cc
    go (Ok x) g h =
        let o : r ≡ record { count = length x.pairs; line = length (first_line (length x.pairs)) } = cc in
        (x, record { is = g; count = rw o; pairs = rw o (read_pairs s x g); line = rw o (lines s x g).1 })

pub opened-declined : (a : Result Sheet Decline) (d : Decline) → Err d ≡ opened a → a ≡ Err d
unfolding opened
opened-declined (Err q) d h = let z : ◌≡◌ {A = Result Opened Decline} (Err d) (Err q) = h in cc
opened-declined (Ok x) d h = let z : ◌≡◌ {A = Result Opened Decline} (Err d) (Ok (record { count = length x.pairs; line = length (first_line (length x.pairs)) })) = h in cc
