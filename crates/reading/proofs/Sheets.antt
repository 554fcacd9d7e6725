-- THE READER IS THE INVERSE OF THE TEXT.
use Rattle.std.specs.Prelude.{◌≡◌, ◌∷◌, ◌++◌, ◌<◌, ◌^◌, Result, Ok, Err}
use Rattle.base.specs.Kit.{refl, ap, ap₂, sym, ◌∙◌, true, List, [], append_assoc, append-nil, ℕ, zero, suc, length}
use Rattle.base.specs.declared.Decline.{Decline}
use Rattle.base.specs.declared.Decline.TheVariants.{SheetForm, SheetOrder}
use Rattle.base.proofs.Choice.{pick_ind}
use Rattle.layering.specs.Keys.{Pair}
use Rattle.layering.specs.Ascending.{All}
use Rattle.sheet.specs.Sheet.{decimal, hex_key, first_line, pair_line, pair_lines, last_line}
use Rattle.sheet.specs.Sheet as listing
use Rattle.reading.specs.Form.{Sheet, text}
use Rattle.reading.specs.Good.{GoodPair, Good}
use Rattle.reading.specs.Read.{Got, none, got, next, word_number, read_key, station, stations, first_word, end_word, read_head, nothing_behind, read_end, body}
use Rattle.reading.specs.Fault.{keys_rise, judged, formed, read_sheet}
use Rattle.reading.proofs.Gets.{none-got, next-then, got_same}
use Rattle.reading.proofs.Numbers.{word_number-text, word_number_of}
use Rattle.reading.proofs.Keys.{read_key-text, read_key_of}

-- A STATION.
station_joined : (k : List ℕ) (v : ℕ) (r : List ℕ) {s s₁ : List ℕ} → s ≡ hex_key k ++ s₁ → s₁ ≡ ((32 ∷ []) ++ decimal v ++ (10 ∷ [])) ++ r
    → s ≡ pair_line (record { key = k; value = v }) ++ r
unfolding pair_line
station_joined k v r h h₁ = rw (h, h₁) (simp append_assoc)

pub station-text : (s : List ℕ) {x : Pair} {r : List ℕ} → station s ≡ got x r → (s ≡ pair_line x ++ r) × GoodPair x
unfolding station
station-text s g =
    next-then (read_key s) _ g λ k s₁ gk g₁.
    next-then (word_number (32 ∷ []) s₁) _ g₁ λ v s₂ gv g₂.
    let key = read_key-text s gk in
    let num = word_number-text (32 ∷ []) s₁ gv in
    got_same (λ x r. (s ≡ pair_line x ++ r) × GoodPair x) g₂
    (station_joined k v s₂ key.0 num.0, record { bytes = key.1; small = num.1 })

pub station_of : (x : Pair) (r : List ℕ) → GoodPair x → station (pair_line x ++ r) ≡ got x r
unfolding station pair_line next
station_of x r h =
    let line = ((32 ∷ []) ++ decimal x.value ++ (10 ∷ [])) ++ r in
    let split : (hex_key x.key ++ (32 ∷ []) ++ decimal x.value ++ (10 ∷ [])) ++ r ≡ hex_key x.key ++ line = simp append_assoc in
    let key : read_key (hex_key x.key ++ line) ≡ got x.key line = read_key_of x.key _ h.bytes in
    rw (split, key, word_number_of (32 ∷ []) x.value r h.small)

-- THE STATIONS, as many as the first line says.
pub stations-text : (n : ℕ) (s : List ℕ) (xs : List Pair) (r : List ℕ) → stations n s ≡ got xs r
    → (s ≡ pair_lines xs ++ r) × All GoodPair xs × (n ≡ length xs)
unfolding stations pair_lines
stations-text zero s xs r g =
    got_same (λ xs r. (s ≡ pair_lines xs ++ r) × All GoodPair xs × (0 ≡ length xs)) g (refl, tt, refl)
stations-text (suc n) s xs r g =
    next-then (station s) _ g λ x s₁ gx g₁.
    next-then (stations n s₁) _ g₁ λ ys s₂ gy g₂.
    let one = station-text s gx in
    let rest = stations-text n s₁ ys s₂ gy in
    got_same (λ xs r. (s ≡ pair_lines xs ++ r) × All GoodPair xs × (suc n ≡ length xs)) g₂ (
      one.0 ∙ ap (λ (l : List ℕ). pair_line x ++ l) rest.0 ∙ sym (append_assoc (pair_line x) (pair_lines ys) s₂),
      (one.1, rest.1),
      ap suc rest.2,
    )

stations_of : (xs : List Pair) (r : List ℕ) → All GoodPair xs → stations (length xs) (pair_lines xs ++ r) ≡ got xs r
unfolding stations pair_lines next
stations_of [] r h = refl
stations_of (x ∷ xs) r h =
    rw (append_assoc (pair_line x) (pair_lines xs) r, station_of x (pair_lines xs ++ r) h.0, stations_of xs r h.1)

-- THE FIRST LINE AND THE LAST.
pub head-text : (s : List ℕ) {n : ℕ} {r : List ℕ} → read_head s ≡ got n r → (s ≡ first_line n ++ r) × (n < 2 ^ 64)
unfolding read_head first_word
head-text s g = word_number-text first_word s g

head_of : (n : ℕ) (r : List ℕ) → n < 2 ^ 64 → read_head (first_line n ++ r) ≡ got n r
unfolding read_head first_word
head_of n r h = word_number_of first_word n r h

nothing-got : {y : ℕ} {r : List ℕ} (m : ℕ) (s : List ℕ) → nothing_behind m s ≡ got y r → (s ≡ []) × (m ≡ y)
unfolding nothing_behind
nothing-got {y} {r} m [] e = let same : got m [] ≡ got y r = e in let n : m ≡ y = cc in (refl, n)
nothing-got m (b ∷ s) e = absurd (none-got e)

end-text : (s : List ℕ) {y : ℕ} {r : List ℕ} → read_end s ≡ got y r → (s ≡ last_line y) × (y < 2 ^ 64)
unfolding read_end end_word
end-text s {y} g =
    next-then (word_number end_word s) _ g λ m s₁ gm g₁.
    let a = word_number-text end_word s gm in
    let z = nothing-got m s₁ g₁ in
    let f : s ≡ last_line m = a.0 ∙ ap (λ (l : List ℕ). last_line m ++ l) z.0 ∙ append-nil (last_line m) in
    (rw z.1 at f, rw z.1 at a.1)

end_of : (m : ℕ) → m < 2 ^ 64 → read_end (last_line m) ≡ got m []
unfolding read_end end_word next nothing_behind
end_of m h =
    let e : last_line m ≡ last_line m ++ [] = sym (append-nil (last_line m)) in
    rw (e, word_number_of end_word m [] h)

-- WHAT FOLLOWS THE FIRST LINE.
pub body-text : (n : ℕ) (s : List ℕ) {x : Sheet} {r : List ℕ} → body n s ≡ got x r
    → (s ≡ pair_lines x.pairs ++ last_line x.figure) × All GoodPair x.pairs × (n ≡ length x.pairs) × (x.figure < 2 ^ 64)
unfolding body
body-text n s g =
    next-then (stations n s) _ g λ xs s₁ gx g₁.
    next-then (read_end s₁) _ g₁ λ m s₂ gm g₂.
    let a = stations-text n s xs s₁ gx in
    let b = end-text s₁ gm in
    got_same (λ x r. (s ≡ pair_lines x.pairs ++ last_line x.figure) × All GoodPair x.pairs × (n ≡ length x.pairs) × (x.figure < 2 ^ 64)) g₂
    (a.0 ∙ ap (λ (l : List ℕ). pair_lines xs ++ l) b.0, a.1, a.2, b.1)

body_of : (x : Sheet) → Good x → body (length x.pairs) (pair_lines x.pairs ++ last_line x.figure) ≡ got x []
unfolding body next
body_of x h = rw (stations_of x.pairs (last_line x.figure) h.pairs, end_of x.figure h.figure)

-- THE WHOLE SHEET: its text is its first line and what follows it.
unfoldable after_head : Sheet → List ℕ
after_head x = pair_lines x.pairs ++ last_line x.figure

text_split : (x : Sheet) → text x ≡ first_line (length x.pairs) ++ after_head x
unfolding text listing.sheet after_head
text_split x = append_assoc (first_line (length x.pairs)) (pair_lines x.pairs) (last_line x.figure)

whole : (x : Sheet) → Good x → next (read_head (text x)) body ≡ got x []
unfolding next after_head
whole x h = rw (text_split x, head_of (length x.pairs) (after_head x) h.count) (body_of x h)

module _ {x : Sheet} where
  pub fault-sheet : (d : Decline) → ◌≡◌ {A = Result Sheet Decline} (Err d) (Ok x) → ⊥
  fault-sheet d g = cc

  judged-sheet : (y : Sheet) → judged y ≡ Ok x → (y ≡ x) × (keys_rise y.pairs ≡ true)
  unfolding judged
  judged-sheet y =
      pick_ind (λ (a : Result Sheet Decline). a ≡ Ok x → (y ≡ x) × (keys_rise y.pairs ≡ true)) (keys_rise y.pairs)
      (λ t g. let n : y ≡ x = cc in (n, t))
      (λ f g. absurd (fault-sheet SheetOrder g))

  pub formed-sheet : (g : Got Sheet) → formed g ≡ Ok x → (r : List ℕ) × (g ≡ got x r) × (keys_rise x.pairs ≡ true)
  unfolding formed
  formed-sheet none h = absurd (fault-sheet SheetForm h)
  formed-sheet (got y r) h =
      let j = judged-sheet y h in
      (r, ap (λ (z : Sheet). got z r) j.0, rw j.0 at j.1)

-- What is said of a sheet that is read from s.
pub record Said (s : List ℕ) (x : Sheet) : Type 0 where
  pub text : s ≡ text x
  pub good : Good x
  pub rise : keys_rise x.pairs ≡ true

-- WHAT IS READ HAS THE TEXT THAT IT WAS READ FROM.
pub read-text : (s : List ℕ) (x : Sheet) → read_sheet s ≡ Ok x → Said s x
unfolding read_sheet after_head
read-text s x g =
    let o = formed-sheet (next (read_head s) body) g in
    next-then (read_head s) body o.1 λ n r gn gb.
    let h = head-text s gn in
    let b = body-text n r gb in
    record {
      text = h.0 ∙ ap₂ (λ (m : ℕ) (q : List ℕ). first_line m ++ q) b.2 b.0 ∙ sym (text_split x);
      good = record { pairs = b.1; count = rw b.2 at h.1; figure = b.3 };
      rise = o.2;
    }

-- THE TEXT OF A SHEET IS READ: as that sheet, or as 32 where its keys do not rise.
pub text_read : (x : Sheet) → Good x → read_sheet (text x) ≡ judged x
unfolding read_sheet formed
text_read x h = rw (whole x h)

-- ONE TEXT, ONE SHEET.
pub one-sheet : (x y : Sheet) → Good x → Good y → text x ≡ text y → x ≡ y
one-sheet x y g h t =
    let same : got x [] ≡ got y [] = sym (whole x g) ∙ ap (λ (s : List ℕ). next (read_head s) body) t ∙ whole y h in
    cc same

-- 31: no sheet has this text.
pub no-sheet : (s : List ℕ) → read_sheet s ≡ Err SheetForm → (x : Sheet) → Good x → s ≡ text x → ⊥
unfolding judged
no-sheet s e x g t =
    let h : judged x ≡ Err SheetForm = sym (text_read x g) ∙ ap read_sheet (sym t) ∙ e in
    pick_ind (λ (a : Result Sheet Decline). a ≡ Err SheetForm → ⊥) (keys_rise x.pairs)
    (λ y k. fault-sheet SheetForm (sym k))
    (λ n k. cc) h
