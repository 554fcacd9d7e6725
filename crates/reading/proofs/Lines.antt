-- A line and its parts: one law for each way out of the code that reads it.
use Rattle.std.specs.Prelude.{◌≡◌, ◌∷◌, ◌++◌, ◌+◌, ◌*◌, ◌-◌, ◌<◌, ◌≤◌, None, Some}
use Rattle.base.specs.Kit.{refl, ap, sym, ◌∙◌, drop_at, Bool, true, false, false≢true, max, List, [], append_assoc, ℕ, arith, eqb, length, drop, take, drop_of_length-le, length-drop, length-append, drop-drop, take_at}
use Rattle.base.specs.Pick.{pick}
use Rattle.base.proofs.Choice.{pick_ind}
use Rattle.layering.specs.Keys.{Pair}
use Rattle.sheet.specs.Sheet.{decimal, hex_key, pair_line}
use Rattle.sheet.proofs.Hex.{hex_bytes_length}
use Rattle.reading.specs.Read.{Got, none, got, next, after, number, word_number, key_bytes, some_key, read_key, station, end_word, nothing_behind, read_end}
use Rattle.reading.specs.CodeViews.{word_at, key_at, RunRead, KeyRead, StationRead}
use Rattle.reading.specs.declared.Found.{Found}
use Rattle.reading.proofs.Gets.{after_word, after_word-not}
use Rattle.reading.proofs.Sheets.{station-text}

-- A WORD, A DECIMAL AND THE LINE'S END.
abbrev ended : ℕ → List ℕ → Got ℕ
ended n s₂ = after (10 ∷ []) s₂ (λ s₃. got n s₃)

abbrev figured : List ℕ → Got ℕ
figured s₁ = next (number s₁) ended

module _ (w s : List ℕ) where
  pub no_word : word_at w s ≡ false → none ≡ word_number w s
  unfolding word_number
  no_word e = sym (after_word-not w s figured e)

  module _ (e : word_at w s ≡ true) where
    worded : word_number w s ≡ figured (drop (length w) s)
    unfolding word_number
    worded = (after_word w s figured e).0

    pub no-figure : none ≡ number (drop (length w) s) → none ≡ word_number w s
    unfolding next
    no-figure M = sym (worded ∙ rw (sym M))

    module _ (m : ℕ) (r : List ℕ) (M : got m r ≡ number (drop (length w) s)) where
      figure_there : word_number w s ≡ ended m r
      unfolding next
      figure_there = worded ∙ rw (sym M)

      pub no_newline : word_at (10 ∷ []) r ≡ false → none ≡ word_number w s
      no_newline n = sym (figure_there ∙ after_word-not (10 ∷ []) r _ n)

      pub line_there : word_at (10 ∷ []) r ≡ true → got m (drop 1 r) ≡ word_number w s
      line_there n = sym (figure_there ∙ (after_word (10 ∷ []) r (λ s₃. got m s₃) n).0)

-- THE END LINE.
module _ (s : List ℕ) where
  pub end_none : none ≡ word_number end_word s → none ≡ read_end s
  unfolding read_end next
  end_none M = rw (sym M)

  module _ (m : ℕ) (r : List ℕ) (M : got m r ≡ word_number end_word s) where
    ends : read_end s ≡ nothing_behind m r
    unfolding read_end next
    ends = rw (sym M)

    pub end_more : (length r ≡ 0 → ⊥) → none ≡ read_end s
    unfolding nothing_behind
    end_more h = sym (ends ∙ go r h)
      where
        go : (r : List ℕ) → (length r ≡ 0 → ⊥) → nothing_behind m r ≡ none
        go [] h = absurd (h refl)
        go (b ∷ r) h = refl

    pub end-last : length r ≡ 0 → got m r ≡ read_end s
    unfolding nothing_behind
    end-last h = sym (ends ∙ go r h)
      where
        go : (r : List ℕ) → length r ≡ 0 → nothing_behind m r ≡ got m r
        go [] h = refl
        go (b ∷ r) h = absurd (omega arith)

-- A KEY.
some-none : (k r : List ℕ) → length k ≡ 0 → some_key k r ≡ none
unfolding some_key
some-none [] r h = refl
some-none (b ∷ k) r h = absurd (omega arith)

some-some : (k r : List ℕ) → (length k ≡ 0 → ⊥) → some_key k r ≡ got k r
unfolding some_key
some-some [] r h = absurd (h refl)
some-some (b ∷ k) r h = refl

dash : (b : ℕ) (s : List ℕ) (t : Bool) → word_at (45 ∷ []) (b ∷ s) ≡ t → eqb b 45 ≡ t
unfolding word_at
dash b s t = pick_ind (λ (u : Bool). u ≡ t → eqb b 45 ≡ t) (eqb b 45) (λ y e. y ∙ e) (λ n e. n ∙ e)

pub key_dash : (s buf : List ℕ) → word_at (45 ∷ []) s ≡ true → (r : Found ℕ) → r.value ≡ 0 → r.rest.now ≡ drop 1 s → KeyRead s buf buf (Some r)
unfolding key_at read_key word_at pick
key_dash [] buf d r z e = absurd (false≢true d)
key_dash (b ∷ s) buf d r z e = let t = dash b s true d in record { seen = rw (t, e); len = rw (t, z); kept = rw t }

module _ (s buf buf' : List ℕ) (d : word_at (45 ∷ []) s ≡ false) (r : Found ℕ) (R : RunRead s buf buf' r) where
  key-run : key_at s ≡ (key_bytes s).key
  unfolding key_at key_bytes pick
  key-run = go s d
    where
      go : (s : List ℕ) → word_at (45 ∷ []) s ≡ false → key_at s ≡ (key_bytes s).key
      go [] d = refl
      go (b ∷ s) d = rw (dash b s false d)

  read-run : read_key s ≡ some_key (key_bytes s).key r.rest.now
  unfolding read_key key_bytes some_key pick
  read-run = go s d ∙ ap (some_key (key_bytes s).key) (sym R.rest)
    where
      go : (s : List ℕ) → word_at (45 ∷ []) s ≡ false → read_key s ≡ some_key (key_bytes s).key (key_bytes s).rest
      go [] d = refl
      go (b ∷ s) d = rw (dash b s false d)

  pub key-none : r.value ≡ 0 → KeyRead s buf buf' None
  key-none z =
      let m : 0 ≡ length (key_bytes s).key = sym z ∙ R.len in
      record { seen = sym (read-run ∙ some-none (key_bytes s).key r.rest.now (sym m)); len = tt; kept = rw key-run R.kept }

  pub key-some : (r.value ≡ 0 → ⊥) → KeyRead s buf buf' (Some r)
  key-some z =
      record {
        seen = rw key-run (sym (read-run ∙ some-some (key_bytes s).key r.rest.now (λ m. z (R.len ∙ m))));
        len = rw key-run R.len;
        kept = rw key-run R.kept;
      }

-- A TEXT'S PLACE, by its length: that of what stands behind p.
module _ (s p r : List ℕ) (at : ℕ) (h : at ≤ length s) (e : drop at s ≡ p ++ r) where
  pub place-is : at + length p + length r ≡ length s
  place-is = omega (arith, length-drop at s, ap length e, length-append p r)

  pub rest-is : drop (length s - length r) s ≡ r
  rest-is =
      let q : length s - length r ≡ at + length p = omega (arith, place-is) in
      rw q (sym (drop-drop (length p) at s) ∙ ap (drop (length p)) e ∙ drop_at p r (length p) refl)

-- A STATION'S LINE.
abbrev valued : List ℕ → List ℕ → Got Pair
valued k s₁ = next (word_number (32 ∷ []) s₁) (λ v s₂. got (record { key = k; value = v }) s₂)

pub line_beyond : (s : List ℕ) (at : ℕ) (buf : List ℕ) → length s < at → StationRead s at buf buf None
unfolding station next read_key key_at
line_beyond s at buf h =
    let l : length s ≤ at = omega arith in
    let e = drop_of_length-le s l in
    record { seen = rw e; found = tt; kept = rw e }

module _ (s : List ℕ) (at : ℕ) (buf buf' : List ℕ) where
  pub line_no-key : KeyRead (drop at s) buf buf' None → StationRead s at buf buf' None
  unfolding station next
  line_no-key K = let g : none ≡ read_key (drop at s) = K.seen in record { seen = rw (← g); found = tt; kept = K.kept }

  module _ (k : Found ℕ) (K : KeyRead (drop at s) buf buf' (Some k)) where
    keyed : station (drop at s) ≡ valued (key_at (drop at s)) k.rest.now
    unfolding station next
    keyed = let g : got (key_at (drop at s)) k.rest.now ≡ read_key (drop at s) = K.seen in rw (← g)

    pub line_no-value : none ≡ word_number (32 ∷ []) k.rest.now → StationRead s at buf buf' None
    unfolding next
    line_no-value N = record { seen = sym (keyed ∙ rw (sym N)); found = tt; kept = K.kept }

    module _ (h : at ≤ length s) (v : ℕ) (r : List ℕ) (N : got v r ≡ word_number (32 ∷ []) k.rest.now) where
      pair-there : station (drop at s) ≡ got (record { key = key_at (drop at s); value = v }) r
      unfolding next
      pair-there = keyed ∙ rw (sym N)

      text-there : drop at s ≡ pair_line (record { key = key_at (drop at s); value = v }) ++ r
      text-there = (station-text (drop at s) pair-there).0

      some-text : (x : Pair) → 0 < length (pair_line x)
      unfolding pair_line
      some-text x = simp length-append (omega arith)

      pub line_rest : length r ≤ length s
      line_rest = omega (arith, place-is s _ r at h text-there)

      pub line_found : StationRead s at buf buf' (Some (record { key_len = k.value; value = v; next = length s - length r }))
      line_found =
          record {
            seen = ap (got (record { key = key_at (drop at s); value = v })) (rest-is s _ r at h text-there) ∙ sym pair-there;
            found = (
              K.len,
              omega (arith, place-is s _ r at h text-there, some-text (record { key = key_at (drop at s); value = v })),
              omega arith,
            );
            kept = K.kept;
          }

-- THE TEXT OF A KEY, at the front of its line.
pub text-length : (k : List ℕ) → max (2 * length k) 1 ≡ length (hex_key k)
unfolding hex_key
text-length [] = refl
text-length (b ∷ k) = omega (arith, hex_bytes_length (b ∷ k))

pub text_double : (k : List ℕ) → 2 * length k ≤ length (hex_key k)
unfolding hex_key
text_double [] = omega arith
text_double (b ∷ k) = omega (arith, hex_bytes_length (b ∷ k))

pub key-text : (s : List ℕ) (x : Pair) (r : List ℕ) → station s ≡ got x r
    → (take (length (hex_key x.key)) s ≡ hex_key x.key) × (length (hex_key x.key) ≤ length s)
unfolding pair_line
key-text s x r e =
    let split : (hex_key x.key ++ (32 ∷ []) ++ decimal x.value ++ (10 ∷ [])) ++ r ≡ hex_key x.key ++ ((32 ∷ []) ++ (decimal x.value ++ ((10 ∷ []) ++ r))) = simp append_assoc in
    let f : s ≡ hex_key x.key ++ ((32 ∷ []) ++ (decimal x.value ++ ((10 ∷ []) ++ r))) = (station-text s e).0 ∙ split in (
      ap (take (length (hex_key x.key))) f ∙ take_at (hex_key x.key) ((32 ∷ []) ++ (decimal x.value ++ ((10 ∷ []) ++ r))) (length (hex_key x.key)) refl,
      omega (arith, ap length f, length-append (hex_key x.key) ((32 ∷ []) ++ (decimal x.value ++ ((10 ∷ []) ++ r)))),
    )

-- What the readers' proofs rest on.
pub ruleset word_numbers = (no_word, no-figure, no_newline, line_there)

pub ruleset line_ends = (end_none, end_more, end-last)
