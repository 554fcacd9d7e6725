-- Copies by words: eight bytes are a word, and a word may be copied over the end of what is copied already.
use Rattle.std.specs.Prelude.{◌≡◌, ◌+◌, ◌-◌, ◌≤◌}
use Rattle.base.specs.Kit.{refl, sym, ◌∙◌, ap, List, ℕ, min, zero-min, arith, length, paste, take, drop, length-drop, length-paste, length-take-le, take-take, take-add, take_all, take-paste}
use Rattle.std.proofs.lemmas.Slice.{put_mid-paste}
use Rattle.key.specs.Part.{part}
use Rattle.key.specs.CodeWords.{paste_word}
use borrow.Rule.Slice.PartMut.{put_mid}

module _ (s : List ℕ) (long : 8 ≤ length s) where
  -- the eight bytes from n on
  part-long : (n : ℕ) → n + 8 ≤ length s → length (part s n 8) ≡ 8
  unfolding part
  part-long n h = length-take-le 8 (drop n s) (simp length-drop (omega arith))

  -- eight bytes that go through a word p of their own
  pub word_in : (d : List ℕ) (i : ℕ) {n k : ℕ} {p b : List ℕ} → n ≡ min i (length s - 8) → k ≡ 8 → p ≡ part s n 8 → b ≡ p → put_mid n k d b ≡ paste_word d s i
  unfolding paste_word
  word_in d i {n} {k} {p} {b} e f g h =
      put_mid-paste n k d b (part s n 8) 8 (h ∙ g) (sym f) (sym (part-long n (omega arith))) ∙ rw e refl

  -- of d, which is as long as s, the first n are those of s
  record Copied (d : List ℕ) (n : ℕ) : Type 0 where
    same_len : length d ≡ length s
    same : take n d ≡ take n s

  -- a word more
  word_on : (d : List ℕ) (i : ℕ) → Copied d (min i (length s)) → Copied (paste_word d s i) (min (i + 8) (length s))
  unfolding paste_word part
  word_on d i h =
      let n = min i (length s - 8) in
      let e : n + 8 ≡ min (i + 8) (length s) = omega arith in
      let p = take 8 (drop n s) in
      let f : length p ≡ 8 = part-long n (omega arith) in
      let front : take n d ≡ take n s =
      sym (take-take n (min i (length s)) d (omega arith)) ∙ ap (take n) h.same ∙ take-take n (min i (length s)) s (omega arith) in
      record {
        same_len = length-paste d n p 8 (omega (arith, h.same_len)) (omega arith) ∙ h.same_len;
        same = rw (← e, take-paste d n p 8 (omega (arith, h.same_len)) (omega arith), front, take-take 8 8 (drop n s) (omega arith), ← take-add n 8 s) refl;
      }

  -- all of at most 32
  four-words : length s ≤ 32 → (d : List ℕ) {a b c e : List ℕ} → length d ≡ length s → a ≡ paste_word d s 0 → b ≡ paste_word a s 8 → c ≡ paste_word b s 16
      → e ≡ paste_word c s 24 → e ≡ s
  four-words h d {a} {b} {c} {e} same p q r t =
      let first : Copied a (min 8 (length s)) = rw p (word_on d 0 (record { same_len = same; same = rw zero-min refl })) in
      let second : Copied b (min 16 (length s)) = rw q (word_on a 8 first) in
      let third : Copied c (min 24 (length s)) = rw r (word_on b 16 second) in
      let last : Copied e (min 32 (length s)) = rw t (word_on c 24 third) in
      let n = min 32 (length s) in
      sym (take_all n e (omega (arith, last.same_len))) ∙ last.same ∙ take_all n s (omega arith)

  -- the same, in the buffer that they are part of
  pub words_in : length s ≤ 32 → (buf : List ℕ) (at k : ℕ) (d a b c e : List ℕ) → length d ≡ length s → k ≡ length s → a ≡ paste_word d s 0 → b ≡ paste_word a s 8
      → c ≡ paste_word b s 16 → e ≡ paste_word c s 24 → put_mid at k buf e ≡ paste buf at s (length s)
  words_in h buf at k d a b c e same whole p q r t =
      put_mid-paste at k buf e s (length s) (four-words h d same p q r t) (sym whole) refl
