-- Pieces written into a buffer one after the other, each whole; and a line in pieces.
use Rattle.std.proofs.lemmas.Grind.{common_steps}
use Rattle.std.specs.Prelude.{◌≡◌, ◌∷◌, ◌++◌, ◌+◌, ◌≤◌, ◌<◌}
use Rattle.base.specs.Kit.{sym, ap, ◌∙◌, List, [], append_assoc, ℕ, le_refl, add-one, arith, length, take, drop, set, length-append, append_snoc, take-length, drop-drop, set_split, paste, take-paste, drop-paste, length-paste}

-- a store is a piece of one
pub paste_one : (d : List ℕ) (at v : ℕ) → at < length d → set d at v ≡ paste d at (v ∷ []) 1
paste_one d at v h = rw (add-one, append_snoc) (set_split d at v h)

module _ (d : List ℕ) (at : ℕ) where
  -- two pieces, the second right after the first, are one
  pub paste-append : (a b : List ℕ) (n : ℕ) → n ≡ at + length a → n + length b ≤ length d
      → paste (paste d at a (length a)) n b (length b) ≡ paste d at (a ++ b) (length (a ++ b))
  paste-append a b n e h =
      let p = paste d at a (length a) in
      let hd : at ≤ length d = omega arith in
      let head : take n p ≡ take at d ++ a = rw (e, take-paste d at a (length a) hd (le_refl (length a)), take-length a) in
      let rest : drop n p ≡ drop n d = rw e (drop-paste d at a (length a) hd (le_refl (length a))) in
      let tail = sym (drop-drop (length b) n p) ∙ ap (drop (length b)) rest ∙ drop-drop (length b) n d in
      let all : at + length (a ++ b) ≡ n + length b = omega (arith, length-append a b) in
      rw (head, tail, take-length b, take-length (a ++ b), all, append_assoc (take at d) a b)

  -- one more behind a piece, stored after it
  pub paste_snoc : (a : List ℕ) (v n : ℕ) → n ≡ at + length a → n < length d
      → set (paste d at a (length a)) n v ≡ paste d at (a ++ (v ∷ [])) (length (a ++ (v ∷ [])))
  paste_snoc a v n e h =
      let l : length (paste d at a (length a)) ≡ length d = length-paste d at a (length a) (omega arith) (le_refl (length a)) in
      paste_one (paste d at a (length a)) n v (omega arith) ∙ paste-append a (v ∷ []) n e (omega arith)

  -- one more behind a piece, stored before it
  pub paste-last : (l : List ℕ) (v : ℕ) → at + length l < length d
      → paste (set d (at + length l) v) at l (length l) ≡ paste d at (l ++ (v ∷ [])) (length (l ++ (v ∷ [])))
  paste-last l v h = grind (arith, common_steps)

-- two pieces with one byte between, which is stored
pub paste_between : (d a b : List ℕ) (v n m : ℕ) → n ≡ length a → m ≡ n + 1 → m + length b ≤ length d
    → paste (set (paste d 0 a (length a)) n v) m b (length b) ≡ paste d 0 (a ++ (v ∷ []) ++ b) (length (a ++ (v ∷ []) ++ b))
paste_between d a b v n m e f h =
    let l : length (a ++ (v ∷ [])) ≡ length a + 1 = omega (arith, length-append a (v ∷ [])) in
    rw (paste_snoc d 0 a v n (omega arith) (omega arith)) (paste-append d 0 (a ++ (v ∷ [])) b m (omega arith) h)

-- two pieces at the front
pub paste_two : (d a b : List ℕ) (n : ℕ) → n ≡ length a → n + length b ≤ length d
    → paste (paste d 0 a (length a)) n b (length b) ≡ paste d 0 (a ++ b) (length (a ++ b))
paste_two d a b n e h = paste-append d 0 a b n (omega arith) h

-- how joined pieces group, and how long they are
pub ruleset joined = (append_assoc, length-append)
