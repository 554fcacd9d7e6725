-- PIECES IN A BUFFER: two that do not meet may be written in either order; one within another may be written into it before; two behind
-- one another are one. Assumes nothing.
use Rattle.std.proofs.lemmas.Grind.{common_steps}
use Rattle.std.specs.Prelude.{◌≡◌, ◌++◌, ◌+◌, ◌≤◌}
use Rattle.base.specs.Kit.{ap, ap₂, sym, ◌∙◌, List, append_assoc, ℕ, add-zero, le_refl, arith, length, take, drop, take-append-drop, take-append-add, drop-append-add, take-length, length-take-le, length-paste}
use Rattle.building.specs.CodeWritten.{put}

pub put-length : (d s : List ℕ) (at : ℕ) → at + length s ≤ length d → length (put d at s) ≡ length d
put-length d s at h = length-paste d at s (length s) h (le_refl (length s))

-- a piece in the second part of a list, and in the first
pub put_right : (a b w : List ℕ) (i : ℕ) → put (a ++ b) (length a + i) w ≡ a ++ put b i w
put_right a b w i =
    let e : length a + i + length w ≡ length a + (i + length w) = omega arith in
    rw (take-append-add a b i, e, drop-append-add a b (i + length w))
    (append_assoc (a ++ take i b) _ _ ∙ append_assoc a (take i b) _
    ∙ ap (λ (r : List ℕ). a ++ r) (sym (append_assoc (take i b) (take (length w) w) (drop (i + length w) b))))

pub put-left : (a b w : List ℕ) (i : ℕ) → i + length w ≤ length a → put (a ++ b) i w ≡ put a i w ++ b
put-left a b w i h = grind (arith, common_steps)

-- the same where the first part's length is known as a number
right-at : (a b w : List ℕ) (n i : ℕ) → length a ≡ n → put (a ++ b) (n + i) w ≡ a ++ put b i w
right-at a b w n i e = rw (← e) (put_right a b w i)

pub put_commute : (d s t : List ℕ) (i j : ℕ) → i + length s ≤ j → j + length t ≤ length d → put (put d i s) j t ≡ put (put d j t) i s
put_commute d s t i j h k =
    let n : length (take j d) ≡ j = length-take-le j d (omega arith) in
    let m : length (put (take j d) i s) ≡ j = put-length (take j d) s i (omega arith) ∙ n in
    let e : put d i s ≡ put (take j d) i s ++ drop j d =
    ap (λ (r : List ℕ). put r i s) (sym (take-append-drop j d)) ∙ put-left (take j d) (drop j d) s i (omega arith) in
    let f : put d j t ≡ take j d ++ put (drop j d) 0 t =
    ap₂ (λ (r : List ℕ) (x : ℕ). put r x t) (sym (take-append-drop j d)) (sym (add-zero j)) ∙ right-at (take j d) (drop j d) t j 0 n in
    ap₂ (λ (r : List ℕ) (x : ℕ). put r x t) e (sym (add-zero j)) ∙ right-at (put (take j d) i s) (drop j d) t j 0 m
    ∙ sym (ap (λ (r : List ℕ). put r i s) f ∙ put-left (take j d) (put (drop j d) 0 t) s i (omega arith))

pub put-inside : (d s w : List ℕ) (at k : ℕ) → k + length w ≤ length s → at + length s ≤ length d → put (put d at s) (at + k) w ≡ put d at (put s k w)
put-inside d s w at k h l =
    let n : length (take at d) ≡ at = length-take-le at d (omega arith) in
    let m : length (put s k w) ≡ length s = put-length s w k h in
    let rest : List ℕ = drop (at + length s) d in
    let e : put d at s ≡ take at d ++ (s ++ rest) = rw (take-length s) (append_assoc (take at d) s rest) in
    let f : put d at (put s k w) ≡ take at d ++ (put s k w ++ rest) =
    rw (take-length (put s k w), m) (append_assoc (take at d) (put s k w) rest) in
    ap (λ (r : List ℕ). put r (at + k) w) e ∙ right-at (take at d) (s ++ rest) w at k n
    ∙ ap (λ (r : List ℕ). take at d ++ r) (put-left s rest w k h) ∙ sym f
