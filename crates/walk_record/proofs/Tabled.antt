-- A list of known length is its elements written out.
use Rattle.std.specs.Prelude.{◌≡◌, ◌∷◌, ◌+◌}
use Rattle.base.specs.Kit.{List, [], ℕ, zero, suc, arith, length, get_or, drop, drop-cons, drop-length}

-- the n elements of l from i on, each by its index
unfoldable pub tabled : {A : Type 0} → A → List A → ℕ → ℕ → List A
tabled d l i zero = []
tabled d l i (suc n) = get_or l i d ∷ tabled d l (suc i) n

pub tabled-drop : {A : Type 0} (d : A) (l : List A) (i n : ℕ) → i + n ≡ length l → tabled d l i n ≡ drop i l
unfolding tabled
tabled-drop d l i zero h =
    let e : i ≡ length l = omega arith in
    rw (e, drop-length l)
tabled-drop d l i (suc n) h = rw (tabled-drop d l (suc i) n (omega arith), drop-cons l i d (omega arith))

pub tabled_all : {A : Type 0} (d : A) (l : List A) (n : ℕ) → length l ≡ n → tabled d l 0 n ≡ l
tabled_all d l n h = tabled-drop d l 0 n (omega arith)
