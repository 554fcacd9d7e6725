-- What the tests of a record say.
use Rattle.std.specs.Prelude.{◌≡◌, ◌≤◌}
use Rattle.base.specs.Kit.{true, false, and-eq-true_iff, and-false, List, ℕ, length, get_or, leb-true, eqb-true, ne_eqb}
use Rattle.walk_record.specs.Record.{numbers_in, sized, is_readable, is_record}

pub record Lengths (numbers buf bound : ℕ) : Type 0 where
  pub numbers-is : numbers ≡ numbers_in
  pub buf-is : buf ≡ 256
  pub bound-is : bound ≡ 256

pub sized_told : (numbers buf bound : ℕ) → sized numbers buf bound ≡ true → Lengths numbers buf bound
unfolding sized
sized_told numbers buf bound e =
    let k = (and-eq-true_iff _ _).0 e in
    let n = (and-eq-true_iff _ _).0 k.0 in
    record { numbers-is = eqb-true _ _ n.0; buf-is = eqb-true _ _ n.1; bound-is = eqb-true _ _ k.1 }

-- the record is a walk's
pub record Told (numbers buf bound : List ℕ) : Type 0 where
  pub lengths : Lengths (length numbers) (length buf) (length bound)
  pub kind_fits : get_or numbers 8 0 ≤ 255
  pub state-fits : get_or numbers 10 0 ≤ 3
  pub mode-fits : get_or numbers 11 0 ≤ 1

pub record_told : (numbers buf bound : List ℕ) → is_record numbers buf bound ≡ true → Told numbers buf bound
unfolding is_record is_readable
record_told numbers buf bound e =
    let r = (and-eq-true_iff _ _).0 e in
    let m = (and-eq-true_iff _ _).0 r.1 in
    let k = (and-eq-true_iff _ _).0 m.0 in
    record { lengths = sized_told _ _ _ r.0; kind_fits = leb-true _ _ k.0; state-fits = leb-true _ _ k.1; mode-fits = leb-true _ _ m.1 }

pub readable_kind : (numbers : List ℕ) → is_readable numbers ≡ true → get_or numbers 8 0 ≤ 255
unfolding is_readable
readable_kind numbers e = leb-true _ _ ((and-eq-true_iff _ _).0 ((and-eq-true_iff _ _).0 e).0).0

-- its lengths by the types of its parts, and its numbers tested
pub record_is : (numbers buf bound : List ℕ) → length numbers ≡ numbers_in → length buf ≡ 256 → length bound ≡ 256 → is_readable numbers ≡ true
    → is_record numbers buf bound ≡ true
unfolding is_record sized
record_is numbers buf bound n b k r = rw (n, b, k, r)

-- what no walk's record is: one whose bound has another length, or of whose numbers no walk can be read
pub unsized_bound : (numbers buf bound : ℕ) → (bound ≡ 256 → ⊥) → sized numbers buf bound ≡ false
unfolding sized
unsized_bound numbers buf bound h = rw (ne_eqb _ _ h) (and-false _)

pub bound_none : (numbers buf bound : List ℕ) → (length bound ≡ 256 → ⊥) → is_record numbers buf bound ≡ false
unfolding is_record
bound_none numbers buf bound h = rw (unsized_bound (length numbers) (length buf) _ h)

pub unreadable_none : (numbers buf bound : List ℕ) → is_readable numbers ≡ false → is_record numbers buf bound ≡ false
unfolding is_record
unreadable_none numbers buf bound e = rw e (and-false _)
