-- THE THEOREM: the two conversions between walks and records are inverse. `record_inverse`: on every walk; `walk_inverse`: on every
-- record that is a walk's. Lists of known length are written out, and then both compute.
use Rattle.std.specs.Prelude.{◌≡◌, ◌≤◌}
use Rattle.base.specs.Kit.{refl, true, List, ℕ, zero, suc, arith, leb, length, get_or, le-leb}
use Rattle.base.specs.Pick.{pick}
use Rattle.walk.specs.Walk.{empty_context}
use Rattle.walk_record.specs.Types.{StartMode, Above, From, Walk, WalkState, Start, Retry, FindNext, Ended}
use Rattle.walk_record.specs.Record.{numbers_in, mode_number, mode_of, state_number, state_of, stack_numbers, numbers_of, entry_at, entries, read_walk, sized, is_readable, is_record}
use Rattle.walk_record.proofs.Tabled.{tabled, tabled_all}
use Rattle.walk_record.proofs.Told.{record_told}

state_back : (s : WalkState) → state_of (state_number s) ≡ s
unfolding state_of state_number pick
state_back Start = refl
state_back Retry = refl
state_back FindNext = refl
state_back Ended = refl

mode_back : (m : StartMode) → mode_of (mode_number m) ≡ m
unfolding mode_of mode_number pick
mode_back Above = refl
mode_back From = refl

mode-fits : (m : StartMode) → leb (mode_number m) 1 ≡ true
unfolding mode_number
mode-fits Above = refl
mode-fits From = refl

mode-number_back : (n : ℕ) → n ≤ 1 → mode_number (mode_of n) ≡ n
unfolding mode_of mode_number pick
mode-number_back zero h = refl
mode-number_back (suc zero) h = refl
mode-number_back (suc (suc n)) h = absurd (omega arith)

state-fits : (s : WalkState) → leb (state_number s) 3 ≡ true
unfolding state_number
state-fits Start = refl
state-fits Retry = refl
state-fits FindNext = refl
state-fits Ended = refl

number_back : (n : ℕ) → n ≤ 3 → state_number (state_of n) ≡ n
unfolding state_of state_number pick
number_back zero h = refl
number_back (suc zero) h = refl
number_back (suc (suc zero)) h = refl
number_back (suc (suc (suc zero))) h = refl
number_back (suc (suc (suc (suc n)))) h = absurd (omega arith)

-- The arrays of a walk have their lengths, and its kind is a byte.
pub record Arrays (w : Walk) : Type 0 where
  pub stack_is : length w.stack ≡ 31
  pub buf-is : length w.cursor.buf ≡ 256
  pub key-is : length w.bound.key ≡ 256
  pub kind_fits : w.bound.kind ≤ 255

-- the stack read back
stack_back : (w : Walk) → Arrays w → entries (numbers_of w) 0 31 ≡ w.stack
unfolding entries entry_at numbers_of stack_numbers tabled
stack_back w a = tabled_all empty_context w.stack 31 a.stack_is

is-record : (w : Walk) → Arrays w → is_record (numbers_of w) w.cursor.buf w.bound.key ≡ true
unfolding is_record is_readable sized numbers_of stack_numbers
is-record w a = rw (a.buf-is, a.key-is, le-leb _ _ a.kind_fits, state-fits w.state, mode-fits w.mode)

walk_back : (w : Walk) → Arrays w → read_walk (numbers_of w) w.cursor.buf w.bound.key ≡ w
unfolding read_walk numbers_of
walk_back w a = rw (stack_back w a, state_back w.state, mode_back w.mode)

pub record_inverse : (w : Walk) → Arrays w
    → (is_record (numbers_of w) w.cursor.buf w.bound.key ≡ true)
    × (read_walk (numbers_of w) w.cursor.buf w.bound.key ≡ w)
record_inverse w a = (is-record w a, walk_back w a)

pub walk_inverse : (numbers buf bound : List ℕ) → is_record numbers buf bound ≡ true
    → (numbers_of (read_walk numbers buf bound) ≡ numbers)
    × ((read_walk numbers buf bound).cursor.buf ≡ buf)
    × ((read_walk numbers buf bound).bound.key ≡ bound)
unfolding read_walk numbers_of stack_numbers entries entry_at tabled
walk_inverse numbers buf bound e =
    let t = record_told numbers buf bound e in (
      rw (number_back (get_or numbers 10 0) t.state-fits, mode-number_back (get_or numbers 11 0) t.mode-fits) (tabled_all 0 numbers numbers_in t.lengths.numbers-is),
      refl,
      refl,
    )
