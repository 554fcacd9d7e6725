-- What the answers of calls say, for the proofs of the moves; a function that needs one names it by `using(..)`.
use Rattle.std.specs.Prelude.{◌≡◌, Result, Ok, Err}
use Rattle.base.specs.Kit.{refl, List, ℕ}
use Rattle.moves.specs.Types.{Decline}
use Rattle.search.proofs.Answers.{suffix-in}
use Rattle.start.proofs.StartLaws.{enter-within}
use Rattle.moves.specs.Moves.{Taken, kept, taken_on}

-- What other crates' laws say of a layer that is entered and of a suffix that may be read, named so that `using(..)` can have it.
pub ruleset enters = (enter-within)

pub ruleset suffix_within = (suffix-in)

-- What holds of the two cases of an answer holds of what is taken on it.
pub taken_ind : {A : Type 0} (P : Taken → Type 0) (buf : List ℕ) (o : Result A Decline) (f : A → Taken) → ((d : Decline) → P (kept buf (Err d)))
    → ((x : A) → o ≡ Ok x → P (f x)) → P (taken_on buf o f)
unfolding taken_on
taken_ind P buf (Ok x) f g h = h x refl
taken_ind P buf (Err d) f g h = g d
