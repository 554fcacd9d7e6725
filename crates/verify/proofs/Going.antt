-- What the check's combinators come to, in both directions at once. `Decides t P`: the test t is true exactly where P holds.
-- `Runs x S q`: x ends without a fault only where S holds, and where S holds it comes to q.
use Rattle.std.specs.Prelude.{◌≡◌, ◌≤◌, Ok, Err}
use Rattle.std.specs.Bool.{Decides}
use Rattle.base.specs.Kit.{Bool, true, not, refl, ℕ, leb, leb-true, le-leb}
use Rattle.base.specs.Decline.{and_then}
use Rattle.base.specs.Pick.{pick}
use Rattle.base.proofs.Choice.{by_test}
use Rattle.base.proofs.Declines.{by_answer}
use Rattle.verify.specs.Types.{Decline, Progress}
use Rattle.verify.specs.Check.{Checked, demand}

-- TESTS, beside the library's `Decides`
pub says-leb : (a b : ℕ) → Decides (leb a b) (a ≤ b)
says-leb a b = (leb-true a b, le-leb a b)

pub says_self : (t : Bool) → Decides t (t ≡ true)
says_self t = (λ e. e, λ e. e)

-- STEPS
pub record Runs (x : Checked) (S : Type 0) (q : Progress) : Type 0 where
  pub only : (p : Progress) → x ≡ Ok p → S
  pub comes : S → x ≡ Ok q

pub runs_as : {x : Checked} {q : Progress} {S T : Type 0} → (S → T) → (T → S) → Runs x S q → Runs x T q
runs_as f g r = record { only = λ p e. f (r.only p e); comes = λ h. r.comes (g h) }

pub runs_to : {x : Checked} {q r : Progress} {S : Type 0} → q ≡ r → Runs x S q → Runs x S r
runs_to e a = rw (← e) a

-- an end that cannot be reached
pub runs_never : {S : Type 0} (d : Decline) (q : Progress) → (S → ⊥) → Runs (Err d) S q
runs_never d q bad = record { only = λ p e. absurd (cc); comes = λ h. absurd (bad h) }

-- nothing to do
pub runs_here : (p : Progress) → Runs (Ok p) (Unit {0}) p
runs_here p = record { only = λ q e. tt; comes = λ h. refl }

-- a test with its fault, then what follows
pub runs_test : {t : Bool} {P S : Type 0} {x : Checked} {q : Progress} (d : Decline) → Decides t P → (P → Runs x S q)
    → Runs (pick (not t) (Err d) x) (P × S) q
unfolding pick
runs_test {t} d s r = record {
  only = λ p h. by_test t (λ e. (s.0 e, (r (s.0 e)).only p (rw e at h))) (λ e. absurd (let f = rw e at h in cc));
  comes = λ h. rw (s.1 h.0) ((r h.0).comes h.1);
}

pub runs-demand : {t : Bool} {P : Type 0} (d : Decline) (x : Progress) → Decides t P → Runs (demand d t x) P x
unfolding demand pick
runs-demand {t} d x s = record {
  only = λ p h. by_test t s.0 (λ e. absurd (let f = rw e at h in cc));
  comes = λ h. rw (s.1 h) refl;
}

-- one thing, then the next
pub runs_then : {x : Checked} {q r : Progress} {S T : Type 0} (f : Progress → Checked) → Runs x S q → (S → Runs (f q) T r)
    → Runs (and_then x f) (S × T) r
unfolding and_then
runs_then {x} {q} {r} {S} {T} f a b = record {
  only = λ p h. by_answer x
      (λ y e. let s : S = a.only y e in (s, (b s).only p (rw (a.comes s) at h)))
      (λ d e. absurd (let g = rw e at h in cc));
  comes = λ h. rw (a.comes h.0) ((b h.0).comes h.1);
}
