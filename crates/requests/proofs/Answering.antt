-- The loop over requests: what is still to come, from the turn i of n on.
use Rattle.std.specs.Prelude.{◌≡◌, ◌<◌, ◌+◌, ◌-◌, Option, Some, None}
use Rattle.std.specs.Option.{is_some}
use Rattle.base.specs.Kit.{refl, false, ℕ, zero, suc, arith, inl, inr}
use Rattle.requests.specs.Requests.{Answered}

module _ {S : Type 0} (Asks : S → Option Unit → S → Type 0) where
  -- no request more
  pub at_end : (n : ℕ) (f : S) → Answered Asks n f f
  unfolding Answered
  at_end zero f = refl
  at_end (suc n) f = inl refl

  turn : (n i : ℕ) → i < n → n - i ≡ suc (n - (i + 1))
  turn n i l = omega arith

  -- one that has an answer, and what follows it
  pub next : (n i : ℕ) (o : Option Unit) (f g h : S) → i < n → Asks f o g → (is_some o ≡ false → ⊥) → Answered Asks (n - (i + 1)) g h
      → Answered Asks (n - i) f h
  unfolding Answered
  next n i None f g h l a s r = absurd (s refl)
  next n i (Some tt) f g h l a s r = rw (turn n i l) (inr (inr (g, a, r)))

  -- one that has none
  pub last : (n i : ℕ) (o : Option Unit) (f g : S) → i < n → Asks f o g → is_some o ≡ false → Answered Asks (n - i) f g
  unfolding Answered
  last n i None f g l a s = rw (turn n i l) (inr (inl a))
  last n i (Some tt) f g l a s = absurd (cc)
