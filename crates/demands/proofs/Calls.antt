-- So many calls over one image, by value, are such as demand 3 speaks of, and all of them are lent its length.
use Rattle.std.specs.Prelude.{◌≡◌, ◌∷◌}
use Rattle.base.specs.Kit.{refl, ap, Bool, true, List, inl, ℕ, zero, suc, length, replicate, eq-eqb}
use Rattle.demands.specs.Demand.{calls_of, Lent, own}

module _ (image : List ℕ) where
  pub own-lent : (n : ℕ) → Lent image (calls_of image n)
  unfolding Lent calls_of
  own-lent zero = tt
  own-lent (suc n) = (inl refl, own-lent n)

  pub own_calls : (n : ℕ) → own image (calls_of image n) ≡ replicate n true
  unfolding own calls_of
  own_calls zero = refl
  own_calls (suc n) = rw (eq-eqb (length image) (length image) refl) (ap {B = List Bool} (λ t. true ∷ t) (own_calls n))
