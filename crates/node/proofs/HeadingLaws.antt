-- What the length test says of an image's length.
use Rattle.std.specs.Prelude.{◌≡◌, ◌&&◌, ◌%◌, ◌≤◌}
use Rattle.base.specs.Kit.{true, and-eq-true_iff, ℕ, leb, eqb, leb-true, eqb-true}
use Rattle.node.specs.Heading.{length_ok}

-- 01's number 1 is not met
pub length-fits : (n : ℕ) → length_ok n ≡ true → (440 ≤ n) × (n ≤ 16777216) × (n % 8 ≡ 0)
unfolding length_ok
length-fits n e =
    let a = (and-eq-true_iff (leb 440 n) (leb n 16777216 && eqb (n % 8) 0)).0 e in
    let b = (and-eq-true_iff (leb n 16777216) (eqb (n % 8) 0)).0 a.1 in
    (leb-true 440 n a.0, leb-true n 16777216 b.0, eqb-true (n % 8) 0 b.1)
