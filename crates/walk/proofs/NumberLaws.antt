-- The test of a walk's numbers: what a walk that passes has. And an answer's number, where its declines have 01's.
use Rattle.std.specs.Prelude.{◌≡◌, ◌+◌, ◌*◌, ◌≤◌, Ok, Err}
use Rattle.base.specs.Kit.{true, and-eq-true_iff, ℕ, leb-true, eqb-true, eq-eqb, le-leb}
use Rattle.base.specs.Decline.{HasNumber}
use Rattle.walk.specs.Types.{Walk, Answer}
use Rattle.walk.specs.Walk.{number_of, HasNumberBy, in_range, walk_ok}

-- 01's number 21 is not met
pub record Fits (w : Walk) (n : ℕ) : Type 0 where
  pub length-is : w.image_len ≡ n
  pub depth-fits : w.depth ≤ 31
  pub offset-is : w.cursor.offset ≡ 8 * w.depth
  pub end_fits : w.cursor.offset + w.cursor.len ≤ 256
  pub position-fits : w.position.0 ≤ 15
  pub kind_fits : w.bound.kind ≤ 2
  pub bound-fits : w.bound.len ≤ 256
  pub last_fits : w.handed.depth ≤ 31
  pub count_fits : w.handed.count ≤ n

pub walk-fits : (w : Walk) (n : ℕ) → walk_ok w n ≡ true → Fits w n
unfolding walk_ok in_range
walk-fits w n e =
    let h = (and-eq-true_iff _ _).0 e in
    let g = (and-eq-true_iff _ _).0 h.0 in
    let b = (and-eq-true_iff _ _).0 g.0 in
    let k = (and-eq-true_iff _ _).0 b.0 in
    let p = (and-eq-true_iff _ _).0 k.0 in
    let l = (and-eq-true_iff _ _).0 p.0 in
    let o = (and-eq-true_iff _ _).0 l.0 in
    let d = (and-eq-true_iff _ _).0 o.0 in
    record {
      length-is = eqb-true _ _ d.0;
      depth-fits = leb-true _ _ d.1;
      offset-is = eqb-true _ _ o.1;
      end_fits = leb-true _ _ l.1;
      position-fits = leb-true _ _ p.1;
      kind_fits = leb-true _ _ k.1;
      bound-fits = leb-true _ _ b.1;
      last_fits = leb-true _ _ g.1;
      count_fits = leb-true _ _ h.1;
    }

pub fits-walk : (w : Walk) (n : ℕ) → Fits w n → walk_ok w n ≡ true
unfolding walk_ok in_range
fits-walk w n o =
    rw (
      eq-eqb w.image_len n o.length-is,
      le-leb w.depth 31 o.depth-fits,
      eq-eqb w.cursor.offset (8 * w.depth) o.offset-is,
      le-leb (w.cursor.offset + w.cursor.len) 256 o.end_fits,
      le-leb w.position.0 15 o.position-fits,
      le-leb w.bound.kind 2 o.kind_fits,
      le-leb w.bound.len 256 o.bound-fits,
      le-leb w.handed.depth 31 o.last_fits,
      le-leb w.handed.count n o.count_fits,
    )

-- AN ANSWER'S NUMBER, at each type of decline: of a `Decline` 01's, and where the decline is a number that number.
pub said_number : (answer : Answer) (n : ℕ) → HasNumberBy HasNumber answer n → n ≡ number_of answer
unfolding number_of
said_number (Ok a) n e = e
said_number (Err d) n e = e

pub same_number : (d n : ℕ) → HasNumberBy {E = ℕ} (λ x y. y ≡ x) (Err d) n → n ≡ d
same_number d n e = e
