-- DEMAND 3: for every accepted image, and every placing over it that is taken, one claim about the whole list of steps
-- (01: "Demand 3 is one claim about its whole list, not one for each step"). The idea of the proof: the machine over
-- the image follows a machine over the row of the tree, whose potential pays for every move (proofs/Follow.antt,
-- Run.antt and Steps.antt).
use Rattle.std.specs.Prelude.{◌≡◌, ◌≤◌, ◌<◌, None}
use Rattle.base.specs.Kit.{List, ℕ, length, get_or}
use Rattle.layering.specs.Ascending.{Ascending}
use Rattle.layering.specs.Sieve.{row_of}
use Rattle.layering.proofs.Asked.{row_in-order}
use Rattle.verify.specs.Check.{check_number, check}
use Rattle.verify.specs.Acceptance.{tree_counts}
use Rattle.verify.proofs.Theorem.{accepted_obeys}
use Rattle.demands.specs.Types.{StartMode, Walk, WalkRange}
use Rattle.walk.specs.Placing.{place}
use Rattle.scan.specs.Machine.{declined_with, step}
use Rattle.demands.specs.Demand.{Call, Lent, Demand3}
use Rattle.demands.proofs.Steps.{other_length}
use Rattle.demands.proofs.Whole.{taken, takes, fresh-steps}

-- Over an image whose check gives 0; a placing over it that is taken, in either mode; and any list of steps, by value or with the walk
-- lent, each given the walk as the one before left it (`steps`) and lent that image or bytes of another length (`Lent`).
pub demand-3 : (image : List ℕ) → ((i : ℕ) → get_or image i 0 < 256) → check_number (check image) ≡ 0
    → (mode : StartMode) (cursor : List ℕ) → ((i : ℕ) → get_or cursor i 0 < 256) → (kind : ℕ) (bound : List ℕ)
    → (place image mode cursor kind bound).declined ≡ None → (calls : List Call) → Lent image calls → Demand3 image mode cursor kind bound calls
unfolding tree_counts
demand-3 image b a mode cursor bc kind bound e calls l =
    let o = accepted_obeys image a in
    let t = taken image mode cursor kind bound e in
    let s = fresh-steps image b o.0 mode cursor bc kind bound t.1 calls l in
    record {
      says = rw t.0 s.0;
      foreign = rw t.0 s.1;
      ascends = row_in-order image b o.0 mode cursor kind bound;
      total = rw (t.0, o.1) s.2;
    }

-- COROLLARIES. The placings over an accepted image that are taken: cursor, kind and bound in their limits.
pub is-taken : (image : List ℕ) → check_number (check image) ≡ 0 → (mode : StartMode) (cursor : List ℕ) (kind : ℕ) (bound : List ℕ)
    → length cursor ≤ 256 → kind ≤ 2 → length bound ≤ 256 → (place image mode cursor kind bound).declined ≡ None
is-taken image a = takes image (accepted_obeys image a).0

-- A step lent another length changes nothing, whatever the walk.
pub foreign : (w : Walk) (lent : List ℕ) → (length lent ≡ w.image_len → ⊥)
    → step w lent ≡ declined_with WalkRange w
foreign = other_length

-- The row ascends strictly in plain byte order.
pub row-ascends : (image : List ℕ) → ((i : ℕ) → get_or image i 0 < 256) → check_number (check image) ≡ 0
    → (mode : StartMode) (cursor : List ℕ) (kind : ℕ) (bound : List ℕ) → Ascending (row_of image mode cursor kind bound)
row-ascends image b a = row_in-order image b (accepted_obeys image a).0
