-- The tally's count. Proved: over an accepted image, from a placing that is taken, the loop of moves counts as many keys
-- as demand 3's row has. The idea: the loop follows the walk over rows, whose potential pays for every move
-- (demands/proofs/Tally.antt), and an accepted image has more bytes than that.
use Rattle.std.specs.Prelude.{◌≡◌, ◌<◌, None}
use Rattle.base.specs.Kit.{List, ℕ, length, get_or}
use Rattle.layering.specs.Sieve.{row_of}
use Rattle.verify.specs.Check.{check_number, check}
use Rattle.verify.proofs.Theorem.{accepted_obeys}
use Rattle.walk.specs.Placing.{place}
use Rattle.scan.specs.CodeLoop.{keys_left}
use Rattle.cursor.specs.declared.range_bound.StartMode.{StartMode}
use Rattle.demands.proofs.Whole.{taken, fresh-keys}

-- THE COUNT
pub row-counted : (image : List ℕ) → ((i : ℕ) → get_or image i 0 < 256) → check_number (check image) ≡ 0
    → (mode : StartMode) (cursor : List ℕ) → ((i : ℕ) → get_or cursor i 0 < 256) → (kind : ℕ) (bound : List ℕ)
    → (place image mode cursor kind bound).declined ≡ None
    → keys_left (place image mode cursor kind bound).walk image ≡ length (row_of image mode cursor kind bound)
row-counted image b a mode cursor bc kind bound e =
    let t = taken image mode cursor kind bound e in
    rw t.0 (fresh-keys image b (accepted_obeys image a).0 mode cursor bc kind bound t.1)
