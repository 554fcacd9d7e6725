-- "Up to eight bytes nothing changes" (02 [1]), over every image and every walk record: a placing begins as 01 has it, and the Start
-- move goes by 01's rule, which has its own definition (moves/specs/Start01.antt).
use Rattle.std.specs.Prelude.{◌≡◌, ◌⊎◌, ◌+◌, ◌≤◌, Ok}
use Rattle.base.specs.Kit.{ap, ◌∙◌, sym, subst, List, inr, ℕ, arith, length, le-ltb}
use Rattle.base.specs.Pick.{pick}
use Rattle.cursor.specs.CursorKey.{from_slice}
use Rattle.scan.specs.Types.{StartMode, From, Walk, WalkState, WalkStateStart as Start}
use Rattle.moves.specs.Moves.{kept, pass_in}
use Rattle.moves.specs.Start01.{find_start01}
use Rattle.moves.proofs.ByRule01.{start_by_rule-01}
use Rattle.walk.specs.Placing.{short_state, start_state, placing, fresh_walk, place}
use Rattle.scan.specs.Machine.{before, moved_by, move_in, move, scan_state, scan_of}

-- EVERY WALK in state Start, over every image.
pub start-move-01 : (w : Walk) → w.state ≡ Start → w.cursor.len ≤ 8
    → (w.mode ≡ From) ⊎ (w.cursor.offset + w.cursor.len ≤ 8) → (image : List ℕ) (kind : ℕ) (bound : List ℕ)
    → move image kind bound (scan_of w) ≡ moved_by (scan_of w) (kept w.cursor.buf (find_start01 image (scan_of w).ctx))
unfolding move move_in before pass_in pick scan_of
start-move-01 w e short rule image kind bound =
    ap (λ (st : WalkState). move_in (scan_state w.mode st) image kind bound (scan_of w)) e
    ∙ ap (moved_by (scan_of w)) (start_by_rule-01 w.mode image w.cursor.buf (scan_of w).ctx short rule)

-- EVERY PLACING with a cursor of at most eight bytes: Retry in mode above and Start in mode from, and then, over whatever is lent,
-- 01's move.
pub short_begins : (mode : StartMode) (n : ℕ) → n ≤ 8 → start_state mode n ≡ short_state mode
unfolding start_state pick
short_begins mode n h = rw (le-ltb 8 n h)

abbrev pub ByRule01 : StartMode → Walk → Type 0
ByRule01 mode w =
    (w.state ≡ short_state mode)
    × (w.state ≡ Start → (lent : List ℕ) (kind : ℕ) (bound : List ℕ)
    → move lent kind bound (scan_of w) ≡ moved_by (scan_of w) (kept w.cursor.buf (find_start01 lent (scan_of w).ctx)))

pub placed_by_rule-01 : (image : List ℕ) (mode : StartMode) (cursor : List ℕ) (kind : ℕ) (bound : List ℕ)
    → placing image cursor kind bound ≡ Ok tt → length cursor ≤ 8 → ByRule01 mode (place image mode cursor kind bound).walk
unfolding place fresh_walk from_slice
placed_by_rule-01 image mode cursor kind bound e h =
    let fresh : (place image mode cursor kind bound).walk ≡ fresh_walk image mode cursor kind bound
    = rw e in
    subst (ByRule01 mode) (sym fresh)
    (short_begins mode (length cursor) h, λ s. start-move-01 (fresh_walk image mode cursor kind bound) s h (inr (omega arith)))
