-- The loop as its functions have it: the run that counts as it goes, and the moves along a leaf. specs/Machine.antt says what a step
-- comes to; proofs/RunLaws.antt has that this run is the machine's.
use Rattle.std.specs.Prelude.{◌&&◌, ◌≡◌, ◌+◌, ◌-◌, ◌≤◌, ◌<◌, Option, Some, None, Result, Ok, Err}
use Rattle.base.specs.Kit.{Bool, true, false, not, List, ℕ, zero, suc, eqb, length, take}
use Rattle.base.specs.Pick.{pick}
use Rattle.search.specs.Traversal.{leaf_there}
use Rattle.moves.specs.CodeMoves.{InRange}
use Rattle.scan.specs.Types.{Held, ScanState, ScanStateStart as Start, ScanStateRetry as Retry, ScanStateFindNext as FindNext, Down, Up, ScanCtx, Outcome, Continue, Push, Emit, Exhausted, Pass, LayerContext, WalkStateFindNext as Next, Walk, Answer, Decline, Unreadable, MovesSpent, Along, Ending, Advanced}
use Rattle.walk.specs.Walk.{walk_ok}
use Rattle.scan.specs.Machine.{Moved, move, Ran, is_ended, scan_of, key_out, finished}

-- What the loop asks of its walk: its numbers are in range; and where `tested` tells that the first move has tested its leaf's version, that
-- move is a FindNext, and the leaf is there.
abbrev pub Begun : Walk → List ℕ → Bool → Type 0
Begun w image tested = (walk_ok w (length image) ≡ true) × (tested ≡ true → (w.state ≡ Next) × (leaf_there image w.leaf ≡ true))

-- A move as a function makes it, which holds h after it, is the machine's m; where it is declined, what is held is not told.
abbrev pub MadeAs : Moved → Result Pass Decline → Held → Type 0
MadeAs m (Ok p) h = m ≡ record { outcome = Ok p.outcome; scan = record { ctx = p.ctx; buf = h.buf; stack = h.stack } }
MadeAs m (Err d) h = m.outcome ≡ Err d

-- THE LOOP ITSELF, which goes to the next key (a step), or past every key (`whole`: a count). How many keys are out after a move, n
-- before it.
unfoldable pub counted : Result Outcome Decline → ℕ → ℕ
counted (Ok Continue) n = n
counted (Ok (Push root)) n = n
counted (Ok (Emit value last)) n = n + 1
counted (Ok Exhausted) n = n
counted (Err d) n = n

-- What a run of moves comes to, with the keys that were out.
pub record Run : Type 0 where
  pub keys : ℕ
  pub ran : Ran

-- where it ends, with an answer
abbrev pub came_to : Answer → Bool → ℕ → ℕ → Held → Run
came_to answer last keys moves s = record { keys = keys; ran = record { answer = answer; last = last; moves = moves; scan = s } }

abbrev pub ending_with : Answer → Bool → ScanCtx → ℕ → ℕ → Ending
ending_with answer last c keys moves = record { answer = answer; last = last; ctx = c; keys = keys; moves = moves }

-- The same with what the loop holds there: e's context, and h's buffer and stack.
abbrev pub run_with : Ending → Held → Run
run_with e h = came_to e.answer e.last e.keys e.moves (record { ctx = e.ctx; buf = h.buf; stack = h.stack })

-- A count goes on past a key, and is at its end with the last; a step hands it out.
abbrev pub goes_on : Bool → Bool → Bool
goes_on whole last = whole && not last

abbrev pub emitted_by : Bool → ℕ → Bool → ℕ → ℕ → Held → Run
emitted_by whole value last keys moves s =
    pick whole (came_to (Ok None) false keys moves s) (came_to (key_out (s.ctx.cursor.offset + s.ctx.cursor.len) value) last keys moves s)

unfoldable pub after_by : Bool → Result Outcome Decline → ℕ → ℕ → Held → Run → Run
after_by whole (Ok Continue) keys moves s rest = rest
after_by whole (Ok (Push root)) keys moves s rest = rest
after_by whole (Ok (Emit value last)) keys moves s rest =
    pick (goes_on whole last) rest (emitted_by whole value last keys moves s)
after_by whole (Ok Exhausted) keys moves s rest = came_to (Ok None) false keys moves s
after_by whole (Err d) keys moves s rest = came_to (Err d) false keys moves s

unfoldable pub run_by : Bool → List ℕ → ℕ → List ℕ → ℕ → ℕ → ℕ → Held → Run
run_by whole image kind bound zero keys moves s = came_to (Err MovesSpent) false keys moves s
run_by whole image kind bound (suc n) keys moves s =
    let m = move image kind bound s in
    let k = counted m.outcome keys in
    let rest = run_by whole image kind bound n k (moves + 1) m.scan in
    after_by whole m.outcome k (moves + 1) m.scan rest

unfoldable pub all_by : Bool → Walk → List ℕ → Run
all_by whole w image = run_by whole image w.bound.kind (take w.bound.len w.bound.key) (length image) 0 0 (scan_of w)

-- What the loop's run comes to for its walk.
abbrev pub advanced_of : Walk → Run → Advanced
advanced_of w r = record { keys = r.keys; stepped = finished w r.ran }

unfoldable pub advance_by : Bool → Walk → List ℕ → Advanced
advance_by whole w image = advanced_of w (all_by whole w image)

-- THE COUNT. How many keys the moves of a walk hand out before the end, 22 or 23; none where it is declined with 21, or ended.
unfoldable pub keys_ahead : Walk → List ℕ → ℕ
keys_ahead w image = (all_by true w image).keys

unfoldable pub keys_left : Walk → List ℕ → ℕ
keys_left w image = pick (walk_ok w (length image) && not (is_ended w.state)) (keys_ahead w image) 0

-- ALONG A LEAF, by the fast path, which a count takes right after a key: no duplicate check is due, and the cursor has the last ikey.
abbrev pub is_next : ScanState → Bool
is_next (Start mode) = false
is_next Retry = false
is_next FindNext = true
is_next Down = false
is_next Up = false

unfoldable pub is_along : ScanCtx → Bool → Bool
is_along c whole = whole && is_next c.state && not c.dup && eqb c.last c.cursor.ikey

pub record AfterKey (c : ScanCtx) : Type 0 where
  pub next : c.state ≡ FindNext
  pub not-due : c.dup ≡ false
  pub last-is : c.last ≡ c.cursor.ikey

-- Where the moves along a leaf end: the loop ends with an answer, or goes on with what it comes to.
abbrev pub along_to : Option Answer → Run → (Answer → Run) → Run
along_to (Some answer) on ends = ends answer
along_to None on ends = on

-- what is left to do, from a scan on
abbrev pub ahead : List ℕ → ℕ → List ℕ → ℕ → ℕ → Held → Run
ahead image kind bound keys moves s = run_by true image kind bound (length image - moves) keys moves s

abbrev pub along_with : Option Answer → ScanCtx → ℕ → ℕ → Along
along_with end c keys moves = record { end = end; ctx = c; keys = keys; moves = moves }

-- What the moves along a leaf come to, r with the buffer b, is part of what all moves come to.
pub record AlongFrom (image : List ℕ) (kind : ℕ) (bound buf : List ℕ) (c : ScanCtx) (keys moves : ℕ) (r : Along) (b : List ℕ) : Type 0 where
  pub same : (stack : List LayerContext) →
      (let s : Held = record { ctx = r.ctx; buf = b; stack = stack } in
      along_to r.end (ahead image kind bound r.keys r.moves s) (λ answer. came_to answer false r.keys r.moves s))
      ≡ ahead image kind bound keys moves (record { ctx = c; buf = buf; stack = stack })
  pub after : AfterKey r.ctx
  pub in_range_lem : InRange r.ctx.depth r.ctx
  pub long : length b ≡ 256
  pub few : r.keys ≤ r.moves
  pub grows : moves ≤ r.moves
  pub within : r.moves ≤ length image
  pub tested : r.end ≡ None → (r.moves < length image) × (leaf_there image r.ctx.leaf ≡ true)

-- Why a step is declined where its first move's leaf is not there: 22, and 23 where no move may be made.
abbrev pub no_leaf : ℕ → Decline
no_leaf n = pick (eqb n 0) MovesSpent Unreadable
