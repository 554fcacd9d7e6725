-- The machine: a step of a walk, over any bytes and any walk record (01, "Step a walk" and "That
-- loop, its Start and the numbers above are the machine").
use Rattle.std.specs.Prelude.{◌&&◌, ◌+◌, ◌-◌, Option, Some, None, Result, Ok, Err}
use Rattle.base.specs.Kit.{Bool, true, false, not, List, ℕ, zero, suc, eqb, length, take, get_or, set}
use Rattle.base.specs.Pick.{pick}
use Rattle.scan.specs.Types.{Held, StartMode, LayerContext, WalkState, WalkStateStart as Start, WalkStateRetry as Retry, WalkStateFindNext as FindNext, Ended, HandedOut, Walk, ScanState, ScanCtx, Outcome, Continue, Push, Emit, Exhausted, Pass, Answer, Decline, WalkRange, MovesSpent, KeyOut, StepOf, Stepped}
use Rattle.walk.specs.Walk.{nothing_yet, one_more, empty_context, walk_ok}
use Rattle.moves.specs.Moves.{Taken, in_layer, pass_in}
use Rattle.moves.specs.declared.context.ScanState.TheVariants as loop

-- THE LOOP.
-- What a move comes to; one that meets 22 is declined.
pub record Moved : Type 0 where
  pub outcome : Result Outcome Decline
  pub scan : Held

-- "A layer: root and leaf stacked": the layer's root is the walk's from now on.
abbrev pub entered : ℕ → ScanCtx → ScanCtx
entered root c = in_layer c root c.leaf (c.depth + 1)

abbrev pub layer_of : ScanCtx → LayerContext
layer_of c = record { root = c.root; leaf = c.leaf }

abbrev pub stacked : ScanCtx → List LayerContext → List LayerContext
stacked c stack = set stack c.depth (layer_of c)

unfoldable pub pushing : Outcome → Held → Moved
pushing (Push root) s = record { outcome = Ok Continue; scan = record { ctx = entered root s.ctx; buf = s.buf; stack = stacked s.ctx s.stack } }
pushing Continue s = record { outcome = Ok Continue; scan = s }
pushing (Emit value last) s = record { outcome = Ok (Emit value last); scan = s }
pushing Exhausted s = record { outcome = Ok Exhausted; scan = s }

-- "pop": the layer above is the walk's again; "a popped one set to zero".
abbrev pub popped : ScanCtx → List LayerContext → ScanCtx
popped c stack =
    let top = get_or stack (c.depth - 1) empty_context in
    in_layer c top.root top.leaf (c.depth - 1)

abbrev pub unstacked : ScanCtx → List LayerContext → List LayerContext
unstacked c stack = set stack (c.depth - 1) empty_context

-- A pass from s, which may enter a layer; one that is declined leaves s as it was.
unfoldable pub passed_by : Held → List ℕ → Result Pass Decline → Moved
passed_by s buf (Ok p) = pushing p.outcome (record { ctx = p.ctx; buf = buf; stack = s.stack })
passed_by s buf (Err d) = record { outcome = Err d; scan = s }

abbrev pub moved_by : Held → Taken → Moved
moved_by s t = passed_by s t.buf t.pass

abbrev pub is_up : ScanState → Bool
is_up (loop.Start mode) = false
is_up loop.Retry = false
is_up loop.FindNext = false
is_up loop.Down = false
is_up loop.Up = true

-- "Up: ends on an empty stack; else pop": what a pass is made from.
unfoldable pub before : ScanState → Held → Held
before z s = pick (is_up z) (record { ctx = popped s.ctx s.stack; buf = s.buf; stack = unstacked s.ctx s.stack }) s

-- One pass of the loop: in Up the layer above is taken back, or the walk ends; then the pass; then a layer that it found is entered.
unfoldable pub move_in : ScanState → List ℕ → ℕ → List ℕ → Held → Moved
move_in z image kind bound s =
    pick (is_up z && eqb s.ctx.depth 0) (record { outcome = Ok Exhausted; scan = s })
    (let t = before z s in moved_by t (pass_in z image kind bound t.buf t.ctx))

unfoldable pub move : List ℕ → ℕ → List ℕ → Held → Moved
move image kind bound s = move_in s.ctx.state image kind bound s

-- The answer of a key that is out.
abbrev pub key_out : ℕ → ℕ → Answer
key_out len value = Ok (Some (record { len = len; value = value }))

-- What a run of moves comes to; `last` tells that its answer is the key exactly at the included end.
pub record Ran : Type 0 where
  pub answer : Answer
  pub last : Bool
  pub moves : ℕ
  pub scan : Held

unfoldable pub after : Result Outcome Decline → ℕ → Held → Ran → Ran
after (Ok Continue) moves s rest = rest
after (Ok (Push root)) moves s rest = rest
after (Ok (Emit value last)) moves s rest = record { answer = key_out (s.ctx.cursor.offset + s.ctx.cursor.len) value; last = last; moves = moves; scan = s }
after (Ok Exhausted) moves s rest = record { answer = Ok None; last = false; moves = moves; scan = s }
after (Err d) moves s rest = record { answer = Err d; last = false; moves = moves; scan = s }

-- Moves until a key is out, the end or 22, n at most: "23: a call that would make more moves than the image has bytes".
unfoldable pub run : List ℕ → ℕ → List ℕ → ℕ → ℕ → Held → Ran
run image kind bound zero moves s = record { answer = Err MovesSpent; last = false; moves = moves; scan = s }
run image kind bound (suc n) moves s =
    let m = move image kind bound s in
    let rest = run image kind bound n (moves + 1) m.scan in
    after m.outcome (moves + 1) m.scan rest

-- A STEP. The loop's state at the start of a call; Start goes by the walk's start mode. No duplicate check is due; the last ikey handed out
-- is the cursor's where the walk has handed out a key.
abbrev pub scan_state : StartMode → WalkState → ScanState
scan_state mode Start = loop.Start mode
scan_state mode Retry = loop.Retry
scan_state mode FindNext = loop.FindNext
scan_state mode Ended = loop.Up

abbrev pub last_ikey : WalkState → ℕ → ℕ
last_ikey Start ikey = 0
last_ikey Retry ikey = 0
last_ikey FindNext ikey = ikey
last_ikey Ended ikey = 0

abbrev pub is_ended : WalkState → Bool
is_ended Start = false
is_ended Retry = false
is_ended FindNext = false
is_ended Ended = true

abbrev pub ctx_of : Walk → ScanCtx
ctx_of w = record {
  root = w.root;
  leaf = w.leaf;
  position = w.position;
  cursor = record { offset = w.cursor.offset; len = w.cursor.len; ikey = w.cursor.ikey };
  depth = w.depth;
  state = scan_state w.mode w.state;
  last = last_ikey w.state w.cursor.ikey;
  dup = false;
}

unfoldable pub scan_of : Walk → Held
scan_of w = record { ctx = ctx_of w; buf = w.cursor.buf; stack = w.stack }

-- The walk after a call: what the loop holds, with image length, bound and start mode as they were.
abbrev pub walk_of : Walk → WalkState → HandedOut → Held → Walk
walk_of w state handed s = record {
  image_len = w.image_len;
  root = s.ctx.root;
  leaf = s.ctx.leaf;
  position = s.ctx.position;
  cursor = record { buf = s.buf; offset = s.ctx.cursor.offset; len = s.ctx.cursor.len; ikey = s.ctx.cursor.ikey };
  depth = s.ctx.depth;
  stack = s.stack;
  bound = w.bound;
  mode = w.mode;
  state = state;
  handed = handed;
}

-- 02 [12]: "A walk that hands out the key exactly at its end is ended there".
abbrev pub after_key : Bool → WalkState
after_key true = Ended
after_key false = FindNext

-- "A declined call returns its number, zero elsewhere, and any walk as it came."
abbrev pub declined_with : {E : Type 0} → E → Walk → StepOf E
declined_with d w = record { answer = Err d; moves = 0; handed = nothing_yet; walk = w }

-- An answer with its moves, the walk after them, and what that has handed out.
abbrev pub answered : {E : Type 0} → Result (Option KeyOut) E → ℕ → Walk → StepOf E
answered answer moves w = record { answer = answer; moves = moves; handed = w.handed; walk = w }

-- 02 [13]: "The step's answer and the walk itself carry the depth at which the last key was found and how many have been handed out so far",
-- "and a none gives both as they stand".
abbrev pub stepped : {E : Type 0} → Walk → Result (Option KeyOut) E → Bool → ℕ → Held → StepOf E
stepped w (Ok (Some k)) last moves s = answered (Ok (Some k)) moves (walk_of w (after_key last) (one_more w.handed s.ctx.depth) s)
stepped w (Ok None) last moves s = answered (Ok None) moves (walk_of w Ended w.handed s)
stepped w (Err d) last moves s = declined_with d w

unfoldable pub finished : Walk → Ran → Stepped
finished w r = stepped w r.answer r.last r.moves r.scan

-- The moves of a step where 21 is not met and the walk is not ended.
unfoldable pub advance : Walk → List ℕ → Stepped
advance w image = finished w (run image w.bound.kind (take w.bound.len w.bound.key) (length image) 0 (scan_of w))

-- "An ended walk then answers none, zero moves."
unfoldable pub step : Walk → List ℕ → Stepped
step w image =
    pick (not (walk_ok w (length image))) (declined_with WalkRange w) (pick (is_ended w.state) (answered (Ok None) 0 w) (advance w image))
