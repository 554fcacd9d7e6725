-- What the loop cites: `move_in_range`, a move from numbers in range leaves them in range and the buffer at its length; and the
-- same of the loop's own steps between moves.
use Rattle.std.specs.Prelude.{◌≡◌, ◌+◌, ◌*◌, ◌-◌, ◌≤◌, ◌<◌, Result, Ok, Err}
use Rattle.base.specs.Kit.{refl, sym, ◌∙◌, subst, Bool, true, false, List, ℕ, arith, leb-false, length}
use Rattle.base.proofs.Choice.{pick_ind}
use Rattle.base.proofs.Declines.{then_ind}
use Rattle.node.specs.Layout.{permutation_at}
use Rattle.node.specs.Permuter.{size_of}
use Rattle.moves.specs.Types.{Decline, Unreadable, Position, Slot, CursorPlace, Side, Inside, AtEnd, Past, StartMode, Started, At, EnterAt, ScanState, Start, Retry, FindNext, Down, Up, ScanCtx, Outcome, Continue, Push, Emit, Exhausted, Pass}
use Rattle.cursor.specs.CursorKey.{shift, shift_clear, unshift, with_ikey, with_length}
use Rattle.search.specs.Traversal.{reach}
use Rattle.start.specs.Start.{start_position}
use Rattle.search.proofs.Laws.{lower-within}
use Rattle.start.proofs.StartLaws.{start-within, enter-within}
use Rattle.moves.specs.Moves.{standing, begin, start_in, find_start, retry_in, find_retry, handle_down, handle_up, advance_leaf, Taken, kept, onward, emit_key, is_storable, key_place, outcome_on, hand_out, take_key, take_layer, take_slot, unless_dup, back_to_retry, find_slot, find_next, pass_in}
use Rattle.moves.specs.CodeMoves.{InBuffer, InRange}
use Rattle.search.specs.Helper.{lower_with_suffix}
use Rattle.moves.proofs.Answers.{taken_ind}
use Rattle.moves.proofs.StoredKey.{stored, key_fits, key-buf-length}

-- At the loop's head, by the state: the cursor stands at the place of the layer that `depth` counts; for Down that layer has
-- been entered and the cursor has yet to follow.
abbrev pub Between : ScanState → ScanCtx → Type 0
Between (Start mode) c = InRange c.depth c
Between Retry c = InRange c.depth c
Between FindNext c = InRange c.depth c
Between Down c = (0 < c.depth) × (c.depth ≤ 31) × InRange (c.depth - 1) c
Between Up c = InRange c.depth c

-- Before a move: the same, but for Up the loop has popped, and the cursor has yet to follow.
abbrev pub Before : ScanState → ScanCtx → Type 0
Before (Start mode) c = InRange c.depth c
Before Retry c = InRange c.depth c
Before FindNext c = InRange c.depth c
Before Down c = (0 < c.depth) × (c.depth ≤ 31) × InRange (c.depth - 1) c
Before Up c = InRange (c.depth + 1) c

-- On Push the loop has yet to enter the layer; Start's cursor has gone there already, and Down's has yet to follow.
abbrev pub Entering : ScanState → ScanCtx → Type 0
Entering (Start mode) c = InRange (c.depth + 1) c
Entering Retry c = ⊥
Entering FindNext c = ⊥
Entering Down c = InRange c.depth c
Entering Up c = ⊥

-- After a move, by its outcome. After a key comes FindNext.
abbrev pub After : Outcome → ScanCtx → Type 0
After Continue c = Between c.state c
After (Push root) c = Entering c.state c × (c.depth < 31)
After (Emit value last) c = (c.state ≡ FindNext) × InRange c.depth c
After Exhausted c = InRange c.depth c

-- THE LOOP'S OWN STEPS between moves: it does nothing, pops, or enters. d is what it makes of c.
pub not_up : (s : ScanState) (c : ScanCtx) → (s ≡ Up → ⊥) → Between s c → Before s c
not_up (Start mode) c n h = h
not_up Retry c n h = h
not_up FindNext c n h = h
not_up Down c n h = h
not_up Up c n h = absurd (n refl)

module _ (c d : ScanCtx) (k : d.cursor ≡ c.cursor) (p : d.position ≡ c.position) where
  moved : (m n : ℕ) → InRange m c → n ≡ m → InRange n d
  moved m n h e = record { place = rw (k, e) h.place; deep = rw e h.deep; within = rw k h.within; position = rw p h.position }

  pub popped_in_range : InRange c.depth c → 0 < c.depth → d.depth ≡ c.depth - 1 → Before Up d
  popped_in_range h g e = moved c.depth (d.depth + 1) h (omega arith)

  pub entered_in_range : (s : ScanState) → Entering s c → c.depth < 31 → d.depth ≡ c.depth + 1 → Between s d
  entered_in_range (Start mode) h g e = moved (c.depth + 1) d.depth h e
  entered_in_range Retry h g e = absurd h
  entered_in_range FindNext h g e = absurd h
  entered_in_range Down h g e = (omega arith, omega arith, moved c.depth (d.depth - 1) h (omega arith))
  entered_in_range Up h g e = absurd h

-- What a move asks of its caller.
pub asked : (s : ScanState) (c : ScanCtx) → Before s c → InBuffer s c
unfolding InBuffer
asked (Start mode) c h = h.within
asked Retry c h = h.within
asked FindNext c h = (h.position, omega arith, h.within)
asked Down c h = omega (arith, h.2.place)
asked Up c h = (omega arith, omega arith)

-- EACH MOVE. One that is declined says nothing.
abbrev pub Good : Result Pass Decline → Type 0
Good (Ok p) = After p.outcome p.ctx
Good (Err d) = Unit {0}

-- with the buffer after it
abbrev Leaves : Taken → Type 0
Leaves t = Good t.pass × (length t.buf ≡ 256)

-- a cursor k that is in range in the layer of c
module _ (c : ScanCtx) (k : CursorPlace) (place : k.offset ≡ 8 * c.depth) (deep : c.depth ≤ 31) (within : k.offset + k.len ≤ 256) where
  stands : (leaf : ℕ) (dup : Bool) (last : ℕ) (p : Position) → p.0 ≤ 15 → Good (Ok (standing c leaf k dup last p))
  unfolding standing
  stands leaf dup last p f = record { place = place; deep = deep; within = within; position = f }

  module _ (room : c.position.0 < 15) where
    goes_on_lem : (last : ℕ) → InRange c.depth (onward c k last)
    unfolding onward
    goes_on_lem last = record { place = place; deep = deep; within = within; position = omega arith }

    on_side : (side : Side) (value last : ℕ) → After (outcome_on side value) (onward c k last)
    unfolding outcome_on onward
    on_side Inside value last = (refl, goes_on_lem last)
    on_side AtEnd value last = (refl, goes_on_lem last)
    on_side Past value last = goes_on_lem last

    emits : (image : List ℕ) (kind : ℕ) (bound buf : List ℕ) (s : Slot) → Good (Ok (emit_key image kind bound buf c s k))
    unfolding emit_key hand_out onward
    emits image kind bound buf s = pick_ind (λ (p : Pass). Good (Ok p)) _ (λ t. goes_on_lem _) (λ f. on_side _ _ _)

down : (c : ScanCtx) → Before Down c → Good (Ok (handle_down c))
unfolding handle_down shift_clear
down c h = record { place = omega (arith, h.2.place); deep = h.1; within = omega (arith, h.2.place); position = h.2.position }

module _ (image : List ℕ) (c : ScanCtx) where
  module _ (buf : List ℕ) where
    retry : InRange c.depth c → Good (find_retry image buf c)
    unfolding find_retry retry_in
    retry h =
        then_ind Good (reach image c.cursor.ikey c.root) _ (λ d e. tt)
        (λ leaf e. then_ind Good (lower_with_suffix image leaf c.cursor buf) _ (λ d e. tt)
        (λ p e. stands c c.cursor h.place h.deep h.within leaf _ _ p (omega (arith, lower-within image leaf c.cursor buf p e))))

    up : InRange (c.depth + 1) c → Good (handle_up image buf c)
    unfolding handle_up unshift
    up h =
        pick_ind Good _ (λ t. tt)
        (λ f. then_ind Good (lower_with_suffix image c.leaf (unshift c.cursor buf) buf) _ (λ d e. tt)
        (λ p e. stands c _ (omega arith) (omega arith) (omega arith) _ _ _ p (omega (arith, lower-within image c.leaf _ buf p e))))

    advances : InRange c.depth c → Good (advance_leaf image buf c)
    unfolding advance_leaf
    advances h =
        pick_ind Good _ (λ t. record { place = h.place; deep = h.deep; within = h.within; position = h.position })
        (λ f. pick_ind Good _ (λ t. tt)
        (λ f. then_ind Good (lower_with_suffix image _ c.cursor buf) _ (λ d e. tt)
        (λ p e. stands c c.cursor h.place h.deep h.within _ _ _ p (omega (arith, lower-within image _ c.cursor buf p e)))))

module _ (image : List ℕ) (kind : ℕ) (bound buf : List ℕ) (c : ScanCtx) (h : InRange c.depth c) (l : length buf ≡ 256) where
  declines : (d : Decline) → Leaves (kept buf (Err d))
  unfolding kept
  declines d = (tt, l)

  start : (mode : StartMode) → Leaves (find_start mode image buf c)
  unfolding find_start start_in begin kept shift
  start mode =
      taken_ind Leaves buf (reach image c.cursor.ikey c.root) _ declines
      (λ leaf e. taken_ind Leaves buf (start_position mode image leaf c.cursor buf) _ declines (λ o f. comes leaf o f))
    where
      comes : (leaf : ℕ) (o : Started) → start_position mode image leaf c.cursor buf ≡ Ok o → Leaves (begin mode image buf c leaf o)
      comes leaf (At p) e = (
        stands c c.cursor h.place h.deep h.within leaf _ _ p (omega (arith, start-within mode image leaf c.cursor buf p e)),
        l,
      )
      comes leaf (EnterAt s) e =
          let g = enter-within mode image leaf c.cursor buf s e in (
            (
              record { place = omega (arith, h.place); deep = omega (arith, h.place, h.within, g.1); within = omega (arith, h.within, g.1); position = h.position },
              omega (arith, h.place, h.within, g.1),
            ),
            stored buf _ _ l (omega (arith, h.within, g.1)),
          )

  -- a slot that the walk's position names
  module _ (s : Slot) (room : c.position.0 < 15) where
    low : c.cursor.offset ≤ 248
    low = omega (arith, h.place, h.deep)

    key-place : (key_place image c.leaf s c.cursor).offset ≡ c.cursor.offset
    unfolding key_place with_ikey with_length
    key-place = refl

    key : is_storable image c.leaf s c.cursor.offset ≡ true → Leaves (take_key image kind bound buf c s)
    unfolding take_key
    key t = (
      emits c (key_place image c.leaf s c.cursor) (key-place ∙ h.place) h.deep (key_fits image c.leaf s c.cursor low t) room _ _ _ _ _,
      key-buf-length image c.leaf s c.cursor low t buf l,
    )

    layer : c.depth < 31 → Leaves (take_layer image buf c s)
    unfolding take_layer with_ikey
    layer g = ((record { place = h.place; deep = h.deep; within = h.within; position = h.position }, g), stored buf _ _ l low)

    takes : Leaves (take_slot image kind bound buf c s)
    unfolding take_slot
    takes =
        pick_ind Leaves _ (λ t. key t)
        (λ f. pick_ind Leaves _ (λ t. declines Unreadable) (λ f. pick_ind Leaves _ (λ t. declines Unreadable) (λ f. layer (leb-false _ _ f))))

    unless_dup_lem : (o : Result Bool Decline) (new : Taken) → Leaves new → Leaves (unless_dup o buf c new)
    unfolding unless_dup kept onward
    unless_dup_lem (Ok false) new g = g
    unless_dup_lem (Ok true) new g = (goes_on_lem c c.cursor h.place h.deep h.within room c.last, l)
    unless_dup_lem (Err d) new g = declines d

    finds : Leaves (find_slot image kind bound buf c s)
    unfolding find_slot kept back_to_retry
    finds =
        pick_ind Leaves _ (λ t. declines Unreadable)
        (λ f. pick_ind Leaves _ (λ t. (record { place = h.place; deep = h.deep; within = h.within; position = h.position }, l))
        (λ f. unless_dup_lem _ _ takes))

  next : Leaves (find_next image kind bound buf c)
  unfolding find_next kept
  next =
      pick_ind Leaves _ (λ t. declines Unreadable)
      (λ f. pick_ind Leaves _ (λ t. (advances image c buf h, l)) (λ f. finds _ (omega (arith, leb-false (size_of (permutation_at image c.leaf)) c.position.0 f))))

-- ANY MOVE.
pub move_in_range : (s : ScanState) (image : List ℕ) (kind : ℕ) (bound buf : List ℕ) (c : ScanCtx) → Before s c → length buf ≡ 256
    → Good (pass_in s image kind bound buf c).pass × (length (pass_in s image kind bound buf c).buf ≡ 256)
unfolding pass_in kept
move_in_range (Start mode) image kind bound buf c h l = start image kind bound buf c h l mode
move_in_range Retry image kind bound buf c h l = (retry image c buf h, l)
move_in_range FindNext image kind bound buf c h l = next image kind bound buf c h l
move_in_range Down image kind bound buf c h l = (down c h, l)
move_in_range Up image kind bound buf c h l = (up image c buf h, l)

-- The same of what a call of `one_move` gave, a pass p with the outcome o, and left in the buffer, b.
module _ (s : ScanState) (image : List ℕ) (kind : ℕ) (bound buf : List ℕ) (c : ScanCtx) (h : Before s c) (l : length buf ≡ 256) where
  pub pass_in_range : (p : Pass) → Ok p ≡ (pass_in s image kind bound buf c).pass → (o : Outcome) → p.outcome ≡ o → After o p.ctx
  pass_in_range p e o f =
      subst (λ (x : Outcome). After x p.ctx) f (subst (λ (q : Result Pass Decline). Good q) (sym e) (move_in_range s image kind bound buf c h l).0)

  pub buffer_in_range : (b : List ℕ) → b ≡ (pass_in s image kind bound buf c).buf → length b ≡ 256
  buffer_in_range b e = rw e (move_in_range s image kind bound buf c h l).1
