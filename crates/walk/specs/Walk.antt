-- A walk between calls, over any record: what a step's answer says, the walk that has made no move, and the range of a walk's numbers
-- (01, "Place a walk", "Step a walk").
use Rattle.std.specs.Prelude.{◌≡◌, ◌&&◌, ◌∷◌, ◌+◌, ◌*◌, Option, Some, None, Result, Ok, Err}
use Rattle.base.specs.Decline.{decline_number}
use Rattle.base.specs.Kit.{Bool, List, [], ℕ, leb, eqb, replicate}
use Rattle.walk.specs.Types.{CursorKey, RangeBound, StartMode, Above, LayerContext, WalkState, Ended, HandedOut, KeyOut, Walk, WalkNumbers, Answer}

-- WHAT AN ANSWER SAYS: 01's number of it, 0 where the step was not declined; how many keys are out, one or none; the key's length and its
-- value: "None has key length 0 and value 0", and a declined call "returns its number, zero elsewhere". Every promise about an answer is
-- made by these four. The last three ask nothing of why it was declined, which may be of any type.
unfoldable pub number_of : Answer → ℕ
number_of (Ok a) = 0
number_of (Err d) = decline_number d

-- n is an answer's number, where `numbers` says of each decline which number it has: 0 where the step was not declined.
abbrev pub HasNumberBy : {E : Type 0} → (E → ℕ → Type 0) → Result (Option KeyOut) E → ℕ → Type 0
HasNumberBy numbers (Ok a) n = n ≡ 0
HasNumberBy numbers (Err d) n = numbers d n

unfoldable pub keys_of : {E : Type 0} → Result (Option KeyOut) E → ℕ
keys_of (Ok (Some k)) = 1
keys_of (Ok None) = 0
keys_of (Err d) = 0

unfoldable pub len_of : {E : Type 0} → Result (Option KeyOut) E → ℕ
len_of (Ok (Some k)) = k.len
len_of (Ok None) = 0
len_of (Err d) = 0

unfoldable pub value_of : {E : Type 0} → Result (Option KeyOut) E → ℕ
value_of (Ok (Some k)) = k.value
value_of (Ok None) = 0
value_of (Err d) = 0

-- WHAT A WALK HAS HANDED OUT. 02 [13]: "the depth at which the last key was found and how many have been handed out so far; depth is 0
-- and the count 0 before the first".
abbrev pub nothing_yet : HandedOut
nothing_yet = record { depth = 0; count = 0 }

-- with one key more, which was found at a depth
abbrev pub one_more : HandedOut → ℕ → HandedOut
one_more h depth = record { depth = depth; count = h.count + 1 }

-- The last three of an answer, the moves, and these two, as they cross to C.
unfoldable pub answer_numbers : {E : Type 0} → Result (Option KeyOut) E → ℕ → HandedOut → List ℕ
answer_numbers a moves h = keys_of a ∷ len_of a ∷ value_of a ∷ moves ∷ h.depth ∷ h.count ∷ []

-- A WALK THAT HAS MADE NO MOVE.
abbrev pub empty_context : LayerContext
empty_context = record { root = 0; leaf = 0 }

-- A walk that has made no move. "It keeps image length, layer root (first the tree's), leaf, position, cursor, stack (empty), bound and
-- state." 02 [1]: "The walk keeps its start mode for this"; 02 [13]: "the walk itself" carries what it has handed out.
abbrev pub new_walk : ℕ → ℕ → CursorKey → RangeBound → StartMode → WalkState → Walk
new_walk image_len root cursor bound mode state = record {
  image_len = image_len;
  root = root;
  leaf = 0;
  position = record { 0 = 0 };
  cursor = cursor;
  depth = 0;
  stack = replicate 31 empty_context;
  bound = bound;
  mode = mode;
  state = state;
  handed = nothing_yet;
}

-- "a declined placing gives the all-zero walk, ended"; 02 [1], of the start mode: "the all-zero walk's is above".
unfoldable pub zero_walk : Walk
zero_walk =
    new_walk 0 0 (record { buf = replicate 256 0; offset = 0; len = 0; ikey = 0 }) (record { kind = 0; len = 0; key = replicate 256 0 }) Above Ended

-- THE RANGE OF ITS NUMBERS. "21: image length is not the one placed over, or the walk's numbers are out of range (depth over 31, cursor offset not
-- 8 × depth, offset plus length over 256, position over 15, kind over 2, bound length over 256)." 02 [13]: "21 also covers a last depth over
-- 31 or a count above the image's length."
unfoldable pub in_range : WalkNumbers → ℕ → Bool
in_range m n =
    eqb m.image_len n && leb m.depth 31 && eqb m.offset (8 * m.depth) && leb (m.offset + m.len) 256 && leb m.position 15 && leb m.kind 2
    && leb m.bound_len 256 && leb m.last_depth 31 && leb m.count n

abbrev pub numbers_in : Walk → WalkNumbers
numbers_in w = record {
  image_len = w.image_len;
  depth = w.depth;
  offset = w.cursor.offset;
  len = w.cursor.len;
  position = w.position.0;
  kind = w.bound.kind;
  bound_len = w.bound.len;
  last_depth = w.handed.depth;
  count = w.handed.count;
}

unfoldable pub walk_ok : Walk → ℕ → Bool
walk_ok w n = in_range (numbers_in w) n
