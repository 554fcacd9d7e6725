-- A walk as a record that crosses to C: 76 numbers, and two buffers of 256 bytes, the cursor's and the bound's.
use Rattle.std.specs.Prelude.{◌&&◌, ◌∷◌, ◌+◌, ◌*◌}
use Rattle.base.specs.Kit.{Bool, List, [], ℕ, zero, suc, eqb, leb, length, get_or}
use Rattle.base.specs.Pick.{pick}
use Rattle.walk.specs.Walk.{empty_context}
use Rattle.walk_record.specs.Types.{StartMode, Above, From, LayerContext, Walk, WalkState, Start, Retry, FindNext, Ended}

-- Where each number stands: image length, root, leaf, position; the cursor's offset, length and ikey; depth; the bound's kind and length;
-- state and start mode; what has been handed out; and from `stack_at` on root and leaf of each of the 31 stack entries.
abbrev pub image_len_at : ℕ
image_len_at = 0

abbrev pub root_at : ℕ
root_at = 1

abbrev pub leaf_at : ℕ
leaf_at = 2

abbrev pub position_at : ℕ
position_at = 3

abbrev pub offset_at : ℕ
offset_at = 4

abbrev pub len_at : ℕ
len_at = 5

abbrev pub ikey_at : ℕ
ikey_at = 6

abbrev pub depth_at : ℕ
depth_at = 7

abbrev pub kind_at : ℕ
kind_at = 8

abbrev pub bound_len_at : ℕ
bound_len_at = 9

abbrev pub state_at : ℕ
state_at = 10

abbrev pub mode_at : ℕ
mode_at = 11

abbrev pub last_depth_at : ℕ
last_depth_at = 12

abbrev pub count_at : ℕ
count_at = 13

abbrev pub stack_at : ℕ
stack_at = 14

abbrev pub numbers_in : ℕ
numbers_in = 76

-- A state's and a start mode's number.
unfoldable pub state_number : WalkState → ℕ
state_number Start = 0
state_number Retry = 1
state_number FindNext = 2
state_number Ended = 3

unfoldable pub state_of : ℕ → WalkState
state_of n = pick (eqb n 0) Start (pick (eqb n 1) Retry (pick (eqb n 2) FindNext Ended))

unfoldable pub mode_number : StartMode → ℕ
mode_number Above = 0
mode_number From = 1

unfoldable pub mode_of : ℕ → StartMode
mode_of n = pick (eqb n 0) Above From

-- FROM A WALK. The numbers of n stack entries from i on, and all numbers; the buffers are the walk's own.
unfoldable pub stack_numbers : List LayerContext → ℕ → ℕ → List ℕ
stack_numbers stack i zero = []
stack_numbers stack i (suc n) =
    let e = get_or stack i empty_context in
    e.root ∷ e.leaf ∷ stack_numbers stack (i + 1) n

unfoldable pub numbers_of : Walk → List ℕ
numbers_of w =
    w.image_len ∷ w.root ∷ w.leaf ∷ w.position.0 ∷ w.cursor.offset ∷ w.cursor.len ∷ w.cursor.ikey ∷ w.depth
    ∷ w.bound.kind ∷ w.bound.len ∷ state_number w.state ∷ mode_number w.mode ∷ w.handed.depth ∷ w.handed.count
    ∷ stack_numbers w.stack 0 31

-- TO A WALK. The stack's entry i, and n entries from i on.
unfoldable pub entry_at : List ℕ → ℕ → LayerContext
entry_at numbers i = record { root = get_or numbers (stack_at + 2 * i) 0; leaf = get_or numbers (stack_at + 1 + 2 * i) 0 }

unfoldable pub entries : List ℕ → ℕ → ℕ → List LayerContext
entries numbers i zero = []
entries numbers i (suc n) = entry_at numbers i ∷ entries numbers (i + 1) n

unfoldable pub read_walk : List ℕ → List ℕ → List ℕ → Walk
read_walk numbers buf bound = record {
  image_len = get_or numbers image_len_at 0;
  root = get_or numbers root_at 0;
  leaf = get_or numbers leaf_at 0;
  position = record { 0 = get_or numbers position_at 0 };
  cursor = record { buf = buf; offset = get_or numbers offset_at 0; len = get_or numbers len_at 0; ikey = get_or numbers ikey_at 0 };
  depth = get_or numbers depth_at 0;
  stack = entries numbers 0 31;
  bound = record { kind = get_or numbers kind_at 0; len = get_or numbers bound_len_at 0; key = bound };
  mode = mode_of (get_or numbers mode_at 0);
  state = state_of (get_or numbers state_at 0);
  handed = record { depth = get_or numbers last_depth_at 0; count = get_or numbers count_at 0 };
}

-- The three lengths of a record.
unfoldable pub sized : ℕ → ℕ → ℕ → Bool
sized numbers buf bound = eqb numbers numbers_in && eqb buf 256 && eqb bound 256

-- Whether a walk can be read of its numbers: a kind that is a byte, one of the four states, and one of the two start modes.
unfoldable pub is_readable : List ℕ → Bool
is_readable numbers = leb (get_or numbers kind_at 0) 255 && leb (get_or numbers state_at 0) 3 && leb (get_or numbers mode_at 0) 1

-- Whether a record is a walk's: its lengths, and those three numbers.
unfoldable pub is_record : List ℕ → List ℕ → List ℕ → Bool
is_record numbers buf bound = sized (length numbers) (length buf) (length bound) && is_readable numbers
