-- The fast path of a step on a record, as the functions make it. It serves the code alone: specs/Interface.antt says what a step of a
-- record comes to.
use Rattle.std.specs.Prelude.{◌+◌}
use Rattle.base.specs.Kit.{Bool, List, [], ℕ, get_or, set}
use Rattle.record_step.specs.Types.{CursorPlace, HandedOut, WalkState}
use Rattle.walk.specs.Walk.{walk_ok}
use Rattle.walk_record.specs.Record.{position_at, offset_at, len_at, ikey_at, state_at, last_depth_at, count_at, state_number, read_walk}

-- The test of a walk's numbers (01's 21), which reads none of its buffers.
unfoldable pub numbers_ok : List ℕ → ℕ → Bool
numbers_ok numbers n = walk_ok (read_walk numbers [] []) n

-- The cursor of a record's walk.
abbrev pub place_of : List ℕ → CursorPlace
place_of numbers = record { offset = get_or numbers offset_at 0; len = get_or numbers len_at 0; ikey = get_or numbers ikey_at 0 }

-- The numbers one position on, with a key, a state, and what the walk has handed out.
unfoldable pub key_numbers : List ℕ → CursorPlace → WalkState → HandedOut → List ℕ
key_numbers numbers k state handed =
    set (set (set (set (set (set numbers position_at (get_or numbers position_at 0 + 1)) len_at k.len) ikey_at k.ikey) state_at (state_number state))
    last_depth_at handed.depth) count_at handed.count
