-- Parts of a walk's record, as the functions make them. specs/Record.antt says what they come to.
use Rattle.std.specs.Prelude.{◌∷◌}
use Rattle.base.specs.Kit.{List, ℕ, get_or, replicate}
use Rattle.walk_record.specs.Types.{CursorKey, RangeBound, HandedOut, Walk}
use Rattle.walk_record.specs.Record.{offset_at, len_at, ikey_at, kind_at, bound_len_at, last_depth_at, count_at, mode_number, state_number}

-- The numbers before the stack's, which are zero yet.
unfoldable pub head_of : Walk → List ℕ
head_of w =
    w.image_len ∷ w.root ∷ w.leaf ∷ w.position.0 ∷ w.cursor.offset ∷ w.cursor.len ∷ w.cursor.ikey ∷ w.depth
    ∷ w.bound.kind ∷ w.bound.len ∷ state_number w.state ∷ mode_number w.mode ∷ w.handed.depth ∷ w.handed.count ∷ replicate 62 0

unfoldable pub read_cursor : List ℕ → List ℕ → CursorKey
read_cursor numbers buf = record { buf = buf; offset = get_or numbers offset_at 0; len = get_or numbers len_at 0; ikey = get_or numbers ikey_at 0 }

unfoldable pub read_bound : List ℕ → List ℕ → RangeBound
read_bound numbers bound = record { kind = get_or numbers kind_at 0; len = get_or numbers bound_len_at 0; key = bound }

unfoldable pub read_handed : List ℕ → HandedOut
read_handed numbers = record { depth = get_or numbers last_depth_at 0; count = get_or numbers count_at 0 }
