-- What the functions of the moves ask of a walk's numbers.
use Rattle.std.specs.Prelude.{◌≡◌, ◌+◌, ◌*◌, ◌≤◌}
use Rattle.base.specs.Kit.{ℕ}
use Rattle.moves.specs.Types.{ScanState, Start, Retry, FindNext, Down, Up, ScanCtx}

-- What a move asks of the numbers: the key within the buffer, and a layer above for Up.
unfoldable pub InBuffer : ScanState → ScanCtx → Type 0
InBuffer (Start mode) c = c.cursor.offset + c.cursor.len ≤ 256
InBuffer Retry c = c.cursor.offset + c.cursor.len ≤ 256
InBuffer FindNext c = (c.position.0 ≤ 15) × (c.cursor.offset ≤ 248) × (c.cursor.offset + c.cursor.len ≤ 256)
InBuffer Down c = c.cursor.offset ≤ 256
InBuffer Up c = (8 ≤ c.cursor.offset) × (c.cursor.offset ≤ 248)

abbrev pub MoveOk : ScanCtx → Type 0
MoveOk c = InBuffer c.state c

-- The numbers of a walk whose cursor stands at the place of a layer.
pub record InRange (layer : ℕ) (c : ScanCtx) : Type 0 where
  pub place : c.cursor.offset ≡ 8 * layer
  pub deep : layer ≤ 31
  pub within : c.cursor.offset + c.cursor.len ≤ 256
  pub position : c.position.0 ≤ 15
