-- WHAT A READER OF SHEETS DECLINES (02 [2]: "31 a line not in the sheet's form or a wrong key count, 32 key over 256 bytes or not above
-- the one before, .. in that order over the whole sheet").
use Rattle.std.specs.Prelude.{◌&&◌, ◌∷◌, Result, Ok, Err}
use Rattle.std.specs.Ordering.{is_lt}
use Rattle.base.specs.Kit.{Bool, true, List, [], ℕ, leb, length}
use Rattle.base.specs.Pick.{pick}
use Rattle.base.specs.declared.Decline.{Decline}
use Rattle.base.specs.declared.Decline.TheVariants.{SheetForm, SheetOrder}
use Rattle.key.specs.Order.{byte_order}
use Rattle.layering.specs.Keys.{Pair}
use Rattle.reading.specs.Form.{Sheet}
use Rattle.reading.specs.Read.{Got, none, got, next, read_head, body}

-- Keys of at most 256 bytes, "above the one before": behind a key j, and from the first on.
unfoldable pub rise_above : List ℕ → List Pair → Bool
rise_above j [] = true
rise_above j (x ∷ xs) = (leb (length x.key) 256 && is_lt (byte_order j x.key)) && rise_above x.key xs

unfoldable pub keys_rise : List Pair → Bool
keys_rise [] = true
keys_rise (x ∷ xs) = leb (length x.key) 256 && rise_above x.key xs

-- The answer: a sheet, or its decline.
unfoldable pub judged : Sheet → Result Sheet Decline
judged x = pick (keys_rise x.pairs) (Ok x) (Err SheetOrder)

unfoldable pub formed : Got Sheet → Result Sheet Decline
formed none = Err SheetForm
formed (got x s) = judged x

-- THE READER.
unfoldable pub read_sheet : List ℕ → Result Sheet Decline
read_sheet s = formed (next (read_head s) body)
