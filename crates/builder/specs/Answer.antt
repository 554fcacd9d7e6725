-- WHAT THE BUILDER ANSWERS (02 [2]: "Read sheet edition 1, write an image"; "Errors: 31 a line not in the sheet's form or a wrong key count,
-- 32 key over 256 bytes or not above the one before, 33 output shorter than the image or image over 16,777,216; in that order over the whole
-- sheet, nothing written, length 0"), and the output after it ("Lent output past the written length keeps its bytes", 01).
use Rattle.std.specs.Prelude.{◌&&◌, Result, Ok, Err}
use Rattle.base.specs.Kit.{Bool, List, ℕ, leb, length}
use Rattle.base.specs.Pick.{pick}
use Rattle.base.specs.Decline.{decline_number}
use Rattle.base.specs.declared.Decline.{Decline}
use Rattle.base.specs.declared.Decline.TheVariants.{ImageRoom}
use Rattle.reading.specs.Form.{Sheet}
use Rattle.reading.specs.Fault.{read_sheet}
use Rattle.building.specs.Build.{build}
use Rattle.building.specs.CodeWritten.{put}

-- An image of n bytes may be written where there is room for it.
unfoldable pub fits : ℕ → ℕ → Bool
fits n room = leb n room && leb n 16777216

unfoldable pub answered : Result Sheet Decline → ℕ → Result ℕ Decline
answered (Err d) room = Err d
answered (Ok x) room = pick (fits (length (build x.pairs)) room) (Ok (length (build x.pairs))) (Err ImageRoom)

unfoldable pub out_after : Result Sheet Decline → List ℕ → List ℕ
out_after (Err d) out = out
out_after (Ok x) out = pick (fits (length (build x.pairs)) (length out)) (put out 0 (build x.pairs)) out

-- THE ANSWER for a sheet s and output of some length; and the output afterwards.
unfoldable pub built : List ℕ → ℕ → Result ℕ Decline
built s room = answered (read_sheet s) room

unfoldable pub built_out : List ℕ → List ℕ → List ℕ
built_out s out = out_after (read_sheet s) out

-- The number of an answer, 0 where an image was written; and the image's length, 0 where it was declined.
unfoldable pub built_number : Result ℕ Decline → ℕ
built_number (Ok n) = 0
built_number (Err d) = decline_number d

unfoldable pub built_length : Result ℕ Decline → ℕ
built_length (Ok n) = n
built_length (Err d) = 0
