-- WHAT A CALL SAYS OF A SHEET: how many pairs it has and the place of its first station line; or its decline (01, "What each operation
-- declines": "A declined call returns its number, zero elsewhere").
use Rattle.std.specs.Prelude.{Result, Ok, Err}
use Rattle.base.specs.Kit.{length}
use Rattle.base.specs.declared.Decline.{Decline}
use Rattle.sheet.specs.Sheet.{first_line}
use Rattle.reading.specs.Form.{Sheet}
use Rattle.reading.specs.declared.Opened.{Opened}

unfoldable pub opened : Result Sheet Decline → Result Opened Decline
opened (Err d) = Err d
opened (Ok x) = Ok (record { count = length x.pairs; line = length (first_line (length x.pairs)) })
