-- Whether the key that a step of a walk handed out, "the first bytes of the walk's buffer", is exactly at the walk's included end.
use Rattle.base.specs.Kit.{Bool, take}
use Rattle.cursor.specs.RangeBound.{at_end}
use Rattle.walk.specs.Walk.{len_of}
use Rattle.scan.specs.Types.{Walk, Stepped}

abbrev pub ends_with : Walk → Stepped → Bool
ends_with w s = at_end w.bound.kind (take w.bound.len w.bound.key) (take (len_of s.answer) s.walk.cursor.buf)
