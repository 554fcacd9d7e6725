-- What is asked of an image before its tree is looked at (01, "Check an image": "1: length under 440, over 16,777,216, or
-- no multiple of 8. 2: stated length differs, or edition is not 1"). The check and the placing both begin with it.
use Rattle.std.specs.Prelude.{◌&&◌, ◌%◌, Result, Ok, Err}
use Rattle.base.specs.Kit.{Bool, not, List, ℕ, leb, eqb, length}
use Rattle.base.specs.Pick.{pick}
use Rattle.base.specs.declared.Decline.{Decline}
use Rattle.base.specs.declared.Decline.TheVariants.{ImageLength, Trailer}
use Rattle.node.specs.Layout.{stated_length, edition}

-- Whether an image may have n bytes.
unfoldable pub length_ok : ℕ → Bool
length_ok n = leb 440 n && (leb n 16777216 && eqb (n % 8) 0)

-- Whether an image's tree is to be looked at.
unfoldable pub heading : List ℕ → Result Unit Decline
heading image =
    pick (not (length_ok (length image))) (Err ImageLength)
    (pick (not (eqb (stated_length image) (length image) && eqb (edition image) 1)) (Err Trailer) (Ok tt))
