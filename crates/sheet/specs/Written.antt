-- One line written into a lent buffer, whole or not at all (01, "What each operation declines": "Lent output past the written
-- length keeps its bytes"). `paste out 0 line n` of the library is `out` with the first n bytes of the line at its front.
use Rattle.base.specs.Kit.{List, ℕ, leb, length, paste}
use Rattle.base.specs.Pick.{pick}

-- The written length: the line's, or 0 where the buffer is too short for it.
unfoldable pub written_len : List ℕ → List ℕ → ℕ
written_len line out = pick (leb (length line) (length out)) (length line) 0

-- The buffer afterwards: the line at its front and the rest as it was, or all as it was where the line does not fit.
unfoldable pub written_out : List ℕ → List ℕ → List ℕ
written_out line out = pick (leb (length line) (length out)) (paste out 0 line (length line)) out
