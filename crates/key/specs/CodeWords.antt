-- Words of a byte string, as the functions copy them.
use Rattle.std.specs.Prelude.{◌-◌}
use Rattle.base.specs.Kit.{List, ℕ, min, length, paste}
use Rattle.key.specs.Part.{part}

-- d with a word of s in its place: the eight bytes from i on, or the last eight where fewer are left.
unfoldable pub paste_word : List ℕ → List ℕ → ℕ → List ℕ
paste_word d s i = let from = min i (length s - 8) in paste d from (part s from 8) 8
