-- Two keys compared by eights (02 [4]: "it shall compare eight bytes at a time while both keys have eight left, then single bytes. Its
-- answer is proved to be plain byte order's, and it returns its comparisons too: one for each eight and each single byte through the
-- first that differs").
use Rattle.std.specs.Prelude.{◌∷◌, ◌++◌, ◌/◌, ◌%◌}
use Rattle.base.specs.Kit.{List, [], ℕ, suc, min, length, take, drop, replicate}
use Rattle.key.specs.Order.{byte_order}
use Rattle.key.specs.declared.Compared.{Compared}
use Rattle.std.specs.declared.cmp.Ordering.{Ordering}
use Rattle.std.specs.declared.cmp.Ordering.TheVariants.{Less, Equal, Greater}

-- How many bytes each comparison takes, of n that both keys have: "eight bytes at a time while both keys have eight left, then single
-- bytes".
unfoldable pub widths : ℕ → List ℕ
widths n = replicate (n / 8) 8 ++ replicate (n % 8) 1

-- What comes after two pieces that differ does not count.
unfoldable pub if_equal : Ordering → ℕ → ℕ
if_equal Less n = 0
if_equal Equal n = n
if_equal Greater n = 0

-- The comparisons of pieces of these widths: "one for each .. through the first that differs".
unfoldable pub through : List ℕ → List ℕ → List ℕ → ℕ
through [] s t = 0
through (w ∷ ws) s t = suc (if_equal (byte_order (take w s) (take w t)) (through ws (drop w s) (drop w t)))

-- Two keys compared by pieces of these widths: plain byte order's answer, and the comparisons.
unfoldable pub compared_by : List ℕ → List ℕ → List ℕ → Compared
compared_by ws s t = record { order = byte_order s t; comparisons = through ws s t }

-- By eights, and then by single bytes.
unfoldable pub compared : List ℕ → List ℕ → Compared
compared s t = compared_by (widths (min (length s) (length t))) s t
