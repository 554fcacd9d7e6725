-- How an image's three numbers are shown.
use Rattle.std.specs.Prelude.{ℕ, List, ◌++◌, codes}
use Rattle.std.specs.Fmt.{decimal}
use Rattle.verify.specs.Types.{Counts}

-- leaves, value slots and sub-layers, each in decimal, with a space between
abbrev pub counts_text : Counts → List ℕ
counts_text c = decimal c.leaves ++ codes " " ++ decimal c.value_slots ++ codes " " ++ decimal c.sub_layers
