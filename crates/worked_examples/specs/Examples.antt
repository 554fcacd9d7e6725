-- 01's surveyed examples P1 to P12, as one table and a single claim about the definitions.
use Rattle.std.specs.Prelude.{◌∷◌, ◌++◌, ◌+◌, Result}
use Rattle.base.specs.Kit.{List, [], Option, none, some, ℕ, zero, suc, eqb, length, take, replicate}
use Rattle.base.specs.declared.Decline.{Decline}
use Rattle.base.specs.Pick.{pick}
use Rattle.layering.specs.Keys.{Pair}
use Rattle.verify.specs.Check.{check, check_number, check_counts}
use Rattle.verify.specs.declared.Counts.{Counts}
use Rattle.walk.specs.Walk.{number_of, keys_of, len_of, value_of}
use Rattle.walk.specs.Placing.{code_of, place}
use Rattle.scan.specs.Machine.{step}
use Rattle.cursor.specs.declared.range_bound.StartMode.{StartMode}
use Rattle.cursor.specs.declared.range_bound.StartMode.TheVariants.{Above, From}
use Rattle.walk.specs.declared.scan_state.Placed.{Placed}
use Rattle.walk.specs.Types.{Stepped}
use Rattle.walk.specs.declared.scan_state.Walk.{Walk}
use Rattle.worked_examples.specs.Sample.{entry, dead, layer_slot, leaf_bytes, image_of, one_leaf}

-- What an example says: the check's number of its image, 0 for each, and its leaves, value slots and sub-layers; the number with which
-- placing or a step declines, 0 where the walk comes to its end; the keys handed out with their values before that; and all moves up to
-- and with the first none, where 01 gives them.
pub record Stated : Type 0 where
  pub checked : List ℕ
  pub number : ℕ
  pub pairs : List Pair
  pub moves : Option ℕ

pub record Example : Type 0 where
  pub image : List ℕ
  pub mode : StartMode
  pub cursor : List ℕ
  pub kind : ℕ
  pub bound : List ℕ
  pub says : Stated

-- A key with a value.
unfoldable pub pair : List ℕ → ℕ → Pair
pair key value = record { key = key; value = value }

-- What a walk hands out in at most n steps: its keys and values up to the first answer that is no key, that answer's number, and
-- all moves.
pub record Handed : Type 0 where
  pub number : ℕ
  pub pairs : List Pair
  pub moves : ℕ

unfoldable pub handed_by : Stepped → Handed → Handed
handed_by s rest =
    let a = s.answer in
    pick (eqb (keys_of a) 0) (record { number = number_of a; pairs = []; moves = s.moves })
    (record { number = rest.number; pairs = pair (take (len_of a) s.walk.cursor.buf) (value_of a) ∷ rest.pairs; moves = s.moves + rest.moves })

unfoldable pub hand : ℕ → List ℕ → Walk → Handed
hand zero image w = record { number = 0; pairs = []; moves = 0 }
hand (suc n) image w =
    let s = step w image in
    let rest = hand n image s.walk in
    handed_by s rest

-- The check's answer as four numbers.
unfoldable pub check_numbers : Result Counts Decline → List ℕ
check_numbers r = check_number r ∷ (check_counts r).leaves ∷ (check_counts r).value_slots ∷ (check_counts r).sub_layers ∷ []

-- 01 gives the moves of some examples only.
unfoldable pub asked : Option ℕ → ℕ → Option ℕ
asked (some n) moves = some moves
asked none moves = none

-- What the machine says of an example: the placing's number; or what as many steps as the example has keys, and one more, hand out.
unfoldable pub answered : Example → Placed → Stated
answered e p =
    let h = hand (length e.says.pairs + 1) e.image p.walk in
    let c = check_numbers (check e.image) in
    pick (eqb (code_of p) 0) (record { checked = c; number = h.number; pairs = h.pairs; moves = asked e.says.moves h.moves })
    (record { checked = c; number = code_of p; pairs = []; moves = none })

unfoldable pub machine_says : Example → Stated
machine_says e = answered e (place e.image e.mode e.cursor e.kind e.bound)

unfoldable pub paper_says : Example → Stated
paper_says e = e.says

-- "Tree A: one leaf, ""=1, "a"=7, "ab"=9, 440 bytes."
unfoldable pub tree_a : List ℕ
tree_a = one_leaf 3 (entry [] 1 ∷ entry (97 ∷ []) 7 ∷ entry (97 ∷ 98 ∷ []) 9 ∷ [])

-- "Tree B: a root leaf whose one slot is a layer at "entrance", its leaf holding ".1"=4, ".2"=5; 840 bytes."
unfoldable pub entrance : List ℕ
entrance = 101 ∷ 110 ∷ 116 ∷ 114 ∷ 97 ∷ 110 ∷ 99 ∷ 101 ∷ []

unfoldable pub tree_b : List ℕ
tree_b = image_of (leaf_bytes (entry (46 ∷ 49 ∷ []) 4 ∷ entry (46 ∷ 50 ∷ []) 5 ∷ []) ++ leaf_bytes (layer_slot entrance 8 ∷ [])) 408 2

-- An accepted image's four numbers, and an example that hands out keys.
unfoldable pub accepts : ℕ → ℕ → ℕ → List ℕ
accepts leaves values layers = 0 ∷ leaves ∷ values ∷ layers ∷ []

unfoldable pub gives : List ℕ → List Pair → Option ℕ → Stated
gives checked pairs moves = record { checked = checked; number = 0; pairs = pairs; moves = moves }

unfoldable pub walking : List ℕ → StartMode → List ℕ → ℕ → List ℕ → Stated → Example
walking image mode cursor kind bound says = record { image = image; mode = mode; cursor = cursor; kind = kind; bound = bound; says = says }

-- The two trees are accepted.
unfoldable pub checked_a : List ℕ
checked_a = accepts 1 3 0

unfoldable pub checked_b : List ℕ
checked_b = accepts 2 2 1

unfoldable pub table : List Example
table =
    -- P1 A above "": a, ab, none; 5 moves. P2 A from "": all three; 6 moves. P3 A above "a": ab. P4 A above "ab": none.
    walking tree_a Above [] 0 [] (gives checked_a (pair (97 ∷ []) 7 ∷ pair (97 ∷ 98 ∷ []) 9 ∷ []) (some 5))
    ∷ walking tree_a From [] 0 [] (gives checked_a (pair [] 1 ∷ pair (97 ∷ []) 7 ∷ pair (97 ∷ 98 ∷ []) 9 ∷ []) (some 6))
    ∷ walking tree_a Above (97 ∷ []) 0 [] (gives checked_a (pair (97 ∷ 98 ∷ []) 9 ∷ []) none)
    ∷ walking tree_a Above (97 ∷ 98 ∷ []) 0 [] (gives checked_a [] none)
    -- P5 B from "": entrance.1, entrance.2; 10 moves. P6 B above "entrance": both. P7 B from "", included "entrance.1": that one,
    -- then none; 02 [12]: "P7 adds its moves, 5 where there were 6". P8 same, excluded: none.
    ∷ walking tree_b From [] 0 [] (gives checked_b (pair (entrance ++ (46 ∷ 49 ∷ [])) 4 ∷ pair (entrance ++ (46 ∷ 50 ∷ [])) 5 ∷ []) (some 10))
    ∷ walking tree_b Above entrance 0 [] (gives checked_b (pair (entrance ++ (46 ∷ 49 ∷ [])) 4 ∷ pair (entrance ++ (46 ∷ 50 ∷ [])) 5 ∷ []) none)
    ∷ walking tree_b From [] 1 (entrance ++ (46 ∷ 49 ∷ [])) (gives checked_b (pair (entrance ++ (46 ∷ 49 ∷ [])) 4 ∷ []) (some 5))
    ∷ walking tree_b From [] 2 (entrance ++ (46 ∷ 49 ∷ [])) (gives checked_b [] none)
    -- P9 leaf with "a", "a\0", above "a": "a\0". P10 dead "a", live "b", from "": b; 02 [3]: "P10's image states 1". P11 empty leaf,
    -- above "": none, 3 moves. P12 nine-byte cursor: 11; 02 [1]: "Example P12 becomes a 257-byte cursor".
    ∷ walking (one_leaf 2 (entry (97 ∷ []) 1 ∷ entry (97 ∷ 0 ∷ []) 2 ∷ [])) Above (97 ∷ []) 0 [] (gives (accepts 1 2 0) (pair (97 ∷ 0 ∷ []) 2 ∷ []) none)
    ∷ walking (one_leaf 1 (dead (97 ∷ []) 1 ∷ entry (98 ∷ []) 2 ∷ [])) From [] 0 [] (gives (accepts 1 2 0) (pair (98 ∷ []) 2 ∷ []) none)
    ∷ walking (one_leaf 0 []) Above [] 0 [] (gives (accepts 1 0 0) [] (some 3))
    ∷ walking tree_a Above (replicate 257 97) 0 [] (record { checked = checked_a; number = 11; pairs = []; moves = none })
    ∷ []
