-- GROUPS AS CODE FINDS THEM in the station lines of a sheet: the pairs of one ikey, those that end in a layer first, then those that go on
-- below it (building/specs/Shape.antt has the groups and their slots).
use Rattle.std.specs.Prelude.{◌≡◌, ◌&&◌, ◌∷◌, ◌+◌, ◌*◌, ◌-◌, ◌≤◌, ◌<◌}
use Rattle.base.specs.Kit.{List, [], map, ℕ, suc, leb, eqb, length, drop}
use Rattle.base.specs.Pick.{pick}
use Rattle.key.specs.Ikey.{ikey_of}
use Rattle.layering.specs.Tree.{Slots, none, value}
use Rattle.layering.specs.Keys.{Pair}
use Rattle.layering.specs.Ascending.{All, Ascending}
use Rattle.reading.specs.Read.{got, station}
use Rattle.reading.specs.Pairs.{pairs_in}
use Rattle.reading.specs.CodeViews.{key_at}
use Rattle.building.specs.Shape.{ends_here, group_slots, groups, layer_of}
use Rattle.building.specs.CodeOrder.{run, behind_run}
use Rattle.building.specs.CodeGood.{Good}
use Rattle.groups.specs.declared.Group.{Group}
use Rattle.groups.specs.declared.Lowered.{Lowered}
use Rattle.groups.specs.declared.LoweredKey.{LoweredKey}

-- LINES. Pairs as a layer at depth d has them, without the eight bytes of each layer above; those of n station lines of a text.
abbrev pub lower : ℕ → Pair → Pair
lower d x = record { key = drop (8 * d) x.key; value = x.value }

unfoldable pub lowered : ℕ → List Pair → List Pair
lowered d ps = map (lower d) ps

unfoldable pub lines_at : List ℕ → ℕ → ℕ → ℕ → List Pair
lines_at s d line n = lowered d (pairs_in n (drop line s))

-- All n station lines stand there.
pub record Lines (s : List ℕ) (line n : ℕ) : Type 0 where
  pub inside : line ≤ length s
  pub whole : length (pairs_in n (drop line s)) ≡ n

-- A station line stands there, and its key fits a buffer.
pub record OneLine (s : List ℕ) (line : ℕ) : Type 0 where
  pub whole : length (pairs_in 1 (drop line s)) ≡ 1
  pub short : All (λ (x : Pair). length x.key ≤ 256) (pairs_in 1 (drop line s))

-- A station line as a layer at depth d has it, with its key.
pub record LoweredKeyRead (s : List ℕ) (d line : ℕ) (r : LoweredKey) : Type 0 where
  pub is : station (drop line s) ≡ got (record { key = key_at (drop line s); value = r.value }) (drop r.next s)
  pub key : r.key.now ≡ drop (8 * d) (key_at (drop line s))
  pub on : line < r.next
  pub inside : r.next ≤ length s

-- A station line as a layer at depth d has it.
pub record LoweredRead (s : List ℕ) (d line : ℕ) (r : Lowered) : Type 0 where
  pub is : station (drop line s) ≡ got (record { key = key_at (drop line s); value = r.value }) (drop r.next s)
  pub ikey : r.ikey ≡ ikey_of (drop (8 * d) (key_at (drop line s)))
  pub len : r.len ≡ length (drop (8 * d) (key_at (drop line s)))
  pub on : line < r.next
  pub inside : r.next ≤ length s

-- GROUPS. The first group of some pairs, and the pairs behind it.
unfoldable pub group_of : List Pair → List Pair
group_of [] = []
group_of (x ∷ l) = x ∷ run (ikey_of x.key) l

unfoldable pub behind_group : List Pair → List Pair
behind_group [] = []
behind_group (x ∷ l) = behind_run (ikey_of x.key) l

-- The keys of a group that end in the layer, while they do; and all from the first on that does not.
unfoldable pub shorts_of : List Pair → List Pair
shorts_of [] = []
shorts_of (x ∷ l) = let r = x ∷ shorts_of l in pick (leb (length x.key) 8) r []

unfoldable pub longs_of : List Pair → List Pair
longs_of [] = []
longs_of (x ∷ l) = let r = longs_of l in pick (leb (length x.key) 8) r (x ∷ l)

unfoldable pub short_slots : List Pair → Slots
short_slots [] = none
short_slots (x ∷ l) = value (ends_here x) (short_slots l)

-- What a layer with `below` layers below it is given: `left` station lines, whose keys ascend and fit the layers.
pub record Fit (s : List ℕ) (below line left : ℕ) : Type 0 where
  pub deep : below ≤ 31
  pub lines : Lines s line left
  pub ascend : Ascending (lines_at s (31 - below) line left)
  pub good : All (Good (suc below) (31 - below)) (lines_at s (31 - below) line left)

-- What the long keys of one ikey are in it: n station lines; where there are two or more they are a layer below it.
pub record LongsFit (s : List ℕ) (below line n : ℕ) : Type 0 where
  pub deep : below ≤ 31
  pub lines : Lines s line n
  pub long : All (λ (x : Pair). 8 < length x.key) (lines_at s (31 - below) line n)
  pub short : All (λ (x : Pair). length x.key ≤ 8 * suc below) (lines_at s (31 - below) line n)
  pub sub : 2 ≤ n → (0 < below) × Fit s (below - 1) line n

-- The slots of its groups.
unfoldable pub slots_at : List ℕ → ℕ → ℕ → ℕ → List Slots
slots_at s below line left = map (group_slots (layer_of below)) (groups (lines_at s (31 - below) line left))

-- A group that was looked for among the `left` lines from `line` on: its shorts stand from `line` on, its longs from `long_line` on, and
-- the other lines from `behind` on.
pub record GroupRead (s : List ℕ) (d line left : ℕ) (g : Group) : Type 0 where
  pub some : 0 < g.shorts + g.longs
  pub fewer : g.shorts + g.longs ≤ left
  pub shorts : lines_at s d line g.shorts ≡ shorts_of (group_of (lines_at s d line left))
  pub longs : lines_at s d g.long_line g.longs ≡ longs_of (group_of (lines_at s d line left))
  pub rest : lines_at s d g.behind (left - (g.shorts + g.longs)) ≡ behind_group (lines_at s d line left)
  pub short-lines : Lines s line g.shorts
  pub long-lines : Lines s g.long_line g.longs
  pub rest_lines : Lines s g.behind (left - (g.shorts + g.longs))

-- A group so far, with one more line, whose key has len bytes and behind which is `next`: once one goes on below all do.
unfoldable pub grown : Group → ℕ → ℕ → Group
grown g len next =
    pick (eqb g.longs 0 && leb len 8) (record { shorts = g.shorts + 1; longs = 0; long_line = next; behind = next })
    (record { shorts = g.shorts; longs = g.longs + 1; long_line = g.long_line; behind = next })
