-- WHAT A GHOST FIELD SAYS HAS ONE PROOF AT MOST: what a layer is given, and a group that was found.
use Rattle.std.specs.Prelude.{◌∷◌, ◌+◌, ◌-◌}
use Rattle.base.specs.Kit.{ap, List, [], ℕ, suc}
use Rattle.std.specs.Coded.{coded_ℕ, coded_list, Coded-set, ×_prop, →_prop, Unit-prop, le_prop}
use Rattle.std.specs.contracts.cmp.Ordering as ordering
use Rattle.std.specs.declared.cmp.Ordering.TheVariants.{Less}
use mathlib.Core.List.{is_set}
use Rattle.key.proofs.Bytes.{Bytes}
use Rattle.key.specs.Order.{byte_order}
use Rattle.layering.specs.Keys.{Pair}
use Rattle.layering.specs.Ascending.{All, Ascending}
use Rattle.building.specs.CodeGood.{Good}
use Rattle.groups.specs.declared.Group.{Group}
use Rattle.groups.specs.CodeGroups.{lines_at, Lines, Fit, GroupRead}

numbers_set : IsSet (List ℕ)
numbers_set = Coded-set (coded_list coded_ℕ)

Pair-set : IsSet Pair
Pair-set a b p q = λ i j. record {
  key = numbers_set a.key b.key (ap (λ (x : Pair). x.key) p) (ap (λ (x : Pair). x.key) q) i j;
  value = Coded-set coded_ℕ a.value b.value (ap (λ (x : Pair). x.value) p) (ap (λ (x : Pair). x.value) q) i j;
}

pairs_set : IsSet (List Pair)
pairs_set = is_set Pair-set

Bytes-prop : (k : List ℕ) → IsProp (Bytes k)
Bytes-prop [] = Unit-prop
Bytes-prop (a ∷ k) = ×_prop le_prop (Bytes-prop k)

All-prop : (P : Pair → Type 0) → ((x : Pair) → IsProp (P x)) → (l : List Pair) → IsProp (All P l)
All-prop P h [] = Unit-prop
All-prop P h (x ∷ l) = ×_prop (h x) (All-prop P h l)

Ascending-prop : (l : List Pair) → IsProp (Ascending l)
unfolding Ascending
Ascending-prop [] = Unit-prop
Ascending-prop (x ∷ l) = ×_prop (All-prop _ (λ y. Coded-set ordering.the_row.coded (byte_order x.key y.key) Less) l) (Ascending-prop l)

Good-prop : (m depth : ℕ) (x : Pair) → IsProp (Good m depth x)
Good-prop m depth x a b = λ i. record {
  bytes = Bytes-prop x.key a.bytes b.bytes i;
  short = le_prop a.short b.short i;
  value = le_prop a.value b.value i;
  some = →_prop le_prop a.some b.some i;
}

Lines-prop : (s : List ℕ) (line n : ℕ) → IsProp (Lines s line n)
Lines-prop s line n a b = λ i. record { inside = le_prop a.inside b.inside i; whole = Coded-set coded_ℕ _ _ a.whole b.whole i }

pub Fit-prop : (s : List ℕ) (below line left : ℕ) → IsProp (Fit s below line left)
Fit-prop s below line left a b = λ i. record {
  deep = le_prop a.deep b.deep i;
  lines = Lines-prop s line left a.lines b.lines i;
  ascend = Ascending-prop (lines_at s (31 - below) line left) a.ascend b.ascend i;
  good = All-prop (Good (suc below) (31 - below)) (Good-prop (suc below) (31 - below)) (lines_at s (31 - below) line left) a.good b.good i;
}

pub GroupRead-prop : (s : List ℕ) (d line left : ℕ) (g : Group) → IsProp (GroupRead s d line left g)
GroupRead-prop s d line left g a b = λ i. record {
  some = le_prop a.some b.some i;
  fewer = le_prop a.fewer b.fewer i;
  shorts = pairs_set _ _ a.shorts b.shorts i;
  longs = pairs_set _ _ a.longs b.longs i;
  rest = pairs_set _ _ a.rest b.rest i;
  short-lines = Lines-prop s line g.shorts a.short-lines b.short-lines i;
  long-lines = Lines-prop s g.long_line g.longs a.long-lines b.long-lines i;
  rest_lines = Lines-prop s g.behind (left - (g.shorts + g.longs)) a.rest_lines b.rest_lines i;
}
