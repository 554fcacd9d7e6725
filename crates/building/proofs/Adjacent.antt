-- Keys each of which is above the one before (02 [2]: "not above the one before" is declined) ascend as `Ascending` says. Assumes nothing.
use Rattle.std.specs.Prelude.{◌≡◌, ◌∷◌}
use Rattle.base.specs.Kit.{List, []}
use Rattle.key.specs.Order.{byte_order}
use Rattle.std.specs.declared.cmp.Ordering.TheVariants.{Less}
use Rattle.key.proofs.Order.{lex_trans, lex_cmp, cmp_less}
use Rattle.layering.specs.Keys.{Pair}
use Rattle.layering.specs.Ascending.{Ascending}
use Rattle.layering.proofs.Row.{all_map}

unfoldable pub EachAbove : List Pair → Type 0
EachAbove [] = Unit {0}
EachAbove (x ∷ []) = Unit {0}
EachAbove (x ∷ y ∷ l) = (byte_order x.key y.key ≡ Less) × EachAbove (y ∷ l)

pub each_above : (l : List Pair) → EachAbove l → Ascending l
unfolding EachAbove Ascending
each_above [] h = tt
each_above (x ∷ []) h = (tt, tt)
each_above (x ∷ y ∷ l) h =
    let a : Ascending (y ∷ l) = each_above (y ∷ l) h.1 in (
      (
        h.0,
        all_map (λ (z : Pair). byte_order y.key z.key ≡ Less) (λ (z : Pair). byte_order x.key z.key ≡ Less)
            (λ z b. lex_cmp (lex_trans (cmp_less x.key y.key h.0) (cmp_less y.key z.key b))) l a.0,
      ),
      a,
    )
