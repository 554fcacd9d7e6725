-- The bound test answers by plain byte order, whatever pieces the keys are compared in.
use Rattle.std.specs.Prelude.{◌≡◌}
use Rattle.base.specs.Kit.{refl, ◌∙◌, ap, List, true, false, false≢true, Bool, ℕ, eqb, eqb-true}
use Rattle.base.specs.Pick.{pick}
use Rattle.base.proofs.Choice.{pick-map, pick_ind}
use Rattle.key.specs.Order.{byte_order}
use Rattle.key.specs.Comparisons.{compared, compared_by}
use Rattle.std.specs.declared.cmp.Ordering.{Ordering}
use Rattle.key.proofs.Order.{CmpB, b_lt, b-eq, b_gt, cmpb, cmp-refl}
use Rattle.cursor.specs.RangeBound.{side_of, tested, is_within, is_last, contains, at_end}
use Rattle.cursor.specs.declared.range_bound.Side.{Side}
use Rattle.cursor.specs.declared.range_bound.Side.TheVariants.{Inside}
use Rattle.cursor.specs.declared.range_bound.Tested.{Tested}

pub side_by-order : (kind : ℕ) (bound key : List ℕ) → (tested kind bound key).side ≡ pick (eqb kind 0) Inside (side_of kind (byte_order key bound))
unfolding tested compared compared_by
side_by-order kind bound key = pick-map (λ (t : Tested). t.side) (eqb kind 0) _ _

pub contains_by-order : (kind : ℕ) (bound key : List ℕ)
    → contains kind bound key ≡ pick (eqb kind 0) true (is_within (side_of kind (byte_order key bound)))
unfolding contains is_within
contains_by-order kind bound key = ap is_within (side_by-order kind bound key) ∙ pick-map is_within (eqb kind 0) _ _

-- Without a bound every key is within.
pub contains_all : (bound key : List ℕ) → contains 0 bound key ≡ true
unfolding contains tested is_within pick
contains_all bound key = refl

-- EXACTLY AT THE INCLUDED END is the key of an included bound, and no other.
pub at_end_only : (kind : ℕ) (bound key : List ℕ) → at_end kind bound key ≡ true → (kind ≡ 1) × (key ≡ bound)
unfolding at_end side_of is_last pick
at_end_only kind bound key e = go (eqb kind 0) (rw (side_by-order kind bound key) at e)
  where
    own : {o : Ordering} → CmpB key bound o → is_last (side_of kind o) ≡ true → (kind ≡ 1) × (key ≡ bound)
    own (b_lt l) f = absurd (false≢true f)
    own (b-eq l) f = pick_ind (λ (s : Side). is_last s ≡ true → (kind ≡ 1) × (key ≡ bound)) (eqb kind 1) (λ t f. (eqb-true kind 1 t, l)) (λ t f. absurd (false≢true f)) f
    own (b_gt l) f = absurd (false≢true f)

    go : (c : Bool) → is_last (pick c Inside (side_of kind (byte_order key bound))) ≡ true → (kind ≡ 1) × (key ≡ bound)
    go true f = absurd (false≢true f)
    go false f = own (cmpb key bound) f

pub at_end-own : (key : List ℕ) → at_end 1 key key ≡ true
unfolding at_end tested is_last side_of compared compared_by pick
at_end-own key = rw (cmp-refl key)
