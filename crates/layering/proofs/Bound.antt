-- What lies past a key that a bound does not admit is not admitted either; nor is what lies past the key exactly at its included end.
use Rattle.std.specs.Prelude.{◌≡◌, ◌∷◌}
use Rattle.base.specs.Kit.{refl, sym, ◌∙◌, List, [], Bool, true, false, true≢false, ℕ, eqb}
use Rattle.base.specs.Pick.{pick}
use Rattle.key.specs.Order.{byte_order}
use Rattle.std.specs.declared.cmp.Ordering.{Ordering}
use Rattle.key.proofs.Order.{Lex, lex_trans, CmpB, b_lt, b-eq, b_gt, cmpb, lex_gt, cmp_less}
use Rattle.cursor.specs.RangeBound.{side_of, is_within, contains, at_end}
use Rattle.cursor.proofs.Bound.{contains_by-order, at_end_only}
use Rattle.layering.specs.Keys.{Pair}
use Rattle.layering.specs.Ascending.{All, Ascending}

pub contains-closed : (kind : ℕ) (bound x y : List ℕ) → Lex x y
    → contains kind bound x ≡ false → contains kind bound y ≡ false
unfolding side_of is_within pick
contains-closed kind bound x y h e = rw (contains_by-order kind bound y) (go (eqb kind 0) (rw (contains_by-order kind bound x) at e))
  where
    beyond : {o : Ordering} → CmpB x bound o → is_within (side_of kind o) ≡ false → is_within (side_of kind (byte_order y bound)) ≡ false
    beyond (b_lt l) e = absurd (true≢false e)
    beyond (b-eq l) e = rw (lex_gt (rw l at h))
    beyond (b_gt l) e = rw (lex_gt (lex_trans l h))

    go : (c : Bool) → pick c true (is_within (side_of kind (byte_order x bound))) ≡ false
        → pick c true (is_within (side_of kind (byte_order y bound))) ≡ false
    go true e = e
    go false e = beyond (cmpb x bound) e

past_end : (kind : ℕ) (bound x y : List ℕ) → Lex x y → at_end kind bound x ≡ true → contains kind bound y ≡ false
unfolding side_of is_within pick
past_end kind bound x y h e =
    let own = at_end_only kind bound x e in
    rw (contains_by-order kind bound y, own.0, lex_gt (rw own.1 at h))

-- so the included end is the last of the keys that it admits
pub end-is-last : (kind : ℕ) (bound : List ℕ) (x : Pair) (l : List Pair) → Ascending (x ∷ l)
    → All (λ (y : Pair). contains kind bound y.key ≡ true) l → at_end kind bound x.key ≡ true → l ≡ []
unfolding Ascending
end-is-last kind bound x [] a h e = refl
end-is-last kind bound x (y ∷ l) a h e =
    absurd (true≢false (sym h.0 ∙ past_end kind bound x.key y.key (cmp_less x.key y.key a.0.0) e))
