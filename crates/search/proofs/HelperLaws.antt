-- The three searches over a leaf's positions as loops: a turn of each, and its end.
use Rattle.std.specs.Prelude.{Result, Ok}
use Rattle.base.specs.Kit.{refl, not, List, ℕ, eqb}
use Rattle.base.specs.Pick.{pick}
use Rattle.base.specs.Decline.{and_then}
use Rattle.key.specs.Order.{order}
use Rattle.node.specs.Layout.{ikey_at, keylenx_at}
use Rattle.search.specs.Types.{Decline, Position, Slot, CursorPlace, KeyIndexedPosition, NotFound, Found}
use Rattle.search.specs.Helper.{position, by_order, lower_from, stored_order, not_shorter, after_inline, not_below, after_suffix}
use Rattle.search.proofs.LoopLaws.{Loop, More, Ends, one_more, at_end}

-- What each says at a slot, by what the rest says; that it is such a search; and a turn of it, and its end.
module _ (image : List ℕ) (leaf : ℕ) where
  module _ (ikey : ℕ) where
    abbrev pub lower_turn : ℕ → Slot → Result KeyIndexedPosition Decline → Result KeyIndexedPosition Decline
    lower_turn i slot rest =
        by_order (order ikey (ikey_at image leaf slot)) (Ok (NotFound (position i))) (Ok (Found (position i) slot)) rest

    pub lower_loop : Loop image leaf (λ i. Ok (NotFound (position i))) lower_turn (lower_from image leaf ikey)
    unfolding lower_from
    lower_loop = record { none = λ i. refl; more = λ i n. refl }

    pub lower_more : More image leaf lower_turn (lower_from image leaf ikey)
    lower_more = one_more lower_loop

    pub lower_end : Ends (λ i. Ok (NotFound (position i))) (lower_from image leaf ikey)
    lower_end = at_end lower_loop

  module _ (k : CursorPlace) where
    abbrev pub inline_turn : ℕ → Slot → Result Position Decline → Result Position Decline
    inline_turn i slot rest =
        pick (not (eqb (ikey_at image leaf slot) k.ikey)) (Ok (position i))
        (pick (not_shorter (keylenx_at image leaf slot) k.len) (Ok (position i)) rest)

    pub inline_loop : Loop image leaf (λ i. Ok (position i)) inline_turn (after_inline image leaf k)
    unfolding after_inline
    inline_loop = record { none = λ i. refl; more = λ i n. refl }

    pub inline_more : More image leaf inline_turn (after_inline image leaf k)
    inline_more = one_more inline_loop

    pub inline_end : Ends (λ i. Ok (position i)) (after_inline image leaf k)
    inline_end = at_end inline_loop

    module _ (buf : List ℕ) where
      abbrev pub suffix_turn : ℕ → Slot → Result Position Decline → Result Position Decline
      suffix_turn i slot rest =
          pick (not (eqb (ikey_at image leaf slot) k.ikey)) (Ok (position i))
          (and_then (stored_order image leaf k buf slot) (λ o. not_below o i rest))

      pub suffix_loop : Loop image leaf (λ i. Ok (position i)) suffix_turn (after_suffix image leaf k buf)
      unfolding after_suffix
      suffix_loop = record { none = λ i. refl; more = λ i n. refl }

      pub suffix_more : More image leaf suffix_turn (after_suffix image leaf k buf)
      suffix_more = one_more suffix_loop

      pub suffix_end : Ends (λ i. Ok (position i)) (after_suffix image leaf k buf)
      suffix_end = at_end suffix_loop
