-- "Up to eight bytes nothing changes": with at most eight bytes left, 02's search comes to where 01's rule says, over any bytes; in
-- mode above, where the whole cursor has no more than eight either.
use Rattle.std.specs.Prelude.{◌≡◌, ◌⊎◌, ◌+◌, ◌≤◌, Result, Ok}
use Rattle.base.specs.Kit.{refl, List, inl, inr, true, false, ℕ, zero, suc, arith, ltb, eqb, lt-ltb, le-ltb, eq-eqb, ne_eqb}
use Rattle.base.specs.Pick.{pick}
use Rattle.base.specs.Decline.{and_then}
use Rattle.base.proofs.Choice.{pick_ind, pick-map}
use Rattle.key.specs.Order.{then}
use Rattle.start.specs.Types.{Decline, Ordering, Slot, CursorPlace, StartMode, From, Verdict, Pass, Stand, Started, At}
use Rattle.key.proofs.Order.{Cmp, is_lt, is_eq, is_gt, cmp}
use Rattle.node.specs.Layout.{ikey_at, keylenx_at}
use Rattle.cursor.specs.CursorKey.{has_suffix}
use Rattle.search.specs.Helper.{position, slot_in, by_order}
use Rattle.start.specs.Start.{below, not_below_from, first_not_below, started, at_equal, short_verdict, verdict, by_verdict, start_from, start_position}

module _ (mode : StartMode) (image : List ℕ) (leaf : ℕ) (k : CursorPlace) (buf : List ℕ) (short : k.len ≤ 8)
    (rule : (mode ≡ From) ⊎ (k.offset + k.len ≤ 8)) where
  -- an equal slot is stood at
  at_equal_lem : pick (ltb 8 (k.offset + k.len)) (at_equal mode) Stand ≡ Stand
  unfolding pick at_equal
  at_equal_lem = go rule
    where
      go : (mode ≡ From) ⊎ (k.offset + k.len ≤ 8) → pick (ltb 8 (k.offset + k.len)) (at_equal mode) Stand ≡ Stand
      go (inl e) = rw e (pick_ind (λ (v : Verdict). v ≡ Stand) (ltb 8 (k.offset + k.len)) (λ t. refl) (λ t. refl))
      go (inr h) = rw (le-ltb 8 (k.offset + k.len) h)

  -- what is made of a slot with the ikey x and the keylenx y
  slot_by_rule : (x y i : ℕ) (s : Slot) (rest : Result Started Decline)
      → by_verdict (short_verdict mode k x y) i s rest ≡ pick (below k x y) rest (Ok (At (position i)))
  unfolding short_verdict below by_order then by_verdict pick
  slot_by_rule x y i s rest = rw at_equal_lem (go (cmp x k.ikey) (cmp y k.len))
    where
      go : {o u : Ordering} → Cmp x k.ikey o → Cmp y k.len u
          → by_verdict (by_order (then o u) Pass Stand Stand) i s rest
          ≡ pick (pick (ltb x k.ikey) true (pick (eqb x k.ikey) (ltb y k.len) false)) rest (Ok (At (position i)))
      go (is_lt q) d = rw (lt-ltb x k.ikey q)
      go (is_gt q) d = rw (le-ltb x k.ikey (omega arith), ne_eqb x k.ikey (λ e. omega arith))
      go (is_eq q) (is_lt d) = rw (le-ltb x k.ikey (omega arith), eq-eqb x k.ikey q, lt-ltb y k.len d)
      go (is_eq q) (is_eq d) = rw (le-ltb x k.ikey (omega arith), eq-eqb x k.ikey q, le-ltb y k.len (omega arith))
      go (is_eq q) (is_gt d) = rw (le-ltb x k.ikey (omega arith), eq-eqb x k.ikey q, le-ltb y k.len (omega arith))

  -- from position i on with n left
  from_by_rule : (n i : ℕ) → start_from mode image leaf k buf i n ≡ started (not_below_from image leaf k i n)
  unfolding start_from not_below_from started verdict has_suffix pick and_then
  from_by_rule zero i = refl
  from_by_rule (suc n) i =
      let s = slot_in image leaf i in
      let x = ikey_at image leaf s in
      let y = keylenx_at image leaf s in
      let by : verdict mode image leaf k buf s ≡ Ok (short_verdict mode k x y) = rw (le-ltb 8 k.len short) in
      rw (by, slot_by_rule x y i s (start_from mode image leaf k buf (i + 1) n), from_by_rule n (i + 1))
      (simp (pick-map started))

  pub by_rule-01 : start_position mode image leaf k buf ≡ started (first_not_below image leaf k)
  unfolding start_position first_not_below
  by_rule-01 = from_by_rule _ 0
