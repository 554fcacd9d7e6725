-- The search in an internode, one separator at a time, and the bound of what it finds.
use Rattle.std.specs.Prelude.{◌≡◌, ◌+◌, ◌-◌, ◌<◌, ◌≤◌}
use Rattle.base.specs.Kit.{List, ℕ, zero, suc, arith, le-ltb, lt-ltb, eq-eqb, ne_eqb, ltb, eqb}
use Rattle.base.specs.Pick.{pick}
use Rattle.base.proofs.Choice.{pick_ind}
use Rattle.base.proofs.Count.{left-more}
use Rattle.node.specs.Layout.{separator_at}
use Rattle.node.specs.Ksearch.{upper_bound}

module _ (image : List ℕ) (at ikey : ℕ) where
  -- no child lies past the last separator's upper one
  pub upper-bound-le : (i n : ℕ) → upper_bound image at ikey i n ≤ i + n
  unfolding upper_bound
  upper-bound-le i zero = omega arith
  upper-bound-le i (suc n) =
      pick_ind (λ r. r ≤ i + suc n) _ (λ t. omega arith)
      (λ f. pick_ind (λ r. r ≤ i + suc n) _ (λ t. omega arith) (λ f. omega (arith, upper-bound-le (i + 1) n)))

  -- From separator i on the search names the child w, as the whole search does. Then a turn at i, whose separator is k:
  module _ (n w i : ℕ) (same : upper_bound image at ikey i (n - i) ≡ w) where
    module _ (k : ℕ) (e : k ≡ separator_at image at i) (h : i < n) where
      turn : pick (ltb ikey k) i (pick (eqb ikey k) (i + 1) (upper_bound image at ikey (i + 1) (n - (i + 1)))) ≡ w
      unfolding upper_bound
      turn = rw (← same, left-more n i h, e)

      pub above : ikey < k → i ≡ w
      unfolding pick
      above l = rw (lt-ltb ikey k l) at turn

      pub equal : k ≤ ikey → ikey ≡ k → i + 1 ≡ w
      unfolding pick
      equal l q = rw (le-ltb ikey k l, eq-eqb ikey k q) at turn

      pub below : k ≤ ikey → (ikey ≡ k → ⊥) → upper_bound image at ikey (i + 1) (n - (i + 1)) ≡ w
      unfolding pick
      below l q = rw (le-ltb ikey k l, ne_eqb ikey k q) at turn

    -- no separator is left
    pub none : i ≤ n → n ≤ i → n ≡ w
    unfolding upper_bound
    none g h =
        let e : n - i ≡ 0 = omega arith in
        let f : i ≡ n = omega arith in
        rw (e, f) at same
