-- One loop of moves over an accepted image, that goes on past every key. Proved: with as many moves as the potential
-- allows it hands out as many keys as are left. The idea: a move that hands out a key leaves the scan as the next call
-- takes it up.
use Rattle.std.specs.Prelude.{◌≡◌, ◌+◌, ◌≤◌}
use Rattle.demands.specs.Types.{Held}
use Rattle.base.specs.Kit.{sym, ap, ◌∙◌, subst, List, true, false, Option, ℕ, zero, suc, arith, length}
use Rattle.base.specs.Pick.{pick}
use Rattle.cursor.specs.RangeBound.{contains}
use Rattle.layering.specs.Keys.{Pair}
use Rattle.layering.specs.Ascending.{Ascending}
use Rattle.layering.proofs.Sieve.{front, front_passes}
use Rattle.layering.proofs.Bound.{end-is-last}
use Rattle.layering.proofs.Walk.{Conf, rest, left, pot, MovedRow, emits, quiet, moved as Moved-row, falls}
use Rattle.scan.specs.Machine.{Moved}
use Rattle.scan.specs.CodeLoop.{counted, after_by, run_by}
use Rattle.demands.proofs.Relation.{Rep, Follows, goes_on_lem, gives, ends}
use Rattle.demands.proofs.Follow.{sim}
use Rattle.demands.proofs.Run.{live}

module _ (image : List ℕ) (kind : ℕ) (bound : List ℕ) where
  -- THE LOOP, with keys and moves out and made before it
  pub counts : (n keys moves : ℕ) (s : Held) (c : Conf) → Rep image kind bound s c → Ascending (left (contains kind bound) c) → pot c ≤ n
      → (run_by true image kind bound n keys moves s).keys ≡ keys + length (left (contains kind bound) c)
  unfolding run_by after_by counted pick left rest front Ascending
  counts zero keys moves s c h a k =
      absurd (omega (arith, falls (contains kind bound) (Moved-row (contains kind bound) c (live image kind bound s c h))))
  counts (suc n) keys moves s c h a k =
      go (sim image kind bound s c h) (Moved-row (contains kind bound) c (live image kind bound s c h))
      (λ m t d g b w. counts n m (moves + 1) t d g b w)
    where
      go : {v : Moved} {d : Conf × Option Pair} → Follows image kind bound v d
          → MovedRow (contains kind bound) c d.0 d.1
          → ((m : ℕ) (t : Held) (d : Conf) → Rep image kind bound t d → Ascending (left (contains kind bound) d) → pot d ≤ n
          → (run_by true image kind bound n m (moves + 1) t).keys ≡ m + length (left (contains kind bound) d))
          → (after_by true v.outcome (counted v.outcome keys) (moves + 1) v.scan
          (run_by true image kind bound n (counted v.outcome keys) (moves + 1) v.scan)).keys
          ≡ keys + length (left (contains kind bound) c)
      go (goes_on_lem {s = t} {c = d} r) (quiet e w q) ih = ih keys t d r (subst Ascending e a) (omega arith) ∙ omega (arith, ap length e)
      go (gives {s = t} {c = d} x false fit pre same r key at) (emits y e w q) ih =
          ih (keys + 1) t d (subst (λ (z : Held). Rep image kind bound z d) same r) (subst Ascending e a).1 (omega arith)
          ∙ omega (arith, ap length e)
      go (gives {s = t} {c = d} x true fit pre same r key at) (emits y e w q) ih =
          omega (arith, ap length e, ap length (end-is-last kind bound x (left (contains kind bound) d) (subst Ascending e a) (front_passes (contains kind bound) (rest d)) (sym at)))
      go (ends {s = t} fit) (quiet e w q) ih = omega (arith, ap length e)
