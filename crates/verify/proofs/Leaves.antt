-- The check of a leaf ends without a fault exactly where the rules hold of it: its own tests around the check of its slots.
use Rattle.std.specs.Prelude.{◌≡◌, ◌+◌, ◌≤◌, Err, IfSome}
use Rattle.base.specs.Kit.{true, not, List, refl, ℕ, arith, eqb, length}
use Rattle.base.specs.Pick.{pick}
use Rattle.node.specs.Version.{at_rest}
use Rattle.node.specs.Permuter.{size_of}
use Rattle.node.specs.Layout.{version_at, permutation_at, next_at}
use Rattle.layering.specs.Tree.{Node, Slots, slots_from, leaf_head, leaf_at}
use Rattle.layering.specs.Accepted.{end_n, end_s, InPostOrderN, ShortPathsN, AscendN, InRangeN, first_n, LinkedN, IsPermutation, FieldsN}
use Rattle.layering.proofs.Size.{leaves_fit_s}
use Rattle.verify.specs.Types.{RecordPlace, RecordVersion, LeafPermutation, LeafChain, Progress}
use Rattle.verify.specs.Check.{Checked, demand, reachable, in_order, pass_leaf, leaf_c}
use Rattle.std.proofs.lemmas.Bool.Decides.{Decides-eqb}
use Rattle.verify.proofs.Going.{says_self, runs_as, runs_to, runs_test, runs-demand, runs_then}
use Rattle.verify.proofs.Records.{Reachable, says-reachable, says-expected, says-permutes}
use Rattle.verify.proofs.Places.{last_n, within, aligned_s}
use Rattle.verify.proofs.Sound.{after_s, after-leaf, Underway, SoundN, SoundS, Checks}
use Rattle.verify.proofs.Slots.{Layers, SlotsOk, slots-run}

-- a sound leaf is reached
pub leaf_reached : (image : List ℕ) (tree : ℕ → Node) (depth at lo hi size : ℕ) (p : Progress) → size ≤ 400 → Underway image p
    → SoundN image depth lo hi p (leaf_at tree image at) → Reachable image size at p
unfolding leaf_at leaf_head InPostOrderN end_n SoundN
leaf_reached image tree depth at lo hi size p b r h =
    let slots = slots_from tree image at 0 (size_of (permutation_at image at)) in
    let e = h.post.1 in
    record {
      aligned = rw e (aligned_s slots p.place r.aligned);
      behind = omega (arith, e, leaves_fit_s slots p.place);
      before = omega (arith, e, h.before);
    }

module _ (image : List ℕ) (sub : ℕ → Progress → Checked) (tree : ℕ → Node) (depth at lo hi : ℕ)
    (layers : Layers image (depth + 1) sub tree) where
  abbrev size : ℕ
  size = size_of (permutation_at image at)

  abbrev slots : Slots
  slots = slots_from tree image at 0 size

  -- The leaf's tests, in their order.
  abbrev Parts : Progress → Type 0
  Parts p =
      Reachable image 400 at p × ((at_rest (version_at image at) ≡ true) × (IfSome p.next (λ n. n ≡ at)
      × (IsPermutation (permutation_at image at) × (SlotsOk image depth at lo hi 0 size p slots × (at ≡ end_s p.place slots)))))

  pub leaf-run : (p : Progress) → Underway image p
      → Checks image depth lo hi (pick (not (reachable image 400 at p)) (Err RecordPlace)
      (pick (not (at_rest (version_at image at))) (Err RecordVersion) (leaf_c sub image depth at lo hi p))) p (leaf_at tree image at)
  unfolding leaf_at leaf_head leaf_c after_s InPostOrderN end_n last_n first_n ShortPathsN AscendN InRangeN LinkedN FieldsN in_order SoundN SoundS
  leaf-run p r =
      runs_to (after-leaf p (leaf_head image at) slots) (runs_as to from
      (runs_test RecordPlace (says-reachable image 400 at p) (λ a.
      runs_test RecordVersion (says_self (at_rest (version_at image at))) (λ b.
      runs_test LeafChain (says-expected at p) (λ c.
      runs_test LeafPermutation (says-permutes (permutation_at image at)) (λ d.
      runs_then (λ q. demand RecordPlace (eqb at q.place) (pass_leaf (next_at image at) q))
      (slots-run image sub tree depth at lo hi layers (omega (arith, a.before)) size 0 p r) (λ e.
      runs-demand RecordPlace (pass_leaf (next_at image at) (after_s p slots)) (Decides-eqb at (end_s p.place slots)))))))))
    where
      to : Parts p → SoundN image depth lo hi p (leaf_at tree image at)
      to (reach, (rest, (first, (permutes, (s, e))))) =
          let before : end_s p.place slots + 400 + 32 ≤ length image = omega (arith, reach.before) in
          let links : next_at image at ≡ next_at image at = refl in
          search

      from : SoundN image depth lo hi p (leaf_at tree image at) → Parts p
      from h =
          let reached = leaf_reached image tree depth at lo hi 400 p (omega arith) r h in
          let before : end_s p.place slots + 32 ≤ length image = omega (arith, h.before) in
          let inside = within slots at p.place h.post.0 (omega (arith, h.post.1)) in
          search
