-- The descent comes to the leaf that its definition names. The invariant: from the record at hand it comes to the same as
-- from the root. The measure is the record's offset, since a child lies below its parent.
use Rattle.std.specs.Prelude.{◌≤◌}
use Rattle.base.specs.Kit.{refl, arith}
use Rattle.base.specs.Decline.{and_then}
use Rattle.base.proofs.Declines.{handed_on}
use Rattle.search.specs.CodeRecord.{kind_of, StandsAt}
use Rattle.search.proofs.TraversalLaws.{no_record, at_leaf, too_many, not_lower, lower}
use Rattle.search.proofs.traversal.reach_leaf_for_scan.Goals as goal

pub returns-in_err-leaf-clause-place : goal.returns-in_err-leaf-clause-place
unfolding and_then
returns-in_err-leaf-clause-place c =
    rw (handed_on _ _ _ c.from_residual.ensures.1 refl) (search (no_record, c.in_err-leaf.ensures))

pub returns-in-Leaf-clause-place : goal.returns-in-Leaf-clause-place
unfolding and_then kind_of StandsAt
returns-in-Leaf-clause-place c =
    let found = rw c.in-Leaf.is at c.in_ok-leaf.ensures in
    rw found.place.1 (search (at_leaf, found.kind))

pub returns-then-nkeys-gt15-clause-place : goal.returns-then-nkeys-gt15-clause-place
unfolding and_then kind_of StandsAt
returns-then-nkeys-gt15-clause-place c =
    let found = rw c.in-Internode.is at c.in_ok-leaf.ensures in
    let n = rw (found.place.0, found.place.1) at c.nkeys.ensures in
    search (too_many, found.kind, n)

pub returns-then-node-child-clause-place : goal.returns-then-node-child-clause-place
unfolding and_then kind_of StandsAt
returns-then-node-child-clause-place c =
    let found = rw c.in-Internode.is at c.in_ok-leaf.ensures in
    let n = rw (found.place.0, found.place.1) at c.nkeys.ensures in
    let child = rw (found.place.0, found.place.1) at c.child_for-child.ensures in
    let h : c.loop-leaf.node ≤ c.child_for-child.result = omega arith in
    search (not_lower, found.kind, n, child, h)

pub loop-leaf-preserved : goal.loop-leaf-preserved
unfolding and_then kind_of StandsAt
loop-leaf-preserved c =
    let found = rw c.in-Internode.is at c.in_ok-leaf.ensures in
    let n = rw (found.place.0, found.place.1) at c.nkeys.ensures in
    let child = rw (found.place.0, found.place.1) at c.child_for-child.ensures in
    search (lower, found.kind, n, child)
