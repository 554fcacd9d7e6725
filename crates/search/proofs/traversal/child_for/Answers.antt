-- The child that is read is the one that the search in the internode names, of which there are at most 16.
use Rattle.base.specs.Kit.{arith}
use Rattle.node.proofs.KsearchLaws.{upper-bound-le}
use Rattle.search.proofs.traversal.child_for.Goals as goal

pub child-requires : goal.child-requires
child-requires c = let found = upper-bound-le c.args.node.image.now c.args.node.at c.args.ikey 0 c.from.result in omega (arith, c.upper_bound_internode.ensures)
