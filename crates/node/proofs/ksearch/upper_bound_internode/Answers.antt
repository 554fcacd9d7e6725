-- The search in an internode returns the child that its definition names. The invariant: what is left to search, from
-- separator i on, names the same child as the whole.
use Rattle.node.proofs.KsearchLaws.{above, equal, below, none}
use Rattle.node.proofs.ksearch.upper_bound_internode.Goals as goal

pub returns-then-ikey-k : goal.returns-then-ikey-k
returns-then-ikey-k c = search above

pub returns-then-ikey-k-2 : goal.returns-then-ikey-k-2
returns-then-ikey-k-2 c = search equal

pub loop-i-preserved : goal.loop-i-preserved
loop-i-preserved c = search below

pub returns : goal.returns
returns c = search none
