-- What falls: the nodes of a level.
use Rattle.groups.proofs.+internodes_over.Given as goal

abbrev pub decreases-internodes_over : goal.decreases-internodes_over
decreases-internodes_over l = l.leaves
