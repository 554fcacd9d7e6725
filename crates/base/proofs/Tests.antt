-- The laws of the tests on numbers, as one set for `search`: under `unfolding SPEC pick` it closes a return whose
-- branches are the tests of SPEC.
use Rattle.base.specs.Kit.{le-ltb, lt-ltb, le-leb, lt-leb, eq-eqb, ne_eqb}

pub ruleset tests = (le-ltb, lt-ltb, le-leb, lt-leb, eq-eqb, ne_eqb)
