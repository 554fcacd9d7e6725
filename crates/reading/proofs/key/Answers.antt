-- One law for each way out.
use Rattle.base.specs.Kit.{refl}
use Rattle.reading.proofs.Lines.{key_dash, key-none, key-some}
use Rattle.reading.proofs.key.Goals as goal

pub returns-in-Some : goal.returns-in-Some
returns-in-Some c = key_dash _ _ c.in-Some.ensures.there.0 _ refl c.in-Some.ensures.there.1

pub returns-then-run-eq0 : goal.returns-then-run-eq0
returns-then-run-eq0 c = key-none _ _ _ c.in_default.ensures.other _ c.key_bytes-run.ensures c.if-run-eq0.true

pub returns : goal.returns
returns c = key-some _ _ _ c.in_default.ensures.other _ c.key_bytes-run.ensures c.if-run-eq0.false
