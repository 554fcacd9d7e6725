-- The loop's invariant: what the stations left say of the rest, behind the key's text `before`, is what all say of the text behind
-- none.
use Rattle.std.specs.Prelude.{◌≡◌, ◌-◌, ◌≤◌}
use Rattle.base.specs.Kit.{[], true, length}
use Rattle.reading.specs.Read.{stations}
use Rattle.reading.specs.CodeViews.{risen}
use Rattle.reading.proofs.stations.Given as goal

abbrev pub invariant-loop : goal.invariant-loop
invariant-loop l = (length l.rest ≤ length l.text) × (risen l.before l.rising (stations (l.count - l.counter) l.rest) ≡ risen [] true (stations l.count l.text))
