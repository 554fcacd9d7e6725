-- The two functions of the cycle meet their contracts: what is left besides the rules of their attributes.
use Rattle.std.specs.Prelude.{◌≡◌}
use Rattle.base.specs.Kit.{ap, ◌∙◌, arith}
use Rattle.groups.specs.declared.LayerLines.{LayerLines}
use Rattle.groups.proofs.Firsts.{first_longs, size_turn}
use Rattle.groups.proofs.SizeLaws.{long-one}
use Rattle.groups.proofs.+layer_size_longs_size.Goals as goal

-- A LAYER
pub layer_size-loop-rest-preserved : goal.layer_size-loop-rest-preserved
layer_size-loop-rest-preserved t c =
    let first = c.first_group-first in
    let e : first.result.lines.below ≡ c.loop-rest.rest.below = ap (λ (l : LayerLines). l.below) first.ensures in (
      c.rest-rest.ensures.1 ∙ e ∙ c.loop-rest.invariant.0,
      rw c.counted-t.ensures
          (size_turn first.result c.rest-rest.result c.rest-rest.ensures _ c.loop-rest.t _ c.longs_size.ensures (rw first.ensures c.loop-rest.invariant.1)),
    )

-- LONG KEYS
pub longs_size-overflow_sub-r : goal.longs_size-overflow_sub-r
longs_size-overflow_sub-r t c =
    omega (arith, (long-one _ _ _ c.lowered_at-r.result c.lowered_at-r.ensures _ (omega arith) (first_longs c.args.first)).some)
