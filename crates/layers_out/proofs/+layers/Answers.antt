-- The six functions of the cycle meet their contracts: what is left besides the rules of their attributes.
use Rattle.std.specs.Prelude.{◌⊎◌, ◌≡◌, ◌≤◌, ◌<◌}
use Rattle.base.specs.Kit.{inl, inr, refl, ap, ◌∙◌, arith, length, rules}
use Rattle.groups.specs.declared.LayerLines.{LayerLines}
use Rattle.groups.proofs.Firsts.{first_few, begins, rest_slots}
use Rattle.layers_out.proofs.LeafParts.{whole-fits, groups_end, groups-stop, group-holds, group-room, groups_turn}
use Rattle.layers_out.proofs.Leaf.{slots_held, link_fits, leaf-is}
use Rattle.layers_out.proofs.Growth.{low_wrote, up_wrote, loop_begins, level_low, inside, level-room, loop_turns, layer-is}
use Rattle.layers_out.proofs.Beside.{next-room, child_fits, siblings_turn, internode-fits, internode-is}
use Rattle.layers_out.proofs.Lines.{some-slots, no-slots}
use Rattle.layers_out.proofs.GroupParts.{slots-sum, shorts-few, rest-few, shorts_only, suffix-given, suffix-room, suffix-laid, head_line, layer-room, layer-laid}
use Rattle.image_out.proofs.Rows.{slots_n}
use Rattle.layers_out.proofs.+layers.Goals as goal
use Rattle.layers_out.proofs.+layers.Goals.{write_groups-else-loop-lines-test, write_groups-then-loop-lines-test+then-slotted-slots-gt15, write_internode-else-loop-test, write_internode-then-loop-test+then-q-eq0}

-- ONE GROUP
pub write_group-add_shorts-slots-requires-clause-n_bound : goal.write_group-add_shorts-slots-requires-clause-n_bound
write_group-add_shorts-slots-requires-clause-n_bound t c = shorts-few c.args.first

pub write_group-returns-then-g-eq0 : goal.write_group-returns-then-g-eq0
write_group-returns-then-g-eq0 t c =
    shorts_only c.args.first _ c.requires.holds_slots _ c.add_shorts-slots.ensures _ _ c.if-g-eq0.true

pub write_group-add_suffix-requires-clause-long_line : goal.write_group-add_suffix-requires-clause-long_line
write_group-add_suffix-requires-clause-long_line t c =
    suffix-given c.args.first _ c.requires.holds_slots _ c.add_shorts-slots.ensures c.if-g-eq1.true

pub write_group-add_suffix-requires-clause-line_in_bounds : goal.write_group-add_suffix-requires-clause-line_in_bounds
write_group-add_suffix-requires-clause-line_in_bounds t c =
    suffix-room c.args.first _ c.requires.holds_slots _ c.add_shorts-slots.ensures c.if-g-eq1.true _ _ c.requires.room

pub write_group-returns-then-g-eq1 : goal.write_group-returns-then-g-eq1
write_group-returns-then-g-eq1 t c =
    suffix-laid c.args.first _ c.requires.holds_slots _ c.add_shorts-slots.ensures c.if-g-eq1.true _ _ _ _ c.add_suffix.ensures

pub write_group-lowered_at-head-requires-clause-one_line : goal.write_group-lowered_at-head-requires-clause-one_line
write_group-lowered_at-head-requires-clause-one_line t c =
    head_line c.args.first _ c.requires.holds_slots _ c.add_shorts-slots.ensures c.if-g-eq0.false c.if-g-eq1.false

pub write_group-write_layer-r-requires : goal.write_group-write_layer-r-requires
write_group-write_layer-r-requires t c = (
  omega (arith, c.layer_below.ensures.1, c.decreases),
  layer-room c.args.first _ c.requires.holds_slots _ c.add_shorts-slots.ensures c.if-g-eq0.false c.if-g-eq1.false
      c.layer_below.result c.layer_below.ensures _ _ c.requires.room,
)

pub write_group-returns : goal.write_group-returns
write_group-returns t c =
    layer-laid c.args.first _ c.requires.holds_slots _ c.add_shorts-slots.ensures c.if-g-eq0.false c.if-g-eq1.false
    c.layer_below.result c.layer_below.ensures _ _ _ _ _ _ c.lowered_at-head.ensures c.write_layer-r.ensures c.add_slot.ensures

-- THE PARTS OF A LEAF
pub write_groups-overflow_add-slotted : goal.write_groups-overflow_add-slotted
write_groups-overflow_add-slotted t c =
    let inv = c.loop-lines.invariant in
    omega (arith, first_few c.first_group-first.result, slots_n _ _ inv.slots, inv.few, c.slots.ensures)

pub write_groups-write_group-slotted-requires : goal.write_groups-write_group-slotted-requires
write_groups-write_group-slotted-requires t c =
    let inv = c.loop-lines.invariant in
    let f = c.first_group-first in
    let below : f.result.lines.below ≡ c.loop-lines.lines.below = ap (λ (l : LayerLines). l.below) f.ensures in
    let e = begins f.result _ f.ensures in
    let n = slots-sum f.result _ _ _ inv.slots c.slots.ensures in (
      omega (arith, below, inv.below_same, c.decreases),
      (
        group-holds _ _ _ _ _ _ _ inv _ _ e (omega (arith, n)),
        group-room _ _ _ _ _ _ _ inv _ _ e (omega (arith, n)) (whole-fits _ _ _ c.requires.fits) c.requires.short,
      ),
    )

pub write_groups-loop-lines-preserved : goal.write_groups-loop-lines-preserved
write_groups-loop-lines-preserved t c =
    let inv = c.loop-lines.invariant in
    let f = c.first_group-first in
    let rest = c.rest-lines in
    let below : f.result.lines.below ≡ c.loop-lines.lines.below = ap (λ (l : LayerLines). l.below) f.ensures in
    let n = slots-sum f.result _ _ _ inv.slots c.slots.ensures in
    let long : length c.write_group-slotted.new.out ≡ length c.loop-lines.out = search rules in
    groups_turn _ _ _ _ _ _ _ inv _ _ (begins f.result _ f.ensures) (omega (arith, n)) _ _ _
    (c.write_group-slotted.ensures inv.fields inv.slots) (rest.ensures.1 ∙ below)
    (rest-few f.result rest.result rest.ensures (rw f.ensures inv.few_left)) (rest_slots f.result rest.result rest.ensures) long

pub write_groups-returns : goal.write_groups-returns
write_groups-returns t c =
    let inv = c.loop-lines.invariant in elim c.loop-lines-test.branch [
      | write_groups-else-loop-lines-test w ↦ groups_end _ _ _ _ _ _ _ inv (no-slots c.loop-lines.lines (omega arith)) c.args.r.lines refl refl _
      | write_groups-then-loop-lines-test+then-slotted-slots-gt15 w ↦
          let f = w.first_group-first in
          let n = slots-sum f.result _ _ _ inv.slots w.slots.ensures in
          groups-stop _ _ _ _ _ _ _ inv _ _ (begins f.result _ f.ensures) (omega (arith, n, w.if-slotted-slots-gt15.true)) c.args.r.lines refl refl _
    ]

-- AN INTERNODE

pub write_internode-write_subtree-q-requires : goal.write_internode-write_subtree-q-requires
write_internode-write_subtree-q-requires t c =
    let p = c.requires in
    let inv = c.loop.invariant in
    let left : 0 < c.loop.q.lines.left = omega (arith, c.if-q-eq0.false) in
    (omega (arith, inv.rest.below, c.decreases), (p.h_bound, (left, next-room _ _ _ _ _ _ _ inv p.room (omega arith) left)))

pub write_internode-add_child-c-requires : goal.write_internode-add_child-c-requires
write_internode-add_child-c-requires t c = child_fits _ _ _ _ _ _ _ c.loop.invariant c.requires.room (omega arith)

pub write_internode-loop-preserved : goal.write_internode-loop-preserved
write_internode-loop-preserved t c =
    let inv = c.loop.invariant in
    let left : 0 < c.loop.q.lines.left = omega (arith, c.if-q-eq0.false) in
    let more = some-slots c.loop.q.lines left in
    let less : c.loop.counter < 15 = omega arith in
    siblings_turn _ _ _ _ _ _ _ inv less more _ _ _ (next-room _ _ _ _ _ _ _ inv c.requires.room less left).fits
    c.write_subtree-q.ensures c.add_child-c.ensures

pub write_internode-put_internode-requires : goal.write_internode-put_internode-requires
write_internode-put_internode-requires t c =
    internode-fits _ _ _ _ _ _ _ c.loop.invariant c.requires.room

pub write_internode-overflow_add-result : goal.write_internode-overflow_add-result
write_internode-overflow_add-result t c =
    let f = internode-fits _ _ _ _ _ _ _ c.loop.invariant c.requires.room in
    omega (arith, f)

pub write_internode-returns : goal.write_internode-returns
write_internode-returns t c =
    let over : (15 ≤ c.loop.counter) ⊎ (c.loop.q.lines.left ≡ 0) =
    elim c.loop-test.branch [
      | write_internode-else-loop-test w ↦ inl (omega arith)
      | write_internode-then-loop-test+then-q-eq0 w ↦ inr (omega arith)
    ] in
    internode-is _ _ _ _ _ _ _ c.loop.invariant c.requires.room over _ c.put_internode.ensures _

-- A LAYER

pub write_layer-loop-r-init : goal.write_layer-loop-r-init
write_layer-loop-r-init t c = (loop_begins _ _ _ c.requires _ _ _ c.write_leaf-r.ensures, λ m. omega arith)

pub write_layer-write_internode-r-requires : goal.write_layer-write_internode-r-requires
write_layer-write_internode-r-requires t c =
    let p = c.requires in
    let w = c.write_leaf-r.ensures in
    let inv = c.loop-r.invariant.0 in
    let same = (inside _ _ _ p _ _ _ w _ _ _ inv).below_same in
    (omega (arith, same, c.decreases), (omega arith, level-room _ _ _ p _ _ _ w _ _ _ inv (omega arith)))

pub write_layer-loop-r-preserved : goal.write_layer-loop-r-preserved
write_layer-loop-r-preserved t c =
    let p = c.requires in
    let w = c.write_leaf-r.ensures in
    let next = loop_turns _ _ _ p _ _ _ w _ _ _ c.loop-r.invariant.0 (omega arith) _ _ c.write_internode-r.ensures in
    (next, λ m. level_low _ _ _ p _ _ _ w _ _ _ next m)

pub write_layer-returns : goal.write_layer-returns
write_layer-returns t c =
    layer-is _ _ _ c.requires _ _ _ c.write_leaf-r.ensures _ _ _ c.loop-r.invariant.0 (omega arith)

-- A LEAF

pub write_leaf-put_leaf-requires-clause-holds_slots : goal.write_leaf-put_leaf-requires-clause-holds_slots
write_leaf-put_leaf-requires-clause-holds_slots t c = slots_held _ c.args.r c.requires _ _ c.write_groups-p.ensures

pub write_leaf-link-requires : goal.write_leaf-link-requires
write_leaf-link-requires t c = link_fits _ c.args.r c.requires _ _ c.write_groups-p.ensures _ c.put_leaf.ensures

pub write_leaf-returns : goal.write_leaf-returns
write_leaf-returns t c =
    leaf-is _ c.args.r c.requires _ _ c.write_groups-p.ensures _ c.put_leaf.ensures _ c.link.ensures _

-- A SUBTREE

pub write_subtree-returns-then-h-eq0 : goal.write_subtree-returns-then-h-eq0
write_subtree-returns-then-h-eq0 t c = low_wrote _ _ c.args.r c.requires.left_nonzero c.requires.room c.if-h-eq0.true _ _ c.write_leaf.ensures

pub write_subtree-returns : goal.write_subtree-returns
write_subtree-returns t c =
    up_wrote _ _ c.args.r c.requires.left_nonzero c.requires.room c.if-h-eq0.false _ _ c.write_subtree-q.ensures _ _ c.write_internode.ensures
