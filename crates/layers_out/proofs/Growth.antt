-- SUBTREES AND LAYERS: a leaf is a tower of height 0, and an internode over a tower and its siblings is one that is higher; when no line is
-- left the tower is the layer. Assumes of the lines what a layer is given, and room.
use Rattle.std.specs.Prelude.{◌≡◌, ◌∷◌, ◌+◌, ◌*◌, ◌-◌, ◌^◌, ◌≤◌, ◌<◌}
use Rattle.base.specs.Kit.{refl, ap, sym, ◌∙◌, List, [], map, ℕ, suc, arith, length, drop, length-drop, pow-succ', pow-le-pow_right, add-one, dec_le, length-map}
use Rattle.base.specs.Pick.{pick}
use Rattle.layering.specs.Tree.{Node, Slots}
use Rattle.layering.specs.Accepted.{end_n}
use Rattle.building.specs.Shape.{fill, leaf_of, first_ikey_n, root_over, layer_over, leaves_of, layer_of}
use Rattle.building.specs.Build.{stands_at}
use Rattle.building.specs.CodeOrder.{leaves_l, limit, left, leaves_behind, after, head_n, siblings, tower}
use Rattle.building.specs.CodeWritten.{last_n, Behind, linked, written}
use Rattle.building.specs.CodeSiblings.{end_l, closed}
use Rattle.building.proofs.Plain.{PlainN}
use Rattle.building.proofs.Fill.{Each, fill-some}
use Rattle.building.proofs.LeafByLeaf.{leaf_by-leaf}
use Rattle.building.proofs.Placed.{grow_n}
use Rattle.building.proofs.Order.{fill_plain, layer_leaves}
use Rattle.building.proofs.Tower.{root-tower}
use Rattle.building.proofs.Towers.{siblings_plain, siblings-few, tower_plain, tower_end, tower-grows, drop-tower, each-drop, leaves_end, low, height}
use Rattle.building.proofs.Siblings.{siblings-closed, siblings_end, siblings_stand, siblings-last, siblings-first, written-length, last-behind}
use Rattle.groups.specs.declared.LayerLines.{LayerLines}
use Rattle.groups.specs.CodeGroups.{lines_at, slots_at}
use Rattle.groups.specs.CodeLines.{slots_in}
use Rattle.layers_out.specs.CodeCycle.{Room, leaf_at, leaves_at, siblings_at, layer_at, Wrote, Closed, LayerRoom, LayerWrote}
use Rattle.layers_out.specs.declared.run.Run.{Run}
use Rattle.layers_out.proofs.Lines.{given_plain, leaves_ok, leaves-some, leaves_after, rest-rest, first_leaf, some-slots, no-slots}

-- A TOWER AND ITS SIBLINGS, over the leaves ns
module _ (below h : ℕ) (out : List ℕ) (at prev : ℕ) (ns : List Node) (plain : Each (PlainN below 0) ns) (some : 0 < length ns)
    (positive : 0 < at) (behind : Behind prev at) (fits : end_n at (tower (suc h) ns) ≤ length out) where
  abbrev rest : List Node
  rest = siblings (tower h) (16 ^ h) 15 (drop (16 ^ h) ns)

  abbrev low_plain : PlainN below h (tower h ns)
  low_plain = tower_plain below h ns some plain

  pub higher-fits : end_l (end_n at (tower h ns)) rest + 256 ≤ length out
  higher-fits = omega (arith, tower_end h ns at)

  pub lower-fits : end_n at (tower h ns) ≤ length out
  lower-fits = omega (arith, tower-grows h (suc h) ns at (omega arith))

  pub lower_long : length (written out at prev (tower h ns)) ≡ length out
  lower_long = written-length out below h at prev (tower h ns) low_plain behind lower-fits

  pub lower-behind : Behind (at + last_n (tower h ns)) (end_n at (tower h ns))
  lower-behind = last-behind below h at (tower h ns) low_plain

  pub higher : closed (written out at prev (tower h ns)) (end_n at (tower h ns)) (at + last_n (tower h ns)) (stands_at at (tower h ns)) rest ≡ written out at prev (tower (suc h) ns)
  unfolding tower
  higher =
      siblings-closed out below h at prev (tower h ns) rest low_plain (siblings_plain below h (16 ^ h) 15 (drop (16 ^ h) ns) (each-drop (PlainN below 0) (16 ^ h) ns plain))
      (siblings-few (tower h) (16 ^ h) 15 (drop (16 ^ h) ns)) positive behind higher-fits

  -- what an internode's writer says of the tower that is one higher
  pub record Higher (out' : List ℕ) (q : Run) : Type 0 where
    pub bytes : out' ≡ written out at prev (tower (suc h) ns)
    pub at_end_lem : q.at ≡ end_n at (tower (suc h) ns)
    pub node : q.node ≡ stands_at at (tower (suc h) ns)
    pub last : q.prev ≡ at + last_n (tower (suc h) ns)
    pub first : q.first ≡ first_ikey_n (tower h ns) → q.first ≡ first_ikey_n (tower (suc h) ns)

  pub is_higher : (out₁ out₂ : List ℕ) (r q : Run) → out₁ ≡ written out at prev (tower h ns) → r.at ≡ end_n at (tower h ns) → r.node ≡ stands_at at (tower h ns)
      → r.prev ≡ at + last_n (tower h ns) → leaves_at r.lines ≡ drop (16 ^ h) ns
      → Closed h out₁ out₂ r q (siblings_at r.lines h 15) → Higher out₂ q
  unfolding tower
  is_higher out₁ out₂ r q b a n p l c =
      let e : siblings_at r.lines h 15 ≡ rest = ap (siblings (tower h) (16 ^ h) 15) l in
      record {
        bytes = c.bytes ∙ rw (e, b, a, p, n) higher;
        at_end_lem = c.at ∙ rw (e, a) (siblings_end at (tower h ns) rest);
        node = c.node ∙ rw (e, a) (siblings_stand at (tower h ns) rest);
        last = c.prev ∙ rw (e, a, p) (siblings-last at (tower h ns) rest);
        first = λ f. f ∙ sym (siblings-first (tower h ns) rest);
      }

-- A SUBTREE of height h, over the lines that are left
module _ (out : List ℕ) (r : Run) (more : 0 < length (slots_in r.lines)) where
  abbrev leaves : List Node
  leaves = leaves_at r.lines

  pub leaves_are : Each (PlainN r.lines.below 0) leaves
  leaves_are = leaves_ok r.lines r.few

  pub leaves-more : 0 < length leaves
  leaves-more = leaves-some r.lines r.few more

  pub subtree-leaf : (out' : List ℕ) (q : Run) → Wrote 1 out out' r q (leaf_at r.lines) → Wrote (16 ^ 0) out out' r q (tower 0 leaves)
  subtree-leaf out' q w = rw (first_leaf r.lines r.few more) w

  pub subtree_higher : (h : ℕ) (positive : 0 < r.at) (behind : Behind r.prev r.at) (fits : end_n r.at (tower (suc h) leaves) ≤ length out)
      → (out₁ out₂ : List ℕ) (q t : Run) → Wrote (16 ^ h) out out₁ r q (tower h leaves)
      → Closed h out₁ out₂ q t (siblings_at q.lines h 15) → Wrote (16 ^ suc h) out out₂ r t (tower (suc h) leaves)
  subtree_higher h positive behind fits out₁ out₂ q t w c =
      let l = leaves_after (16 ^ h) r.lines q.lines r.few w.rest in
      let u = is_higher r.lines.below h out r.at r.prev leaves leaves_are leaves-more positive behind fits out₁ out₂ q t w.bytes w.at w.node w.prev l c in
      let k : 16 ^ h + 15 * 16 ^ h ≡ 16 ^ suc h = omega (arith, pow-succ' 16 h) in
      record {
        bytes = u.bytes;
        at = u.at_end_lem;
        node = u.node;
        prev = u.last;
        first = u.first (c.first ∙ w.first);
        rest = rw (← k) (rest-rest (16 ^ h) (15 * 16 ^ h) r.lines q.lines t.lines w.rest c.rest);
      }

-- the same as the code has it, of a height h and the one below it
module _ (h : ℕ) (out : List ℕ) (r : Run) (left : 0 < r.lines.left)
    (room : Room out r.at r.prev (end_n r.at (tower h (leaves_at r.lines)))) where
  abbrev more : 0 < length (slots_in r.lines)
  more = some-slots r.lines left

  abbrev nodes : List Node
  nodes = leaves_at r.lines

  module _ (z : h ≡ 0) where
    pub low-room : Room out r.at r.prev (end_n r.at (leaf_at r.lines))
    low-room = rw (← first_leaf r.lines r.few more, ← z) room

    pub low_wrote : (out' : List ℕ) (q : Run) → Wrote 1 out out' r q (leaf_at r.lines) → Wrote (16 ^ h) out out' r q (tower h nodes)
    low_wrote out' q w = rw z (subtree-leaf out r more out' q w)

  module _ (z : h ≡ 0 → ⊥) where
    up : suc (h - 1) ≡ h
    up = omega (arith, z)

    up_fits : end_n r.at (tower (suc (h - 1)) nodes) ≤ length out
    up_fits = rw up room.fits

    pub first-room : Room out r.at r.prev (end_n r.at (tower (h - 1) nodes))
    first-room =
        record {
          some = room.some;
          behind = room.behind;
          fits = lower-fits r.lines.below (h - 1) out r.at r.prev nodes (leaves_are out r more) (leaves-more out r more) room.some room.behind up_fits;
          short = room.short;
        }

    module _ (out₁ : List ℕ) (q : Run) (w : Wrote (16 ^ (h - 1)) out out₁ r q (tower (h - 1) nodes)) where
      leaves-then : leaves_at q.lines ≡ drop (16 ^ (h - 1)) nodes
      leaves-then = leaves_after (16 ^ (h - 1)) r.lines q.lines r.few w.rest

      pub then-room : Room out₁ q.at q.prev (end_l q.at (siblings_at q.lines (h - 1) 15) + 256)
      then-room =
          let a = leaves_are out r more in
          let m = leaves-more out r more in
          let n : length out₁ ≡ length out = ap length w.bytes ∙ lower_long r.lines.below (h - 1) out r.at r.prev nodes a m room.some room.behind up_fits in
          record {
            some = rw w.at (omega (arith, room.some, grow_n (tower (h - 1) nodes) r.at));
            behind = rw (w.at, w.prev) (lower-behind r.lines.below (h - 1) out r.at r.prev nodes a m room.some room.behind up_fits);
            fits = rw (n, w.at, leaves-then) (higher-fits r.lines.below (h - 1) out r.at r.prev nodes a m room.some room.behind up_fits);
            short = omega (arith, n, room.short);
          }

      pub up_wrote : (out₂ : List ℕ) (t : Run) → Closed (h - 1) out₁ out₂ q t (siblings_at q.lines (h - 1) 15)
          → Wrote (16 ^ h) out out₂ r t (tower h nodes)
      up_wrote out₂ t c =
          rw up at (subtree_higher out r more (h - 1) room.some room.behind up_fits out₁ out₂ q t w c)

-- A LAYER, level by level
pub record LayerSoFar (below : ℕ) (out₀ : List ℕ) (from : ℕ) (ns : List Node) (h : ℕ) (out : List ℕ) (r : Run) : Type 0 where
  pub bytes : out ≡ written out₀ from 0 (tower h ns)
  pub at : r.at ≡ end_n from (tower h ns)
  pub node : r.node ≡ stands_at from (tower h ns)
  pub prev : r.prev ≡ from + last_n (tower h ns)
  pub below_same : r.lines.below ≡ below
  pub leaves : leaves_at r.lines ≡ drop (16 ^ h) ns
  pub least : (j : ℕ) → h ≡ suc j → 16 ^ j < length ns

module _ (out₀ : List ℕ) (from : ℕ) (l : LayerLines) (p : LayerRoom out₀ from l) where
  abbrev below : ℕ
  below = l.below

  abbrev gs : List Slots
  gs = slots_in l

  abbrev ns : List Node
  ns = map leaf_of (fill 15 gs)

  few_leaves : length (fill 15 gs) + leaves_l gs ≤ limit
  unfolding slots_at
  few_leaves = omega (arith, layer_leaves below (lines_at l.sheet.now (31 - below) l.line l.left), leaves_end (layer_at l) from)

  pub layer_few : leaves_l gs ≤ limit
  layer_few = omega (arith, few_leaves)

  ns_plain : Each (PlainN below 0) ns
  ns_plain = let p = given_plain l layer_few in fill_plain below gs p.0 p.1

  ns-length : length ns ≡ length (fill 15 gs)
  ns-length = length-map (fill 15 gs) leaf_of

  ns-some : 0 < length ns
  ns-some = omega (arith, ns-length, fill-some 15 gs)

  is_root : layer_at l ≡ root_over (length ns) ns
  unfolding layer_of layer_over leaves_of slots_at
  is_root = refl

  ns-first : ns ≡ leaf_at l ∷ map leaf_of (leaves_behind (left 15 gs))
  ns-first = ap (map leaf_of) (leaf_by-leaf 15 gs (given_plain l layer_few).1)

  -- there is room for every tower up to the layer's own
  pub tower-fits : (h : ℕ) → 16 ^ h < length ns → end_n from (tower (suc h) ns) ≤ length out₀
  tower-fits h l =
      let t = height ns ns-some in
      go t (dec_le (suc h) t.0)
    where
      go : (t : (k : ℕ) × (root_over (length ns) ns ≡ tower k ns) × (length ns ≤ 16 ^ k) × ((j : ℕ) → k ≡ suc j → 16 ^ j < length ns)) → Dec (suc h ≤ t.0)
          → end_n from (tower (suc h) ns) ≤ length out₀
      go t (yes a) = omega (arith, tower-grows (suc h) t.0 ns from a, ap (end_n from) (sym t.1 ∙ sym is_root))
      go t (no a) = absurd (omega (arith, t.2, pow-le-pow_right {n = 16} (omega arith) {i = t.0} {j = h} (omega arith)))

  -- THE FIRST LEAF
  pub leaf-fits : end_n from (leaf_at l) ≤ length out₀
  unfolding tower head_n
  leaf-fits =
      let t = height ns ns-some in
      let e : tower 0 ns ≡ leaf_at l = ap head_n ns-first in
      omega (arith, ap (end_n from) e, tower-grows 0 t.0 ns from (omega arith), ap (end_n from) (sym t.1 ∙ sym is_root))

  pub layer-begin : (out : List ℕ) (r q : Run) → r.at ≡ from → r.prev ≡ 0 → r.lines ≡ l → Wrote 1 out₀ out r q (leaf_at l)
      → LayerSoFar below out₀ from ns 0 out q
  unfolding tower head_n after
  layer-begin out r q a p m w =
      let e : tower 0 ns ≡ leaf_at l = ap head_n ns-first in
      record {
        bytes = w.bytes ∙ rw (a, p, e) refl;
        at = w.at ∙ rw (a, e) refl;
        node = w.node ∙ rw (a, e) refl;
        prev = w.prev ∙ rw (a, e) refl;
        below_same = w.rest.below ∙ rw m refl;
        leaves = ap (λ (y : List Slots). map leaf_of (leaves_behind y)) (w.rest.slots ∙ rw m refl) ∙ ap (drop 1) (sym ns-first);
        least = λ j f. absurd (let z : 0 ≡ suc j = f in omega arith);
      }

  pub first-long : length (written out₀ from 0 (tower 0 ns)) ≡ length out₀
  unfolding tower head_n
  first-long =
      let e : tower 0 ns ≡ leaf_at l = ap head_n ns-first in
      written-length out₀ below 0 from 0 (tower 0 ns) (tower_plain below 0 ns ns-some ns_plain) (λ z. absurd (z refl)) (rw e leaf-fits)

  -- ONE LEVEL MORE
  module _ (h : ℕ) (out : List ℕ) (r : Run) (inv : LayerSoFar below out₀ from ns h out r) where
    more_leaves_lem : 0 < length (slots_in r.lines) → 16 ^ h < length ns
    more_leaves_lem m = omega (arith, leaves-some r.lines r.few m, ap length inv.leaves, length-drop (16 ^ h) ns)

    module _ (m : 0 < length (slots_in r.lines)) where
      pub height_low : h ≤ 3
      height_low = low h (omega (arith, more_leaves_lem m, ns-length, few_leaves))

      abbrev room : end_n from (tower (suc h) ns) ≤ length out₀
      room = tower-fits h (more_leaves_lem m)

      pub level-long : length out ≡ length out₀
      level-long = ap length inv.bytes ∙ lower_long below h out₀ from 0 ns ns_plain ns-some p.some (λ z. absurd (z refl)) room

      pub level-fits : end_l r.at (siblings_at r.lines h 15) + 256 ≤ length out
      level-fits = rw (level-long, inv.at, inv.leaves) (higher-fits below h out₀ from 0 ns ns_plain ns-some p.some (λ z. absurd (z refl)) room)

      pub level-behind : Behind r.prev r.at
      level-behind = rw (inv.at, inv.prev) (lower-behind below h out₀ from 0 ns ns_plain ns-some p.some (λ z. absurd (z refl)) room)

      pub level-some : 0 < r.at
      level-some = rw inv.at (omega (arith, p.some, grow_n (tower h ns) from))

      pub layer_turn : (out' : List ℕ) (q : Run) → Closed h out out' r q (siblings_at r.lines h 15) → LayerSoFar below out₀ from ns (h + 1) out' q
      layer_turn out' q c =
          let u = is_higher below h out₀ from 0 ns ns_plain ns-some p.some (λ z. absurd (z refl)) room out out' r q inv.bytes inv.at inv.node inv.prev inv.leaves c in
          let e : h + 1 ≡ suc h = add-one h in
          rw e (record {
            bytes = u.bytes;
            at = u.at_end_lem;
            node = u.node;
            prev = u.last;
            below_same = c.rest.below ∙ inv.below_same;
            leaves = leaves_after (15 * 16 ^ h) r.lines q.lines r.few c.rest ∙ ap (drop (15 * 16 ^ h)) inv.leaves ∙ drop-tower h ns;
            least = λ j f. let z : h ≡ j = omega (arith, f) in rw (← z) (more_leaves_lem m);
          })

    -- NO LINE IS LEFT: the tower is the layer
    module _ (z : slots_in r.lines ≡ []) where
      is-tower : layer_at l ≡ tower h ns
      unfolding leaves_behind
      is-tower =
          let d : drop (16 ^ h) ns ≡ [] = sym inv.leaves ∙ ap (λ (y : List Slots). map leaf_of (leaves_behind y)) z in
          let l : length ns ≤ 16 ^ h = omega (arith, ap length d, length-drop (16 ^ h) ns) in
          is_root ∙ root-tower h (length ns) ns ns-some (omega arith) l inv.least

      pub layer_done : LayerWrote out₀ out from r (layer_at l)
      unfolding written linked pick
      layer_done = record { bytes = inv.bytes ∙ rw is-tower refl; at = inv.at ∙ rw is-tower refl; node = inv.node ∙ rw is-tower refl }

-- AS THE CODE HAS IT: its loop begins behind the first leaf, so that what holds of the output before that leaf is said of any that the leaf
-- makes the loop's first
pub record Begun (from : ℕ) (ns : List Node) (out₁ out₀ : List ℕ) : Type 0 where
  pub bytes : out₁ ≡ written out₀ from 0 (tower 0 ns)
  pub long : length out₀ ≡ length out₁

abbrev pub LayerLoop : ℕ → List ℕ → ℕ → List Node → ℕ → List ℕ → Run → Type 0
LayerLoop below out₁ from ns h out r = (out₀ : List ℕ) → Begun from ns out₁ out₀ → LayerSoFar below out₀ from ns h out r

module _ (out₀ : List ℕ) (from : ℕ) (l : LayerLines) (p : LayerRoom out₀ from l) where
  abbrev leaves_all : List Node
  leaves_all = map leaf_of (fill 15 (slots_in l))

  pub first_few : leaves_l (slots_in l) ≤ limit
  first_few = layer_few out₀ from l p

  pub leaf_room : Room out₀ from 0 (end_n from (leaf_at l))
  leaf_room =
      record { some = p.some; behind = λ z. absurd (z refl); fits = leaf-fits out₀ from l p; short = p.short }

  module _ (few : leaves_l (slots_in l) ≤ limit) (out₁ : List ℕ) (q : Run)
      (w : Wrote 1 out₀ out₁ (record { at = from; lines = l; prev = 0; node = 0; first = 0; few = few }) q (leaf_at l)) where
    begin : LayerSoFar l.below out₀ from leaves_all 0 out₁ q
    begin =
        layer-begin out₀ from l p out₁ (record { at = from; lines = l; prev = 0; node = 0; first = 0; few = few }) q
        refl refl refl w

    pub begun : Begun from leaves_all out₁ out₀
    begun = record { bytes = begin.bytes; long = sym (ap length begin.bytes ∙ first-long out₀ from l p) }

    pub loop_begins : LayerLoop l.below out₁ from leaves_all 0 out₁ q
    loop_begins out b =
        record {
          bytes = b.bytes;
          at = begin.at;
          node = begin.node;
          prev = begin.prev;
          below_same = begin.below_same;
          leaves = begin.leaves;
          least = begin.least;
        }

    module _ (h : ℕ) (out : List ℕ) (r : Run) (inv : LayerLoop l.below out₁ from leaves_all h out r) where
      pub inside : LayerSoFar l.below out₀ from leaves_all h out r
      inside = inv out₀ begun

      module _ (left : 0 < r.lines.left) where
        abbrev more-slots : 0 < length (slots_in r.lines)
        more-slots = some-slots r.lines left

        pub level_low : h ≤ 3
        level_low = height_low out₀ from l p h out r inside more-slots

        pub level-room : Room out r.at r.prev (end_l r.at (siblings_at r.lines h 15) + 256)
        level-room =
            record {
              some = level-some out₀ from l p h out r inside more-slots;
              behind = level-behind out₀ from l p h out r inside more-slots;
              fits = level-fits out₀ from l p h out r inside more-slots;
              short = omega (arith, level-long out₀ from l p h out r inside more-slots, p.short);
            }

        pub loop_turns : (out' : List ℕ) (t : Run) → Closed h out out' r t (siblings_at r.lines h 15)
            → LayerLoop l.below out₁ from leaves_all (h + 1) out' t
        loop_turns out' t c o b =
            layer_turn o from l (record { some = p.some; fits = omega (arith, b.long, begun.long, p.fits); short = omega (arith, b.long, begun.long, p.short) }) h out r (inv o b)
            more-slots out' t c

      module _ (none : r.lines.left ≡ 0) where
        abbrev no_more : slots_in r.lines ≡ []
        no_more = no-slots r.lines none

        pub layer-is : LayerWrote out₀ out from r (layer_at l)
        layer-is = layer_done out₀ from l p h out r inside no_more

-- what a subtree and a layer rest on
pub ruleset subtree_rules = (low-room, first-room, then-room)

pub ruleset layer_rules = (first_few, leaf_room)
