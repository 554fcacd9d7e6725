-- The check, said by what its inner functions answer: a subtree by its record, a slot by its kind, a layer by its subtree;
-- and a loop over parts, one turn at a time.
use Rattle.std.specs.Prelude.{◌≡◌, ◌&&◌, ◌+◌, ◌-◌, ◌^◌, ◌<◌, Result, Ok, Err}
use Rattle.base.specs.Kit.{refl, true, false, List, ℕ, zero, suc, sub-one, arith, leb, eqb, ne_eqb}
use Rattle.base.specs.Decline.{and_then}
use Rattle.base.specs.Pick.{pick}
use Rattle.base.proofs.Choice.{pick-map, pick_inner}
use Rattle.node.specs.Layout.{nkeys_at, child_at}
use Rattle.layering.specs.Tree.{fields_at}
use Rattle.layering.specs.Accepted.{room}
use Rattle.verify.specs.Check.{Checked, each, demand, pass_value, pass_internode, listed, fits, in_range, suffix_c, layer_slot_c, slot_c, leaf_c, low_end, high_end, internode_c, record_c, node_c, layer_with, layer_c}
use Rattle.verify.specs.CodeCases.{after_record, after_slot, sub_c, leaf_check, internode_check, record_check, suffix_check, kind_check, slot_check, record_end, leaf_end, leaf_parts, layer_end}
use Rattle.verify.specs.Types.{Decline, RecordPlace, RecordKind, SlotCheck, Progress}

-- LOOPS, one turn at a time
pub each_none : (f : ℕ → Progress → Checked) (i n : ℕ) (p : Progress) → n ≡ 0 → each f i n p ≡ Ok p
unfolding each
each_none f i n p e = rw e

pub each_next : (f : ℕ → Progress → Checked) (i n : ℕ) (p : Progress) → 0 < n → each f i n p ≡ and_then (f i p) (each f (i + 1) (n - 1))
unfolding each
each_next f i zero p h = absurd (omega arith)
each_next f i (suc n) p h = rw sub-one

pick_true : {A : Type 0} (x y : A) → pick true x y ≡ x
unfolding pick
pick_true x y = refl

pick-false : {A : Type 0} (x y : A) → pick false x y ≡ y
unfolding pick
pick-false x y = refl

-- RECORDS
module _ (sub : ℕ → Progress → Checked) (image : List ℕ) (depth at lo hi : ℕ) where
  -- child i, with q internodes left on a path from it
  abbrev pub child_c : ℕ → ℕ → Progress → Checked
  child_c q i = node_c sub image depth q (child_at image at i) (low_end image at lo i) (high_end image at hi i)

  -- an internode's children, and the record's end
  abbrev pub inner_parts : ℕ → Progress → Checked
  inner_parts q p = and_then (each (child_c q) 0 (nkeys_at image at + 1) p) (record_end at 256)

  pub node-is : (path : ℕ) (p : Progress)
      → node_c sub image depth path at lo hi p ≡ after_record (record_check image path at lo hi p) (leaf_parts sub image depth at lo hi p) (inner_parts (path - 1) p)
  unfolding node_c record_c record_check leaf_check internode_check leaf_c internode_c after_record pass_internode leaf_end record_end
  node-is zero p = simp (pick-map (λ (r : Result RecordKind Decline). after_record r (leaf_parts sub image depth at lo hi p) (inner_parts (0 - 1) p)), pick_true)
  node-is (suc n) p =
      rw sub-one (simp (pick-map (λ (r : Result RecordKind Decline). after_record r (leaf_parts sub image depth at lo hi p) (inner_parts n p)), ne_eqb (suc n) 0 (λ e. omega arith), pick-false))

-- SLOTS. A suffix's room is read where there is one.
pub slot_is : (sub : ℕ → Progress → Checked) (image : List ℕ) (depth at lo hi i : ℕ) (p : Progress)
    → slot_c sub image depth at lo hi i p ≡ after_slot (slot_check image depth at lo hi i p) sub p
unfolding slot_c slot_check kind_check suffix_c suffix_check layer_slot_c demand after_slot fields_at listed fits in_range room
slot_is sub image depth at lo hi i p =
    let s = fields_at image at i in
    simp (
      pick-map (λ (r : Result SlotCheck Decline). after_slot r sub p),
      pick_inner (λ (n : ℕ). pick (eqb s.start p.place && leb (s.start + s.len) at) (Ok (pass_value n s.live p)) (Err RecordPlace)),
    )

-- LAYERS
pub layer-is : (image : List ℕ) (below root : ℕ) (p : Progress)
    → layer_c image below root p ≡ and_then (node_c (sub_c image below) image (31 - below) 12 root 0 (2 ^ 64) p) layer_end
unfolding layer_c layer_with sub_c layer_end
layer-is image zero root p = refl
layer-is image (suc below) root p = refl

pub sub_is : (image : List ℕ) (below root : ℕ) (p : Progress) → 0 < below
    → sub_c image below root p ≡ and_then (node_c (sub_c image (below - 1)) image (31 - (below - 1)) 12 root 0 (2 ^ 64) p) layer_end
unfolding sub_c
sub_is image zero root p h = absurd (omega arith)
sub_is image (suc below) root p h = rw sub-one (layer-is image below root p)
