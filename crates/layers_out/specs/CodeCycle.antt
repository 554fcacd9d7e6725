-- WHAT THE WRITERS OF A LAYER ARE GIVEN, AND WHAT THEY LEAVE, by the order in which they go (building/specs/CodeOrder.antt): the output with
-- a subtree written behind the layer's last leaf, and the station lines behind it.
use Rattle.std.specs.Prelude.{◌≡◌, ◌+◌, ◌*◌, ◌-◌, ◌^◌, ◌≤◌, ◌<◌}
use Rattle.base.specs.Kit.{List, map, ℕ, suc, length}
use Rattle.layering.specs.Tree.{Node}
use Rattle.layering.specs.Accepted.{end_n}
use Rattle.building.specs.Shape.{leaf_of, first_ikey_n, layer_of}
use Rattle.building.specs.Build.{stands_at, placed_n, bytes_n}
use Rattle.building.specs.CodeOrder.{filled, left, leaves_behind, after, siblings, tower}
use Rattle.building.specs.CodeWritten.{put, last_n, Behind, written}
use Rattle.building.specs.CodeSiblings.{end_l, last_l, closed}
use Rattle.building.specs.CodeLaid.{Laid}
use Rattle.groups.specs.declared.LayerLines.{LayerLines}
use Rattle.groups.specs.CodeGroups.{lines_at}
use Rattle.groups.specs.CodeLines.{slots_in}
use Rattle.image_out.specs.CodeRows.{slots_of}
use Rattle.layers_out.specs.declared.run.Run.{Run}
use Rattle.layers_out.specs.declared.run.Parts.{Parts}

-- Room for what is written from `at` to `end`, behind the layer's last leaf.
pub record Room (out : List ℕ) (at prev end : ℕ) : Type 0 where
  pub some : 0 < at
  pub behind : Behind prev at
  pub fits : end ≤ length out
  pub short : length out ≤ 16777216

-- The leaf that these lines begin, the leaves of all of them, and the siblings that an internode of height h + 1 takes of those.
abbrev pub leaf_at : LayerLines → Node
leaf_at l = leaf_of (filled 15 (slots_in l))

abbrev pub leaves_at : LayerLines → List Node
leaves_at l = map leaf_of (leaves_behind (slots_in l))

abbrev pub siblings_at : LayerLines → ℕ → ℕ → List Node
siblings_at l h i = siblings (tower h) (16 ^ h) i (leaves_at l)

-- The lines that are left behind k leaves of a layer.
pub record Rest (k : ℕ) (l rest : LayerLines) : Type 0 where
  pub below : rest.below ≡ l.below
  pub slots : slots_in rest ≡ after k (slots_in l)

-- A subtree written, over k leaves.
pub record Wrote (k : ℕ) (out out' : List ℕ) (r q : Run) (n : Node) : Type 0 where
  pub bytes : out' ≡ written out r.at r.prev n
  pub at : q.at ≡ end_n r.at n
  pub node : q.node ≡ stands_at r.at n
  pub prev : q.prev ≡ r.at + last_n n
  pub first : q.first ≡ first_ikey_n n
  pub rest : Rest k r.lines q.lines

-- An internode written behind its first child, and up to fifteen siblings between.
pub record Closed (h : ℕ) (out out' : List ℕ) (r q : Run) (ns : List Node) : Type 0 where
  pub bytes : out' ≡ closed out r.at r.prev r.node ns
  pub at : q.at ≡ end_l r.at ns + 256
  pub node : q.node ≡ end_l r.at ns
  pub prev : q.prev ≡ last_l r.at r.prev ns
  pub first : q.first ≡ r.first
  pub rest : Rest (15 * 16 ^ h) r.lines q.lines

-- A layer written.
abbrev pub layer_at : LayerLines → Node
layer_at l = layer_of (suc l.below) (lines_at l.sheet.now (31 - l.below) l.line l.left)

pub record LayerWrote (out out' : List ℕ) (from : ℕ) (q : Run) (n : Node) : Type 0 where
  pub bytes : out' ≡ put out from (bytes_n (placed_n from 0 n))
  pub at : q.at ≡ end_n from n
  pub node : q.node ≡ stands_at from n

-- The parts of a leaf laid.
pub record GroupsLaid (lines : LayerLines) (out' : List ℕ) (q : Parts) (l : Laid) : Type 0 where
  pub bytes : out' ≡ l.out
  pub at : q.slotted.at ≡ l.at
  pub slots : q.slotted.slots ≡ slots_of l.fields
  pub below : q.lines.below ≡ lines.below
  pub rest : slots_in q.lines ≡ left 15 (slots_in lines)

-- What a layer's writer is given.
pub record LayerRoom (out : List ℕ) (from : ℕ) (lines : LayerLines) : Type 0 where
  pub some : 0 < from
  pub fits : end_n from (layer_at lines) ≤ length out
  pub short : length out ≤ 16777216
