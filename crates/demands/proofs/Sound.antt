-- All that an accepted image says of one subtree, its children or its slots, in one record: what the image holds there,
-- where it lies, its range and its depth. Proved: a subtree's parts are such again, and its records can be read.
use Rattle.std.specs.Prelude.{◌≡◌, ◌+◌, ◌%◌, ◌^◌, ◌≤◌, ◌<◌, Ok}
use Rattle.base.specs.Kit.{List, true, false, ℕ, arith, length, get_or, le-leb, eq-eqb}
use Rattle.base.specs.Pick.{pick}
use Rattle.node.specs.Version.{is_leaf, at_rest}
use Rattle.node.specs.Layout.{version_at, child_at, root_offset}
use Rattle.layering.specs.Tree.{Fields, LeafHead, InternodeHead, Node, leaf, internode, Kids, last, more, Slots, value, layer, tree_of}
use Rattle.layering.specs.Accepted.{room, end_n, end_k, end_s, InPostOrderN, InPostOrderK, InPostOrderS, ShortPathsN, ShortPathsK, ShortPathsS, AscendN, AscendK, AscendS, InRangeN, InRangeK, InRangeS, first_k, LinkedN, LinkedK, LinkedS, FieldsN, FieldsK, FieldsS, Obeys}
use Rattle.layering.proofs.Held.{HeldN, HeldK, HeldS, held}
use Rattle.layering.proofs.Size.{leaves_fit_n, leaves_fit_k, leaves_fit_s}
use Rattle.layering.proofs.Real.{RealN, RealK, RealS}
use Rattle.layering.proofs.Pairs.{obeys_real}
use Rattle.verify.proofs.Places.{room_aligned, aligned_n}
use Rattle.search.specs.Traversal.{readable, record_at}
use Rattle.demands.specs.Types.{RecordKindLeaf as Leaf, Internode}

module _ (image : List ℕ) where
  -- Some records of a layer at some depth lie from `at` up to `stop`, and before the trailer.
  pub record Lies (depth at stop : ℕ) : Type 0 where
    pub deep : depth ≤ 31
    pub start : 8 ≤ at
    pub whole : at % 8 ≡ 0
    pub before : stop + 32 ≤ length image

  -- the first of them, and those behind
  first_lies : {depth at stop : ℕ} (end : ℕ) → Lies depth at stop → end ≤ stop → Lies depth at end
  first_lies end g h = record { deep = g.deep; start = g.start; whole = g.whole; before = omega (arith, g.before) }

  rest_lies : {depth at stop : ℕ} (from : ℕ) → Lies depth at stop → at ≤ from → from % 8 ≡ 0 → Lies depth from stop
  rest_lies from g h w = record { deep = g.deep; start = omega (arith, g.start); whole = w; before = g.before }

  -- The records of the subtree begin at `at`, that of its root stands at l; the ikeys are from lo up to but not at hi;
  -- the last leaf names `next`.
  pub record SoundN (depth at lo hi next l : ℕ) (n : Node) : Type 0 where
    pub lies : Lies depth at (end_n at n)
    pub holds : HeldN image l n
    pub order : InPostOrderN at n
    pub paths : ShortPathsN n
    pub ascend : AscendN n
    pub range : InRangeN lo hi n
    pub linked : LinkedN next n
    pub fields : FieldsN depth n
    pub real : RealN n

  -- The same of the children from child i on of the internode at l, and of the slots from position i on of the leaf at
  -- l.
  pub record SoundK (depth at lo hi next l i : ℕ) (k : Kids) : Type 0 where
    pub lies : Lies depth at (end_k at k)
    pub holds : HeldK image l i k
    pub order : InPostOrderK at k
    pub paths : ShortPathsK k
    pub ascend : AscendK k
    pub range : InRangeK lo hi k
    pub linked : LinkedK next k
    pub fields : FieldsK depth k
    pub real : RealK k

  pub record SoundS (depth at lo hi l i : ℕ) (s : Slots) : Type 0 where
    pub lies : Lies depth at (end_s at s)
    pub holds : HeldS image l i s
    pub order : InPostOrderS at s
    pub paths : ShortPathsS s
    pub ascend : AscendS s
    pub range : InRangeS lo hi s
    pub linked : LinkedS s
    pub fields : FieldsS depth s
    pub real : RealS s

  module _ {depth at lo hi next l : ℕ} where
    pub slots_of_lem : {h : LeafHead} {s : Slots} → SoundN depth at lo hi next l (leaf h s) → SoundS depth at lo hi l 0 s
    unfolding end_n HeldN InPostOrderN ShortPathsN AscendN InRangeN LinkedN FieldsN RealN
    slots_of_lem g = record {
      lies = first_lies _ g.lies (omega arith);
      holds = g.holds.2;
      order = g.order.0;
      paths = g.paths;
      ascend = g.ascend;
      range = g.range;
      linked = g.linked.1;
      fields = g.fields.2;
      real = g.real;
    }

    pub kids_of_lem : {h : InternodeHead} {k : Kids} → SoundN depth at lo hi next l (internode h k)
        → SoundK depth at lo hi next l 0 k
    unfolding end_n HeldN InPostOrderN ShortPathsN AscendN InRangeN LinkedN FieldsN RealN
    kids_of_lem g = record {
      lies = first_lies _ g.lies (omega arith);
      holds = g.holds.2;
      order = g.order.0;
      paths = g.paths.1;
      ascend = g.ascend;
      range = g.range;
      linked = g.linked;
      fields = g.fields.1;
      real = g.real;
    }

    module _ {i : ℕ} where
      pub last_of : {n : Node} → SoundK depth at lo hi next l i (last n)
          → SoundN depth at lo hi next (child_at image l i) n
      unfolding end_n HeldN InPostOrderN ShortPathsN AscendN InRangeN LinkedN FieldsN RealN
      last_of g = record {
        lies = g.lies;
        holds = g.holds.1;
        order = g.order;
        paths = g.paths;
        ascend = g.ascend;
        range = g.range;
        linked = g.linked;
        fields = g.fields;
        real = g.real;
      }

      pub first_of : {n : Node} {x : ℕ} {k : Kids} → SoundK depth at lo hi next l i (more n x k)
          → SoundN depth at lo x (first_k k) (child_at image l i) n
      unfolding end_n HeldN InPostOrderN ShortPathsN AscendN InRangeN LinkedN FieldsN RealN
      first_of {n = n} {k = k} g = record {
        lies = first_lies (end_n at n) g.lies (omega (arith, leaves_fit_k k (end_n at n)));
        holds = g.holds.2;
        order = g.order.0;
        paths = g.paths.0;
        ascend = g.ascend.0;
        range = g.range.2;
        linked = g.linked.0;
        fields = g.fields.0;
        real = g.real.0;
      }

      pub rest_of : {n : Node} {x : ℕ} {k : Kids} → SoundK depth at lo hi next l i (more n x k)
          → SoundK depth (end_n at n) x hi next l (i + 1) k
      unfolding end_n HeldN InPostOrderN ShortPathsN AscendN InRangeN LinkedN FieldsN RealN
      rest_of {n = n} g = record {
        lies = rest_lies (end_n at n) g.lies (omega (arith, leaves_fit_n n at)) (aligned_n n at g.lies.whole);
        holds = g.holds.3;
        order = g.order.1;
        paths = g.paths.1;
        ascend = g.ascend.1;
        range = g.range.3;
        linked = g.linked.1;
        fields = g.fields.1;
        real = g.real.1;
      }

  module _ {depth at lo hi l i : ℕ} where
    pub behind-value : {s : Fields} {r : Slots} → SoundS depth at lo hi l i (value s r)
        → SoundS depth (at + room s) lo hi l (i + 1) r
    unfolding end_n HeldN InPostOrderN ShortPathsN AscendN InRangeN LinkedN FieldsN RealN
    behind-value {s = s} g = record {
      lies = rest_lies (at + room s) g.lies (omega arith) (omega (arith, g.lies.whole, room_aligned s));
      holds = g.holds.3;
      order = g.order.1;
      paths = g.paths;
      ascend = g.ascend.1;
      range = g.range.2;
      linked = g.linked;
      fields = g.fields.1;
      real = g.real.1;
    }

    pub layer_of_lem : {s : Fields} {n : Node} {r : Slots} → SoundS depth at lo hi l i (layer s n r)
        → SoundN (depth + 1) at 0 (2 ^ 64) 0 s.value n
    unfolding end_n HeldN InPostOrderN ShortPathsN AscendN InRangeN LinkedN FieldsN RealN
    layer_of_lem {n = n} {r = r} g = record {
      lies = record {
        deep = omega (arith, g.fields.0);
        start = g.lies.start;
        whole = g.lies.whole;
        before = omega (arith, g.lies.before, leaves_fit_s r (end_n at n));
      };
      holds = g.holds.3;
      order = g.order.0;
      paths = g.paths.0;
      ascend = g.ascend.1;
      range = g.range.2;
      linked = g.linked.0;
      fields = g.fields.1;
      real = g.real.1;
    }

    pub behind-layer : {s : Fields} {n : Node} {r : Slots} → SoundS depth at lo hi l i (layer s n r)
        → SoundS depth (end_n at n) lo hi l (i + 1) r
    unfolding end_n HeldN InPostOrderN ShortPathsN AscendN InRangeN LinkedN FieldsN RealN
    behind-layer {n = n} g = record {
      lies = rest_lies (end_n at n) g.lies (omega (arith, leaves_fit_n n at)) (aligned_n n at g.lies.whole);
      holds = g.holds.4;
      order = g.order.1;
      paths = g.paths.1;
      ascend = g.ascend.2;
      range = g.range.3;
      linked = g.linked.1;
      fields = g.fields.2;
      real = g.real.2;
    }

-- THE WHOLE TREE OF AN ACCEPTED IMAGE
pub sound : (image : List ℕ) → ((i : ℕ) → get_or image i 0 < 256) → Obeys image
    → SoundN image 0 8 0 (2 ^ 64) 0 (root_offset image) (tree_of image)
sound image b o = record {
  lies = record {
    deep = omega arith;
    start = omega arith;
    whole = omega arith;
    before = omega (arith, o.to_trailer, o.long);
  };
  holds = held image;
  order = o.post-order;
  paths = o.paths;
  ascend = o.slots;
  range = o.separators;
  linked = o.links;
  fields = o.fields;
  real = obeys_real image b o;
}

-- RECORDS ARE READ. A record of a whole subtree, and what a move finds there.
module _ (image : List ℕ) (l : ℕ) (whole : l % 8 ≡ 0) (start : 8 ≤ l) (rest : at_rest (version_at image l) ≡ true) where
  pub record-leaf : l + 432 ≤ length image → is_leaf (version_at image l) ≡ true → record_at image l ≡ Ok Leaf
  unfolding record_at readable pick
  record-leaf h t =
      rw (
        eq-eqb (l % 8) 0 whole,
        le-leb 8 l start,
        le-leb (l + 256 + 32) (length image) (omega arith),
        rest,
        t,
        le-leb (l + 400 + 32) (length image) (omega arith),
      )

  pub record-internode : l + 288 ≤ length image → is_leaf (version_at image l) ≡ false → record_at image l ≡ Ok Internode
  unfolding record_at readable pick
  record-internode h t =
      rw (eq-eqb (l % 8) 0 whole, le-leb 8 l start, le-leb (l + 256 + 32) (length image) (omega arith), rest, t)
