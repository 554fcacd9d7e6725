-- THE IMAGE, in output of just its length: the first eight bytes, the layers, and the trailer, one behind the other, are all of it.
-- Assumes of the station lines what the top layer is given.
use Rattle.std.specs.Prelude.{◌≡◌, ◌++◌, ◌+◌, ◌≤◌}
use Rattle.base.specs.Kit.{refl, ap, ap₂, sym, ◌∙◌, subst, List, [], append_assoc, append-nil, ℕ, arith, length, drop, length-append, flatten, drop_of_length-le, take-length}
use Rattle.layering.specs.Tree.{Node, leaf, internode, beyond}
use Rattle.layering.specs.Keys.{Pair, leaves_n}
use Rattle.layering.specs.Accepted.{end_n}
use Rattle.layering.specs.Ascending.{All, Ascending}
use Rattle.reading.specs.Pairs.{pairs_in}
use Rattle.building.specs.Shape.{layer_of, shape}
use Rattle.building.specs.Build.{stands_at, placed_n, le_bytes, offset_n, bytes_n, image_of, tree_for, build}
use Rattle.building.specs.CodeGood.{Good}
use Rattle.building.specs.CodeOrder.{limit}
use Rattle.building.specs.CodeWritten.{put}
use Rattle.building.proofs.Stands.{le_bytes-length}
use Rattle.building.proofs.Plain.{PlainN, length_n}
use Rattle.building.proofs.Placed.{size_n_placed, grow_n}
use Rattle.building.proofs.Puts.{put-length}
use Rattle.building.proofs.Layers.{layer_ok}
use Rattle.building.proofs.Towers.{leaves_end}
use Rattle.building.proofs.Image.{image_of-length}
use Rattle.groups.specs.declared.LayerLines.{LayerLines}
use Rattle.groups.specs.CodeGroups.{lines_at, Fit}
use Rattle.groups.proofs.TopLayer.{lines_top}
use Rattle.image_out.specs.CodeRows.{trailer_bytes}
use Rattle.image_out.proofs.PutRows.{Wrote, and_then, zero-bytes}
use Rattle.layers_out.specs.CodeCycle.{layer_at, LayerRoom, LayerWrote}
use Rattle.layers_out.specs.declared.run.Run.{Run}

put_whole : (d s : List ℕ) → length s ≡ length d → put d 0 s ≡ s
put_whole d s e = rw (take-length s, drop_of_length-le d {i = 0 + length s} (omega arith)) (append-nil s)

stands-offset : (n : Node) (at next : ℕ) → offset_n (placed_n at next n) ≡ stands_at at n
unfolding offset_n placed_n stands_at
stands-offset (leaf h s) at next = refl
stands-offset (internode h k) at next = refl
stands-offset beyond at next = refl

module _ (s : List ℕ) (line n : ℕ) (fit : Fit s 31 line n) where
  abbrev pub pairs : List Pair
  pairs = pairs_in n (drop line s)

  same_lines : lines_at s 0 line n ≡ pairs
  same_lines = lines_top s line n

  pub top_layer : layer_of 32 (lines_at s 0 line n) ≡ shape pairs
  unfolding shape
  top_layer = ap (layer_of 32) same_lines

  plain : leaves_n (shape pairs) ≤ limit → PlainN 31 12 (shape pairs)
  unfolding shape
  plain few =
      let ok = layer_ok 32 0 [] pairs refl (omega arith) (subst Ascending same_lines fit.ascend) (subst (All (Good 32 0)) same_lines fit.good) few in
      let e : ok.left ≡ 31 = omega (arith, ok.layers) in
      rw e at ok.plain

  -- HOW LONG, by the bytes that the layers take
  pub image-length : end_n 8 (shape pairs) + 32 ≤ 16777216 → length (build pairs) ≡ end_n 8 (shape pairs) + 32
  unfolding build tree_for
  image-length h =
      let few : leaves_n (shape pairs) ≤ limit = omega (arith, leaves_end (shape pairs) 8) in
      image_of-length (tree_for pairs) (length pairs) ∙ ap (λ (y : ℕ). y + 40) (size_n_placed (shape pairs) 8 0)
      ∙ omega (arith, length_n (shape pairs) 31 12 8 (plain few))

-- A TOP LAYER'S LINES, as the code has them
fit_top : (l : LayerLines) → l.below ≡ 31 → Fit l.sheet.now 31 l.line l.left
fit_top l e = subst (λ (b : ℕ). Fit l.sheet.now b l.line l.left) e l.fit

layer_top : (l : LayerLines) → l.below ≡ 31 → layer_at l ≡ shape (pairs_in l.left (drop l.line l.sheet.now))
layer_top l e = rw e (top_layer l.sheet.now l.line l.left (fit_top l e))

-- THE WRITES
module _ (top : LayerLines) (is : top.below ≡ 31) where
  abbrev given : List Pair
  given = pairs_in top.left (drop top.line top.sheet.now)

  fit : Fit top.sheet.now 31 top.line top.left
  fit = fit_top top is

  layers : layer_at top ≡ shape given
  layers = layer_top top is

  module _ (out : List ℕ) (long : length out ≡ end_n 8 (shape given) + 32) (short : length out ≤ 16777216) where
    few : leaves_n (shape given) ≤ limit
    few = omega (arith, leaves_end (shape given) 8)

    abbrev records : List ℕ
    records = bytes_n (placed_n 8 0 (shape given))

    records-length : 8 + length records ≡ end_n 8 (shape given)
    records-length = ap (λ (y : ℕ). 8 + y) (size_n_placed (shape given) 8 0) ∙ length_n (shape given) 31 12 8 (plain _ _ _ fit few)

    module _ (out₁ : List ℕ) (e₁ : out₁ ≡ put out 0 (le_bytes 8 0)) where
      long₁ : length out₁ ≡ length out
      long₁ = ap length e₁ ∙ put-length out (le_bytes 8 0) 0 (omega (arith, le_bytes-length 8 0, grow_n (shape given) 8))

      pub layers-room : LayerRoom out₁ 8 top
      layers-room = record { some = omega arith; fits = rw layers (omega (arith, long₁)); short = omega (arith, long₁) }

      module _ (out₂ : List ℕ) (q : Run) (w : LayerWrote out₁ out₂ 8 q (layer_at top)) where
        place : q.at ≡ end_n 8 (shape given)
        place = w.at ∙ ap (end_n 8) layers

        root : q.node ≡ offset_n (tree_for given)
        unfolding tree_for
        root = w.node ∙ ap (stands_at 8) layers ∙ sym (stands-offset (shape given) 8 0)

        bytes : out₂ ≡ put out₁ 8 records
        bytes = w.bytes ∙ ap (λ (y : Node). put out₁ 8 (bytes_n (placed_n 8 0 y))) layers

        long₂ : length out₂ ≡ length out
        long₂ = ap length bytes ∙ put-length out₁ records 8 (omega (arith, records-length, long₁)) ∙ long₁

        pub trailer-room : q.at + 32 ≤ length out₂
        trailer-room = omega (arith, place, long₂)

        pub image-is : (out₃ : List ℕ) → out₃ ≡ put out₂ q.at (trailer_bytes q.at q.node top.left) → out₃ ≡ build given
        unfolding build tree_for image_of flatten
        image-is out₃ e₃ =
            let t : List ℕ = trailer_bytes q.at q.node top.left in
            let tl : length t ≡ 32 = simp (length-append, le_bytes-length) in
            let w₁ : Wrote out 0 out₁ (le_bytes 8 0) 8 = record { same = e₁; size = le_bytes-length 8 0 } in
            let w₂ : Wrote out 0 out₂ (le_bytes 8 0 ++ records) (8 + length records) = and_then w₁ records (length records) refl bytes (omega (arith, records-length)) in
            let at : q.at ≡ 0 + (8 + length records) = omega (arith, place, records-length) in
            let e : out₃ ≡ put out₂ (0 + (8 + length records)) t = e₃ ∙ ap (λ (y : ℕ). put out₂ y t) at in
            let w₃ = and_then w₂ t 32 tl e (omega (arith, records-length)) in
            let a : q.at + 32 ≡ length records + 40 = omega (arith, place, records-length) in
            w₃.same ∙ put_whole out (le_bytes 8 0 ++ records ++ t) (w₃.size ∙ omega (arith, records-length))
            ∙ append_assoc (le_bytes 8 0) records t
            ∙ ap₂ (λ (x y : List ℕ). x ++ (records ++ y)) (zero-bytes 8) (ap (λ (y : ℕ). trailer_bytes q.at q.node y) (sym top.fit.lines.whole) ∙ rw (root, a) refl)

-- what `write_image` rests on
pub ruleset image_rules = (layers-room)
