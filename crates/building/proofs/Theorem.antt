-- THE THEOREMS. The image that is built from an ascending list of pairs holds exactly those pairs; it obeys 01's rules, so the check accepts
-- it, with the tree's three numbers. Assumes of the pairs that their keys ascend strictly, have at most 256 bytes, and bytes only, that their
-- values are below 2^64, and that the image is no longer than 01 allows.
use Rattle.std.specs.Prelude.{◌≡◌, ◌∷◌, ◌+◌, ◌-◌, ◌^◌, ◌≤◌, ◌<◌}
use Rattle.base.specs.Kit.{refl, ap, sym, ◌∙◌, subst, List, [], map, ℕ, arith, length, get_or}
use Rattle.key.proofs.Bytes.{Bytes}
use Rattle.building.proofs.ByteLaws.{bytes-at}
use Rattle.layering.specs.Tree.{tree_of}
use Rattle.layering.specs.Keys.{Pair, pairs_n, leaves_n, values_n, layers_n, lives_n, live_pairs}
use Rattle.layering.specs.Accepted.{end_n, InPostOrderN, ShortPathsN, AscendN, InRangeN, LinkedN, FieldsN, Obeys}
use Rattle.layering.specs.Ascending.{All, Ascending}
use Rattle.layering.proofs.Row.{all_map}
use Rattle.layering.proofs.Lives.{pairs-lives_n}
use Rattle.verify.specs.Check.{check_number, check_counts, check}
use Rattle.verify.specs.Acceptance.{tree_counts}
use Rattle.verify.proofs.Theorem.{obeys-accepted}
use Rattle.building.specs.CodeOrder.{limit}
use Rattle.building.specs.Shape.{shape}
use Rattle.building.specs.CodeGood.{Good}
use Rattle.building.specs.Build.{bytes_n, image_of, tree_for, build}
use Rattle.building.proofs.Plain.{PlainN, length_n}
use Rattle.building.proofs.Placed.{end_n_placed, post_order_n, linked_n, pairs_n_placed, numbers_n, paths_n, ascend_n, range_n, fields_n, plain_n, size_n_placed, leaves-bytes_n}
use Rattle.building.proofs.Image.{values_fit_n, count-is, stated-is, edition-is, image-long, image-8, tree_is, image_of-length}
use Rattle.building.proofs.Groups.{under, LayerOk}
use Rattle.building.proofs.ImageBytes.{image_of-bytes}
use Rattle.building.proofs.Layers.{layer_ok}

-- What a sheet's pair may be: "Keys have at most 256 bytes", bytes are below 256, and values below 2^64.
pub record Fine (x : Pair) : Type 0 where
  pub bytes : Bytes x.key
  pub short : length x.key ≤ 256
  pub value : x.value < 2 ^ 64

under_nothing : (l : List Pair) → map (under []) l ≡ l
unfolding under
under_nothing [] = refl
under_nothing (x ∷ l) = ap (λ (r : List Pair). x ∷ r) (under_nothing l)

module _ (ps : List Pair) (asc : Ascending ps) (fine : All Fine ps) (short : length (build ps) ≤ 16777216) where
  -- the length of the image, before anything is known of its tree
  image-long-is : length (build ps) ≡ length (bytes_n (shape ps)) + 40
  unfolding build tree_for
  image-long-is = image_of-length (tree_for ps) (length ps) ∙ ap (λ (y : ℕ). y + 40) (size_n_placed (shape ps) 8 0)

  leaves-few : leaves_n (shape ps) ≤ limit
  leaves-few = omega (arith, image-long-is, leaves-bytes_n (shape ps))

  good : All (Good 32 0) ps
  good = all_map Fine (Good 32 0) (λ x f. record { bytes = f.bytes; short = f.short; value = f.value; some = λ h. absurd (omega arith) }) ps fine

  right : LayerOk 32 0 [] ps (shape ps)
  unfolding shape
  right = layer_ok 32 0 [] ps refl (omega arith) asc good leaves-few

  shape_plain : PlainN 31 12 (shape ps)
  shape_plain = let e : right.left ≡ 31 = omega (arith, right.layers) in rw e at right.plain

  pub ends : end_n 8 (shape ps) + 32 ≡ length (build ps)
  ends = omega (arith, image-long-is, length_n (shape ps) 31 12 8 shape_plain)

  plain : PlainN 31 12 (tree_for ps)
  unfolding tree_for
  plain = plain_n (shape ps) 31 12 8 0 (omega (arith, ends)) (omega arith) shape_plain

  post : InPostOrderN 8 (tree_for ps)
  unfolding tree_for
  post = post_order_n (shape ps) 31 12 8 0 shape_plain

  pairs : pairs_n [] (tree_for ps) ≡ ps
  unfolding tree_for
  pairs = pairs_n_placed (shape ps) [] 8 0 ∙ right.pairs ∙ under_nothing ps

  values : values_n (tree_for ps) ≡ length ps
  unfolding tree_for
  values = (numbers_n (shape ps) 8 0).0 ∙ right.count ∙ ap length (right.pairs ∙ under_nothing ps)

  lives : lives_n (tree_for ps) ≡ length ps
  lives = sym (pairs-lives_n (tree_for ps) []) ∙ ap (λ (l : List Pair). length l) pairs

  few : length ps < 2 ^ 64
  unfolding tree_for
  few = omega (arith, values, values_fit_n (tree_for ps) 31 12 8 plain, end_n_placed (shape ps) 8 8 0, ends)

  -- THE TREE THAT THE IMAGE HOLDS is the one that was written.
  pub build_tree : tree_of (build ps) ≡ tree_for ps
  unfolding build
  build_tree = tree_is (tree_for ps) (length ps) plain post short few

  -- THE PAIRS of the image are the pairs that it was built from.
  pub build-pairs : live_pairs (build ps) ≡ ps
  unfolding live_pairs
  build-pairs = ap (pairs_n []) build_tree ∙ pairs

  -- The image has bytes only.
  pub build-bytes : (i : ℕ) → get_or (build ps) i 0 < 256
  unfolding build
  build-bytes = bytes-at (image_of (tree_for ps) (length ps)) (image_of-bytes (tree_for ps) (length ps) 31 12 plain)

  -- THE RULES
  to_trailer : end_n 8 (tree_for ps) ≡ length (build ps) - 32
  unfolding tree_for
  to_trailer = omega (arith, end_n_placed (shape ps) 8 8 0, ends)

  pub build_obeys : Obeys (build ps)
  unfolding build tree_for
  build_obeys =
      let e : tree_of (build ps) ≡ tree_for ps = build_tree in
      record {
        long = image-long (tree_for ps) (length ps) plain post short few;
        short = short;
        whole = image-8 (tree_for ps) (length ps) plain post short few;
        stated = stated-is (tree_for ps) (length ps) plain post short few;
        first-edition = edition-is (tree_for ps) (length ps) plain post short few;
        post-order = subst (InPostOrderN 8) (sym e) post;
        to_trailer = ap (end_n 8) e ∙ to_trailer;
        paths = subst ShortPathsN (sym e) (paths_n (shape ps) 8 0 right.paths);
        slots = subst AscendN (sym e) (ascend_n (shape ps) 8 0 right.ascend);
        separators = subst (InRangeN 0 (2 ^ 64)) (sym e) (range_n (shape ps) 0 (2 ^ 64) 8 0 right.range);
        links = subst (LinkedN 0) (sym e) (linked_n (shape ps) 31 12 8 0 shape_plain);
        fields = subst (FieldsN 0) (sym e) (fields_n (shape ps) 0 8 0 right.fields);
        count = count-is (tree_for ps) (length ps) plain post short few ∙ sym (ap lives_n e ∙ lives);
      }

  -- THE CHECK accepts it, with as many value slots as there are pairs, and the shape's leaves and sub-layers.
  leaves-same : leaves_n (tree_for ps) ≡ leaves_n (shape ps)
  unfolding tree_for
  leaves-same = (numbers_n (shape ps) 8 0).1

  layers-same : layers_n (tree_for ps) ≡ layers_n (shape ps)
  unfolding tree_for
  layers-same = (numbers_n (shape ps) 8 0).2

  numbers : tree_counts (tree_of (build ps)) ≡ record { leaves = leaves_n (shape ps); value_slots = length ps; sub_layers = layers_n (shape ps) }
  unfolding tree_counts
  numbers = rw (build_tree, leaves-same, values, layers-same) refl

  pub build-accepted : (check_number (check (build ps)) ≡ 0)
      × (check_counts (check (build ps)) ≡ record { leaves = leaves_n (shape ps); value_slots = length ps; sub_layers = layers_n (shape ps) })
  build-accepted = let a = obeys-accepted (build ps) build_obeys in (a.0, a.1 ∙ numbers)
