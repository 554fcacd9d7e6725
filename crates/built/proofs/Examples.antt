-- Trees A and B of 01 are built byte for byte as the worked examples have them, by computation.
use Rattle.std.specs.Prelude.{◌≡◌, ◌∷◌}
use Rattle.base.specs.Kit.{refl, [], flatten}
use Rattle.base.specs.Pick.{pick}
use Rattle.key.specs.Ikey.{be, ikey_of}
use Rattle.layering.specs.Accepted.{room, end_n, end_k, end_s}
use Rattle.building.specs.Shape.{ends_here, has_suffix, has_layer, below, long_slots, group_slots, onto, groups, size_s, join_s, onto_s, fill, identity, leaf_of, first_ikey_s, first_ikey_n, first_ikey_k, kids_of, internode_of, level_over, root_over, leaves_of, layer_over, layer_of, shape}
use Rattle.building.specs.Build.{stands_at, first_leaf_n, first_leaf_k, start_at, root_at, placed_n, placed_k, placed_s, le_bytes, words, fields_s, mask, suffix_word, leaf_bytes, offset_n, children_k, separators_k, internode_bytes, suffix_bytes, bytes_n, bytes_k, bytes_s, image_of, tree_for, build}
use Rattle.building.specs.Examples.{pair, pairs_a, entrance, pairs_b}
use Rattle.worked_examples.specs.Sample as sample
use Rattle.worked_examples.specs.Examples as worked

pub trees : build pairs_a ∷ build pairs_b ∷ [] ≡ worked.tree_a ∷ worked.tree_b ∷ []
unfolding flatten pick be ikey_of room end_n end_k end_s ends_here has_suffix has_layer below long_slots group_slots onto groups size_s join_s onto_s fill identity leaf_of first_ikey_s first_ikey_n first_ikey_k kids_of internode_of level_over root_over leaves_of layer_over layer_of shape stands_at first_leaf_n first_leaf_k start_at root_at placed_n placed_k placed_s le_bytes words fields_s mask suffix_word leaf_bytes offset_n children_k separators_k internode_bytes suffix_bytes bytes_n bytes_k bytes_s image_of tree_for build pair pairs_a entrance pairs_b sample.le_bytes sample.entry sample.layer_slot sample.mask_from sample.words sample.column sample.leaf_bytes sample.image_of sample.one_leaf worked.tree_a worked.entrance worked.tree_b
trees = refl
