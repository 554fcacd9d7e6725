-- P1 to P12 hold: the machine says of every example of the table what 01 says, by computation.
use Rattle.std.specs.Prelude.{◌≡◌}
use Rattle.base.specs.Kit.{map, refl}
use Rattle.base.specs.Decline.{and_then, number_if}
use Rattle.base.specs.Pick.{pick}
use Rattle.key.specs.Order.{order, then, byte_order}
use Rattle.key.specs.Comparisons.{compared_by, compared}
use Rattle.key.specs.Ikey.{be, ikey_of, digits, ikey_bytes}
use Rattle.key.specs.Part.{part, padded}
use Rattle.node.specs.Le.{le, u16_at, u32_at, u64_at}
use Rattle.node.specs.Version.{bit, at_rest}
use Rattle.node.specs.Permuter.{slot_at}
use Rattle.node.specs.Layout.{live_at, suffix_at}
use Rattle.node.specs.Ksearch.{upper_bound}
use Rattle.node.specs.Heading.{length_ok, heading}
use Rattle.cursor.specs.CursorKey.{from_slice, shift_clear, unshift, has_suffix, suffix_of, compare_slot, with_ikey, with_length, store_ikey, store_suffix}
use Rattle.cursor.specs.RangeBound.{side_of, tested, bound_of}
use Rattle.search.specs.Traversal.{readable, record_at, by_kind, found_leaf, leaf_there, child_for, reach_from, reach}
use Rattle.search.specs.Helper.{by_order, lower_from, lower_with_position, suffix_readable, suffix_bytes, stored_order, not_shorter, after_inline, not_below, after_suffix, behind, past_layer, past_inline, past_suffix, at_match, at_found, lower_with_suffix}
use Rattle.start.specs.Start.{short_verdict, verdict, by_verdict, start_from, start_position}
use Rattle.moves.specs.Moves.{taken_on, standing, begin, start_in, find_start, retry_in, find_retry, handle_down, handle_up, advance_leaf, dup_by_suffix, dup_of, kept, onward, is_storable, key_place, key_buf, outcome_on, hand_out, emit_key, take_key, take_layer, take_slot, unless_dup, back_to_retry, find_slot, find_next, pass_in}
use Rattle.layering.specs.Tree.{fields_at}
use Rattle.verify.specs.Check.{demand, each, pass_leaf, leave_layer, reachable, listed, fits, before as before_c, in_order, in_range, layer_slot_c, slot_c, is_next, expected, fresh_from, permutes_from, permutes, leaf_c, record_c, node_c, layer_with, layer_c, finish, check, check_number, check_counts}
use Rattle.walk.specs.Walk.{number_of, keys_of, len_of, value_of, zero_walk, in_range as in_range_w, walk_ok}
use Rattle.walk.specs.Placing.{placing, start_state, fresh_walk, code_of, place}
use Rattle.scan.specs.Machine.{pushing, passed_by, before, move_in, move, after, run, scan_of, finished, advance, step}
use Rattle.worked_examples.specs.Sample.{le_bytes, entry, dead, layer_slot, mask_from, words, column, leaf_bytes, image_of, one_leaf}
use Rattle.worked_examples.specs.Examples.{check_numbers, accepts, checked_a, checked_b, handed_by, hand, asked, answered, machine_says, paper_says, tree_a, entrance, tree_b, pair, gives, walking, table}

pub examples : map machine_says table ≡ map paper_says table
unfolding pick order then byte_order be ikey_of digits ikey_bytes part padded le u16_at u32_at u64_at bit at_rest slot_at live_at suffix_at upper_bound length_ok heading from_slice shift_clear unshift has_suffix suffix_of compare_slot with_ikey with_length store_ikey store_suffix compared_by compared side_of tested bound_of readable record_at by_kind found_leaf leaf_there child_for reach_from reach by_order lower_from lower_with_position suffix_readable suffix_bytes stored_order not_shorter after_inline not_below after_suffix behind past_layer past_inline past_suffix at_match at_found lower_with_suffix short_verdict verdict by_verdict start_from start_position taken_on standing begin start_in find_start retry_in find_retry handle_down handle_up advance_leaf dup_by_suffix dup_of kept onward is_storable key_place key_buf outcome_on hand_out emit_key take_key take_layer take_slot unless_dup back_to_retry find_slot find_next zero_walk placing start_state fresh_walk number_if code_of place pushing passed_by before pass_in move_in move after run in_range_w walk_ok scan_of finished advance step le_bytes entry dead layer_slot mask_from words column leaf_bytes image_of one_leaf fields_at demand and_then each pass_leaf leave_layer reachable listed fits before_c in_order in_range layer_slot_c slot_c is_next expected fresh_from permutes_from permutes leaf_c record_c node_c layer_with layer_c finish check check_number check_counts check_numbers accepts checked_a checked_b number_of keys_of len_of value_of handed_by hand asked answered machine_says paper_says tree_a entrance tree_b pair gives walking table
examples = refl
