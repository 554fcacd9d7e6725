-- A step on a record in place: the record with the next slot's key in it is the record's step.
use Rattle.std.specs.Prelude.{◌≡◌, ◌+◌, ◌≤◌, Some, None, Ok}
use Rattle.base.specs.Kit.{refl, sym, ◌∙◌, ap, true, false, List, [], ℕ, arith, length, get_or}
use Rattle.base.specs.Pick.{pick}
use Rattle.base.specs.Decline.{decline_number}
use Rattle.key.specs.Part.{part}
use Rattle.record_step.specs.Types.{Slot, CursorPlace, HandedKey, HandedOut, Walk, WalkState, FindNext, Ended, Decline}
use Rattle.cursor.specs.CursorKey.{with_ikey, with_length}
use Rattle.search.specs.Traversal.{leaf_there}
use Rattle.moves.specs.Moves.{onward, key_place, key_buf}
use Rattle.moves.specs.CodeFastPath.{fast_slot, next_of}
use Rattle.walk.specs.Walk.{one_more, walk_ok, answer_numbers}
use Rattle.scan.specs.Machine.{is_ended, key_out, ctx_of, walk_of, after_key}
use Rattle.scan.specs.CodeLoop.{no_leaf}
use Rattle.walk.proofs.NumberLaws.{walk-fits}
use Rattle.scan.proofs.BeginLaws.{step_advances}
use Rattle.scan.proofs.StepLaws as step
use Rattle.walk_record.specs.Record.{leaf_at, position_at, offset_at, depth_at, kind_at, bound_len_at, state_at, count_at, state_number, state_of, numbers_of, read_walk, is_record}
use Rattle.walk_record.specs.CodeLaid.{read_handed}
use Rattle.record_step.specs.Step.{said_in}
use Rattle.record_step.specs.CodeInPlace.{numbers_ok, place_of, key_numbers}
use Rattle.record_step.specs.CodeStep.{StepMade}
use Rattle.walk_record.proofs.Inverse.{walk_inverse}
use Rattle.record_step.proofs.Steps.{declined, taken}

state-next : (n : ℕ) → n ≡ state_number FindNext → state_of n ≡ FindNext
unfolding state_number state_of pick
state-next n e = rw e

-- a key in a walk's numbers is the key in the walk
put_in : (w : Walk) (k : CursorPlace) (b : List ℕ) (state : WalkState) (handed : HandedOut) → k.offset ≡ w.cursor.offset
    → key_numbers (numbers_of w) k state handed ≡ numbers_of (walk_of w state handed (record { ctx = onward (ctx_of w) k k.ikey; buf = b; stack = w.stack }))
unfolding key_numbers numbers_of onward
put_in w k b state handed e = rw e

-- The numbers of a record that are in range, over an image of some bytes.
pub record InNumbers (n : List ℕ) (bytes : ℕ) : Type 0 where
  pub offset-fits : get_or n offset_at 0 ≤ 248
  pub position-fits : get_or n position_at 0 ≤ 15
  pub kind_fits : get_or n kind_at 0 ≤ 2
  pub bound-fits : get_or n bound_len_at 0 ≤ 256
  pub count_fits : get_or n count_at 0 ≤ bytes

pub in_numbers : (n : List ℕ) (bytes : ℕ) → numbers_ok n bytes ≡ true → InNumbers n bytes
unfolding numbers_ok read_walk
in_numbers n bytes ok =
    let o = walk-fits (read_walk n [] []) bytes ok in
    record {
      offset-fits = omega (arith, o.offset-is, o.depth-fits);
      position-fits = o.position-fits;
      kind_fits = o.kind_fits;
      bound-fits = o.bound-fits;
      count_fits = o.count_fits;
    }

-- A RECORD WHOSE WALK HAS HANDED OUT A KEY, and whose numbers are in range.
module _ (n b k image : List ℕ) (is : is_record n b k ≡ true) (ok : numbers_ok n (length image) ≡ true) (next : get_or n state_at 0 ≡ state_number FindNext) where
  abbrev w : Walk
  w = read_walk n b k

  pub walk-next : w.state ≡ FindNext
  unfolding read_walk
  walk-next = state-next _ next

  pub walk_ok_lem : walk_ok w (length image) ≡ true
  unfolding numbers_ok walk_ok read_walk
  walk_ok_lem = ok

  module _ (out : List ℕ) (said_fits : length out ≡ said_in) where
    -- its leaf is not there
    pub leaf_gone : leaf_there image (get_or n leaf_at 0) ≡ false → (d : Decline) → d ≡ no_leaf (length image) → StepMade n b k image out (decline_number d) n b out
    unfolding read_walk
    leaf_gone e d f =
        declined n b k image out said_fits is w refl _ (step.gone w image walk-next e d f ∙ step_advances w image walk_ok_lem (ap is_ended walk-next)) d refl

    -- its next slot is fast: c and buf are cursor and buffer with the key
    module _ (there : leaf_there image (get_or n leaf_at 0) ≡ true) (slot : Slot) (e : fast_slot image (get_or n leaf_at 0) (record { 0 = get_or n position_at 0 }) (place_of n) ≡ Some slot)
        (bytes : List ℕ) (eb : bytes ≡ part k 0 (get_or n bound_len_at 0))
        (c : CursorPlace) (ec : c ≡ key_place image (get_or n leaf_at 0) slot (place_of n))
        (buf : List ℕ) (ek : buf ≡ key_buf image (get_or n leaf_at 0) slot (get_or n offset_at 0) b) (out' : List ℕ) where
      offset-is : c.offset ≡ w.cursor.offset
      unfolding key_place with_ikey with_length read_walk
      offset-is = ap (λ (x : CursorPlace). x.offset) ec

      written : (state : WalkState) (handed : HandedOut)
          → key_numbers n c state handed ≡ numbers_of (walk_of w state handed (record { ctx = onward (ctx_of w) c c.ikey; buf = buf; stack = w.stack }))
      written state handed = sym (ap (λ (l : List ℕ). key_numbers l c state handed) (walk_inverse n b k is).0) ∙ put_in w c buf state handed offset-is

      pub key-out : (h : HandedKey) → Some h ≡ next_of image (get_or n kind_at 0) bytes buf (get_or n leaf_at 0) slot c
          → (handed : HandedOut) → handed ≡ one_more (read_handed n) (get_or n depth_at 0)
          → out' ≡ answer_numbers (key_out (c.offset + c.len) h.value) 1 handed → StepMade n b k image out 0 (key_numbers n c (after_key h.last) handed) buf out'
      unfolding read_walk read_handed onward
      key-out h f handed eh eo =
          taken n b k image out said_fits is w refl _ (step.out w image walk-next there slot e bytes eb c ec buf ek h f ∙ step_advances w image walk_ok_lem (ap is_ended walk-next)) _ refl _ _ _
          (rw eh (written (after_key h.last) _)) refl (rw eh at eo)

      pub key-past : None ≡ next_of image (get_or n kind_at 0) bytes buf (get_or n leaf_at 0) slot c
          → (handed : HandedOut) → handed ≡ read_handed n
          → out' ≡ answer_numbers {E = Decline} (Ok None) 1 handed → StepMade n b k image out 0 (key_numbers n c Ended handed) buf out'
      unfolding read_walk read_handed
      key-past f handed eh eo =
          taken n b k image out said_fits is w refl _ (step.past w image walk-next there slot e bytes eb c ec buf ek f ∙ step_advances w image walk_ok_lem (ap is_ended walk-next)) _ refl _ _ _
          (rw eh (written Ended _)) refl (rw eh at eo)

-- a record that was tested: its walk was
pub read-tested : (n b k image : List ℕ) → is_record n b k ≡ true → (w : Walk) → w ≡ read_walk n b k
    → (numbers_ok n (length image) ≡ true) × (get_or n state_at 0 ≡ state_number FindNext) × (leaf_there image (get_or n leaf_at 0) ≡ true)
    → (walk_ok w (length image) ≡ true) × (w.state ≡ FindNext) × (leaf_there image w.leaf ≡ true)
unfolding read_walk
read-tested n b k image is w e h = rw e (walk_ok_lem n b k image is h.0 h.1, walk-next n b k image is h.0 h.1, h.2)
