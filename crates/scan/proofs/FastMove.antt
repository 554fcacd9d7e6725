-- A move right after a key, where its leaf stands and its next slot is fast: what `hand_out` answered says what the move comes to.
use Rattle.std.specs.Prelude.{◌≡◌, Option, Some, None, Ok, Err}
use Rattle.base.specs.Kit.{◌∙◌, ap, true, false, List, ℕ}
use Rattle.base.specs.Pick.{pick}
use Rattle.scan.specs.Types.{Held, Slot, CursorPlace, ScanCtx, ScanState, Unreadable, HandedKey, LayerContext}
use Rattle.search.specs.Traversal.{leaf_there}
use Rattle.moves.specs.Moves.{kept, onward, key_place, key_buf, find_next, pass_in}
use Rattle.moves.specs.CodeFastPath.{outcome_of, fast_slot, next_of}
use Rattle.moves.proofs.FastLaws.{fast-next}
use Rattle.scan.specs.Machine.{is_up, pushing, passed_by, moved_by, move}
use Rattle.scan.specs.CodeLoop.{AfterKey}
use Rattle.scan.proofs.MoveLaws.{pass-is}

module _ (image : List ℕ) (kind : ℕ) (bound buf : List ℕ) (stack : List LayerContext) (c : ScanCtx) (a : AfterKey c) where
  abbrev here : Held
  here = record { ctx = c; buf = buf; stack = stack }

  finds : move image kind bound here ≡ moved_by here (find_next image kind bound buf c)
  unfolding pass_in
  finds =
      pass-is image kind bound here (ap is_up a.next)
      ∙ ap (λ (z : ScanState). moved_by here (pass_in z image kind bound buf c)) a.next

  -- its leaf is not there
  pub leaf_gone : leaf_there image c.leaf ≡ false → move image kind bound here ≡ record { outcome = Err Unreadable; scan = here }
  unfolding find_next kept passed_by pick
  leaf_gone e = finds ∙ rw e

  -- its slot is fast: k and b are cursor and buffer with the key, and o is what `hand_out` answered of them
  pub moves_so : leaf_there image c.leaf ≡ true → (slot : Slot) → fast_slot image c.leaf c.position c.cursor ≡ Some slot
      → (k : CursorPlace) (b : List ℕ) (o : Option HandedKey)
      → k ≡ key_place image c.leaf slot c.cursor → b ≡ key_buf image c.leaf slot c.cursor.offset buf → o ≡ next_of image kind bound b c.leaf slot k
      → move image kind bound here ≡ record { outcome = Ok (outcome_of o); scan = record { ctx = onward c k k.ikey; buf = b; stack = stack } }
  unfolding passed_by pushing outcome_of
  moves_so there slot e k b (Some h) ek eb eo = finds ∙ ap (moved_by here) (fast-next image kind bound buf c there a.not-due a.last-is slot e k b _ ek eb eo)
  moves_so there slot e k b None ek eb eo = finds ∙ ap (moved_by here) (fast-next image kind bound buf c there a.not-due a.last-is slot e k b _ ek eb eo)
