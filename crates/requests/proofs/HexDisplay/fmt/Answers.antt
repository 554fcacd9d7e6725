-- Each turn writes a piece's digits behind those of the pieces before it.
use Rattle.std.proofs.Common.{List, ℕ, ◌++◌, ap, ◌∙◌, rules, append_assoc, append-nil}
use Rattle.std.proofs.Output.{has_written_append, has_written_of_eq}
use Rattle.std.proofs.lemmas.List.{nil_from_length}
use Rattle.std.specs.Slice.Iter.{chunks_rest}
use Rattle.requests.proofs.HexDigits.{hex_bytes_nil, hex_piece}
use Rattle.requests.proofs.HexDisplay.fmt.Goals as goal

pub loop-piece-preserved : goal.loop-piece-preserved
loop-piece-preserved g c =
    let steps = c.in-Some.ensures.steps in (
      search rules,
      tt,
      steps.0 ∙ c.loop-piece.invariant.2,
      λ plain.
          let so_far = c.loop-piece.invariant.3 plain in (
            so_far.0 ++ c.digits-text.result.now,
            has_written_append _ _ _ _ _ _ so_far.1 (search rules),
            append_assoc so_far.0 _ _
                ∙ ap (λ (t : List ℕ). so_far.0 ++ t) (hex_piece _ _ (chunks_rest c.next.new.self) _ steps.1.0 c.digits-text.ensures)
                ∙ so_far.2,
          ),
    )

pub returns-clause-writes : goal.returns-clause-writes
returns-clause-writes g c = λ plain _.
    let so_far = c.loop-piece.invariant.3 plain in
    let none = nil_from_length _ c.in-None.ensures.steps.1.0 in
    has_written_of_eq _ _ _ _ _ (rw (none, hex_bytes_nil, append-nil) at so_far.2) so_far.1
