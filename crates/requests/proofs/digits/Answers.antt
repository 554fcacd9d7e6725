-- The front of the space has the digits, which are text.
use Rattle.std.proofs.Common.{◌≡◌, ◌<◌, ◌∙◌, List, ℕ, ap, arith, get_or}
use Rattle.std.specs.Prelude.{Result, Ok, Err, MatchResult, IsUtf8}
use Rattle.std.specs.Borrow.{Bor}
use Rattle.std.specs.Result.{result_unwrap_or}
use Rattle.requests.proofs.HexDigits.{front_is, front_text}
use Rattle.requests.proofs.digits.Goals as goal

-- bytes that are text are given back
text_given : {E : Type 0} (Q : E → Type 0) (r : Result (Bor (List ℕ)) E) (d : Bor (List ℕ)) (bs : List ℕ)
    → MatchResult r (λ s. (s.now ≡ bs) × IsUtf8 bs) (λ e. (IsUtf8 bs → ⊥) × Q e) → IsUtf8 bs → (result_unwrap_or r d).now ≡ bs
text_given Q (Ok s) d bs h u = h.0
text_given Q (Err e) d bs h u = absurd (h.0 u)

pub returns : goal.returns
returns c =
    let small : (i : ℕ) → get_or c.args.piece.now i 0 < 256 = λ i. let f = c.type_inv.piece i in omega arith in
    ap (λ (t : Bor (List ℕ)). t.now) c.unwrap_or.ensures
    ∙ text_given _ c.from_utf8.result _ _ c.from_utf8.ensures.cases (front_text _ _ _ _ c.put_hex.ensures (omega arith) small)
    ∙ front_is _ _ _ _ c.put_hex.ensures (omega arith)
