-- Bytes and byte order, as the image that is built wants them: what is filled with zeros, and a number of bytes. Assumes nothing.
use Rattle.std.proofs.lemmas.Grind.{common_steps}
use Rattle.std.specs.Prelude.{◌≡◌, ◌∷◌, ◌-◌, ◌≤◌, ◌<◌, ◌^◌}
use Rattle.base.specs.Kit.{ap, sym, ◌∙◌, List, [], ℕ, zero, suc, arith, length, get_or, replicate}
use Rattle.key.specs.Ikey.{be, ikey_of}
use Rattle.key.specs.Part.{padded}
use Rattle.key.proofs.Bytes.{Bytes, bytes-append}
use Rattle.key.proofs.Order.{Lex, head-lt, tail-lt}
use Rattle.key.proofs.Ikey.{be-lt, be-zeros, padded-take}

pub lex_irrefl : (s : List ℕ) → Lex s s → ⊥
lex_irrefl [] x = elim x [ ]
lex_irrefl (a ∷ s) (head-lt h) = omega arith
lex_irrefl (a ∷ s) (tail-lt e h) = lex_irrefl s h

pub bytes-at : (s : List ℕ) → Bytes s → (i : ℕ) → get_or s i 0 < 256
bytes-at [] b i = omega arith
bytes-at (a ∷ s) b zero = b.0
bytes-at (a ∷ s) b (suc i) = bytes-at s b.1 i

pub bytes-zeros : (n : ℕ) → Bytes (replicate n 0)
bytes-zeros zero = tt
bytes-zeros (suc n) = (omega arith, bytes-zeros n)

pub bytes-padded : (s : List ℕ) → Bytes s → Bytes (padded s)
unfolding padded
bytes-padded s b = bytes-append s (replicate (256 - length s) 0) b (bytes-zeros (256 - length s))

pub ikey_of-lt : (s : List ℕ) → Bytes s → ikey_of s < 2 ^ 64
unfolding ikey_of
ikey_of-lt s b = be-lt 8 s b

-- past its end a filled buffer is zero
pub padded-past : (s : List ℕ) (j : ℕ) → length s ≤ j → get_or (padded s) j 0 ≡ 0
unfolding padded
padded-past s j h = grind (arith, common_steps)

pub ikey_of-padded : (s : List ℕ) → ikey_of (padded s) ≡ ikey_of s
unfolding ikey_of
ikey_of-padded s = sym (be-zeros 8 (length s) (padded s) (padded-past s)) ∙ ap (be 8) (padded-take s)
