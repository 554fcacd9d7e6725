-- The loop's invariant: the bytes of the rest, stored from `len` on, make the whole, and leave what the whole leaves. The measure is the
-- rest.
use Rattle.std.specs.Prelude.{◌≡◌, ◌+◌, ◌*◌}
use Rattle.base.specs.Kit.{length, sets}
use Rattle.reading.specs.Read.{key_bytes}
use Rattle.reading.proofs.key_bytes.Given as goal

abbrev pub invariant-loop-byte : goal.invariant-loop-byte
invariant-loop-byte l = (2 * l.len + length l.rest ≡ length l.text) × (length l.buf ≡ length l.initial.buf)
    × (l.len + length (key_bytes l.rest).key ≡ length (key_bytes l.text).key)
    × ((key_bytes l.rest).rest ≡ (key_bytes l.text).rest)
    × (sets l.buf l.len (key_bytes l.rest).key ≡ sets l.initial.buf 0 (key_bytes l.text).key)

abbrev pub decreases-loop-byte : goal.decreases-loop-byte
decreases-loop-byte l = length l.rest
