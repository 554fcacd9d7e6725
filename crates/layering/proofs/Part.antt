-- What a slot holds of its key. Proved: a value slot's own bytes have the slot's ikey, and the rank that its ikey and
-- `keylenx` say; and slots that stand before one another ascend by that rank. Assumes of the fields only what "The image"
-- says of them, and that the ikey is a u64 and the suffix has as many bytes as its length says.
use Rattle.std.specs.Prelude.{◌≡◌, ◌++◌, ◌⊎◌, ◌+◌, ◌*◌, ◌^◌, ◌≤◌, ◌<◌}
use Rattle.base.specs.Kit.{ap, sym, ◌∙◌, inl, inr, ⊎_elim, ℕ, zero, suc, min, arith, length, take, length-append, length-take, take_at, take_all, eq-eqb, ne_eqb}
use Rattle.base.specs.Pick.{pick}
use Rattle.key.specs.Ikey.{be, ikey_of, ikey_bytes}
use Rattle.key.proofs.Bytes.{Bytes, bytes-append, bytes_take, ikey_bytes-bytes}
use Rattle.key.proofs.Ikey.{rank, be-take, be-zeros, ikey_bytes-length, ikey_of-ikey_bytes}
use Rattle.layering.specs.Tree.{Fields}
use Rattle.layering.specs.Keys.{own_bytes}
use Rattle.layering.specs.Accepted.{EndsHere, HasSuffix, Before}

-- The rank of a slot: its ikey, then its `keylenx`, with 9 for a suffix and for a layer.
unfoldable pub slot_rank : Fields → ℕ
slot_rank s = s.ikey * 16 + min s.keylenx 9

module _ (s : Fields) where
  -- the two kinds of value slot
  own-short : s.keylenx ≤ 8 → own_bytes s ≡ take s.keylenx (ikey_bytes s.ikey)
  unfolding own_bytes pick
  own-short h = rw (ne_eqb s.keylenx 64 (λ e. omega arith))

  own-long : s.keylenx ≡ 64 → own_bytes s ≡ ikey_bytes s.ikey ++ s.suffix
  unfolding own_bytes pick
  own-long h = rw (eq-eqb s.keylenx 64 h)

  length-short : s.keylenx ≤ 8 → length (own_bytes s) ≡ s.keylenx
  length-short h =
      omega (arith, ap length (own-short h), length-take s.keylenx (ikey_bytes s.ikey), ikey_bytes-length s.ikey)

  length-long : s.keylenx ≡ 64 → length (own_bytes s) ≡ 8 + length s.suffix
  length-long h =
      omega (arith, ap length (own-long h), length-append (ikey_bytes s.ikey) s.suffix, ikey_bytes-length s.ikey)

  module _ {depth : ℕ} (kind : EndsHere depth s ⊎ HasSuffix depth s) where
    pub own-bytes : Bytes s.suffix → Bytes (own_bytes s)
    own-bytes b =
        ⊎_elim
        (λ h. rw (own-short h.short) (bytes_take s.keylenx (ikey_bytes s.ikey) (ikey_bytes-bytes s.ikey)))
        (λ h. rw (own-long h.long) (bytes-append (ikey_bytes s.ikey) s.suffix (ikey_bytes-bytes s.ikey) b)) kind

    pub own-ikey : s.ikey < 2 ^ 64 → ikey_of (own_bytes s) ≡ s.ikey
    unfolding ikey_of
    own-ikey small =
        ⊎_elim
        (λ h. ap (be 8) (own-short h.short) ∙ be-zeros 8 s.keylenx (ikey_bytes s.ikey) h.filled)
        (λ h. be-take 8 (own_bytes s) (ikey_bytes s.ikey)
        (ap (take 8) (own-long h.long) ∙ take_at (ikey_bytes s.ikey) s.suffix 8 (ikey_bytes-length s.ikey)
        ∙ sym (take_all 8 (ikey_bytes s.ikey) (omega (arith, ikey_bytes-length s.ikey))))) kind
        ∙ ikey_of-ikey_bytes s.ikey small

    pub own_rank : s.ikey < 2 ^ 64 → (s.keylenx ≡ 64 → length s.suffix ≡ s.len) → rank (own_bytes s) ≡ slot_rank s
    unfolding rank slot_rank
    own_rank small whole =
        ⊎_elim (λ h. omega (arith, own-ikey small, length-short h.short))
        (λ h. omega (arith, own-ikey small, length-long h.long, whole h.long, h.long, h.some)) kind

    -- a key has at most 256 bytes, 8 × depth of them above its slot
    pub own-fits : depth ≤ 31 → length s.suffix ≤ s.len → 8 * depth + length (own_bytes s) ≤ 256
    own-fits d whole =
        ⊎_elim (λ h. omega (arith, length-short h.short, h.short)) (λ h. omega (arith, length-long h.long, h.fits)) kind

    -- below the root no rank is 0
    pub own-some : min depth 1 ≤ slot_rank s
    unfolding slot_rank
    own-some = ⊎_elim (λ h. omega (arith, some_byte depth h.some)) (λ h. omega (arith, h.long)) kind
      where
        some_byte : (d : ℕ) → (0 < d → 0 < s.keylenx) → min d 1 ≤ s.keylenx
        some_byte zero f = omega arith
        some_byte (suc d) f = omega (arith, f (omega arith))

    pub one-long : s.keylenx < 64 → s.keylenx ≤ 8
    one-long k = ⊎_elim (λ h. h.short) (λ h. absurd (omega (arith, h.long))) kind

-- A slot before another has the lower rank, where what is below 64 is at most 8.
pub before_rank : (s t : Fields) → (s.keylenx < 64 → s.keylenx ≤ 8) → Before s t → slot_rank s < slot_rank t
unfolding slot_rank Before
before_rank s t f (inl h) = omega arith
before_rank s t f (inr h) = omega (arith, f h.2)
