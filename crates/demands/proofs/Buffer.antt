-- The cursor's buffer: what its front holds after an ikey, or an ikey and a suffix, is stored at the layer's place; and
-- what `unshift` reads there. Assumes that they fit into the buffer.
use Rattle.std.proofs.lemmas.Grind.{common_steps}
use Rattle.std.specs.Prelude.{◌≡◌, ◌++◌, ◌+◌, ◌-◌, ◌^◌, ◌≤◌, ◌<◌}
use Rattle.base.specs.Kit.{ap, sym, ◌∙◌, subst, List, append_assoc, ℕ, arith, length, take, drop, take-append-drop, take_all, take-length, length-take-le, length-paste, take-paste, take-take, take_at, drop_at, take-append-add, paste}
use Rattle.key.specs.Ikey.{ikey_of, ikey_bytes}
use Rattle.key.specs.Part.{part}
use Rattle.key.proofs.Ikey.{ikey_bytes-length, ikey_of-ikey_bytes}
use Rattle.cursor.specs.CursorKey.{store_ikey, store_suffix}

-- what stands before a copy
paste_front : (d s : List ℕ) (at n m : ℕ) → m ≤ at → at ≤ length d → take m (paste d at s n) ≡ take m d
paste_front d s at n m h k = grind (arith, common_steps)

module _ (buf : List ℕ) (offset x : ℕ) (fits : offset + 8 ≤ length buf) where
  pub ikey-length : length (store_ikey buf offset x) ≡ length buf
  unfolding store_ikey
  ikey-length = length-paste buf offset (ikey_bytes x) 8 fits (omega (arith, ikey_bytes-length x))

  pub ikey_front : take offset (store_ikey buf offset x) ≡ take offset buf
  unfolding store_ikey
  ikey_front = paste_front buf (ikey_bytes x) offset 8 offset (omega arith) (omega arith)

  pub ikey_held : (n : ℕ) → n ≤ 8 → take (offset + n) (store_ikey buf offset x) ≡ take offset buf ++ take n (ikey_bytes x)
  unfolding store_ikey
  ikey_held n h =
      let e : length (take offset buf) ≡ offset = length-take-le offset buf (omega arith) in
      sym (take-take (offset + n) (offset + 8) (store_ikey buf offset x) (omega arith))
      ∙ ap (take (offset + n)) (take-paste buf offset (ikey_bytes x) 8 (omega arith) (omega (arith, ikey_bytes-length x)))
      ∙ subst (λ (m : ℕ). take (m + n) (take offset buf ++ take 8 (ikey_bytes x)) ≡ take offset buf ++ take n
      (ikey_bytes x)) e
      (take-append-add (take offset buf) (take 8 (ikey_bytes x)) n ∙ ap (λ (t : List ℕ). take offset buf ++ t)
      (take-take n 8 (ikey_bytes x) h))

  pub ikey-whole : take (offset + 8) (store_ikey buf offset x) ≡ take offset buf ++ ikey_bytes x
  ikey-whole =
      ikey_held 8 (omega arith) ∙ ap (λ (t : List ℕ). take offset buf ++ t)
      (take_all 8 (ikey_bytes x) (omega (arith, ikey_bytes-length x)))

  module _ (suffix : List ℕ) (room : offset + 8 + length suffix ≤ length buf) where
    pub suffix-length : length (store_suffix (store_ikey buf offset x) offset suffix) ≡ length buf
    unfolding store_suffix
    suffix-length =
        length-paste (store_ikey buf offset x) (offset + 8) suffix (length suffix) (omega (arith, ikey-length))
        (omega arith) ∙ ikey-length

    pub suffix_front : take offset (store_suffix (store_ikey buf offset x) offset suffix) ≡ take offset buf
    unfolding store_suffix
    suffix_front =
        paste_front (store_ikey buf offset x) suffix (offset + 8) (length suffix) offset (omega arith)
        (omega (arith, ikey-length)) ∙ ikey_front

    pub suffix_held : take (offset + 8 + length suffix) (store_suffix (store_ikey buf offset x) offset suffix)
        ≡ take offset buf ++ (ikey_bytes x ++ suffix)
    unfolding store_suffix
    suffix_held =
        take-paste (store_ikey buf offset x) (offset + 8) suffix (length suffix) (omega (arith, ikey-length))
        (omega arith)
        ∙ cc (ikey-whole, take-length suffix) ∙ append_assoc (take offset buf) (ikey_bytes x) suffix

-- A buffer that begins with p and eight bytes: what `unshift` leaves and reads.
module _ (buf p : List ℕ) (x offset : ℕ) (small : x < 2 ^ 64) (long : length p + 8 ≡ offset)
    (front : take offset buf ≡ p ++ ikey_bytes x) where
  whole : buf ≡ p ++ (ikey_bytes x ++ drop offset buf)
  whole =
      sym (take-append-drop offset buf) ∙ ap (λ (t : List ℕ). t ++ drop offset buf) front
      ∙ append_assoc p (ikey_bytes x) (drop offset buf)

  pub unshift_front : take (offset - 8) buf ≡ p
  unshift_front = ap (take (offset - 8)) whole ∙ take_at p (ikey_bytes x ++ drop offset buf) (offset - 8) (omega arith)

  pub unshift-ikey : ikey_of (part buf (offset - 8) 8) ≡ x
  unfolding part
  unshift-ikey =
      ap (λ (t : List ℕ). ikey_of (take 8 (drop (offset - 8) t))) whole
      ∙ ap (λ (t : List ℕ). ikey_of (take 8 t)) (drop_at p (ikey_bytes x ++ drop offset buf) (offset - 8) (omega arith))
      ∙ ap ikey_of (take_at (ikey_bytes x) (drop offset buf) 8 (ikey_bytes-length x)) ∙ ikey_of-ikey_bytes x small
