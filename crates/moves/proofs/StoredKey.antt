-- A key that can be stored: it fits the buffer, which keeps its length.
use Rattle.std.specs.Prelude.{◌≡◌, ◌&&◌, ◌+◌, ◌≤◌, ◌<◌}
use Rattle.base.specs.Kit.{true, and-eq-true_iff, List, ℕ, arith, leb-true, leb-false, eqb-true, lt-leb, leb, eqb, length, length-take, length-drop, length-paste}
use Rattle.base.proofs.Choice.{pick_ind}
use Rattle.key.specs.Part.{part}
use Rattle.key.specs.Ikey.{digits, ikey_bytes}
use Rattle.node.specs.Layout.{ikey_at, keylenx_at, suffix_at}
use Rattle.moves.specs.Types.{Slot, CursorPlace}
use Rattle.cursor.specs.CursorKey.{with_ikey, with_length, store_ikey, store_suffix}
use Rattle.search.specs.Helper.{suffix_readable, suffix_bytes}
use Rattle.moves.specs.Moves.{is_storable, key_place, key_buf}
use Rattle.search.proofs.Answers.{suffix-in}

-- a suffix that may be read has as many bytes as it says
pub suffix_length : (image : List ℕ) (leaf : ℕ) (s : Slot) → suffix_readable image leaf s ≡ true
    → length (suffix_bytes image leaf s) ≡ (suffix_at image leaf s).len
unfolding suffix_bytes part
suffix_length image leaf s h = simp (length-take, length-drop) (omega (arith, suffix-in image leaf s h))

-- the buffer keeps its length
pub stored : (buf : List ℕ) (offset ikey : ℕ) → length buf ≡ 256 → offset ≤ 248 → length (store_ikey buf offset ikey) ≡ 256
unfolding store_ikey ikey_bytes digits
stored buf offset ikey l h = rw (length-paste buf offset (ikey_bytes ikey) 8 (omega arith) (omega arith)) l

stored-suffix : (buf : List ℕ) (offset : ℕ) (suffix : List ℕ) → length buf ≡ 256 → offset + 8 + length suffix ≤ 256
    → length (store_suffix buf offset suffix) ≡ 256
unfolding store_suffix
stored-suffix buf offset suffix l h = rw (length-paste buf (offset + 8) suffix (length suffix) (omega arith) (omega arith)) l

module _ (image : List ℕ) (leaf : ℕ) (s : Slot) where
  -- one that does not end in this layer has a suffix that can be read and fits
  pub storable-suffix : (offset : ℕ) → is_storable image leaf s offset ≡ true → 8 < keylenx_at image leaf s
      → (keylenx_at image leaf s ≡ 64) × (suffix_readable image leaf s ≡ true) × (offset + 8 + (suffix_at image leaf s).len ≤ 256)
  unfolding is_storable
  storable-suffix offset h g =
      let fits = leb (offset + 8 + (suffix_at image leaf s).len) 256 in
      let rest : (eqb (keylenx_at image leaf s) 64 && (suffix_readable image leaf s && fits)) ≡ true = rw (lt-leb (keylenx_at image leaf s) 8 g) at h in
      let a = (and-eq-true_iff (eqb (keylenx_at image leaf s) 64) (suffix_readable image leaf s && fits)).0 rest in
      let b = (and-eq-true_iff (suffix_readable image leaf s) fits).0 a.1 in
      (eqb-true (keylenx_at image leaf s) 64 a.0, b.0, leb-true (offset + 8 + (suffix_at image leaf s).len) 256 b.1)

  module _ (k : CursorPlace) (low : k.offset ≤ 248) (h : is_storable image leaf s k.offset ≡ true) where
    pub key_fits : (key_place image leaf s k).offset + (key_place image leaf s k).len ≤ 256
    unfolding key_place with_ikey with_length
    key_fits =
        pick_ind (λ n. k.offset + n ≤ 256) _ (λ t. omega (arith, leb-true (keylenx_at image leaf s) 8 t))
        (λ f. omega (arith, (storable-suffix k.offset h (leb-false _ _ f)).2))

    pub key-buf-length : (buf : List ℕ) → length buf ≡ 256 → length (key_buf image leaf s k.offset buf) ≡ 256
    unfolding key_buf
    key-buf-length buf l =
        let b = stored buf k.offset (ikey_at image leaf s) l low in
        pick_ind (λ (x : List ℕ). length x ≡ 256) _ (λ t. b)
        (λ f. let g = storable-suffix k.offset h (leb-false _ _ f) in stored-suffix _ _ _ b (rw (suffix_length image leaf s g.1) g.2))
