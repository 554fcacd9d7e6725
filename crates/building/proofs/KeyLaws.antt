-- What the ikeys and the lengths of two keys in byte order say of one another, and how a key is made of its ikey's bytes and the rest.
-- Assumes that keys have bytes only.
use Rattle.std.specs.Prelude.{◌≡◌, ◌≤◌, ◌<◌}
use Rattle.base.specs.Kit.{ap, sym, ◌∙◌, subst, List, ℕ, arith, length, get_or, take, drop, length-take, List·getD-eq-default, take-take, get_or-take, length-take-le, dec_lt, take-append-drop}
use Rattle.key.specs.Order.{byte_order}
use Rattle.std.specs.declared.cmp.Ordering.TheVariants.{Less}
use Rattle.key.specs.Ikey.{be, ikey_of, ikey_bytes}
use Rattle.key.specs.Part.{padded}
use Rattle.key.proofs.Bytes.{Bytes, bytes_take}
use Rattle.building.proofs.ByteLaws.{lex_irrefl, bytes-padded, padded-past, ikey_of-padded}
use Rattle.key.proofs.Order.{Lex, lex_trans, cmp_less, cmp_prefix}
use Rattle.key.proofs.Ikey.{Split, below, above, shorter, longer, same, deeper, split, be-take, ikey_bytes-ikey_of, padded-length, padded-take}

module _ (s t : List ℕ) (bs : Bytes s) (bt : Bytes t) (h : byte_order s t ≡ Less) where
  never : {A : Type 0} → Lex t s → A
  never l = absurd (lex_irrefl s (lex_trans (cmp_less s t h) l))

  pub ikey-le : ikey_of s ≤ ikey_of t
  unfolding ikey_of
  ikey-le = go (split 8 s t bs bt)
    where
      go : Split 8 s t → be 8 s ≤ be 8 t
      go (below e l) = omega arith
      go (above e l) = never l
      go (shorter e k m l) = omega arith
      go (longer e k m l) = never l
      go (same e m) = omega (arith, ap (be 8) e)
      go (deeper e k m) = omega (arith, be-take 8 s t e)

  module _ (e : ikey_of s ≡ ikey_of t) where
    pub short-grows : length s ≤ 8 → length s < length t
    unfolding ikey_of
    short-grows n = go (split 8 s t bs bt)
      where
        go : Split 8 s t → length s < length t
        go (below f l) = absurd (omega arith)
        go (above f l) = never l
        go (shorter f k m l) = k
        go (longer f k m l) = never l
        go (same f m) = absurd (lex_irrefl s (subst (Lex s) (sym f) (cmp_less s t h)))
        go (deeper f k m) = absurd (omega arith)

    pub long_stays : 8 < length s → (8 < length t) × (take 8 s ≡ take 8 t) × (byte_order (drop 8 s) (drop 8 t) ≡ Less)
    unfolding ikey_of
    long_stays n = go (split 8 s t bs bt)
      where
        go : Split 8 s t → (8 < length t) × (take 8 s ≡ take 8 t) × (byte_order (drop 8 s) (drop 8 t) ≡ Less)
        go (below f l) = absurd (omega arith)
        go (above f l) = never l
        go (shorter f k m l) = absurd (omega arith)
        go (longer f k m l) = never l
        go (same f m) = absurd (omega arith)
        go (deeper f k m) = (m, f, cc (take-append-drop 8 s, take-append-drop 8 t, f, cmp_prefix (take 8 s) (drop 8 s) (drop 8 t), h))

-- THE BYTES OF AN IKEY
module _ (s : List ℕ) (b : Bytes s) where
  pub bytes-long : 8 < length s → ikey_bytes (ikey_of s) ≡ take 8 s
  unfolding ikey_of
  bytes-long n =
      let e : be 8 s ≡ be 8 (take 8 s) = be-take 8 s (take 8 s) (sym (take-take 8 8 s (omega arith))) in
      ap ikey_bytes e ∙ ikey_bytes-ikey_of (take 8 s) (bytes_take 8 s b) (length-take-le 8 s (omega arith))

  module _ (n : length s ≤ 8) where
    bytes_padding : ikey_bytes (ikey_of s) ≡ take 8 (padded s)
    unfolding ikey_of
    bytes_padding =
        let l : length (padded s) ≡ 256 = padded-length s (omega arith) in
        let e : be 8 (padded s) ≡ be 8 (take 8 (padded s)) = be-take 8 (padded s) (take 8 (padded s)) (sym (take-take 8 8 (padded s) (omega arith))) in
        ap ikey_bytes (sym (ikey_of-padded s) ∙ e)
        ∙ ikey_bytes-ikey_of (take 8 (padded s)) (bytes_take 8 (padded s) (bytes-padded s b)) (length-take-le 8 (padded s) (omega arith))

    pub bytes-short : take (length s) (ikey_bytes (ikey_of s)) ≡ s
    bytes-short = ap (take (length s)) bytes_padding ∙ take-take (length s) 8 (padded s) n ∙ padded-take s

    pub bytes-filled : (i : ℕ) → length s ≤ i → get_or (ikey_bytes (ikey_of s)) i 0 ≡ 0
    bytes-filled i h = ap (λ (l : List ℕ). get_or l i 0) bytes_padding ∙ go (dec_lt i 8)
      where
        go : Dec (i < 8) → get_or (take 8 (padded s)) i 0 ≡ 0
        go (yes k) = get_or-take 8 (padded s) i 0 k ∙ padded-past s i h
        go (no k) = List·getD-eq-default (take 8 (padded s)) 0 (omega (arith, length-take 8 (padded s)))
