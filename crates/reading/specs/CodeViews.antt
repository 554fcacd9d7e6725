-- What the code's answers say, as Read.antt says it: `rest` is the text behind a thing, and `next` the place in s where that text starts.
use Rattle.std.specs.Prelude.{◌≡◌, ◌&&◌, ◌∷◌, ◌-◌, ◌≤◌, ◌<◌, Option, None, Some, IfSome}
use Rattle.std.specs.Ordering.{is_lt}
use Rattle.base.specs.Kit.{Bool, true, false, List, [], ℕ, ltb, leb, eqb, length, drop, sets}
use Rattle.base.specs.Pick.{pick}
use Rattle.key.specs.Order.{byte_order}
use Rattle.layering.specs.Keys.{Pair}
use Rattle.sheet.specs.Sheet.{hex_key}
use Rattle.reading.specs.Read.{Got, none, got, digit, nibble, key_bytes, read_key, station}
use Rattle.reading.specs.declared.Found.{Found}
use Rattle.reading.specs.declared.Line.{Line}

-- What stood at the front of a text.
abbrev pub found_seen : {A : Type 0} → Option (Found A) → Got A
found_seen None = none
found_seen (Some r) = got r.value r.rest.now

-- The digit at the front of a text, by its number; and the number of a hex digit.
unfoldable pub first_digit : List ℕ → Got ℕ
first_digit [] = none
first_digit (b ∷ s) = pick (digit b) (got (b - 48) s) none

unfoldable pub hex_digit_seen : ℕ → Option ℕ
hex_digit_seen b = pick (ltb (nibble b) 16) (Some (nibble b)) None

-- Whether a text starts with a word.
unfoldable pub word_at : List ℕ → List ℕ → Bool
word_at [] s = true
word_at (w ∷ ws) [] = false
word_at (w ∷ ws) (b ∷ s) = pick (eqb b w) (word_at ws s) false

-- The key bytes that stand at the front of a text, be it in the form or not: what a reader leaves in its buffer.
unfoldable pub key_at : List ℕ → List ℕ
key_at [] = []
key_at (b ∷ s) = pick (eqb b 45) [] (key_bytes (b ∷ s)).key

-- Bytes of a key taken while they stand there, as many as fit left in the buffer. `sets b 0 k` of the library is b with the bytes of k
-- stored from its front on; what would lie past its end is left out.
pub record RunRead (s buf buf' : List ℕ) (r : Found ℕ) : Type 0 where
  pub rest : r.rest.now ≡ (key_bytes s).rest
  pub len : r.value ≡ length (key_bytes s).key
  pub kept : buf' ≡ sets buf 0 (key_bytes s).key

-- A key k that was looked for.
abbrev pub key_seen : List ℕ → Option (Found ℕ) → Got (List ℕ)
key_seen k None = none
key_seen k (Some r) = got k r.rest.now

-- A key looked for at the front of s: what was found, its length, and the buffer, which holds as much of it as fits.
pub record KeyRead (s buf buf' : List ℕ) (r : Option (Found ℕ)) : Type 0 where
  pub seen : key_seen (key_at s) r ≡ read_key s
  pub len : IfSome r (λ k. k.value ≡ length (key_at s))
  pub kept : buf' ≡ sets buf 0 (key_at s)

-- A station's line looked for at a place of s.
abbrev pub station_seen : List ℕ → List ℕ → Option Line → Got Pair
station_seen s k None = none
station_seen s k (Some r) = got (record { key = k; value = r.value }) (drop r.next s)

pub record StationRead (s : List ℕ) (at : ℕ) (buf buf' : List ℕ) (r : Option Line) : Type 0 where
  pub seen : station_seen s (key_at (drop at s)) r ≡ station (drop at s)
  pub found : IfSome r (λ l. (l.key_len ≡ length (key_at (drop at s))) × (at < l.next) × (l.next ≤ length s))
  pub kept : buf' ≡ sets buf 0 (key_at (drop at s))

-- The order of keys, read off their texts: u is the text of a key of at most 256 bytes above the one before, whose text is t, and empty
-- before the first. It is `keys_rise` (proofs/Rising.antt).
unfoldable pub follows : List ℕ → List ℕ → Bool
follows t u = leb (length u) 512 && is_lt (byte_order t u)

unfoldable pub texts_rise : List ℕ → List Pair → Bool
texts_rise t [] = true
texts_rise t (x ∷ xs) = follows t (hex_key x.key) && texts_rise (hex_key x.key) xs

-- Whether the keys of stations that stand there rise behind t, where they have risen so far, and what stands behind them.
unfoldable pub risen : List ℕ → Bool → Got (List Pair) → Got Bool
risen t ok none = none
risen t ok (got xs q) = got (ok && texts_rise t xs) q
