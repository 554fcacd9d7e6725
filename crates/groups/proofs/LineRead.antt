-- A STATION LINE READ for a layer at depth d: what the layer has of its key stands in the reader's buffer.
use Rattle.std.specs.Prelude.{◌≡◌, ◌++◌, ◌+◌, ◌*◌, ◌-◌, ◌≤◌, Option, Some}
use Rattle.std.specs.Borrow.{Bor}
use Rattle.std.specs.Option.{is_some}
use Rattle.base.specs.Kit.{sym, subst, ◌∙◌, true, List, ℕ, min, arith, leb, leb-true, leb-false, length, drop, length-drop, drop_of_length-le, drop-length, sets, sets-eq, drop-append-le, take_at}
use Rattle.base.proofs.Choice.{by_test}
use Rattle.key.specs.Part.{part}
use Rattle.layering.specs.Keys.{Pair}
use Rattle.layering.specs.Ascending.{All}
use Rattle.reading.specs.CodeViews.{key_at, StationRead}
use Rattle.reading.specs.declared.Line.{Line}
use Rattle.reading.proofs.Pairs.{pairs-more, station-some, line-got}
use Rattle.groups.specs.CodeGroups.{OneLine, LoweredKeyRead}

-- a key k in a buffer, from its byte i on
pub stored_from : (k buf : List ℕ) (i : ℕ) → length k ≤ length buf → i ≤ length k → part (sets buf 0 k) i (length k - i) ≡ drop i k
unfolding part
stored_from k buf i h n =
    let e : sets buf 0 k ≡ k ++ drop (0 + length k) buf = sets-eq k buf 0 (omega arith) in
    rw (e, drop-append-le i k (drop (0 + length k) buf) n) (take_at (drop i k) (drop (0 + length k) buf) (length k - i) (length-drop i k))

-- past its end there is nothing
drop_min : (k : List ℕ) (i : ℕ) → drop (min i (length k)) k ≡ drop i k
drop_min k i =
    by_test (leb i (length k))
    (λ t. let e : min i (length k) ≡ i = omega (arith, leb-true i (length k) t) in rw e)
    (λ f.
    let e : min i (length k) ≡ length k = omega (arith, leb-false i (length k) f) in
    let n : length k ≤ i = omega (arith, leb-false i (length k) f) in
    rw e (drop-length k ∙ sym (drop_of_length-le k n)))

pub line-some : (s : List ℕ) (line : ℕ) (buf buf' : List ℕ) (r : Option Line) → StationRead s line buf buf' r → OneLine s line → is_some r ≡ true
line-some s line buf buf' r R O = station-some s line 1 buf buf' r (omega arith) O.whole R

module _ (s : List ℕ) (line : ℕ) (buf buf' : List ℕ) (o : Option Line) (R : StationRead s line buf buf' o) (O : OneLine s line) (r : Line) (e : o ≡ Some r) where
  read : StationRead s line buf buf' (Some r)
  read = rw e at R

  key-short : length (key_at (drop line s)) ≤ 256
  key-short = (subst (All (λ (x : Pair). length x.key ≤ 256)) (pairs-more s line buf buf' r read 0) O.short).0

  pub line-short : r.key_len ≤ 256
  line-short = omega (arith, key-short, read.found.0)

  -- what the layer has of the key, as the code takes it from the buffer
  pub line-lowered : (d from : ℕ) (p : Bor (List ℕ)) → length buf ≡ 256 → from ≡ min r.key_len (8 * d) → p.now ≡ part buf' from (r.key_len - from)
      → LoweredKeyRead s d line (record { key = p; value = r.value; next = r.next })
  line-lowered d from p b f e =
      let k : List ℕ = key_at (drop line s) in
      let l : r.key_len ≡ length k = read.found.0 in
      let c : from ≡ min (8 * d) (length k) = omega arith in
      let q : drop from k ≡ drop (8 * d) k = rw c (drop_min k (8 * d)) in
      let t : p.now ≡ drop (8 * d) k = e ∙ rw (R.kept, l) (stored_from k buf from (omega (arith, key-short)) (omega arith)) ∙ q in
      record {
        is = line-got s line buf buf' r read;
        key = t;
        on = read.found.1;
        inside = read.found.2;
      }
