-- A layer as a walk meets it: one row of slots, with a mark where the next leaf begins. Proved: the keys of a row whose
-- slots ascend by rank ascend in plain byte order. The idea: a key is its prefix and a part whose rank the row bounds,
-- and ranks that differ decide byte order.
use Rattle.std.specs.Prelude.{◌≡◌, ◌∷◌, ◌++◌, ◌+◌, ◌*◌, ◌≤◌, ◌<◌}
use Rattle.base.specs.Kit.{refl, ◌∙◌, List, [], append_assoc, Bool, true, false, ℕ, suc, arith, length}
use Rattle.key.specs.Order.{byte_order}
use Rattle.key.specs.Ikey.{ikey_of}
use Rattle.std.specs.declared.cmp.Ordering.TheVariants.{Less}
use Rattle.key.proofs.Order.{lex_prefix, lex_cmp}
use Rattle.key.proofs.Bytes.{Bytes, bytes-append}
use Rattle.key.proofs.Ikey.{rank, rank_lt, rank_below, rank_pos}
use Rattle.layering.specs.Keys.{Pair}
use Rattle.layering.specs.Ascending.{All, Ascending}

-- A layer's slots in order. `hop l y`: the next leaf begins, at offset l, and y is the separator before it. `val k b v`:
-- a value slot with its part k of the key, its live bit and its value. `sub k q s`: a layer slot with its eight bytes,
-- its root and the row of its layer.
pub data Row : Type 0 where
  stop : Row
  hop : ℕ → ℕ → Row → Row
  val : List ℕ → Bool → ℕ → Row → Row
  sub : List ℕ → ℕ → Row → Row → Row

-- The live pairs of a row; p is what the layers above have of each key.
unfoldable pub keys : List ℕ → Row → List Pair
keys p stop = []
keys p (hop l y r) = keys p r
keys p (val k true v r) = record { key = p ++ k; value = v } ∷ keys p r
keys p (val k false v r) = keys p r
keys p (sub k q s r) = keys (p ++ k) s ++ keys p r

-- What a row weighs: one for a further leaf and for a value slot; five for a layer slot, one of them for its layer's
-- first leaf.
unfoldable pub weight : Row → ℕ
weight stop = 0
weight (hop l y r) = suc (weight r)
weight (val k b v r) = suc (weight r)
weight (sub k q s r) = 5 + weight s + weight r

-- The slots ascend strictly by rank, from lo on; a part has bytes only; a layer slot has eight of them; below a layer
-- slot no part is empty.
unfoldable pub Asc : ℕ → Row → Type 0
Asc lo stop = Unit {0}
Asc lo (hop l y r) = (lo ≤ y * 16) × Asc (y * 16) r
Asc lo (val k b v r) = (lo ≤ rank k) × Bytes k × Asc (suc (rank k)) r
Asc lo (sub k q s r) =
    (length k ≡ 8) × Bytes k × (lo ≤ ikey_of k * 16 + 9) × Asc 1 s × Asc (suc (ikey_of k * 16 + 9)) r

pub all_append : (P : Pair → Type 0) (a b : List Pair) → All P a → All P b → All P (a ++ b)
all_append P [] b ha hb = hb
all_append P (x ∷ a) b ha hb = (ha.0, all_append P a b ha.1 hb)

pub all_map : (P Q : Pair → Type 0) → ((x : Pair) → P x → Q x) → (l : List Pair) → All P l → All Q l
all_map P Q f [] h = tt
all_map P Q f (x ∷ l) h = (f x h.0, all_map P Q f l h.1)

-- What a key of a row from lo on is: the prefix and a part of that rank.
pub record From (p : List ℕ) (lo : ℕ) (x : Pair) : Type 0 where
  pub part : List ℕ
  pub bytes : Bytes part
  pub is : x.key ≡ p ++ part
  pub ranks : lo ≤ rank part

pub from-lower : (p : List ℕ) (lo hi : ℕ) → lo ≤ hi → (l : List Pair) → All (From p hi) l → All (From p lo) l
from-lower p lo hi h l a =
    all_map (From p hi) (From p lo)
    (λ x f. record { part = f.part; bytes = f.bytes; is = f.is; ranks = omega (arith, f.ranks) }) l a

-- a key below a layer slot, seen from the slot's layer
pub deeper : (p k : List ℕ) → length k ≡ 8 → Bytes k → (lo : ℕ) → lo ≤ ikey_of k * 16 + 9
    → (x : Pair) → From (p ++ k) 1 x → From p lo x
deeper p k e b lo h x f = record {
  part = k ++ f.part;
  bytes = bytes-append k f.part b f.bytes;
  is = f.is ∙ append_assoc p k f.part;
  ranks = omega (arith, rank_below k f.part e (rank_pos f.part f.ranks));
}

-- Every key of a row from lo on is such.
pub keys_from_lem : (p : List ℕ) (lo : ℕ) (r : Row) → Asc lo r → All (From p lo) (keys p r)
unfolding keys Asc
keys_from_lem p lo stop a = tt
keys_from_lem p lo (hop l y r) a = from-lower p lo _ a.0 (keys p r) (keys_from_lem p _ r a.1)
keys_from_lem p lo (val k b v r) a = go b (from-lower p lo (suc (rank k)) (omega arith) (keys p r) (keys_from_lem p _ r a.2))
  where
    go : (b : Bool) → All (From p lo) (keys p r) → All (From p lo) (keys p (val k b v r))
    go true h = (record { part = k; bytes = a.1; is = refl; ranks = a.0 }, h)
    go false h = h
keys_from_lem p lo (sub k q s r) a = all_append (From p lo) (keys (p ++ k) s) (keys p r)
    (all_map (From (p ++ k) 1) (From p lo) (deeper p k a.0 a.1 lo a.2) (keys (p ++ k) s)
    (keys_from_lem (p ++ k) 1 s a.3))
    (from-lower p lo (suc (ikey_of k * 16 + 9)) (omega arith) (keys p r) (keys_from_lem p _ r a.4))

-- The key of x stands before every key of l.
abbrev pub Precedes : Pair → List Pair → Type 0
Precedes x l = All (λ (y : Pair). byte_order x.key y.key ≡ Less) l

-- a key stands before all that rank higher under its prefix
by_rank : (p k : List ℕ) → Bytes k → (lo : ℕ) → rank k < lo → (x : Pair) → x.key ≡ p ++ k
    → (l : List Pair) → All (From p lo) l → Precedes x l
by_rank p k b lo h x e l hl =
    all_map (From p lo) (λ (y : Pair). byte_order x.key y.key ≡ Less)
    (λ y g. rw (e, g.is) (lex_cmp (lex_prefix p (rank_lt k g.part b g.bytes (omega (arith, g.ranks)))))) l hl

ascending-append : (a b : List Pair) → Ascending a → Ascending b
    → All (λ (x : Pair). Precedes x b) a → Ascending (a ++ b)
unfolding Ascending
ascending-append [] b ha hb h = hb
ascending-append (x ∷ a) b ha hb h = (all_append _ a b ha.0 h.0, ascending-append a b ha.1 hb h.1)

-- THE KEYS OF A ROW ASCEND
pub keys-ascend : (p : List ℕ) (lo : ℕ) (r : Row) → Asc lo r → Ascending (keys p r)
unfolding keys Asc Ascending
keys-ascend p lo stop a = tt
keys-ascend p lo (hop l y r) a = keys-ascend p _ r a.1
keys-ascend p lo (val k true v r) a = (
  by_rank p k a.1 _ (omega arith) (record { key = p ++ k; value = v }) refl (keys p r) (keys_from_lem p _ r a.2),
  keys-ascend p _ r a.2,
)
keys-ascend p lo (val k false v r) a = keys-ascend p _ r a.2
keys-ascend p lo (sub k q s r) a =
    ascending-append (keys (p ++ k) s) (keys p r) (keys-ascend (p ++ k) 1 s a.3) (keys-ascend p _ r a.4)
    (all_map (From (p ++ k) 1) (λ (x : Pair). Precedes x (keys p r))
    (λ x f.
    by_rank p (k ++ f.part) (bytes-append k f.part a.1 f.bytes) _
    (omega (arith, rank_below k f.part a.0 (rank_pos f.part f.ranks))) x (f.is ∙ append_assoc p k f.part)
    (keys p r) (keys_from_lem p _ r a.4))
    (keys (p ++ k) s) (keys_from_lem (p ++ k) 1 s a.3))
