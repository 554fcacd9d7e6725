-- GROUPS. The groups of an ascending list are its pairs of one ikey each, in order; and what the slots of one group are. Assumes that the
-- layers below are right (the parameter `subs`).
use Rattle.std.proofs.lemmas.Grind.{common_steps}
use Rattle.std.specs.Prelude.{◌≢◌, ◌≡◌, ◌∷◌, ◌++◌, ◌+◌, ◌^◌, ◌≤◌, ◌<◌}
use Rattle.base.specs.Kit.{Bool, true, false, inl, inr, refl, ap, ap₂, sym, ◌∙◌, subst, List, [], map, flatten, append_assoc, append-nil, ℕ, suc, min, arith, leb, eqb, length, take, drop, length-drop, take-append-drop, leb-true, leb-false, eqb-true, eqb-false, ne_eqb}
use Rattle.base.specs.Pick.{pick}
use Rattle.key.specs.Order.{byte_order}
use Rattle.std.specs.declared.cmp.Ordering.TheVariants.{Less}
use Rattle.key.specs.Ikey.{ikey_of, ikey_bytes}
use Rattle.key.proofs.Bytes.{Bytes, bytes_drop}
use Rattle.building.proofs.ByteLaws.{ikey_of-lt}
use Rattle.layering.specs.Tree.{Node, Slots, none, value}
use Rattle.layering.specs.Keys.{Pair, own_bytes, pairs_n, pairs_s, leaves_n, leaves_s, values_n, values_s}
use Rattle.layering.specs.Accepted.{ShortPathsN, ShortPathsS, Before, BeforeFirst, AscendN, AscendS, InRangeN, InRangeS, EndsHere, HasSuffix, FieldsN, FieldsS}
use Rattle.layering.specs.Ascending.{All, Ascending}
use Rattle.layering.proofs.Row.{all_map}
use Rattle.building.specs.CodeOrder.{limit}
use Rattle.building.specs.Shape.{ends_here, has_suffix, has_layer, below, long_slots, group_slots, onto, groups, size_s, first_ikey_s}
use Rattle.building.specs.Build.{offset_n}
use Rattle.building.specs.CodeGood.{Good}
use Rattle.building.proofs.KeyLaws.{ikey-le, short-grows, long_stays, bytes-long, bytes-short, bytes-filled}
use Rattle.building.proofs.Plain.{PlainV, PlainN, PlainS}

-- LISTS OF PAIRS
pub all_split : (P : Pair → Type 0) (a b : List Pair) → All P (a ++ b) → All P a × All P b
all_split P [] b h = (tt, h)
all_split P (x ∷ a) b h = let r = all_split P a b h.1 in ((h.0, r.0), r.1)

pub ascending_split : (a b : List Pair) → Ascending (a ++ b) → Ascending a × Ascending b
unfolding Ascending
ascending_split [] b h = (tt, h)
ascending_split (x ∷ a) b h =
    let r = ascending_split a b h.1 in
    (((all_split (λ (y : Pair). byte_order x.key y.key ≡ Less) a b h.0).0, r.0), r.1)

pub all_both : (P Q R : Pair → Type 0) → ((x : Pair) → P x → Q x → R x) → (l : List Pair) → All P l → All Q l → All R l
all_both P Q R f [] a b = tt
all_both P Q R f (x ∷ l) a b = (f x a.0 b.0, all_both P Q R f l a.1 b.1)

-- GROUPS
abbrev pub ikey_g : List Pair → ℕ
ikey_g [] = 0
ikey_g (x ∷ g) = ikey_of x.key

-- All pairs of a list have the ikey k.
abbrev pub Of : ℕ → List Pair → Type 0
Of k g = All (λ (y : Pair). ikey_of y.key ≡ k) g

-- A group that is not empty, of one ikey; groups above the ikey k; groups from the ikey k on.
abbrev pub Group : List Pair → Type 0
Group [] = ⊥
Group (x ∷ g) = Of (ikey_of x.key) g

abbrev pub Later : ℕ → List (List Pair) → Type 0
Later k [] = Unit {0}
Later k (g ∷ gs) = Group g × (k < ikey_g g) × Later (ikey_g g) gs

abbrev pub StartsAt : ℕ → List (List Pair) → Type 0
StartsAt k [] = ⊥
StartsAt k (g ∷ gs) = Group g × (ikey_g g ≡ k) × Later k gs

pub groups-flatten : (ps : List Pair) → flatten (groups ps) ≡ ps
unfolding groups flatten pick onto
groups-flatten [] = refl
groups-flatten (x ∷ []) = refl
groups-flatten (x ∷ y ∷ l) = go (eqb (ikey_of x.key) (ikey_of y.key)) (groups (y ∷ l)) (groups-flatten (y ∷ l))
  where
    joined : (gs : List (List Pair)) → flatten (onto x gs) ≡ x ∷ flatten gs
    joined [] = refl
    joined (g ∷ gs) = refl

    go : (t : Bool) (gs : List (List Pair)) → flatten gs ≡ y ∷ l → flatten (pick t (onto x gs) ((x ∷ []) ∷ gs)) ≡ x ∷ y ∷ l
    go true gs e = joined gs ∙ ap (λ (r : List Pair). x ∷ r) e
    go false gs e = ap (λ (r : List Pair). x ∷ r) e

onto_starts : (x : Pair) (k : ℕ) (gs : List (List Pair)) → ikey_of x.key ≡ k → StartsAt k gs → StartsAt (ikey_of x.key) (onto x gs)
unfolding onto
onto_starts x k [] e s = absurd s
onto_starts x k ([] ∷ gs) e s = absurd s.0
onto_starts x k ((y ∷ g) ∷ gs) e s =
    let f : ikey_of y.key ≡ ikey_of x.key = s.1 ∙ sym e in
    ((f, subst (λ (i : ℕ). Of i g) f s.0), refl, rw e s.2)

later_starts : (j k : ℕ) (gs : List (List Pair)) → j < k → StartsAt k gs → Later j gs
later_starts j k [] h s = absurd s
later_starts j k (g ∷ gs) h s = (s.0, omega (arith, s.1), rw s.1 s.2)

pub groups-start : (x : Pair) (l : List Pair) → Ascending (x ∷ l) → All (λ (y : Pair). Bytes y.key) (x ∷ l)
    → StartsAt (ikey_of x.key) (groups (x ∷ l))
unfolding groups pick Ascending
groups-start x [] a b = (tt, refl, tt)
groups-start x (y ∷ l) a b =
    go (eqb (ikey_of x.key) (ikey_of y.key)) refl (groups (y ∷ l)) (groups-start y l a.1 b.1)
  where
    go : (t : Bool) → eqb (ikey_of x.key) (ikey_of y.key) ≡ t → (gs : List (List Pair)) → StartsAt (ikey_of y.key) gs
        → StartsAt (ikey_of x.key) (pick t (onto x gs) ((x ∷ []) ∷ gs))
    go true e gs s = onto_starts x (ikey_of y.key) gs (eqb-true (ikey_of x.key) (ikey_of y.key) e) s
    go false e gs s =
        let d : ikey_of x.key ≢ ikey_of y.key = eqb-false (ikey_of x.key) (ikey_of y.key) e in
        (tt, refl, later_starts (ikey_of x.key) (ikey_of y.key) gs (omega (arith, ikey-le x.key y.key b.0 b.1.0 a.0.0)) s)

-- THE SLOTS OF A GROUP: how many, and where they begin
module _ (sub : List Pair → Node) where
  long-one : (x : Pair) (l : List Pair) → (size_s (long_slots sub (x ∷ l)) ≡ 1) × (first_ikey_s (long_slots sub (x ∷ l)) ≡ ikey_of x.key)
  unfolding long_slots size_s first_ikey_s has_suffix has_layer
  long-one x [] = (refl, refl)
  long-one x (y ∷ l) = (refl, refl)

  pub group-some : (x : Pair) (l : List Pair) → (0 < size_s (group_slots sub (x ∷ l))) × (first_ikey_s (group_slots sub (x ∷ l)) ≡ ikey_of x.key)
  unfolding group_slots pick size_s first_ikey_s ends_here
  group-some x l = go (leb (length x.key) 8)
    where
      go : (t : Bool) → (0 < size_s (pick t (value (ends_here x) (group_slots sub l)) (long_slots sub (x ∷ l))))
          × (first_ikey_s (pick t (value (ends_here x) (group_slots sub l)) (long_slots sub (x ∷ l))) ≡ ikey_of x.key)
      go true = (omega arith, refl)
      go false = (omega (arith, (long-one x l).0), (long-one x l).1)

  -- of one ikey: the lengths 0 to 8, and one for all that are longer
  few-step : (x : Pair) (l : List Pair) (r : Slots) (t : Bool) → leb (length x.key) 8 ≡ t
      → (length x.key ≤ 8 → size_s r + suc (length x.key) ≤ 10)
      → size_s (pick t (value (ends_here x) r) (long_slots sub (x ∷ l))) + min (length x.key) 9 ≤ 10
  unfolding pick size_s
  few-step x l r true e h = let n : length x.key ≤ 8 = leb-true (length x.key) 8 e in omega (arith, h n)
  few-step x l r false e h = omega (arith, (long-one x l).0)

  pub group-few : (x : Pair) (l : List Pair) → Ascending (x ∷ l) → All (λ (y : Pair). Bytes y.key) (x ∷ l) → Of (ikey_of x.key) l
      → size_s (group_slots sub (x ∷ l)) + min (length x.key) 9 ≤ 10
  unfolding group_slots size_s Ascending
  group-few x [] a b o = few-step x [] none (leb (length x.key) 8) refl (λ n. omega arith)
  group-few x (y ∷ l) a b o =
      let ih : size_s (group_slots sub (y ∷ l)) + min (length y.key) 9 ≤ 10 =
      group-few y l a.1 b.1 (subst (λ (i : ℕ). Of i l) (sym o.0) o.1) in
      few-step x (y ∷ l) (group_slots sub (y ∷ l)) (leb (length x.key) 8) refl
      (λ n. omega (arith, ih, short-grows x.key y.key b.0 b.1.0 a.0.0 (sym o.0) n))

-- LONG KEYS of one ikey: all behind a long one are long and have its first eight bytes; without those they still ascend
pub record Long (p : List ℕ) (y : Pair) : Type 0 where
  pub long : 8 < length y.key
  pub front : take 8 y.key ≡ p

pub longs : (x : Pair) (l : List Pair) → 8 < length x.key → Ascending (x ∷ l) → All (λ (y : Pair). Bytes y.key) (x ∷ l)
    → Of (ikey_of x.key) l → All (Long (take 8 x.key)) l
unfolding Ascending
longs x l n a b o =
    all_both (λ (y : Pair). (byte_order x.key y.key ≡ Less) × (Bytes y.key)) (λ (y : Pair). ikey_of y.key ≡ ikey_of x.key) (Long (take 8 x.key))
    (λ y p e.
    let r = long_stays x.key y.key b.0 p.1 p.0 (sym e) n in
    record { long = r.0; front = sym r.1 })
    l (all_both (λ (y : Pair). byte_order x.key y.key ≡ Less) (λ (y : Pair). Bytes y.key) _ (λ y p c. (p, c)) l a.0 b.1) o

pub below_all : (P Q : Pair → Type 0) → ((y : Pair) → P y → Q (below y)) → (l : List Pair) → All P l → All Q (map below l)
below_all P Q f [] h = tt
below_all P Q f (y ∷ l) h = (f y h.0, below_all P Q f l h.1)

pub below_ascending : (k : ℕ) (p : List ℕ) (l : List Pair) → Ascending l → All (λ (y : Pair). Bytes y.key) l → Of k l → All (Long p) l → Ascending (map below l)
unfolding Ascending below
below_ascending k p [] a b o g = tt
below_ascending k p (x ∷ l) a b o g = (
  below_all (λ (y : Pair). (byte_order x.key y.key ≡ Less) × (Bytes y.key) × (ikey_of y.key ≡ k)) (λ (y : Pair). byte_order (drop 8 x.key) y.key ≡ Less)
      (λ y h. (long_stays x.key y.key b.0 h.1 h.0 (o.0 ∙ sym h.2) g.0.long).2) l
      (all_both (λ (y : Pair). (byte_order x.key y.key ≡ Less) × (Bytes y.key)) (λ (y : Pair). ikey_of y.key ≡ k) _ (λ y h e. (h.0, h.1, e)) l
      (all_both (λ (y : Pair). byte_order x.key y.key ≡ Less) (λ (y : Pair). Bytes y.key) _ (λ y h c. (h, c)) l a.0 b.1) o.1),
  below_ascending k p l a.1 b.1 o.1 g.1,
)

pub good-below : (m depth : ℕ) (p : List ℕ) (l : List Pair) → All (Good (suc m) depth) l → All (Long p) l → All (Good m (depth + 1)) (map below l)
unfolding below
good-below m depth p l g h =
    below_all (λ (y : Pair). Good (suc m) depth y × Long p y) (Good m (depth + 1))
    (λ y t. record {
      bytes = bytes_drop 8 y.key t.0.bytes;
      short = omega (arith, length-drop 8 y.key, t.0.short);
      value = t.0.value;
      some = λ d. omega (arith, length-drop 8 y.key, t.1.long);
    })
    l (all_both (Good (suc m) depth) (Long p) _ (λ y a b. (a, b)) l g h)

-- A pair with the bytes of the layers above in front of its key.
unfoldable pub under : List ℕ → Pair → Pair
under q x = record { key = q ++ x.key; value = x.value }

under-below : (q p : List ℕ) (l : List Pair) → All (Long p) l → map (under (q ++ p)) (map below l) ≡ map (under q) l
unfolding under below
under-below q p [] h = refl
under-below q p (y ∷ l) h =
    let e : q ++ p ++ drop 8 y.key ≡ q ++ y.key =
    append_assoc q p (drop 8 y.key) ∙ ap (λ (r : List ℕ). q ++ r) (ap (λ (r : List ℕ). r ++ drop 8 y.key) (sym h.0.front) ∙ take-append-drop 8 y.key) in
    rw (e, under-below q p l h.1) refl

-- A LAYER that is right: at most m layers on a way down, at a depth, under the bytes q, of the pairs l.
pub record LayerOk (m depth : ℕ) (q : List ℕ) (l : List Pair) (n : Node) : Type 0 where
  pub left : ℕ
  pub layers : m ≡ suc left
  pub plain : PlainN left 12 n
  pub fields : FieldsN depth n
  pub ascend : AscendN n
  pub paths : ShortPathsN n
  pub range : InRangeN 0 (2 ^ 64) n
  pub offset : offset_n n ≡ 0
  pub pairs : pairs_n q n ≡ map (under q) l
  pub count : values_n n ≡ length (pairs_n q n)

-- THE SLOTS OF A GROUP are right.
pub record PieceOk (m depth k : ℕ) (q : List ℕ) (g : List Pair) (s : Slots) : Type 0 where
  pub plain : PlainS m s
  pub fields : FieldsS depth s
  pub ascend : AscendS s
  pub paths : ShortPathsS s
  pub range : InRangeS k (suc k) s
  pub pairs : pairs_s q s ≡ map (under q) g
  pub count : values_s s ≡ length (pairs_s q s)

module _ (m depth : ℕ) (deep : depth + suc m ≡ 32) (q : List ℕ) (sub : List Pair → Node)
    (subs : (l : List Pair) (r : List ℕ) → 0 < m → Ascending l → All (Good m (depth + 1)) l → leaves_n (sub l) ≤ limit → LayerOk m (depth + 1) r l (sub l)) where
  plain-short : (x : Pair) → Good (suc m) depth x → length x.key ≤ 8 → PlainV (ends_here x)
  unfolding ends_here
  plain-short x g n =
      record {
        ikey = ikey_of-lt x.key g.bytes;
        keylenx = omega arith;
        value = g.value;
        whole = refl;
        short = omega arith;
        bytes = tt;
        bare = λ d. (refl, refl);
      }

  fields-short : (x : Pair) → Good (suc m) depth x → length x.key ≤ 8 → EndsHere depth (ends_here x)
  unfolding ends_here
  fields-short x g n = record { short = n; some = g.some; filled = bytes-filled x.key g.bytes n }

  own-short : (x : Pair) → Good (suc m) depth x → length x.key ≤ 8 → own_bytes (ends_here x) ≡ x.key
  unfolding own_bytes ends_here pick
  own-short x g n = rw (ne_eqb (length x.key) 64 (λ e. omega arith)) (bytes-short x.key g.bytes n)

  plain-long : (x : Pair) → Good (suc m) depth x → PlainV (has_suffix x)
  unfolding has_suffix
  plain-long x g =
      record {
        ikey = ikey_of-lt x.key g.bytes;
        keylenx = omega arith;
        value = g.value;
        whole = refl;
        short = omega (arith, length-drop 8 x.key, g.short);
        bytes = bytes_drop 8 x.key g.bytes;
        bare = λ d. absurd (d refl);
      }

  fields-long : (x : Pair) → Good (suc m) depth x → 8 < length x.key → HasSuffix depth (has_suffix x)
  unfolding has_suffix
  fields-long x g n = grind (arith, common_steps)

  own-long : (x : Pair) → Good (suc m) depth x → 8 < length x.key → own_bytes (has_suffix x) ≡ x.key
  unfolding own_bytes has_suffix pick
  own-long x g n = rw (bytes-long x.key g.bytes n) (take-append-drop 8 x.key)

  -- a short key stands before the first slot behind it
  before-next : (x y : Pair) (l : List Pair) (t : Bool) → ikey_of y.key ≡ ikey_of x.key → length x.key ≤ 8 → length x.key < length y.key
      → BeforeFirst (ends_here x) (pick t (value (ends_here y) (group_slots sub l)) (long_slots sub (y ∷ l)))
  unfolding BeforeFirst Before ends_here long_slots has_suffix has_layer pick
  before-next x y l true e n h = inr (sym e, h, omega arith)
  before-next x y [] false e n h = inr (sym e, omega arith, omega arith)
  before-next x y (z ∷ l) false e n h = inr (sym e, omega arith, omega arith)

  before_group : (x : Pair) (l : List Pair) → Ascending (x ∷ l) → All (λ (y : Pair). Bytes y.key) (x ∷ l) → Of (ikey_of x.key) l
      → length x.key ≤ 8 → BeforeFirst (ends_here x) (group_slots sub l)
  unfolding group_slots BeforeFirst Ascending
  before_group x [] a b o n = tt
  before_group x (y ∷ l) a b o n =
      before-next x y l (leb (length y.key) 8) o.0 n (short-grows x.key y.key b.0 b.1.0 a.0.0 (sym o.0) n)

  -- the long keys of an ikey
  long_ok : (k : ℕ) (x : Pair) (l : List Pair) → Ascending (x ∷ l) → All (Good (suc m) depth) (x ∷ l) → Of k (x ∷ l) → 8 < length x.key
      → leaves_s (long_slots sub (x ∷ l)) ≤ limit → PieceOk m depth k q (x ∷ l) (long_slots sub (x ∷ l))
  unfolding long_slots PlainN FieldsN AscendN BeforeFirst ShortPathsN InRangeN pairs_n values_n leaves_n has_suffix has_layer pick under
  long_ok k x [] a g o n b =
      record {
        plain = (plain-long x g.0, tt);
        fields = (inr (fields-long x g.0 n), tt);
        ascend = (tt, tt);
        paths = tt;
        range = (omega (arith, o.0), omega (arith, o.0), tt);
        pairs = ap (λ (r : List ℕ). record { key = q ++ r; value = x.value } ∷ []) (own-long x g.0 n);
        count = refl;
      }
  long_ok k x (y ∷ l) a g o n b =
      let c : All (λ (z : Pair). Bytes z.key) (x ∷ y ∷ l) = all_map (Good (suc m) depth) (λ (z : Pair). Bytes z.key) (λ z h. h.bytes) (x ∷ y ∷ l) g in
      let p : List ℕ = take 8 x.key in
      let h : All (Long p) (x ∷ y ∷ l) =
      (record { long = n; front = refl }, longs x (y ∷ l) n a c (subst (λ (i : ℕ). Of i (y ∷ l)) (sym o.0) o.1)) in
      let w : 0 < m = omega (arith, g.0.short) in
      let t : LayerOk m (depth + 1) (q ++ ikey_bytes (ikey_of x.key)) (map below (x ∷ y ∷ l)) (sub (map below (x ∷ y ∷ l))) =
      subs (map below (x ∷ y ∷ l)) (q ++ ikey_bytes (ikey_of x.key)) w (below_ascending k p (x ∷ y ∷ l) a c o h) (good-below m depth p (x ∷ y ∷ l) g h) (omega arith) in
      record {
        plain = (
          record {
            ikey = ikey_of-lt x.key g.0.bytes;
            keylenx = refl;
            root = sym t.offset;
            start = refl;
            len = refl;
            suffix = refl;
          },
          tt,
          t.left,
          t.layers,
          t.plain,
        );
        fields = (omega arith, t.fields, tt);
        ascend = (tt, t.ascend, tt);
        paths = (t.paths, tt);
        range = (omega (arith, o.0), omega (arith, o.0), t.range, tt);
        pairs =
            append-nil (pairs_n (q ++ ikey_bytes (ikey_of x.key)) (sub (map below (x ∷ y ∷ l)))) ∙ t.pairs
            ∙ ap (λ (r : List ℕ). map (under (q ++ r)) (map below (x ∷ y ∷ l))) (bytes-long x.key g.0.bytes n)
            ∙ under-below q p (x ∷ y ∷ l) h;
        count =
            omega (arith, t.count, ap length (append-nil (pairs_n (q ++ ikey_bytes (ikey_of x.key)) (sub (map below (x ∷ y ∷ l))))));
      }

  -- a short key in front
  short_ok : (k : ℕ) (x : Pair) (l : List Pair) (r : Slots) → Good (suc m) depth x → ikey_of x.key ≡ k → length x.key ≤ 8
      → BeforeFirst (ends_here x) r → PieceOk m depth k q l r → PieceOk m depth k q (x ∷ l) (value (ends_here x) r)
  unfolding PlainN FieldsN AscendN ShortPathsN InRangeN pairs_n values_n ends_here pick under
  short_ok k x l r g o n f t =
      record {
        plain = (plain-short x g n, t.plain);
        fields = (inl (fields-short x g n), t.fields);
        ascend = (f, t.ascend);
        paths = t.paths;
        range = (omega arith, omega arith, t.range);
        pairs = ap₂ (λ (r : List ℕ) (w : List Pair). record { key = q ++ r; value = x.value } ∷ w) (own-short x g n) t.pairs;
        count = omega (arith, t.count);
      }

  empty_ok : (k : ℕ) → PieceOk m depth k q [] none
  unfolding PlainN FieldsN AscendN ShortPathsN InRangeN pairs_n values_n
  empty_ok k = grind (arith, common_steps)

  leaves-behind : (x : Pair) (r : Slots) → leaves_s (value (ends_here x) r) ≡ leaves_s r
  unfolding leaves_n
  leaves-behind x r = refl

  pub group_ok : (k : ℕ) (g : List Pair) → Ascending g → All (Good (suc m) depth) g → Of k g → leaves_s (group_slots sub g) ≤ limit
      → PieceOk m depth k q g (group_slots sub g)
  unfolding group_slots pick Ascending
  group_ok k [] a g o b = empty_ok k
  group_ok k (x ∷ l) a g o b = go (leb (length x.key) 8) refl b (λ c. group_ok k l a.1 g.1 o.1 c)
    where
      bytes : All (λ (z : Pair). Bytes z.key) (x ∷ l)
      bytes = all_map (Good (suc m) depth) (λ (z : Pair). Bytes z.key) (λ z h. h.bytes) (x ∷ l) g

      go : (t : Bool) → leb (length x.key) 8 ≡ t → leaves_s (pick t (value (ends_here x) (group_slots sub l)) (long_slots sub (x ∷ l))) ≤ limit
          → (leaves_s (group_slots sub l) ≤ limit → PieceOk m depth k q l (group_slots sub l))
          → PieceOk m depth k q (x ∷ l) (pick t (value (ends_here x) (group_slots sub l)) (long_slots sub (x ∷ l)))
      go true e c f =
          let n : length x.key ≤ 8 = leb-true (length x.key) 8 e in
          short_ok k x l (group_slots sub l) g.0 o.0 n
          (before_group x l a bytes (subst (λ (i : ℕ). Of i l) (sym o.0) o.1) n) (f (omega (arith, leaves-behind x (group_slots sub l))))
      go false e c f = long_ok k x l a g o (leb-false (length x.key) 8 e) c
