-- The depths of an image's live keys, along its row. Proved: the keys that have a depth are the live pairs' keys, one by one; so each is found at
-- its own (`live_depths`), and eight times a key's depth is the length of what the layers above have of it (`Known`). What a walk over rows has
-- left stays such (`known_past`, and proofs/Walk.antt).
use Rattle.std.specs.Prelude.{◌≡◌, ◌∷◌, ◌++◌, ◌+◌, ◌*◌}
use Rattle.base.specs.Kit.{refl, List, [], Bool, true, false, ℕ, arith, length, length-append}
use Rattle.base.specs.Pick.{pick}
use Rattle.key.specs.Ikey.{ikey_bytes}
use Rattle.key.specs.Order.{byte_order}
use Rattle.std.specs.declared.cmp.Ordering.TheVariants.{Less}
use Rattle.key.proofs.Order.{cmp-refl}
use Rattle.key.proofs.Ikey.{ikey_bytes-length}
use Rattle.layering.specs.Tree.{Node, leaf, internode, beyond, Kids, last, more, Slots, none, value, layer, tree_of}
use Rattle.layering.specs.Keys.{Pair, own_bytes, pairs_n, pairs_k, pairs_s, live_pairs}
use Rattle.layering.specs.Depths.{KeyDepth, depths_n, depths_k, depths_s, is_same, depth_in, depth_of}
use Rattle.layering.specs.Ascending.{All, Ascending}
use Rattle.layering.proofs.Row.{Row, stop, hop, val, sub}
use Rattle.layering.proofs.Flat.{flat_n, flat_k, flat_s}
use Rattle.layering.proofs.Descent.{Past, here, over_hop, over_val, over-sub}

-- THE KEYS ARE THOSE OF THE PAIRS, one by one.
unfoldable pub SameKeys : List KeyDepth → List Pair → Type 0
SameKeys [] [] = Unit {0}
SameKeys [] (y ∷ m) = ⊥
SameKeys (x ∷ l) [] = ⊥
SameKeys (x ∷ l) (y ∷ m) = (x.key ≡ y.key) × SameKeys l m

same-append : (a c : List KeyDepth) (b d : List Pair) → SameKeys a b → SameKeys c d → SameKeys (a ++ c) (b ++ d)
unfolding SameKeys
same-append [] c [] d h g = g
same-append [] c (y ∷ b) d h g = absurd h
same-append (x ∷ a) c [] d h g = absurd h
same-append (x ∷ a) c (y ∷ b) d h g = (h.0, same-append a c b d h.1 g)

mutual
  unfolding SameKeys depths_n pairs_n pick

  pub same_keys_n : (n : Node) (d : ℕ) (p : List ℕ) → SameKeys (depths_n d p n) (pairs_n p n)
  same_keys_n (leaf h s) d p = same_keys_s s d p
  same_keys_n (internode h k) d p = same_keys_k k d p
  same_keys_n beyond d p = tt

  pub same_keys_k : (k : Kids) (d : ℕ) (p : List ℕ) → SameKeys (depths_k d p k) (pairs_k p k)
  same_keys_k (last n) d p = same_keys_n n d p
  same_keys_k (more n x k) d p =
      same-append (depths_n d p n) (depths_k d p k) (pairs_n p n) (pairs_k p k) (same_keys_n n d p) (same_keys_k k d p)

  pub same_keys_s : (s : Slots) (d : ℕ) (p : List ℕ) → SameKeys (depths_s d p s) (pairs_s p s)
  same_keys_s none d p = tt
  same_keys_s (value s t) d p = go s.live (same_keys_s t d p)
    where
      go : (b : Bool) → SameKeys (depths_s d p t) (pairs_s p t)
          → SameKeys (pick b (record { key = p ++ own_bytes s; depth = d } ∷ depths_s d p t) (depths_s d p t))
          (pick b (record { key = p ++ own_bytes s; value = s.value } ∷ pairs_s p t) (pairs_s p t))
      go true h = (refl, h)
      go false h = h
  same_keys_s (layer s n t) d p =
      let q : List ℕ = p ++ ikey_bytes s.ikey in
      same-append (depths_n (d + 1) q n) (depths_s d p t) (pairs_n q n) (pairs_s p t) (same_keys_n n (d + 1) q) (same_keys_s t d p)

-- EACH KEY IS FOUND AT ITS OWN DEPTH: t has for every key of a list the depth there.
unfoldable pub Has : (List ℕ → ℕ) → List KeyDepth → Type 0
Has t [] = Unit {0}
Has t (x ∷ l) = (t x.key ≡ x.depth) × Has t l

-- a key before them all is none of them
has-behind : (x : KeyDepth) (t : List ℕ → ℕ) (l : List KeyDepth) (m : List Pair) (y : List ℕ) → x.key ≡ y → SameKeys l m
    → All (λ (z : Pair). byte_order y z.key ≡ Less) m → Has t l
    → Has (λ key. pick (is_same (byte_order x.key key)) x.depth (t key)) l
unfolding SameKeys Has is_same pick
has-behind x t [] [] y e s a h = tt
has-behind x t [] (z ∷ m) y e s a h = absurd s
has-behind x t (u ∷ l) [] y e s a h = absurd s
has-behind x t (u ∷ l) (z ∷ m) y e s a h =
    (rw (e, s.0, a.0) (rw s.0 at h.0), has-behind x t l m y e s.1 a.1 h.1)

has-own : (l : List KeyDepth) (m : List Pair) → SameKeys l m → Ascending m → Has (depth_in l) l
unfolding SameKeys Ascending Has depth_in is_same pick
has-own [] [] s a = tt
has-own [] (y ∷ m) s a = absurd s
has-own (x ∷ l) [] s a = absurd s
has-own (x ∷ l) (y ∷ m) s a =
    (rw (cmp-refl x.key), has-behind x (depth_in l) l m y.key s.0 s.1 a.0 (has-own l m s.1 a.1))

pub depths_of-pairs : (image : List ℕ) → SameKeys (depths_n 0 [] (tree_of image)) (live_pairs image)
unfolding live_pairs
depths_of-pairs image = same_keys_n (tree_of image) 0 []

pub live_depths : (image : List ℕ) → Ascending (live_pairs image) → Has (depth_of image) (depths_n 0 [] (tree_of image))
unfolding depth_of
live_depths image a = has-own (depths_n 0 [] (tree_of image)) (live_pairs image) (depths_of-pairs image) a

-- ALONG A ROW: eight times the depth of a live key is the length of p, what the layers above have of it.
unfoldable pub Known : (List ℕ → ℕ) → List ℕ → Row → Type 0
Known t p stop = Unit {0}
Known t p (hop l y r) = Known t p r
Known t p (val k true v r) = (8 * t (p ++ k) ≡ length p) × Known t p r
Known t p (val k false v r) = Known t p r
Known t p (sub k q s r) = Known t (p ++ k) s × Known t p r

has_split : (t : List ℕ → ℕ) (a b : List KeyDepth) → Has t (a ++ b) → Has t a × Has t b
unfolding Has
has_split t [] b h = (tt, h)
has_split t (x ∷ a) b h = let g = has_split t a b h.1 in ((h.0, g.0), g.1)

-- the row of a tree is such
module _ (t : List ℕ → ℕ) where
  mutual
    unfolding Has Known depths_n flat_n pick

    pub known_flat_n : (n : Node) (d : ℕ) (p : List ℕ) (r : Row) → Has t (depths_n d p n) → length p ≡ 8 * d → Known t p r → Known t p (flat_n n r)
    known_flat_n (leaf h s) d p r a e g = known_flat_s s d p r a e g
    known_flat_n (internode h k) d p r a e g = known_flat_k k d p r a e g
    known_flat_n beyond d p r a e g = g

    pub known_flat_k : (k : Kids) (d : ℕ) (p : List ℕ) (r : Row) → Has t (depths_k d p k) → length p ≡ 8 * d → Known t p r → Known t p (flat_k k r)
    known_flat_k (last n) d p r a e g = known_flat_n n d p r a e g
    known_flat_k (more n x k) d p r a e g =
        let h = has_split t (depths_n d p n) (depths_k d p k) a in
        known_flat_n n d p _ h.0 e (known_flat_k k d p r h.1 e g)

    pub known_flat_s : (s : Slots) (d : ℕ) (p : List ℕ) (r : Row) → Has t (depths_s d p s) → length p ≡ 8 * d → Known t p r → Known t p (flat_s s r)
    known_flat_s none d p r a e g = g
    known_flat_s (value s u) d p r a e g = go s.live a (λ h. known_flat_s u d p r h e g)
      where
        go : (b : Bool) → Has t (pick b (record { key = p ++ own_bytes s; depth = d } ∷ depths_s d p u) (depths_s d p u))
            → (Has t (depths_s d p u) → Known t p (flat_s u r)) → Known t p (val (own_bytes s) b s.value (flat_s u r))
        go true h ih = (omega (arith, h.0), ih h.1)
        go false h ih = ih h
    known_flat_s (layer s n u) d p r a e g =
        let q : List ℕ = p ++ ikey_bytes s.ikey in
        let h = has_split t (depths_n (d + 1) q n) (depths_s d p u) a in
        let f : length q ≡ 8 * (d + 1) = omega (arith, length-append p (ikey_bytes s.ikey), ikey_bytes-length s.ikey) in
        (known_flat_n n (d + 1) q stop h.0 f tt, known_flat_s u d p r h.1 e g)

  -- and so is what is left of a row
  pub known_behind : (p k : List ℕ) (b : Bool) (v : ℕ) (r : Row) → Known t p (val k b v r) → Known t p r
  unfolding Known
  known_behind p k true v r h = h.1
  known_behind p k false v r h = h

  pub known_past : {lo : ℕ} {r r' : Row} (p : List ℕ) → Past lo r r' → Known t p r → Known t p r'
  unfolding Known
  known_past p here h = h
  known_past p (over_hop g) h = known_past p g h
  known_past p (over_val {k = k} {b = b} {v = v} {r = r} e g) h = known_past p g (known_behind p k b v r h)
  known_past p (over-sub e g) h = known_past p g h.1

-- THE ROW OF AN IMAGE whose live pairs ascend.
pub row_known : (image : List ℕ) → Ascending (live_pairs image) → Known (depth_of image) [] (flat_n (tree_of image) stop)
unfolding Known
row_known image a = known_flat_n (depth_of image) (tree_of image) 0 [] stop (live_depths image a) refl tt
