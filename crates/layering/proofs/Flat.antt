-- The row of a tree: its slots in the order in which a walk meets them. Proved, by recursion on the tree: the row has the
-- tree's pairs, and it weighs its leaves, its value slots and four for each of its layers.
use Rattle.std.specs.Prelude.{◌≡◌, ◌∷◌, ◌++◌, ◌+◌, ◌*◌}
use Rattle.base.specs.Kit.{refl, sym, List, append_assoc, append-nil, Bool, true, false, ℕ, arith}
use Rattle.base.specs.Pick.{pick}
use Rattle.key.specs.Ikey.{ikey_bytes}
use Rattle.layering.specs.Tree.{Node, leaf, internode, beyond, Kids, last, more, Slots, none, value, layer}
use Rattle.layering.specs.Keys.{own_bytes, pairs_n, pairs_k, pairs_s, leaves_n, leaves_k, leaves_s, values_n, values_k, values_s, layers_n, layers_k, layers_s}
use Rattle.layering.specs.Accepted.{first_k, ShortPathsN, ShortPathsK, ShortPathsS}
use Rattle.layering.proofs.Row.{Row, stop, hop, val, sub, keys, weight}

-- The row of a subtree, with the row r behind it.
unfoldable mutual
  pub flat_n : Node → Row → Row
  flat_n (leaf h s) r = flat_s s r
  flat_n (internode h k) r = flat_k k r
  flat_n beyond r = r

  pub flat_k : Kids → Row → Row
  flat_k (last n) r = flat_n n r
  flat_k (more n x k) r = flat_n n (hop (first_k k) x (flat_k k r))

  pub flat_s : Slots → Row → Row
  flat_s none r = r
  flat_s (value s t) r = val (own_bytes s) s.live s.value (flat_s t r)
  flat_s (layer s n t) r = sub (ikey_bytes s.ikey) s.value (flat_n n stop) (flat_s t r)

-- THE ROW HAS THE TREE'S PAIRS
mutual
  unfolding pairs_n flat_n keys pick

  pub flat_keys_n : (n : Node) (p : List ℕ) (r : Row) → keys p (flat_n n r) ≡ pairs_n p n ++ keys p r
  flat_keys_n (leaf h s) p r = flat_keys_s s p r
  flat_keys_n (internode h k) p r = flat_keys_k k p r
  flat_keys_n beyond p r = refl

  pub flat_keys_k : (k : Kids) (p : List ℕ) (r : Row) → keys p (flat_k k r) ≡ pairs_k p k ++ keys p r
  flat_keys_k (last n) p r = flat_keys_n n p r
  flat_keys_k (more n x k) p r =
      rw (flat_keys_n n p (hop (first_k k) x (flat_k k r)), flat_keys_k k p r)
      (sym (append_assoc (pairs_n p n) (pairs_k p k) (keys p r)))

  pub flat_keys_s : (s : Slots) (p : List ℕ) (r : Row) → keys p (flat_s s r) ≡ pairs_s p s ++ keys p r
  flat_keys_s none p r = refl
  flat_keys_s (value s t) p r = go s.live (flat_keys_s t p r)
    where
      go : (b : Bool) → keys p (flat_s t r) ≡ pairs_s p t ++ keys p r
          → keys p (val (own_bytes s) b s.value (flat_s t r))
          ≡ pick b (record { key = p ++ own_bytes s; value = s.value } ∷ pairs_s p t) (pairs_s p t) ++ keys p r
      go true e = rw e
      go false e = e
  flat_keys_s (layer s n t) p r =
      rw (flat_keys_n n (p ++ ikey_bytes s.ikey) stop, flat_keys_s t p r) (simp (append-nil, append_assoc))

-- WHAT THE ROW WEIGHS
mutual
  unfolding leaves_n values_n layers_n flat_n weight ShortPathsN

  pub weighs_n : (n : Node) (r : Row) → ShortPathsN n
      → weight (flat_n n r) + 1 ≡ leaves_n n + values_n n + 4 * layers_n n + weight r
  weighs_n (leaf h s) r q = omega (arith, weighs_s s r q)
  weighs_n (internode h k) r q = weighs_k k r q.1
  weighs_n beyond r q = absurd q

  pub weighs_k : (k : Kids) (r : Row) → ShortPathsK k
      → weight (flat_k k r) + 1 ≡ leaves_k k + values_k k + 4 * layers_k k + weight r
  weighs_k (last n) r q = weighs_n n r q
  weighs_k (more n x k) r q = omega (arith, weighs_n n (hop (first_k k) x (flat_k k r)) q.0, weighs_k k r q.1)

  pub weighs_s : (s : Slots) (r : Row) → ShortPathsS s
      → weight (flat_s s r) ≡ leaves_s s + values_s s + 4 * layers_s s + weight r
  weighs_s none r q = omega arith
  weighs_s (value s t) r q = omega (arith, weighs_s t r q)
  weighs_s (layer s n t) r q = omega (arith, weighs_n n stop q.0, weighs_s t r q.1)
