-- The trailer's count of an image that obeys the rules: the live value slots are the live pairs, one by one, and all of them are the row
-- from the empty key on.
use Rattle.std.specs.Prelude.{◌≡◌, ◌∷◌, ◌++◌, ◌+◌, ◌≤◌}
use Rattle.base.specs.Kit.{refl, sym, ◌∙◌, ap, Bool, true, false, List, [], ℕ, arith, length, length-append}
use Rattle.base.specs.Pick.{pick}
use Rattle.base.proofs.Choice.{one_at_most}
use Rattle.key.specs.Ikey.{ikey_bytes}
use Rattle.key.specs.Order.{byte_order}
use Rattle.node.specs.Layout.{key_count}
use Rattle.cursor.specs.RangeBound.{contains}
use Rattle.cursor.proofs.Bound.{contains_all}
use Rattle.cursor.specs.declared.range_bound.StartMode.TheVariants.{From}
use Rattle.layering.specs.Tree.{Node, leaf, internode, beyond, Kids, last, more, Slots, none, value, layer, tree_of}
use Rattle.layering.specs.Keys.{Pair, pairs_n, pairs_k, pairs_s, live_pairs, values_n, values_k, values_s, lives_n, lives_k, lives_s}
use Rattle.layering.specs.Accepted.{Obeys}
use Rattle.layering.specs.Ascending.{All}
use Rattle.layering.specs.Sieve.{is_not_greater, is_from, past, row_of}
use Rattle.layering.proofs.Sieve.{sieve_all}

-- as many as value slots at most
mutual
  unfolding values_n lives_n

  pub lives_few_n : (n : Node) → lives_n n ≤ values_n n
  lives_few_n (leaf h s) = lives_few_s s
  lives_few_n (internode h k) = lives_few_k k
  lives_few_n beyond = omega arith

  lives_few_k : (k : Kids) → lives_k k ≤ values_k k
  lives_few_k (last n) = lives_few_n n
  lives_few_k (more n x k) = omega (arith, lives_few_n n, lives_few_k k)

  lives_few_s : (s : Slots) → lives_s s ≤ values_s s
  lives_few_s none = omega arith
  lives_few_s (value s r) = omega (arith, one_at_most s.live, lives_few_s r)
  lives_few_s (layer s n r) = omega (arith, lives_few_n n, lives_few_s r)

-- as many as live pairs, whatever stands before their keys
one_more_lem : (live : Bool) (x : Pair) (l : List Pair) → length (pick live (x ∷ l) l) ≡ pick live 1 0 + length l
unfolding pick
one_more_lem true x l = omega arith
one_more_lem false x l = omega arith

mutual
  unfolding pairs_n lives_n

  pub pairs-lives_n : (n : Node) (p : List ℕ) → length (pairs_n p n) ≡ lives_n n
  pairs-lives_n (leaf h s) p = pairs-lives_s s p
  pairs-lives_n (internode h k) p = pairs-lives_k k p
  pairs-lives_n beyond p = omega arith

  pairs-lives_k : (k : Kids) (p : List ℕ) → length (pairs_k p k) ≡ lives_k k
  pairs-lives_k (last n) p = pairs-lives_n n p
  pairs-lives_k (more n x k) p = simp length-append (omega (arith, pairs-lives_n n p, pairs-lives_k k p))

  pairs-lives_s : (s : Slots) (p : List ℕ) → length (pairs_s p s) ≡ lives_s s
  pairs-lives_s none p = omega arith
  pairs-lives_s (value s r) p = one_more_lem s.live _ (pairs_s p r) ∙ ap (λ (n : ℕ). pick s.live 1 0 + n) (pairs-lives_s r p)
  pairs-lives_s (layer s n r) p =
      simp length-append (omega (arith, pairs-lives_n n (p ++ ikey_bytes s.ikey), pairs-lives_s r p))

-- THE ROW from the empty key on, unbounded, is all of them: no key lies before the empty one.
from_empty : (key : List ℕ) → past From [] key ≡ true
unfolding past is_from is_not_greater byte_order
from_empty [] = refl
from_empty (b ∷ key) = refl

every : (t : List ℕ → Bool) → ((key : List ℕ) → t key ≡ true) → (l : List Pair) → All (λ (x : Pair). t x.key ≡ true) l
every t h [] = tt
every t h (x ∷ l) = (h x.key, every t h l)

pub whole_row : (image bound : List ℕ) → row_of image From [] 0 bound ≡ live_pairs image
unfolding row_of
whole_row image bound =
    let l = live_pairs image in
    rw (sieve_all (past From []) l (every (past From []) from_empty l))
    (sieve_all (contains 0 bound) l (every (contains 0 bound) (contains_all bound) l))

-- THE COUNT
pub count-is-row : (image : List ℕ) → Obeys image → key_count image ≡ length (row_of image From [] 0 [])
unfolding live_pairs
count-is-row image o = o.count ∙ sym (ap (λ (l : List Pair). length l) (whole_row image []) ∙ pairs-lives_n (tree_of image) [])
