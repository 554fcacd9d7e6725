-- All the rules for a subtree in one record, between the ends and from the place where the check reaches it, and what the
-- check has come to behind it. The rule on links is said of what the subtree's last leaf names (`last_n`).
use Rattle.std.specs.Prelude.{◌≡◌, ◌+◌, ◌%◌, ◌≤◌, Some, IfSome}
use Rattle.base.specs.Kit.{List, ℕ, arith, length}
use Rattle.layering.specs.Tree.{Fields, LeafHead, Node, leaf, Kids, more, Slots, none, value, layer}
use Rattle.layering.specs.Keys.{leaves_n, leaves_k, leaves_s, values_n, values_k, values_s, layers_n, layers_k, layers_s, lives_n, lives_k, lives_s}
use Rattle.layering.specs.Accepted.{room, end_n, end_k, end_s, InPostOrderN, InPostOrderK, InPostOrderS, ShortPathsN, ShortPathsK, ShortPathsS, AscendN, AscendK, AscendS, InRangeN, InRangeK, InRangeS, first_n, first_k, LinkedN, LinkedK, LinkedS, FieldsN, FieldsK, FieldsS}
use Rattle.verify.specs.Types.{Counts, Progress}
use Rattle.verify.specs.Check.{Checked, with_place, with_next, with_counts, pass_value, pass_leaf, enter_layer, leave_layer}
use Rattle.verify.proofs.Going.{Runs}
use Rattle.verify.proofs.Places.{last_n, last_k, Within, aligned_n}

-- PROGRESS behind a part of the tree.
unfoldable pub added : Counts → ℕ → ℕ → ℕ → Counts
added c leaves values layers =
    record { leaves = c.leaves + leaves; value_slots = c.value_slots + values; sub_layers = c.sub_layers + layers }

unfoldable pub after_n : Progress → Node → Progress
after_n p n =
    with_place (end_n p.place n)
    (with_next (Some (last_n n)) (with_counts (added p.counts (leaves_n n) (values_n n) (layers_n n)) (p.live_slots + lives_n n) p))

unfoldable pub after_k : Progress → Kids → Progress
after_k p k =
    with_place (end_k p.place k)
    (with_next (Some (last_k k)) (with_counts (added p.counts (leaves_k k) (values_k k) (layers_k k)) (p.live_slots + lives_k k) p))

unfoldable pub after_s : Progress → Slots → Progress
after_s p s =
    with_place (end_s p.place s)
    (with_counts (added p.counts (leaves_s s) (values_s s) (layers_s s)) (p.live_slots + lives_s s) p)

-- counts that agree in each number
pub same-counts : {a a' b b' c c' : ℕ} → a ≡ a' → b ≡ b' → c ≡ c'
    → ◌≡◌ {A = Counts} (record { leaves = a; value_slots = b; sub_layers = c })
    (record { leaves = a'; value_slots = b'; sub_layers = c' })
same-counts e f g = cc

recount : (p q : Progress) → q.counts.leaves ≡ p.counts.leaves → q.counts.value_slots ≡ p.counts.value_slots
    → q.counts.sub_layers ≡ p.counts.sub_layers → q.live_slots ≡ p.live_slots → with_counts q.counts q.live_slots p ≡ p
recount p q e f g h = rw (same-counts e f g, h)

-- One part after another comes to both.
pub after_none : (p : Progress) → p ≡ after_s p none
unfolding after_s added end_s leaves_s values_s layers_s lives_s
after_none p = recount (after_s p none) p (omega arith) (omega arith) (omega arith) (omega arith)

pub after-value : (p : Progress) (s : Fields) (r : Slots) → after_s (pass_value (room s) s.live p) r ≡ after_s p (value s r)
unfolding after_s added end_s leaves_s values_s layers_s lives_s
after-value p s r =
    recount (after_s p (value s r)) (after_s (pass_value (room s) s.live p) r) (omega arith) (omega arith) (omega arith) (omega arith)

-- behind a layer slot's layer
unfoldable pub behind : Progress → Node → Progress
behind p n = leave_layer p (after_n (enter_layer p) n)

pub after-layer : (p : Progress) (s : Fields) (n : Node) (r : Slots) → after_s (behind p n) r ≡ after_s p (layer s n r)
unfolding behind after_n after_s added end_s leaves_s values_s layers_s lives_s leave_layer
after-layer p s n r =
    recount (after_s p (layer s n r)) (after_s (behind p n) r) (omega arith) (omega arith) (omega arith) (omega arith)

pub after-leaf : (p : Progress) (h : LeafHead) (s : Slots) → pass_leaf h.next (after_s p s) ≡ after_n p (leaf h s)
unfolding after_n after_s added end_n last_n leaves_n values_n layers_n lives_n pass_leaf
after-leaf p h s =
    recount (after_n p (leaf h s)) (pass_leaf h.next (after_s p s)) (omega arith) (omega arith) (omega arith) (omega arith)

pub after_more : (p : Progress) (n : Node) (x : ℕ) (k : Kids) → after_k (after_n p n) k ≡ after_k p (more n x k)
unfolding after_n after_k added end_k last_k leaves_k values_k layers_k lives_k
after_more p n x k =
    recount (after_k p (more n x k)) (after_k (after_n p n) k) (omega arith) (omega arith) (omega arith) (omega arith)

-- At a multiple of 8 before the trailer.
pub record Underway (image : List ℕ) (p : Progress) : Type 0 where
  pub aligned : p.place % 8 ≡ 0
  pub before : p.place + 32 ≤ length image

-- THE RULES for a subtree that the check reaches at p, with its ends lo and hi, in a layer at `depth`; for children and slots
-- the same. `at` is the slots' leaf's offset.
unfoldable pub SoundN : List ℕ → ℕ → ℕ → ℕ → Progress → Node → Type 0
SoundN image depth lo hi p n =
    record {
      post : InPostOrderN p.place n;
      before : end_n p.place n + 32 ≤ length image;
      paths : ShortPathsN n;
      ascend : AscendN n;
      range : InRangeN lo hi n;
      first : IfSome p.next (λ x. x ≡ first_n n);
      links : LinkedN (last_n n) n;
      fields : FieldsN depth n;
    }

unfoldable pub SoundK : List ℕ → ℕ → ℕ → ℕ → Progress → Kids → Type 0
SoundK image depth lo hi p k =
    record {
      post : InPostOrderK p.place k;
      before : end_k p.place k + 32 ≤ length image;
      paths : ShortPathsK k;
      ascend : AscendK k;
      range : InRangeK lo hi k;
      first : IfSome p.next (λ x. x ≡ first_k k);
      links : LinkedK (last_k k) k;
      fields : FieldsK depth k;
    }

unfoldable pub SoundS : List ℕ → ℕ → ℕ → ℕ → ℕ → Progress → Slots → Type 0
SoundS image depth at lo hi p s =
    record {
      post : InPostOrderS p.place s;
      before : end_s p.place s + 32 ≤ length image;
      within : Within at s;
      paths : ShortPathsS s;
      ascend : AscendS s;
      range : InRangeS lo hi s;
      links : LinkedS s;
      fields : FieldsS depth s;
    }

-- THE STATEMENT: x, the check of the subtree n that is reached at p, ends without a fault exactly where the rules hold of n, and
-- then has come behind it.
abbrev pub Checks : List ℕ → ℕ → ℕ → ℕ → Checked → Progress → Node → Type 0
Checks image depth lo hi x p n = Runs x (SoundN image depth lo hi p n) (after_n p n)

-- behind a subtree nothing has changed but the place
pub ready_after_n : (image : List ℕ) (p : Progress) (n : Node) → Underway image p → end_n p.place n + 32 ≤ length image
    → Underway image (after_n p n)
unfolding after_n
ready_after_n image p n r b = record { aligned = aligned_n n p.place r.aligned; before = b }
