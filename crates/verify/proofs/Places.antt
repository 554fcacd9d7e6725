-- Facts about places and links that hold of every tree, in order or not: places stay multiples of 8, a suffix at the place
-- reached ends before its leaf, and what a linked subtree's last leaf names. By recursion on the tree.
use Rattle.std.specs.Prelude.{◌≡◌, ◌+◌, ◌%◌, ◌≤◌}
use Rattle.base.specs.Kit.{refl, ℕ, arith, eqb, eqb-false}
use Rattle.base.proofs.Choice.{pick_ind}
use Rattle.layering.specs.Tree.{Fields, Node, leaf, internode, beyond, Kids, last, more, Slots, none, value, layer}
use Rattle.layering.proofs.Size.{leaves_fit_s}
use Rattle.layering.specs.Accepted.{room, end_n, end_k, end_s, InPostOrderS, LinkedN, LinkedK}

-- What a subtree's last leaf names as its next.
unfoldable mutual
  pub last_n : Node → ℕ
  last_n (leaf h s) = h.next
  last_n (internode h k) = last_k k
  last_n beyond = 0

  pub last_k : Kids → ℕ
  last_k (last n) = last_n n
  last_k (more n x k) = last_k k

mutual
  unfolding last_n LinkedN

  pub linked-last_n : (n : Node) (next : ℕ) → LinkedN next n → last_n n ≡ next
  linked-last_n (leaf h s) next l = l.0
  linked-last_n (internode h k) next l = linked-last_k k next l
  linked-last_n beyond next l = absurd l

  pub linked-last_k : (k : Kids) (next : ℕ) → LinkedK next k → last_k k ≡ next
  linked-last_k (last n) next l = linked-last_n n next l
  linked-last_k (more n x k) next l = linked-last_k k next l.1

-- Every suffix ends before its leaf.
unfoldable pub Within : ℕ → Slots → Type 0
Within at none = Unit {0}
Within at (value s r) = (s.keylenx ≡ 64 → s.start + s.len ≤ at) × Within at r
Within at (layer s n r) = Within at r

-- PLACES stay multiples of 8.
pub room_aligned : (s : Fields) → room s % 8 ≡ 0
unfolding room
room_aligned s = pick_ind (λ (r : ℕ). r % 8 ≡ 0) (eqb s.keylenx 64) (λ e. omega arith) (λ e. refl)

mutual
  unfolding end_n

  pub aligned_n : (n : Node) (at : ℕ) → at % 8 ≡ 0 → end_n at n % 8 ≡ 0
  aligned_n (leaf h s) at e = omega (arith, aligned_s s at e)
  aligned_n (internode h k) at e = omega (arith, aligned_k k at e)
  aligned_n beyond at e = e

  pub aligned_k : (k : Kids) (at : ℕ) → at % 8 ≡ 0 → end_k at k % 8 ≡ 0
  aligned_k (last n) at e = aligned_n n at e
  aligned_k (more n x k) at e = aligned_k k (end_n at n) (aligned_n n at e)

  pub aligned_s : (s : Slots) (at : ℕ) → at % 8 ≡ 0 → end_s at s % 8 ≡ 0
  aligned_s none at e = e
  aligned_s (value s r) at e = aligned_s r (at + room s) (omega (arith, room_aligned s))
  aligned_s (layer s n r) at e = aligned_s r (end_n at n) (aligned_n n at e)

-- A suffix that starts at the place reached ends before what comes behind it.
pub suffix-room : (s : Fields) → s.keylenx ≡ 64 → s.len ≤ room s
unfolding room
suffix-room s e = pick_ind (λ (r : ℕ). s.len ≤ r) (eqb s.keylenx 64) (λ t. omega arith) (λ t. absurd (eqb-false _ _ t e))

pub within : (s : Slots) (at place : ℕ) → InPostOrderS place s → end_s place s ≤ at → Within at s
unfolding InPostOrderS end_s Within
within none at place h b = tt
within (value s r) at place h b = (
  λ e. omega (arith, h.0 e, suffix-room s e, leaves_fit_s r (place + room s)),
  within r at (place + room s) h.1 b,
)
within (layer s n r) at place h b = within r at (end_n place n) h.1 b
