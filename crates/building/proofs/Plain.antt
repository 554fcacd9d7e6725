-- Trees that can be written: their numbers fit, and their records are within 01's limits. And how many bytes they take.
-- Assumes nothing.
use Rattle.std.proofs.lemmas.Grind.{common_steps}
use Rattle.std.specs.Prelude.{◌≡◌, ◌+◌, ◌^◌, ◌≤◌, ◌<◌}
use Rattle.base.specs.Kit.{refl, ap, List, [], flatten, ℕ, suc, arith, length, length-append, length-replicate}
use Rattle.base.specs.Pick.{pick}
use Rattle.key.proofs.Bytes.{Bytes}
use Rattle.layering.specs.Tree.{Fields, LeafHead, InternodeHead, Node, leaf, internode, beyond, Kids, last, more, Slots, none, value, layer}
use Rattle.layering.specs.Accepted.{room, end_n, end_k, end_s}
use Rattle.building.specs.Shape.{identity, size_s}
use Rattle.building.specs.Build.{fields_s, leaf_bytes, offset_n, separators_k, internode_bytes, suffix_bytes, bytes_n, bytes_k, bytes_s}
use Rattle.building.proofs.Stands.{le_bytes-length, words-length}

-- a value slot, and a layer slot over the tree n
pub record PlainV (s : Fields) : Type 0 where
  pub ikey : s.ikey < 2 ^ 64
  pub keylenx : s.keylenx < 128
  pub value : s.value < 2 ^ 64
  pub whole : s.len ≡ length s.suffix
  pub short : s.len < 2 ^ 32
  pub bytes : Bytes s.suffix
  pub bare : (s.keylenx ≡ 64 → ⊥) → (s.start ≡ 0) × (s.suffix ≡ [])

pub record PlainL (s : Fields) (n : Node) : Type 0 where
  pub ikey : s.ikey < 2 ^ 64
  pub keylenx : s.keylenx ≡ 128
  pub root : s.value ≡ offset_n n
  pub start : s.start ≡ 0
  pub len : s.len ≡ 0
  pub suffix : s.suffix ≡ []

-- At most m layers below, at most k internodes on a path in this layer.
unfoldable mutual
  pub PlainN : ℕ → ℕ → Node → Type 0
  PlainN m k (leaf h s) =
      (h.version ≡ 2 ^ 31) × (h.permutation ≡ identity + size_s s) × (h.next < 2 ^ 64) × (size_s s ≤ 15) × PlainS m s
  PlainN m k (internode h ks) =
      (h.version ≡ 0) × (h.nkeys ≡ length (separators_k ks)) × (h.nkeys ≤ 15) × (j : ℕ) × (k ≡ suc j) × PlainK m j ks
  PlainN m k beyond = ⊥

  pub PlainK : ℕ → ℕ → Kids → Type 0
  PlainK m k (last n) = PlainN m k n
  PlainK m k (more n x ks) = (x < 2 ^ 64) × PlainN m k n × PlainK m k ks

  pub PlainS : ℕ → Slots → Type 0
  PlainS m none = Unit {0}
  PlainS m (value s r) = PlainV s × PlainS m r
  PlainS m (layer s n r) = PlainL s n × PlainS m r × (j : ℕ) × (m ≡ suc j) × PlainN j 12 n

pub fields_s-length : (s : Slots) → length (fields_s s) ≡ size_s s
unfolding fields_s size_s
fields_s-length none = refl
fields_s-length (value s r) = ap suc (fields_s-length r)
fields_s-length (layer s n r) = ap suc (fields_s-length r)

-- HOW MANY BYTES
ruleset widths = (length-append, le_bytes-length, words-length, length-replicate)

pub leaf_bytes-length : (h : LeafHead) (l : List Fields) → length (leaf_bytes h l) ≡ 400
unfolding leaf_bytes flatten
leaf_bytes-length h l = simp widths

pub internode_bytes-length : (h : InternodeHead) (k : Kids) → length (internode_bytes h k) ≡ 256
unfolding internode_bytes flatten
internode_bytes-length h k = simp widths

pub suffix_bytes-length : (s : Fields) → PlainV s → length (suffix_bytes s) ≡ room s
unfolding suffix_bytes room pick
suffix_bytes-length s v = grind (arith, common_steps)

mutual
  unfolding PlainN bytes_n end_n

  pub length_n : (n : Node) (m k at : ℕ) → PlainN m k n → at + length (bytes_n n) ≡ end_n at n
  length_n (leaf h s) m k at p =
      omega (arith, length_s s m at p.4, length-append (bytes_s s) (leaf_bytes h (fields_s s)), leaf_bytes-length h (fields_s s))
  length_n (internode h ks) m k at p =
      omega (arith, length_k ks m p.3 at p.5, length-append (bytes_k ks) (internode_bytes h ks), internode_bytes-length h ks)
  length_n beyond m k at p = absurd p

  pub length_k : (ks : Kids) (m k at : ℕ) → PlainK m k ks → at + length (bytes_k ks) ≡ end_k at ks
  length_k (last n) m k at p = length_n n m k at p
  length_k (more n x ks) m k at p =
      rw (← length_n n m k at p.1) (omega (arith, length_k ks m k (at + length (bytes_n n)) p.2, length-append (bytes_n n) (bytes_k ks)))

  pub length_s : (s : Slots) (m at : ℕ) → PlainS m s → at + length (bytes_s s) ≡ end_s at s
  length_s none m at p = omega arith
  length_s (value s r) m at p =
      omega (arith, length_s r m (at + room s) p.1, length-append (suffix_bytes s) (bytes_s r), suffix_bytes-length s p.0)
  length_s (layer s n r) m at p =
      rw (← length_n n p.2 12 at p.4) (omega (arith, length_s r m (at + length (bytes_n n)) p.1, length-append (bytes_n n) (bytes_s r)))
