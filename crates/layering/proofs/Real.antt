-- What is true of the slots of a tree that was read from bytes, whose records lie in post-order in the image: every ikey
-- is a u64, a suffix has bytes only and as many as its length says, a layer slot has `keylenx` 128 or more. The idea: a
-- suffix starts at the place reached, and the leaf that names it stands behind it. Assumes that the image has bytes only.
use Rattle.std.specs.Prelude.{◌≡◌, ◌+◌, ◌^◌, ◌≤◌, ◌<◌}
use Rattle.base.specs.Kit.{ap, List, ℕ, zero, suc, arith, length, get_or, drop, length-take, length-drop, eq-eqb}
use Rattle.base.specs.Pick.{pick}
use Rattle.key.specs.Part.{part}
use Rattle.key.proofs.Bytes.{Bytes, bytes_of, bytes-part}
use Rattle.node.specs.Le.{le, u64_at}
use Rattle.node.specs.Layout.{child_at}
use Rattle.layering.specs.Tree.{Fields, Node, leaf, internode, beyond, Kids, last, more, Slots, none, value, layer, fields_at}
use Rattle.layering.specs.Accepted.{room, end_n, end_k, end_s, InPostOrderN, InPostOrderK, InPostOrderS}
use Rattle.layering.proofs.Held.{HeldN, HeldK, HeldS}
use Rattle.layering.proofs.Size.{leaves_fit_k, leaves_fit_s}

-- The fields of a value slot, and of a layer slot, as bytes allow them.
pub record Real (s : Fields) : Type 0 where
  pub small : s.ikey < 2 ^ 64
  pub bytes : Bytes s.suffix
  pub whole : s.keylenx ≡ 64 → length s.suffix ≡ s.len

pub record RealLayer (s : Fields) : Type 0 where
  pub small : s.ikey < 2 ^ 64
  pub high : 128 ≤ s.keylenx

-- All slots of a subtree are such.
unfoldable mutual
  pub RealN : Node → Type 0
  RealN (leaf h s) = RealS s
  RealN (internode h k) = RealK k
  RealN beyond = Unit {0}

  pub RealK : Kids → Type 0
  RealK (last n) = RealN n
  RealK (more n x k) = RealN n × RealK k

  pub RealS : Slots → Type 0
  RealS none = Unit {0}
  RealS (value s r) = Real s × RealS r
  RealS (layer s n r) = RealLayer s × RealN n × RealS r

-- a number read from bytes
pub le-lt : (s : List ℕ) → ((i : ℕ) → get_or s i 0 < 256) → (n at : ℕ) → le n s at < 256 ^ n
unfolding le
le-lt s b zero at = omega arith
le-lt s b (suc n) at = omega (arith, b at, le-lt s b n (at + 1))

module _ (image : List ℕ) (b : (i : ℕ) → get_or image i 0 < 256) where
  ikey-small : (l i : ℕ) → (fields_at image l i).ikey < 2 ^ 64
  unfolding fields_at u64_at
  ikey-small l i = le-lt image b 8 _

  -- a suffix at the place reached has all its bytes
  suffix-whole : (s : Fields) (l i at : ℕ) → s ≡ fields_at image l i → (s.keylenx ≡ 64 → s.start ≡ at)
      → at + room s ≤ length image → Real s
  unfolding fields_at part room pick
  suffix-whole s l i at e p h =
      let q : s.suffix ≡ part image s.start s.len = rw e in
      record {
        small = rw e (ikey-small l i);
        bytes = rw q (bytes-part image s.start s.len (bytes_of image b));
        whole = λ t.
            omega (
              arith,
              p t,
              ap length q,
              length-take s.len (drop s.start image),
              length-drop s.start image,
              rw (eq-eqb s.keylenx 64 t) at h,
            );
      }

  -- THE SLOTS OF A SUBTREE IN POST-ORDER
  mutual
    unfolding HeldN RealN InPostOrderN end_n

    pub real_n : (n : Node) (l at : ℕ) → HeldN image l n → InPostOrderN at n → end_n at n ≤ length image → RealN n
    real_n (leaf h s) l at q p e = real_s s l 0 at q.2 p.0 (omega arith)
    real_n (internode h k) l at q p e = real_k k l 0 at q.2 p.0 (omega arith)
    real_n beyond l at q p e = tt

    pub real_k : (k : Kids) (l i at : ℕ) → HeldK image l i k → InPostOrderK at k → end_k at k ≤ length image → RealK k
    real_k (last n) l i at q p e = real_n n (child_at image l i) at q.1 p e
    real_k (more n x k) l i at q p e = (
      real_n n (child_at image l i) at q.2 p.0 (omega (arith, leaves_fit_k k (end_n at n))),
      real_k k l (i + 1) (end_n at n) q.3 p.1 e,
    )

    pub real_s : (s : Slots) (l i at : ℕ) → HeldS image l i s → InPostOrderS at s → end_s at s ≤ length image → RealS s
    real_s none l i at q p e = tt
    real_s (value s r) l i at q p e = (
      suffix-whole s l i at q.1 p.0 (omega (arith, leaves_fit_s r (at + room s))),
      real_s r l (i + 1) (at + room s) q.3 p.1 e,
    )
    real_s (layer s n r) l i at q p e = (
      record { small = rw q.1 (ikey-small l i); high = q.2 },
      real_n n s.value at q.3 p.0 (omega (arith, leaves_fit_s r (end_n at n))),
      real_s r l (i + 1) (end_n at n) q.4 p.1 e,
    )
