-- Proved: the row of a tree that obeys 01's rules ascends by rank. The idea: the separators bound a subtree's ikeys, the
-- slots of one leaf ascend, and below the root no rank is 0.
use Rattle.std.specs.Prelude.{◌≡◌, ◌+◌, ◌*◌, ◌^◌, ◌≤◌, ◌<◌}
use Rattle.base.specs.Kit.{ℕ, suc, min, max, arith}
use Rattle.key.specs.Ikey.{ikey_of, ikey_bytes}
use Rattle.key.proofs.Bytes.{ikey_bytes-bytes}
use Rattle.key.proofs.Ikey.{rank, ikey_bytes-length, ikey_of-ikey_bytes}
use Rattle.layering.specs.Tree.{Fields, Node, leaf, internode, beyond, Kids, last, more, Slots, none, value, layer}
use Rattle.layering.specs.Keys.{own_bytes}
use Rattle.layering.specs.Accepted.{first_k, BeforeFirst, AscendN, AscendK, AscendS, InRangeN, InRangeK, InRangeS, FieldsN, FieldsK, FieldsS}
use Rattle.layering.proofs.Row.{Row, stop, hop, Asc}
use Rattle.layering.proofs.Flat.{flat_n, flat_k, flat_s}
use Rattle.layering.proofs.Part.{slot_rank, own-bytes, own_rank, own-some, one-long, before_rank}
use Rattle.layering.proofs.Real.{RealN, RealK, RealS}

-- The first slot, where there is one, has at least the rank m.
unfoldable pub Starts : ℕ → Slots → Type 0
Starts m none = Unit {0}
Starts m (value s r) = m ≤ slot_rank s
Starts m (layer s n r) = m ≤ slot_rank s

-- the slots behind one
behind : (s : Fields) (t : Slots) → (s.keylenx < 64 → s.keylenx ≤ 8) → BeforeFirst s t → Starts (suc (slot_rank s)) t
unfolding BeforeFirst Starts
behind s none f b = tt
behind s (value t r) f b = before_rank s t f b
behind s (layer t n r) f b = before_rank s t f b

-- the slots of a leaf whose ikeys are from lo on, at some depth
starts : (s : Slots) (depth lo hi m : ℕ) → InRangeS lo hi s → FieldsS depth s → RealS s
    → m ≤ max (lo * 16) (min depth 1) → Starts m s
unfolding Starts InRangeN FieldsN RealN slot_rank
starts none depth lo hi m g f e h = tt
starts (value s r) depth lo hi m g f e h = omega (arith, g.0, own-some s f.0)
starts (layer s n r) depth lo hi m g f e h = omega (arith, g.0, e.0.high)

mutual
  unfolding flat_n Asc AscendN InRangeN FieldsN RealN slot_rank Starts

  pub asc_n : (n : Node) (depth lo hi m : ℕ) (r : Row) → AscendN n → InRangeN lo hi n → FieldsN depth n → RealN n
      → lo < hi → m ≤ max (lo * 16) (min depth 1) → ((q : ℕ) → q ≤ hi * 16 → Asc q r) → Asc m (flat_n n r)
  asc_n (leaf h s) depth lo hi m r a g f e w c k =
      asc_s s depth lo hi m r a g f.2 e (omega arith) (starts s depth lo hi m g f.2 e c) k
  asc_n (internode h s) depth lo hi m r a g f e w c k = asc_k s depth lo hi m r a g f.1 e w c k
  asc_n beyond depth lo hi m r a g f e w c k = absurd a

  pub asc_k : (s : Kids) (depth lo hi m : ℕ) (r : Row) → AscendK s → InRangeK lo hi s → FieldsK depth s → RealK s
      → lo < hi → m ≤ max (lo * 16) (min depth 1) → ((q : ℕ) → q ≤ hi * 16 → Asc q r) → Asc m (flat_k s r)
  asc_k (last n) depth lo hi m r a g f e w c k = asc_n n depth lo hi m r a g f e w c k
  asc_k (more n x s) depth lo hi m r a g f e w c k =
      asc_n n depth lo x m (hop (first_k s) x (flat_k s r)) a.0 g.2 f.0 e.0 g.0 c
      (λ q b. (b, asc_k s depth x hi (x * 16) r a.1 g.3 f.1 e.1 g.1 (omega arith) k))

  pub asc_s : (s : Slots) (depth lo hi m : ℕ) (r : Row) → AscendS s → InRangeS lo hi s → FieldsS depth s → RealS s
      → m ≤ hi * 16 → Starts m s → ((q : ℕ) → q ≤ hi * 16 → Asc q r) → Asc m (flat_s s r)
  asc_s none depth lo hi m r a g f e w c k = k m w
  asc_s (value s t) depth lo hi m r a g f e w c k =
      let d : rank (own_bytes s) ≡ slot_rank s = own_rank s f.0 e.0.small e.0.whole in (
        omega (arith, d, c),
        own-bytes s f.0 e.0.bytes,
        asc_s t depth lo hi (suc (rank (own_bytes s))) r a.1 g.2 f.1 e.1 (omega (arith, d, g.1))
            (rw d (behind s t (one-long s f.0) a.0)) k,
      )
  asc_s (layer s n t) depth lo hi m r a g f e w c rest =
      let k : ℕ = ikey_of (ikey_bytes s.ikey) in
      let d : k * 16 + 9 ≡ slot_rank s = omega (arith, ikey_of-ikey_bytes s.ikey e.0.small, e.0.high) in (
        ikey_bytes-length s.ikey,
        ikey_bytes-bytes s.ikey,
        omega (arith, d, c),
        asc_n n (depth + 1) 0 (2 ^ 64) 1 stop a.1 g.2 f.1 e.1 (omega arith) (omega arith) (λ q b. tt),
        asc_s t depth lo hi (suc (k * 16 + 9)) r a.2 g.3 f.2 e.2 (omega (arith, d, g.1))
            (rw d (behind s t (λ h. absurd (omega (arith, e.0.high))) a.0)) rest,
      )

-- THE ROW OF A TREE THAT OBEYS THE RULES ASCENDS
pub row-ascends : (n : Node) → AscendN n → InRangeN 0 (2 ^ 64) n → FieldsN 0 n → RealN n → Asc 0 (flat_n n stop)
unfolding Asc
row-ascends n a g f e = asc_n n 0 0 (2 ^ 64) 0 stop a g f e (omega arith) (omega arith) (λ q b. tt)
