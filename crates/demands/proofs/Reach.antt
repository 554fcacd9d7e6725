-- The descent in an image follows the tree's: `reach` comes to the leaf that `route_n` (layering/proofs/Descent.antt)
-- comes to, and meets no fault. The idea: a child's record lies before its parent's, so that any count above the offset
-- suffices.
use Rattle.std.specs.Prelude.{◌≡◌, ◌+◌, ◌≤◌, ◌<◌, Result, Ok}
use Rattle.base.specs.Kit.{refl, ap, sym, ◌∙◌, subst, List, Bool, true, false, ℕ, zero, suc, arith, ltb, eqb, lt-ltb, le-ltb, lt-leb, eqb-true}
use Rattle.base.specs.Pick.{pick}
use Rattle.base.specs.Decline.{and_then}
use Rattle.node.specs.Layout.{nkeys_at, separator_at, child_at}
use Rattle.node.specs.Ksearch.{upper_bound}
use Rattle.layering.specs.Tree.{LeafHead, InternodeHead, Node, leaf, internode, beyond, Kids, last, more, Slots, leaf_head, internode_head}
use Rattle.layering.specs.Accepted.{end_n, end_k, end_s, InPostOrderN, ShortPathsN, InRangeN, first_n, first_k, FieldsN}
use Rattle.layering.proofs.Row.{Row, stop, hop}
use Rattle.layering.proofs.Flat.{flat_k}
use Rattle.layering.proofs.Held.{HeldN}
use Rattle.layering.proofs.Size.{leaves_fit_k, leaves_fit_s}
use Rattle.layering.proofs.Descent.{route_n, route_k, zero_n}
use Rattle.search.specs.Traversal.{record_at, by_kind, child_for, reach_from, reach}
use Rattle.demands.specs.Types.{RecordKindLeaf as Leaf, Internode, Decline}
use Rattle.verify.proofs.Places.{aligned_k, aligned_s}
use Rattle.demands.proofs.Sound.{SoundN, SoundK, kids_of_lem, last_of, first_of, rest_of, record-leaf, record-internode}

module _ (image : List ℕ) where
  module _ {depth at lo hi next l : ℕ} where
    -- the record at a subtree's root
    pub head-place : {h : LeafHead} {s : Slots} → SoundN image depth at lo hi next l (leaf h s) → l ≡ h.offset
    unfolding HeldN leaf_head
    head-place g = sym (ap (λ (h : LeafHead). h.offset) g.holds.1)

    pub leaf-place : {h : LeafHead} {s : Slots} → SoundN image depth at lo hi next l (leaf h s) → l ≡ end_s at s
    unfolding InPostOrderN
    leaf-place g = head-place g ∙ g.order.1

    pub leaf-record : {h : LeafHead} {s : Slots} → SoundN image depth at lo hi next l (leaf h s)
        → record_at image l ≡ Ok Leaf
    unfolding HeldN FieldsN leaf_head end_n
    leaf-record {s = s} g =
        let e : l ≡ end_s at s = leaf-place g in
        record-leaf image l (rw e (aligned_s s at g.lies.whole)) (omega (arith, g.lies.start, leaves_fit_s s at))
        (rw g.holds.1 at g.fields.0) (omega (arith, g.lies.before)) g.holds.0

    pub internode-place : {h : InternodeHead} {k : Kids} → SoundN image depth at lo hi next l (internode h k)
        → l ≡ end_k at k
    unfolding HeldN InPostOrderN internode_head
    internode-place g = sym (ap (λ (h : InternodeHead). h.offset) g.holds.1) ∙ g.order.1

    internode-record : {h : InternodeHead} {k : Kids} → SoundN image depth at lo hi next l (internode h k)
        → record_at image l ≡ Ok Internode
    unfolding HeldN FieldsN internode_head end_n
    internode-record {k = k} g =
        let e : l ≡ end_k at k = internode-place g in
        record-internode image l (rw e (aligned_k k at g.lies.whole))
        (omega (arith, g.lies.start, leaves_fit_k k at)) (rw g.holds.1 at g.fields.0)
        (omega (arith, g.lies.before)) g.holds.0

    few-keys : {h : InternodeHead} {k : Kids} → SoundN image depth at lo hi next l (internode h k)
        → nkeys_at image l ≤ 15
    unfolding HeldN ShortPathsN internode_head
    few-keys g = rw g.holds.1 at g.paths.0

  -- a subtree's root lies before its end
  root_before : (n : Node) {depth at lo hi next l : ℕ} → SoundN image depth at lo hi next l n → l + 256 ≤ end_n at n
  unfolding end_n InPostOrderN
  root_before (leaf h s) g = omega (arith, leaf-place g)
  root_before (internode h k) g = omega (arith, internode-place g)
  root_before beyond g = absurd g.order

  -- a search for an ikey below the range stays at the first child
  upper_low : (k : Kids) {depth at lo hi next l i : ℕ} (x m : ℕ) → SoundK image depth at lo hi next l i k
      → i + m ≡ nkeys_at image l → x ≤ lo → upper_bound image l x i m ≡ i
  unfolding upper_bound HeldN InRangeN pick
  upper_low (last n) x zero g e h = refl
  upper_low (last n) x (suc m) g e h = absurd (omega (arith, g.holds.0))
  upper_low (more n y k) x zero g e h = refl
  upper_low (more n y k) {l = l} {i = i} x (suc m) g e h =
      rw (lt-ltb x (separator_at image l i) (omega (arith, g.holds.1, g.range.0)))

  -- the child that a search goes to lies before its parent, and the search comes to its leaf
  pub record Branch (f x l c to : ℕ) : Type 0 where
    pub lower : c < l
    pub comes : reach_from f image x c ≡ Ok to

  -- one separator y: the child before it, or what the search comes to behind it, at u
  branch-at : (f x l i u y : ℕ) (a b : ℕ × Row) → Branch f x l (child_at image l i) a.0
      → Branch f x l (child_at image l u) b.0 → (x ≡ y → u ≡ i + 1)
      → Branch f x l (child_at image l (pick (ltb x y) i (pick (eqb x y) (i + 1) u))) (pick (ltb x y) a b).0
  unfolding pick
  branch-at f x l i u y a b g h e = left (ltb x y)
    where
      right : (d : Bool) → eqb x y ≡ d → Branch f x l (child_at image l (pick d (i + 1) u)) b.0
      right true q = subst (λ (n : ℕ). Branch f x l (child_at image l n) b.0) (e (eqb-true x y q)) h
      right false q = h

      left : (c : Bool) → Branch f x l (child_at image l (pick c i (pick (eqb x y) (i + 1) u))) (pick c a b).0
      left true = g
      left false = right (eqb x y) refl

  mutual
    unfolding route_n reach_from by_kind and_then child_for end_n HeldN pick ShortPathsN upper_bound

    pub reach_n : (n : Node) {depth at lo hi next l : ℕ} (f x : ℕ) (r : Row) → SoundN image depth at lo hi next l n
        → l < f → reach_from f image x l ≡ Ok (route_n x n r).0
    reach_n (leaf h s) zero x r g w = absurd (omega arith)
    reach_n (leaf h s) (suc f) x r g w = rw (leaf-record g) (ap {B = Result ℕ Decline} (λ m. Ok m) (head-place g))
    reach_n (internode h k) zero x r g w = absurd (omega arith)
    reach_n (internode h k) {l = l} (suc f) x r g w =
        let b : Branch f x l (child_for image l x) (route_k x k r).0
        = reach_k k (nkeys_at image l) f x r (kids_of_lem image g) (omega arith) (omega (arith, internode-place g))
        (omega arith) in
        rw (internode-record g, le-ltb 15 (nkeys_at image l) (few-keys g), lt-leb l (child_for image l x) b.lower)
        b.comes
    reach_n beyond f x r g w = absurd g.paths

    pub reach_k : (k : Kids) {depth at lo hi next l i : ℕ} (m f x : ℕ) (r : Row) → SoundK image depth at lo hi next l i k
        → i + m ≡ nkeys_at image l → end_k at k ≤ l → l ≤ f
        → Branch f x l (child_at image l (upper_bound image l x i m)) (route_k x k r).0
    reach_k (last n) {l = l} {i = i} zero f x r g e b w =
        let s = last_of image g in
        let h : child_at image l i < l = omega (arith, root_before n s) in
        record { lower = h; comes = reach_n n f x r s (omega arith) }
    reach_k (last n) (suc m) f x r g e b w = absurd (omega (arith, g.holds.0))
    reach_k (more n y k) zero f x r g e b w = absurd (omega (arith, g.holds.0))
    reach_k (more n y k) {at = at} {l = l} {i = i} (suc m) f x r g e b w =
        let s = first_of image g in
        let t = rest_of image g in
        let h : child_at image l i < l = omega (arith, root_before n s, leaves_fit_k k (end_n at n)) in
        rw (← g.holds.1)
        (branch-at f x l i (upper_bound image l x (i + 1) m) y (route_n x n (hop (first_k k) y (flat_k k r))) (route_k x k r)
        (record { lower = h; comes = reach_n n f x (hop (first_k k) y (flat_k k r)) s (omega arith) })
        (reach_k k m f x r t (omega arith) b w) (λ q. upper_low k x m t (omega arith) (omega arith)))

  -- A search for 0 comes to the layer's first leaf.
  pub reach-first : (n : Node) {depth at lo hi next l : ℕ} → SoundN image depth at lo hi next l n
      → reach image 0 l ≡ Ok (first_n n)
  unfolding reach
  reach-first n {lo = lo} {hi = hi} {l = l} g =
      reach_n n (l + 1) 0 stop g (omega arith) ∙ ap {B = Result ℕ Decline} (λ m. Ok m) (zero_n n lo hi stop g.range)
