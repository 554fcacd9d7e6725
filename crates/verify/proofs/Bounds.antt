-- What the inner answers tell, and that the check's numbers stay small: a subtree keeps `Bounded` for every number of slots
-- ahead, a slot adds one to it, and the end of a leaf takes all its slots back. By recursion as the check's own.
use Rattle.std.specs.Prelude.{◌≡◌, ◌+◌, ◌*◌, ◌-◌, ◌≤◌, Result, Ok, Err, IfOk}
use Rattle.base.specs.Kit.{Bool, true, List, refl, ℕ, zero, suc, suc-mul, sub-one, arith, eqb, length, not-false, eqb-true, eqb-false}
use Rattle.base.specs.Decline.{and_then}
use Rattle.base.proofs.Choice.{pick_ind, one_at_most}
use Rattle.node.specs.Version.{at_rest}
use Rattle.node.specs.Permuter.{size_of, slot_at}
use Rattle.node.specs.Layout.{version_at, permutation_at, live_at, next_at, nkeys_at}
use Rattle.node.proofs.PermuterLaws.{size_fits}
use Rattle.verify.specs.Types.{Decline, RecordPlace, LeafChain, Suffix, Progress, RecordKind, Leaf, Internode, SlotCheck, Layer, Passed}
use Rattle.verify.specs.Check.{Checked, each, demand, pass_leaf, pass_internode, enter_layer, leave_layer, separators_from, slot_c, node_c}
use Rattle.verify.specs.CodeCases.{after_record, after_slot, sub_c, leaf_check, internode_check, record_check, LeafTold, suffix_check, kind_check, slot_check, record_end, leaf_end, leaf_parts, layer_end, Bounded, Sized}
use Rattle.std.proofs.lemmas.Bool.Decides.{Decides-and, Decides-eqb}
use Rattle.verify.proofs.Going.{says-leb, says_self}
use Rattle.verify.proofs.Records.{says-reachable}
use Rattle.verify.proofs.Steps.{child_c, inner_parts, node-is, slot_is, layer-is}

-- ANSWERS. What is known of a record that is an internode (of a leaf: `LeafTold`), and of any.
pub record InternodeTold (image : List ℕ) (path at lo hi : ℕ) : Type 0 where
  pub before : at + 288 ≤ length image
  pub few : nkeys_at image at ≤ 15
  pub some : path ≡ 0 → ⊥
  pub separated : separators_from image at lo hi 0 (nkeys_at image at) ≡ true

unfoldable pub RecordTold : List ℕ → ℕ → ℕ → ℕ → ℕ → Result RecordKind Decline → Type 0
RecordTold image path at lo hi (Ok Leaf) = LeafTold image at
RecordTold image path at lo hi (Ok Internode) = InternodeTold image path at lo hi
RecordTold image path at lo hi (Err d) = Unit {0}

module _ (image : List ℕ) (path at lo hi : ℕ) (p : Progress) where
  abbrev Told : Result RecordKind Decline → Type 0
  Told = RecordTold image path at lo hi

  pub record_told : RecordTold image path at lo hi (record_check image path at lo hi p)
  unfolding record_check leaf_check internode_check RecordTold
  record_told =
      pick_ind Told _ (λ t. tt) (λ near. pick_ind Told _
      (λ t. pick_ind Told _ (λ t. tt) (λ far. pick_ind Told _ (λ t. tt) (λ f. pick_ind Told _ (λ t. tt)
      (λ f. pick_ind Told _ (λ t. tt)
      (λ g. record { before = omega (arith, ((says-reachable image 400 at p).0 (not-false _ far)).before); permuted = not-false _ g })))))
      (λ t. pick_ind Told _ (λ t. tt) (λ few. pick_ind Told _ (λ t. tt) (λ some. pick_ind Told _ (λ t. tt)
      (λ g. record {
        before = omega (arith, ((says-reachable image 256 at p).0 (not-false _ near)).before);
        few = ((Decides-and _ _ (says_self (at_rest (version_at image at))) (says-leb (nkeys_at image at) 15)).0 (not-false _ few)).1;
        some = eqb-false path 0 some;
        separated = not-false _ g;
      })))))

-- PROGRESS stays within its bounds, unless a fault ends it.
abbrev pub Kept : ℕ → Checked → Type 0
Kept a x = IfOk x (Bounded a)

pub weaker : (a b : ℕ) (p : Progress) → a ≤ b → Bounded a p → Bounded b p
weaker a b p h k = record { within = k.within; counted = omega (arith, k.counted); lively = k.lively }

looser : (a b : ℕ) (x : Checked) → a ≤ b → Kept a x → Kept b x
looser a b (Ok p) h k = weaker a b p h k
looser a b (Err d) h k = tt

pub demand-kept : (a : ℕ) (d : Decline) (t : Bool) (p : Progress) → (t ≡ true → Bounded a p) → Kept a (demand d t p)
unfolding demand
demand-kept a d t p h = pick_ind (Kept a) t h (λ f. tt)

pub then-kept : (a b : ℕ) (x : Checked) (f : Progress → Checked) → Kept a x → ((p : Progress) → Bounded a p → Kept b (f p)) → Kept b (and_then x f)
unfolding and_then
then-kept a b (Ok p) f h g = g p h
then-kept a b (Err d) f h g = tt

-- A part of the check adds at most k slots to those ahead.
abbrev pub Adds : ℕ → (Progress → Checked) → Type 0
Adds k f = (a : ℕ) (p : Progress) → Bounded a p → Kept (a + k) (f p)

pub each_adds : (k : ℕ) (f : ℕ → Progress → Checked) → ((i : ℕ) → Adds k (f i)) → (n i : ℕ) → Adds (n * k) (each f i n)
unfolding each
each_adds k f h zero i a p b = weaker a _ p (omega arith) b
each_adds k f h (suc n) i a p b =
    then-kept (a + k) _ (f i p) _ (h i a p b)
    (λ q c. looser (a + k + n * k) _ _ (omega (arith, suc-mul n k)) (each_adds k f h n (i + 1) (a + k) q c))

-- SLOTS
unfoldable SlotTold : ℕ → Result SlotCheck Decline → Type 0
SlotTold a (Ok (Layer root)) = Unit {0}
SlotTold a (Ok (Passed q)) = Bounded (a + 1) q
SlotTold a (Err d) = Unit {0}

module _ (image : List ℕ) (sized : Sized image) (depth at : ℕ) (inside : at + 432 ≤ length image) (lo hi : ℕ) where
  suffix_told : (s : Suffix) (live : Bool) (a : ℕ) (p : Progress) → Bounded a p → SlotTold a (suffix_check at s live p)
  unfolding suffix_check SlotTold
  suffix_told s live a p b =
      pick_ind (SlotTold a) _
      (λ t.
      let h = (Decides-and _ _ (Decides-eqb s.start p.place) (says-leb (s.start + s.len) at)).0 t in
      record {
        within = omega (arith, h, sized.short, b.within);
        counted = omega (arith, b.counted);
        lively = omega (arith, b.lively, one_at_most live);
      })
      (λ f. tt)

  slot_told : (i a : ℕ) (p : Progress) → Bounded a p → SlotTold a (slot_check image depth at lo hi i p)
  unfolding slot_check kind_check SlotTold
  slot_told i a p b =
      let T = SlotTold a in
      pick_ind T _ (λ t. tt) (λ f. pick_ind T _ (λ t. tt) (λ f. pick_ind T _ (λ t. tt)
      (λ f. pick_ind T _ (λ t. tt)
      (λ f. pick_ind T _ (λ t. suffix_told _ _ a p b)
      (λ f.
      let live = live_at image at (slot_at (permutation_at image at) (record { 0 = i })) in
      record { within = omega (arith, b.within); counted = omega (arith, b.counted); lively = omega (arith, b.lively, one_at_most live) })))))

  pub slot_adds : (sub : ℕ → Progress → Checked) → ((root : ℕ) → Adds 0 (sub root)) → (i : ℕ) → Adds 1 (slot_c sub image depth at lo hi i)
  unfolding after_slot SlotTold leave_layer
  slot_adds sub h i a p b = rw (slot_is sub image depth at lo hi i p) (go (slot_check image depth at lo hi i p) (slot_told i a p b))
    where
      go : (r : Result SlotCheck Decline) → SlotTold a r → Kept (a + 1) (after_slot r sub p)
      go (Ok (Layer root)) t =
          then-kept (a + 1 + 0) (a + 1) _ _ (h root (a + 1) (enter_layer p) (record { within = b.within; counted = omega (arith, b.counted); lively = b.lively }))
          (λ q c. record { within = c.within; counted = omega (arith, c.counted); lively = c.lively })
      go (Ok (Passed q)) t = t
      go (Err d) t = tt

-- RECORDS' ENDS: a record starts at the place reached, and lies before the trailer.
end_kept : {image : List ℕ} → Sized image → (a at size : ℕ) (q r : Progress) → r.place ≡ q.place + size → at + size + 32 ≤ length image
    → r.counts.leaves + r.counts.value_slots + r.counts.sub_layers ≤ q.place + size + a
    → r.live_slots ≤ r.counts.value_slots → Kept a (demand RecordPlace (eqb at q.place) r)
end_kept sized a at size q r e h c l =
    demand-kept a RecordPlace (eqb at q.place) r
    (λ t. let g : at ≡ q.place = eqb-true _ _ t in record { within = omega (arith, sized.short); counted = omega arith; lively = l })

-- SUBTREES
module _ (image : List ℕ) (sized : Sized image) (sub : ℕ → Progress → Checked) (subs : (root : ℕ) → Adds 0 (sub root)) (depth : ℕ) where
  record_adds : (path at lo hi : ℕ) → ((path ≡ 0 → ⊥) → (i : ℕ) → Adds 0 (child_c sub image depth at lo hi (path - 1) i))
      → Adds 0 (node_c sub image depth path at lo hi)
  unfolding after_record RecordTold record_end leaf_end pass_leaf pass_internode
  record_adds path at lo hi kids a p b =
      rw (node-is sub image depth at lo hi path p) (go (record_check image path at lo hi p) (record_told image path at lo hi p))
    where
      size : ℕ
      size = size_of (permutation_at image at)

      count : ℕ
      count = nkeys_at image at + 1

      slots : Checked
      slots = each (slot_c sub image depth at lo hi) 0 size p

      children : Checked
      children = each (child_c sub image depth at lo hi (path - 1)) 0 count p

      go : (r : Result RecordKind Decline) → RecordTold image path at lo hi r → Kept (a + 0) (after_record r (leaf_parts sub image depth at lo hi p) (inner_parts sub image depth at lo hi (path - 1) p))
      go (Ok Leaf) t =
          then-kept (a + size * 1) (a + 0) slots (leaf_end image at)
          (each_adds 1 _ (slot_adds image sized depth at t.before lo hi sub subs) size 0 a p b)
          (λ q c. end_kept sized (a + 0) at 400 q (pass_leaf (next_at image at) q) refl (omega (arith, t.before)) (omega (arith, c.counted, size_fits (permutation_at image at))) c.lively)
      go (Ok Internode) t =
          then-kept (a + count * 0) (a + 0) children (record_end at 256) (each_adds 0 _ (kids t.some) count 0 a p b)
          (λ q c. end_kept sized (a + 0) at 256 q (pass_internode q) refl (omega (arith, t.before)) (omega (arith, c.counted)) c.lively)
      go (Err d) t = tt

  pub node_adds : (path at lo hi : ℕ) → Adds 0 (node_c sub image depth path at lo hi)
  node_adds zero at lo hi = record_adds zero at lo hi (λ z. absurd (z refl))
  node_adds (suc n) at lo hi = record_adds (suc n) at lo hi (λ z i. rw sub-one (node_adds n _ _ _))

-- LAYERS
pub sub_adds : (image : List ℕ) → Sized image → (below root : ℕ) → Adds 0 (sub_c image below root)
unfolding sub_c layer_end
sub_adds image sized zero root a p b = tt
sub_adds image sized (suc below) root a p b =
    rw (layer-is image below root p)
    (then-kept (a + 0) (a + 0) _ _ (node_adds image sized (sub_c image below) (sub_adds image sized below) (31 - below) 12 root 0 _ a p b)
    (λ q c. demand-kept (a + 0) LeafChain _ q (λ t. c)))
