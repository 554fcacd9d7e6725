-- The check of a subtree, and of a layer, ends without a fault exactly where the rules hold of it: first of an internode, by recursion
-- on the children left, where the check of a child comes in as a function, with what is known of it; then by recursion on the
-- internodes left on a path, and on the layers left on a way down.
use Rattle.std.specs.Prelude.{◌&&◌, ◌≡◌, ◌+◌, ◌≤◌, ◌<◌, ◌-◌, ◌^◌, Err}
use Rattle.base.specs.Kit.{true, not, Bool, false, List, refl, sym, subst, ℕ, zero, suc, add-one, arith, leb, eqb, length, lt-ltb, le-ltb}
use Rattle.base.specs.Pick.{pick}
use Rattle.node.specs.Version.{at_rest, is_leaf}
use Rattle.node.specs.Layout.{version_at, nkeys_at, separator_at, child_at}
use Rattle.layering.specs.Tree.{Node, internode, Kids, more, kids_from, internode_head, beyond, leaf_at, node_at, layer_at}
use Rattle.layering.specs.Keys.{leaves_n, leaves_k, values_n, values_k, layers_n, layers_k, lives_n, lives_k}
use Rattle.layering.specs.Accepted.{end_n, end_k, InPostOrderN, InPostOrderK, ShortPathsN, ShortPathsK, AscendN, AscendK, InRangeN, InRangeK, first_n, first_k, LinkedN, LinkedK, FieldsN, FieldsK}
use Rattle.layering.proofs.Size.{leaves_fit_k}
use Rattle.verify.specs.Types.{RecordPlace, RecordVersion, SlotKey, SlotOrder, LeafChain, Progress}
use Rattle.verify.specs.Check.{Checked, each, demand, is_next, pass_internode, low_end, high_end, internode_c, reachable, leaf_c, record_c, node_c, layer_with, layer_c}
use Rattle.std.proofs.lemmas.Bool.Decides.{Decides-and, Decides-eqb}
use Rattle.verify.proofs.Going.{says-leb, says_self, Runs, runs_as, runs_to, runs_here, runs_test, runs-demand, runs_then, runs_never}
use Rattle.verify.proofs.Records.{Reachable, Separators, says-separators, says-reachable}
use Rattle.verify.proofs.Places.{last_n, last_k, linked-last_n, aligned_k}
use Rattle.verify.proofs.Sound.{after_n, after_k, after_more, Underway, ready_after_n, SoundN, SoundK, Checks}
use Rattle.verify.proofs.Slots.{Layers}
use Rattle.verify.proofs.Leaves.{leaf-run, leaf_reached}

-- A check of subtrees does what it should.
abbrev pub Subtrees : List ℕ → ℕ → (ℕ → ℕ → ℕ → Progress → Checked) → (ℕ → Node) → Type 0
Subtrees image depth kid tree =
    (at lo hi : ℕ) (p : Progress) → Underway image p → Checks image depth lo hi (kid at lo hi p) p (tree at)

-- the separators of children in range
separators_of : (image : List ℕ) (tree : ℕ → Node) (at lo hi n i : ℕ) → InRangeK lo hi (kids_from tree image at i n)
    → Separators image at lo hi i n
unfolding Separators kids_from InRangeK
separators_of image tree at lo hi zero i h = tt
separators_of image tree at lo hi (suc n) i h = (h.0, h.1, separators_of image tree at (separator_at image at i) hi n (i + 1) h.3)

-- a child, then the children behind it
module _ (image : List ℕ) (depth lo x hi : ℕ) (p : Progress) (n : Node) (k : Kids) where
  more_sound : (lo < x) × (x < hi) → SoundN image depth lo x p n × SoundK image depth x hi (after_n p n) k
      → SoundK image depth lo hi p (more n x k)
  unfolding after_n InPostOrderK end_k last_k first_k ShortPathsK AscendK InRangeK LinkedK FieldsK SoundN SoundK
  more_sound b (here, others) = let links = subst (λ (y : ℕ). LinkedN y n) others.first here.links in search

  sound_more : SoundK image depth lo hi p (more n x k) → SoundN image depth lo x p n × SoundK image depth x hi (after_n p n) k
  unfolding after_n InPostOrderK end_k last_k first_k ShortPathsK AscendK InRangeK LinkedK FieldsK SoundN SoundK
  sound_more h =
      let ends : last_n n ≡ first_k k = linked-last_n n (first_k k) h.links.0 in
      let before : end_n p.place n + 32 ≤ length image = omega (arith, h.before, leaves_fit_k k (end_n p.place n)) in
      let links : LinkedN (last_n n) n = subst (λ (y : ℕ). LinkedN y n) (sym ends) h.links.0 in
      search

module _ (image : List ℕ) (depth : ℕ) (kid : ℕ → ℕ → ℕ → Progress → Checked) (tree : ℕ → Node)
    (subtrees : Subtrees image depth kid tree) (at lo hi : ℕ) where
  -- the check of child i
  abbrev child_c : ℕ → Progress → Checked
  child_c i = kid (child_at image at i) (low_end image at lo i) (high_end image at hi i)

  abbrev kids : ℕ → ℕ → Kids
  kids i n = kids_from tree image at i n

  abbrev low : ℕ → ℕ
  low i = low_end image at lo i

  -- THE CHILDREN from child i on, n more behind it.
  kids-run : (n i : ℕ) (p : Progress) → i + n ≡ nkeys_at image at → Underway image p → Separators image at (low i) hi i n
      → Runs (each child_c i (suc n) p) (SoundK image depth (low i) hi p (kids i n)) (after_k p (kids i n))
  unfolding each low_end high_end pick kids_from Separators after_k after_n InPostOrderK end_k last_k first_k ShortPathsK AscendK InRangeK LinkedK FieldsK leaves_k values_k layers_k lives_k SoundN SoundK
  kids-run zero i p e r b =
      rw (le-ltb i (nkeys_at image at) (omega arith))
      (runs_as (λ h. h.0) (λ h. (h, tt))
      (runs_then (each child_c (i + 1) 0) (subtrees (child_at image at i) (low i) hi p r)
      (λ s. runs_here (after_n p (tree (child_at image at i))))))
  kids-run (suc n) i p e r b =
      rw (lt-ltb i (nkeys_at image at) (omega arith))
      (runs_to (after_more p child x (kids (i + 1) n))
      (runs_as (more_sound image depth (low i) x hi p child (kids (i + 1) n) (b.0, b.1))
      (sound_more image depth (low i) x hi p child (kids (i + 1) n))
      (runs_then (each child_c (i + 1) (suc n)) (subtrees (child_at image at i) (low i) x p r)
      (λ s. subst Behind low-next
      (kids-run n (i + 1) (after_n p child) (omega arith) (ready_after_n image p child r s.before) (rw low-next b.2))))))
    where
      child : Node
      child = tree (child_at image at i)

      x : ℕ
      x = separator_at image at i

      -- the children behind it, from a low end
      Behind : ℕ → Type 0
      Behind l =
          Runs (each child_c (i + 1) (suc n) (after_n p child)) (SoundK image depth l hi (after_n p child) (kids (i + 1) n))
          (after_k (after_n p child) (kids (i + 1) n))

      low-next : low (i + 1) ≡ separator_at image at i
      low-next = rw add-one refl

  -- THE INTERNODE
  abbrev pub kids_here : Kids
  kids_here = kids_from tree image at 0 (nkeys_at image at)

  abbrev pub here : Node
  here = internode (internode_head image at) kids_here

  abbrev Parts : Progress → Type 0
  Parts p =
      ((at_rest (version_at image at) ≡ true) × (nkeys_at image at ≤ 15))
      × (Separators image at lo hi 0 (nkeys_at image at) × (SoundK image depth lo hi p kids_here × (at ≡ end_k p.place kids_here)))

  pub internode-run : (p : Progress) → Underway image p → Reachable image 256 at p
      → Checks image depth lo hi (pick (not (at_rest (version_at image at) && leb (nkeys_at image at) 15)) (Err RecordVersion)
      (internode_c kid image at lo hi p)) p here
  unfolding internode_head internode_c pass_internode low_end after_n after_k InPostOrderN end_n last_n first_n ShortPathsN AscendN InRangeN LinkedN FieldsN leaves_n values_n layers_n lives_n SoundN SoundK
  internode-run p r reach =
      runs_as to from
      (runs_test RecordVersion (Decides-and _ _ (says_self (at_rest (version_at image at))) (says-leb (nkeys_at image at) 15)) (λ a.
      runs_test SlotOrder (says-separators image at lo hi 0 (nkeys_at image at)) (λ b.
      runs_then (λ q. demand RecordPlace (eqb at q.place) (pass_internode q))
      (rw add-one (kids-run (nkeys_at image at) 0 p (omega arith) r b)) (λ c.
      runs-demand RecordPlace (pass_internode (after_k p kids_here)) (Decides-eqb at (end_k p.place kids_here))))))
    where
      to : Parts p → SoundN image depth lo hi p here
      to ((rest, few), (separators, (k, e))) =
          let before : end_k p.place kids_here + 256 + 32 ≤ length image = omega (arith, reach.before) in search

      from : SoundN image depth lo hi p here → Parts p
      from h =
          let separators = separators_of image tree at lo hi (nkeys_at image at) 0 h.range in
          let before : end_k p.place kids_here + 32 ≤ length image = omega (arith, h.before) in
          search

  -- a sound internode is reached
  pub internode_reached : (p : Progress) → Underway image p → SoundN image depth lo hi p here → Reachable image 256 at p
  unfolding internode_head InPostOrderN end_n SoundN
  internode_reached p r h =
      let e = h.post.1 in
      record {
        aligned = rw e (aligned_k kids_here p.place r.aligned);
        behind = omega (arith, e, leaves_fit_k kids_here p.place);
        before = omega (arith, e, h.before);
      }

module _ (image : List ℕ) (sub : ℕ → Progress → Checked) (tree : ℕ → Node) (depth : ℕ) (layers : Layers image (depth + 1) sub tree) where
  -- A RECORD that is a leaf, or else comes to `inner` and holds `node`.
  record-run : (at lo hi : ℕ) (p : Progress) → Underway image p → (inner : Checked) (node : Node)
      → (Reachable image 256 at p
      → Checks image depth lo hi (pick (not (at_rest (version_at image at) && leb (nkeys_at image at) 15)) (Err RecordVersion) inner) p node)
      → (SoundN image depth lo hi p node → Reachable image 256 at p)
      → Checks image depth lo hi (record_c sub image depth at lo hi p inner) p (pick (is_leaf (version_at image at)) (leaf_at tree image at) node)
  unfolding record_c pick
  record-run at lo hi p r inner node other reached = go (is_leaf (version_at image at))
    where
      go : (b : Bool)
          → Checks image depth lo hi (pick (not (reachable image 256 at p)) (Err RecordPlace)
          (pick b (pick (not (reachable image 400 at p)) (Err RecordPlace)
          (pick (not (at_rest (version_at image at))) (Err RecordVersion) (leaf_c sub image depth at lo hi p)))
          (pick (not (at_rest (version_at image at) && leb (nkeys_at image at) 15)) (Err RecordVersion) inner))) p (pick b (leaf_at tree image at) node)
      go true =
          runs_as (λ h. h.1) (λ h. (leaf_reached image tree depth at lo hi 256 p (omega arith) r h, h))
          (runs_test RecordPlace (says-reachable image 256 at p) (λ a. leaf-run image sub tree depth at lo hi layers p r))
      go false = runs_as (λ h. h.1) (λ h. (reached h, h)) (runs_test RecordPlace (says-reachable image 256 at p) other)

  -- SUBTREES with at most n internodes on a path.
  node-run : (n : ℕ) → Subtrees image depth (node_c sub image depth n) (node_at tree image n)
  unfolding node_c node_at InPostOrderN SoundN
  node-run zero at lo hi p r =
      record-run at lo hi p r (Err RecordVersion) beyond
      (λ a. runs_as (λ h. h.1) (λ h. absurd h.post)
      (runs_test RecordVersion (says_self (at_rest (version_at image at) && leb (nkeys_at image at) 15))
      (λ b. runs_never RecordVersion (after_n p beyond) (λ h. h.post))))
      (λ h. absurd h.post)
  node-run (suc n) at lo hi p r =
      let subtrees : Subtrees image depth (node_c sub image depth n) (node_at tree image n) = node-run n in
      record-run at lo hi p r (internode_c (node_c sub image depth n) image at lo hi p)
      (internode (internode_head image at) (kids_from (node_at tree image n) image at 0 (nkeys_at image at)))
      (internode-run image depth (node_c sub image depth n) (node_at tree image n) subtrees at lo hi p r)
      (internode_reached image depth (node_c sub image depth n) (node_at tree image n) subtrees at lo hi p r)

  -- A LAYER
  pub layer_with-run : Layers image depth (layer_with sub image depth) (node_at tree image 12)
  unfolding layer_with after_n is_next
  layer_with-run root p r fresh =
      runs_as (λ h. record { sound = h.0; ends = h.1 }) (λ h. (h.sound, h.ends))
      (runs_then (λ q. demand LeafChain (is_next 0 q.next) q) (node-run 12 root 0 (2 ^ 64) p r)
      (λ h. runs-demand LeafChain (after_n p (node_at tree image 12 root)) (Decides-eqb (last_n (node_at tree image 12 root)) 0)))

-- LAYERS with at most `below` more below them.
pub layers-run : (image : List ℕ) (below : ℕ) → below ≤ 31 → Layers image (31 - below) (layer_c image below) (layer_at image (suc below))
unfolding layer_c layer_at InPostOrderN SoundN
layers-run image zero b =
    layer_with-run image (λ r q. Err SlotKey) (layer_at image 0) 31 (λ root p r e. runs_never SlotKey (after_n p beyond) (λ h. h.sound.post))
layers-run image (suc below) b =
    let e : 31 - suc below + 1 ≡ 31 - below = omega arith in
    layer_with-run image (layer_c image below) (layer_at image (suc below)) (31 - suc below) (rw e (layers-run image below (omega arith)))
