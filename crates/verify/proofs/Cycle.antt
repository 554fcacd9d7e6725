-- What the two functions of the cycle and `check_image` cite: what the code's answers tell, and what a turn of each loop leaves of
-- `Bounded`. `below` is the number of layers that may lie below the one that is checked, `hi` the end of its ikeys.
use Rattle.std.specs.Prelude.{◌≡◌, ◌+◌, ◌-◌, ◌^◌, ◌<◌, ◌≤◌, Result, Ok}
use Rattle.base.specs.Kit.{not, List, ⊎_elim, sym, subst, ℕ, zero, suc, eq-or-lt_of_le, arith, length, not-false, leb-true}
use Rattle.base.proofs.Choice.{pick_ind}
use Rattle.base.proofs.Declines.{handed_on}
use Rattle.node.specs.Layout.{nkeys_at, separator_at}
use Rattle.node.specs.Heading.{length_ok, heading}
use Rattle.node.proofs.HeadingLaws.{length-fits}
use Rattle.verify.specs.Types.{Decline, LeafChain, Progress, Leaf, Internode, SlotCheck, Layer}
use Rattle.verify.specs.Check.{enter_layer, slot_c, node_c, begin}
use Rattle.verify.specs.CodeCases.{sub_c, record_check, LeafTold, suffix_check, kind_check, slot_check, layer_end, Bounded, Sized}
use Rattle.verify.proofs.Fields.{layer-kind}
use Rattle.verify.proofs.Records.{Separators, says-separators}
use Rattle.verify.proofs.Steps.{each_none, each_next, node-is, slot_is, layer-is, sub_is}
use Rattle.verify.proofs.Bounds.{InternodeTold, RecordTold, record_told, Kept, weaker, demand-kept, slot_adds, node_adds, sub_adds}

-- SLOTS. At a layer's slot a layer may lie below.
pub slot_deep : (image : List ℕ) (below at lo hi i root : ℕ) (p : Progress) → Ok (Layer root) ≡ slot_check image (31 - below) at lo hi i p → 0 < below
unfolding slot_check kind_check suffix_check
slot_deep image below at lo hi i root p e =
    let P : Result SlotCheck Decline → Type 0 = λ x. Ok (Layer root) ≡ x → 0 < below in
    pick_ind P _ (λ t q. absurd (cc)) (λ f. pick_ind P _ (λ t q. absurd (cc)) (λ fitting. pick_ind P _ (λ t q. absurd (cc))
    (λ f. pick_ind P _ (λ big q. omega (arith, layer-kind (31 - below) _ (leb-true 128 _ big) (not-false _ fitting)))
    (λ f. pick_ind P _ (λ t. pick_ind P _ (λ u q. absurd (cc)) (λ u q. absurd (cc))) (λ u q. absurd (cc)))))) e

-- behind a slot there is one more
pub slot_kept : (image : List ℕ) (below at lo hi i n : ℕ) (p q : Progress) → Sized image → LeafTold image at → Bounded (n + i) p
    → Ok q ≡ slot_c (sub_c image below) image (31 - below) at lo hi i p → Bounded (n + (i + 1)) q
slot_kept image below at lo hi i n p q sized told b e =
    weaker (n + i + 1) _ q (omega arith)
    (subst (Kept (n + i + 1)) (sym e) (slot_adds image sized (31 - below) at told.before lo hi (sub_c image below) (sub_adds image sized below) i (n + i) p b))

-- into a layer: its slot is one more that is ahead
pub entered : (a : ℕ) (p q : Progress) → q ≡ enter_layer p → Bounded a p → Bounded (a + 1) q
entered a p q e b = rw e (record { within = b.within; counted = omega (arith, b.counted); lively = b.lively })

-- RECORDS: what the code's answer for the record at `at`, reached at p, tells
module _ (image : List ℕ) (path at lo hi : ℕ) (p : Progress) where
  pub leaf_told : Ok Leaf ≡ record_check image path at lo hi p → LeafTold image at
  unfolding RecordTold
  leaf_told e = subst (RecordTold image path at lo hi) (sym e) (record_told image path at lo hi p)

  pub inner_told : Ok Internode ≡ record_check image path at lo hi p → InternodeTold image path at lo hi
  unfolding RecordTold
  inner_told e = subst (RecordTold image path at lo hi) (sym e) (record_told image path at lo hi p)

-- CHILDREN: a subtree's number of slots is taken back at its leaves' ends
pub child-kept : (image : List ℕ) (below path child low high a : ℕ) (p q : Progress) → Sized image
    → Ok q ≡ node_c (sub_c image below) image (31 - below) path child low high p → Bounded a p → Bounded a q
child-kept image below path child low high a p q sized e b =
    weaker (a + 0) a q (omega arith)
    (subst (Kept (a + 0)) (sym e) (node_adds image sized (sub_c image below) (sub_adds image sized below) (31 - below) path child low high a p b))

-- a separator lies above some end, so above 0
positive : (image : List ℕ) (at hi i n j lo : ℕ) → Separators image at lo hi j n → j ≤ i → i < j + n → 0 < separator_at image at i
unfolding Separators
positive image at hi i zero j lo h l b = absurd (omega arith)
positive image at hi i (suc n) j lo h l b =
    ⊎_elim (λ e. rw (← e) (omega (arith, h.0)))
    (λ g. positive image at hi i n (j + 1) (separator_at image at j) h.2 (omega arith) (omega arith)) (eq-or-lt_of_le l)

pub separator_positive : (image : List ℕ) (path at lo hi i : ℕ) → InternodeTold image path at lo hi
    → i < nkeys_at image at → (i < 15) × (0 < separator_at image at i)
separator_positive image path at lo hi i told h = (
  omega (arith, told.few),
  positive image at hi i (nkeys_at image at) 0 lo ((says-separators image at lo hi 0 (nkeys_at image at)).0 told.separated) (omega arith) (omega arith),
)

-- THE WHOLE. Nothing is counted at its begin.
pub begin_bounded : (p : Progress) → p ≡ begin → Bounded 0 p
begin_bounded p f = rw f (record { within = omega arith; counted = omega arith; lively = omega arith })

-- by the code's answer for the heading
pub heading-sized : (image : List ℕ) (u : Unit {0}) → Ok u ≡ heading image → Sized image
unfolding heading
heading-sized image u e =
    pick_ind (λ (x : Result Unit Decline). Ok u ≡ x → Sized image) (not (length_ok (length image))) (λ t q. absurd (cc))
    (λ t q. let h = length-fits (length image) (not-false _ t) in record { long = h.0; short = h.1 }) e

-- behind the root layer
pub whole_kept : (image : List ℕ) → Sized image → (root : ℕ) (p q s : Progress) → p ≡ begin
    → Ok q ≡ node_c (sub_c image 31) image 0 12 root 0 (2 ^ 64) p → Ok s ≡ layer_end q → Bounded 480 s
unfolding layer_end
whole_kept image sized root p q s f e l =
    subst (Kept 480) (sym l)
    (demand-kept 480 LeafChain _ q (λ t. weaker 0 480 q (omega arith) (child-kept image 31 12 root 0 (2 ^ 64) 0 p q sized e (begin_bounded p f))))

-- What the functions rest on: the two of the cycle, and `check_image`.
pub ruleset parts = (node-is, slot_is, sub_is, each_none, each_next, handed_on, weaker, slot_deep, leaf_told, inner_told)

pub ruleset whole = (layer-is, heading-sized, whole_kept, handed_on)
