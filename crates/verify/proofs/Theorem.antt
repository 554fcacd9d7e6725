-- THE THEOREM: the check's number is 0 exactly where `Obeys` holds of the image, and then its three numbers are the tree's. The tests
-- before and behind the tree are taken apart here; the tree itself is `layers-run`.
use Rattle.std.specs.Prelude.{◌≡◌, ◌&&◌, ◌+◌, ◌-◌, ◌%◌, ◌≤◌, Result, Ok, Err}
use Rattle.base.specs.Kit.{Bool, true, false, not, List, refl, ap, sym, ◌∙◌, subst, ℕ, arith, eqb, length, eq-eqb, not-false}
use Rattle.base.specs.Decline.{and_then}
use Rattle.base.specs.Pick.{pick}
use Rattle.base.proofs.Choice.{pick_ind}
use Rattle.base.proofs.Declines.{never-zero, both_ok}
use Rattle.node.specs.Layout.{root_offset, key_count, stated_length, edition}
use Rattle.node.specs.Heading.{length_ok, heading}
use Rattle.layering.specs.Tree.{tree_of}
use Rattle.layering.specs.Keys.{lives_n}
use Rattle.layering.specs.Accepted.{end_n, LinkedN, Obeys}
use Rattle.verify.specs.Types.{Decline, Counts, Progress}
use Rattle.verify.specs.Check.{Checked, check_number, check_counts, layer_c, begin, finish, check}
use Rattle.verify.specs.Acceptance.{tree_counts}
use Rattle.std.specs.Bool.{Decides}
use Rattle.std.proofs.lemmas.Bool.Decides.{Decides-and, Decides-eqb}
use Rattle.verify.proofs.Going.{says-leb, Runs}
use Rattle.verify.proofs.Places.{last_n, linked-last_n}
use Rattle.verify.proofs.Sound.{added, after_n, same-counts, SoundN}
use Rattle.verify.proofs.Slots.{SoundLayer}
use Rattle.verify.proofs.Subtrees.{layers-run}

-- THE HEADING, numbers 1 and 2
record Headed (image : List ℕ) : Type 0 where
  long : 440 ≤ length image
  short : length image ≤ 16777216
  whole : length image % 8 ≡ 0
  stated : stated_length image ≡ length image
  first-edition : edition image ≡ 1

module _ (image : List ℕ) where
  says_sized : Decides (length_ok (length image)) ((440 ≤ length image) × ((length image ≤ 16777216) × (length image % 8 ≡ 0)))
  unfolding length_ok
  says_sized = Decides-and _ _ (says-leb 440 (length image)) (Decides-and _ _ (says-leb (length image) 16777216) (Decides-eqb (length image % 8) 0))

  says_trailer : Decides (eqb (stated_length image) (length image) && eqb (edition image) 1)
      ((stated_length image ≡ length image) × (edition image ≡ 1))
  says_trailer = Decides-and _ _ (Decides-eqb (stated_length image) (length image)) (Decides-eqb (edition image) 1)

  heading-headed : (u : Unit {0}) → heading image ≡ Ok u → Headed image
  unfolding heading
  heading-headed u =
      let P : Result Unit Decline → Type 0 = λ x. x ≡ Ok u → Headed image in
      pick_ind P (not (length_ok (length image))) (λ t e. absurd (cc))
      (λ t. pick_ind P (not (eqb (stated_length image) (length image) && eqb (edition image) 1)) (λ v e. absurd (cc))
      (λ v e.
      let a = says_sized.0 (not-false _ t) in
      let b = says_trailer.0 (not-false _ v) in
      record { long = a.0; short = a.1.0; whole = a.1.1; stated = b.0; first-edition = b.1 }))

  headed-heading : Headed image → heading image ≡ Ok tt
  unfolding heading pick
  headed-heading h = rw (says_sized.1 (h.long, (h.short, h.whole)), says_trailer.1 (h.stated, h.first-edition)) refl

-- AN ANSWER that is no decline, by a test.
accepts : (t : Bool) (d : Decline) (x : Result Counts Decline) (c : Counts) → pick (not t) (Err d) x ≡ Ok c → (t ≡ true) × (x ≡ Ok c)
unfolding pick
accepts true d x c e = (refl, e)
accepts false d x c e = absurd (cc)

-- what is accepted, and what is declined
is-accepted : (r : Result Counts Decline) → check_number r ≡ 0 → r ≡ Ok (check_counts r)
unfolding check_number check_counts
is-accepted (Ok c) e = refl
is-accepted (Err d) e = absurd (never-zero d e)

-- "A declined call returns its number, zero elsewhere": of any answer.
pub declined-zero : (r : Result Counts Decline) → (check_number r ≡ 0 → ⊥) → check_counts r ≡ record { leaves = 0; value_slots = 0; sub_layers = 0 }
unfolding check_number check_counts
declined-zero (Ok c) h = absurd (h refl)
declined-zero (Err d) h = refl

finish-accepts : (image : List ℕ) (p : Progress) → p.place + 32 ≡ length image → key_count image ≡ p.live_slots → finish image p ≡ Ok p.counts
unfolding finish pick
finish-accepts image p f g = rw (eq-eqb (p.place + 32) (length image) f, eq-eqb (key_count image) p.live_slots g) refl

module _ (image : List ℕ) where
  -- the check of the whole tree
  whole : Checked
  whole = layer_c image 31 (root_offset image) begin

  run : 440 ≤ length image → Runs whole (SoundLayer image 0 begin (tree_of image)) (after_n begin (tree_of image))
  unfolding whole tree_of
  run b = layers-run image 31 (omega arith) (root_offset image) begin (record { aligned = refl; before = omega arith }) refl

  counted : (after_n begin (tree_of image)).counts ≡ tree_counts (tree_of image)
  unfolding after_n added tree_counts
  counted = same-counts (omega arith) (omega arith) (omega arith)

  lively : (after_n begin (tree_of image)).live_slots ≡ lives_n (tree_of image)
  unfolding after_n
  lively = omega arith

  accepts_tree : (c : Counts) → check image ≡ Ok c → Obeys image × (c ≡ tree_counts (tree_of image))
  unfolding check finish whole after_n tree_counts SoundN
  accepts_tree c e =
      let headed = both_ok (heading image) _ c e in
      let h : Headed image = heading-headed image headed.0 headed.1 in
      let done = both_ok whole (finish image) c headed.2 in
      let p : Progress = done.0 in
      let ended = accepts (eqb (p.place + 32) (length image)) _ _ c done.2 in
      let count = accepts (eqb (key_count image) p.live_slots) _ _ c ended.1 in
      let s : SoundLayer image 0 begin (tree_of image) = (run h.long).only p done.1 in
      let q : p ≡ after_n begin (tree_of image) = let f = sym done.1 ∙ (run h.long).comes s in cc in
      let n : c ≡ tree_counts (tree_of image) = let f = count.1 in let g = ap (λ (p : Progress). p.counts) q ∙ counted in cc in
      let end = (Decides-eqb (p.place + 32) (length image)).0 ended.0 in
      let to_trailer : end_n 8 (tree_of image) ≡ length image - 32 = omega (arith, end, ap (λ (p : Progress). p.place) q) in
      let links = subst (λ (x : ℕ). LinkedN x (tree_of image)) s.ends s.sound.links in
      let live = (Decides-eqb (key_count image) p.live_slots).0 count.0 ∙ ap (λ (p : Progress). p.live_slots) q ∙ lively in
      (search, n)

  tree-accepted : Obeys image → check image ≡ Ok (tree_counts (tree_of image))
  unfolding check and_then whole after_n tree_counts SoundN
  tree-accepted o =
      let h : Headed image = search in
      let ends : last_n (tree_of image) ≡ 0 = linked-last_n (tree_of image) 0 o.links in
      let links : LinkedN (last_n (tree_of image)) (tree_of image) = rw ends o.links in
      let before : end_n 8 (tree_of image) + 32 ≤ length image = omega (arith, o.to_trailer, o.long) in
      let q : whole ≡ Ok (after_n begin (tree_of image)) = (run o.long).comes (search) in
      rw (headed-heading image h, q)
      (finish-accepts image (after_n begin (tree_of image)) (omega (arith, o.to_trailer, o.long)) (o.count ∙ sym lively) ∙ ap (λ (c : Counts). Ok c) counted)

  pub accepted_obeys : check_number (check image) ≡ 0 → Obeys image × (check_counts (check image) ≡ tree_counts (tree_of image))
  accepted_obeys e = accepts_tree _ (is-accepted (check image) e)

  pub obeys-accepted : Obeys image → (check_number (check image) ≡ 0) × (check_counts (check image) ≡ tree_counts (tree_of image))
  unfolding check_number check_counts
  obeys-accepted o = (ap check_number (tree-accepted o), ap check_counts (tree-accepted o))

-- THE FUNCTION. `check_image` (src/lib.rt) returns r with r ≡ check image, by its contract. So its number is 0 exactly where the image
-- obeys the rules, and then its three numbers are the tree's; else they are zero.
pub check-image-accepts : (image : List ℕ) (r : Result Counts Decline) → r ≡ check image
    → (check_number r ≡ 0 → Obeys image × (check_counts r ≡ tree_counts (tree_of image)))
    × (Obeys image → (check_number r ≡ 0) × (check_counts r ≡ tree_counts (tree_of image)))
    × ((check_number r ≡ 0 → ⊥) → check_counts r ≡ record { leaves = 0; value_slots = 0; sub_layers = 0 })
check-image-accepts image r e = rw e (accepted_obeys image, obeys-accepted image, declined-zero (check image))
