-- Calls of `pb_step` follow steps of the walk that the record reads back as. Proved: what a call that meets its contract leaves is `c_step`'s;
-- that what a list of calls says, costs and carries is what the steps say, cost and carry; and that the calls that step no walk change nothing. A call with
-- no room for the answer follows a step that is lent another length.
use Rattle.std.specs.Prelude.{◌≡◌, ◌∷◌, ◌⊎◌, ◌+◌, Some, None, Ok, Err}
use Rattle.base.specs.Kit.{refl, ap, ap₂, sym, ◌∙◌, Bool, true, false, not, and-true, and-false, List, [], inr, ℕ, arith, eqb, length, take, replicate, eqb-true, eqb-false, eq-eqb, ne_eqb}
use Rattle.base.specs.Pick.{pick}
use Rattle.base.proofs.Choice.{pick_ind, by_test}
use Rattle.walk.specs.Walk.{number_of, nothing_yet, walk_ok, answer_numbers}
use Rattle.scan.specs.Machine.{run, is_ended, scan_of, stepped, finished, advance, step}
use Rattle.lent.specs.Form.{by_value, step_as}
use Rattle.walk_record.specs.Record.{numbers_of, read_walk, is_record}
use Rattle.record_step.specs.Step.{said_in, step_of, step_number, left, step_numbers, step_buf}
use Rattle.record_step.proofs.Kept.{step_keeps}
use Rattle.demands.specs.Demand.{Call, steps, Lent, said_by, said, moves_of, own, Foreign}
use Rattle.demands.specs.HandedOut.{handed_by}
use Rattle.punchbronze.specs.Interface.{said_numbers, out_after, StepLeft}
use Rattle.c_demands.specs.Types.{Held, Answer, Stepped, Walk}
use Rattle.c_demands.specs.CDemand.{CCall, CLeft, c_step, c_steps, Kept, CLent, is_made, made, c_said_by, c_said, c_moves_by, c_moves_of, c_handed_by, c_handed, Untouched, CForeign}

-- A declined step has made no move, its walk is as it came, and it carries zeros.
abbrev Stays : Walk → Stepped → Type 0
Stays w s = (number_of s.answer ≡ 0 → ⊥) → (s.moves ≡ 0) × (s.walk ≡ w) × (s.handed ≡ nothing_yet)

stays_by : (w : Walk) (a : Answer) (last : Bool) (moves : ℕ) (s : Held) → Stays w (stepped w a last moves s)
unfolding number_of
stays_by w (Ok (Some key)) last moves s h = absurd (h refl)
stays_by w (Ok None) last moves s h = absurd (h refl)
stays_by w (Err d) last moves s h = (refl, refl, refl)

stays : (w : Walk) (image : List ℕ) → Stays w (step w image)
unfolding step advance finished number_of
stays w image =
    pick_ind (Stays w) (not (walk_ok w (length image))) (λ t h. (refl, refl, refl))
    (λ f. pick_ind (Stays w) (is_ended w.state) (λ t h. absurd (h refl))
    (λ g.
    let r = run image w.bound.kind (take w.bound.len w.bound.key) (length image) 0 (scan_of w) in
    stays_by w r.answer r.last r.moves r.scan))

-- What a step that is taken leaves.
abbrev left_by : Stepped → CLeft
left_by s = record { number = 0; numbers = numbers_of s.walk; buf = s.walk.cursor.buf; out = answer_numbers s.answer s.moves s.handed }

-- What is left follows a step: it says, costs and carries the same, and the record, whose bound is k, reads back as the walk after it.
record Follows (k : List ℕ) (s : Stepped) (l : CLeft) : Type 0 where
  says : c_said_by l ≡ said_by s
  costs : c_moves_by l ≡ s.moves
  carries : c_handed_by l ≡ s.handed
  keeps : is_record l.numbers l.buf k ≡ true
  reads : read_walk l.numbers l.buf k ≡ s.walk

-- A walk's step that is lent another length changes nothing.
abbrev Other : List ℕ → Walk → List ℕ → Type 0
Other image w bytes =
    (length bytes ≡ length image → ⊥) → (number_of (step w bytes).answer ≡ 21) × ((step w bytes).moves ≡ 0) × ((step w bytes).walk ≡ w)

-- The step that a call follows: with no room for the answer, one that is lent another length.
abbrev pub as_step : List ℕ → CCall → Call
as_step image c = record { form = by_value; bytes = pick (eqb (length c.out) said_in) c.bytes (0 ∷ image) }

unfoldable pub as_steps : List ℕ → List CCall → List Call
as_steps image [] = []
as_steps image (c ∷ rest) = as_step image c ∷ as_steps image rest

-- ONE CALL
module _ (n b k : List ℕ) (c : CCall) where
  -- the contract says all that is left
  left_is : (r : ℕ) (n' b' o' : List ℕ) → StepLeft n b k c.bytes c.out r n' b' o'
      → record { number = r; numbers = n'; buf = b'; out = o' } ≡ c_step n b k c
  unfolding c_step
  left_is r n' b' o' m = rw (m.number, m.numbers-left, m.buf-left, m.out-left)

  -- declined
  declined : (r : ℕ) → step_number n b k c.bytes c.out ≡ r → (r ≡ 0 → ⊥)
      → c_step n b k c ≡ record { number = r; numbers = n; buf = b; out = pick (eqb (length c.out) said_in) (replicate said_in 0) c.out }
  unfolding c_step step_numbers step_buf out_after said_numbers left pick
  declined r e h = rw (e, ne_eqb r 0 h)

  untouched : step_number n b k c.bytes c.out ≡ 21 → Untouched n b c.out (c_step n b k c)
  untouched e = rw (declined 21 e (λ z. omega arith)) (record { number = refl; numbers_stay = refl; buf_stay = refl; out-left = refl })

  no_room : (length c.out ≡ said_in → ⊥) → step_number n b k c.bytes c.out ≡ 21
  unfolding step_number pick
  no_room h = rw (ne_eqb _ _ h)

  module _ (is : is_record n b k ≡ true) where
    number_is : length c.out ≡ said_in → step_number n b k c.bytes c.out ≡ number_of (step_of n b k c.bytes).answer
    unfolding step_number pick
    number_is room = rw (eq-eqb _ _ room, is)

    taken : length c.out ≡ said_in → number_of (step_of n b k c.bytes).answer ≡ 0 → c_step n b k c ≡ left_by (step_of n b k c.bytes)
    unfolding c_step step_numbers step_buf out_after said_numbers left pick
    taken room z =
        let t : step_number n b k c.bytes c.out ≡ 0 = number_is room ∙ z in
        rw (t, eq-eqb _ _ room)

    follows-taken : length c.out ≡ said_in → number_of (step_of n b k c.bytes).answer ≡ 0 → Follows k (step_of n b k c.bytes) (c_step n b k c)
    unfolding c_said_by said_by c_moves_by c_handed_by answer_numbers pick
    follows-taken room z =
        let kept = step_keeps n b k c.bytes is in
        rw (taken room z) (record { says = rw z; costs = refl; carries = refl; keeps = kept.0; reads = kept.1 })

    follows_declined : (s : Stepped) (r : ℕ) → step_number n b k c.bytes c.out ≡ r → (r ≡ 0 → ⊥) → number_of s.answer ≡ r
        → s.moves ≡ 0 → s.walk ≡ read_walk n b k → s.handed ≡ nothing_yet → Follows k s (c_step n b k c)
    unfolding c_said_by said_by c_moves_by c_handed_by pick
    follows_declined s r e h f m w z =
        rw (declined r e h)
        (record { says = rw (f, ne_eqb r 0 h); costs = rw (ne_eqb r 0 h) (sym m); carries = rw (ne_eqb r 0 h) (sym z); keeps = is; reads = sym w })

    with-room : length c.out ≡ said_in → Follows k (step_of n b k c.bytes) (c_step n b k c)
    with-room room =
        by_test (eqb (number_of (step_of n b k c.bytes).answer) 0) (λ z. follows-taken room (eqb-true _ _ z))
        (λ z.
        let h : number_of (step_of n b k c.bytes).answer ≡ 0 → ⊥ = eqb-false _ _ z in
        let s = stays (read_walk n b k) c.bytes h in
        follows_declined (step_of n b k c.bytes) _ (number_is room) h refl s.0 s.1 s.2)

    -- every call: it follows its step, and changes nothing where it steps no walk
    module _ (image : List ℕ) where
      abbrev Goes : List ℕ → Type 0
      Goes bytes = Other image (read_walk n b k) bytes
          → Follows k (step (read_walk n b k) bytes) (c_step n b k c) × (is_made image c ≡ false → Untouched n b c.out (c_step n b k c))

      goes-room : eqb (length c.out) said_in ≡ true → Goes c.bytes
      unfolding is_made
      goes-room t o =
          let room : length c.out ≡ said_in = eqb-true _ _ t in
          (with-room room, λ m. untouched (number_is room ∙ (o (eqb-false _ _ (sym (and-true _) ∙ rw t at m))).0))

      goes_none : eqb (length c.out) said_in ≡ false → Goes (0 ∷ image)
      goes_none f o =
          let none = no_room (eqb-false _ _ f) in
          let s = o (λ e. omega arith) in
          let z = stays (read_walk n b k) (0 ∷ image) (λ e. omega (arith, s.0)) in
          (follows_declined (step (read_walk n b k) (0 ∷ image)) 21 none (λ e. omega arith) s.0 s.1 s.2 z.2, λ m. untouched none)

      goes : Goes (as_step image c).bytes
      goes = pick_ind Goes (eqb (length c.out) said_in) goes-room goes_none

-- EVERY LIST OF CALLS. What is left by the contract is what `c_steps` has.
pub kept-is : (k : List ℕ) (calls : List CCall) (n b : List ℕ) (lefts : List CLeft) → Kept n b k calls lefts → lefts ≡ c_steps n b k calls
unfolding Kept c_steps
kept-is k [] n b [] h = refl
kept-is k [] n b (s ∷ more) h = absurd h
kept-is k (c ∷ rest) n b [] h = absurd h
kept-is k (c ∷ rest) n b (s ∷ more) h =
    let e : s ≡ c_step n b k c = left_is n b k c s.number s.numbers s.buf s.out h.0 in
    ap₂ ◌∷◌ e (kept-is k rest s.numbers s.buf more h.1 ∙ ap (λ (l : CLeft). c_steps l.numbers l.buf k rest) e)

module _ (image : List ℕ) where
  made-is : (c : CCall) → eqb (length (as_step image c).bytes) (length image) ≡ is_made image c
  unfolding is_made pick
  made-is c =
      by_test (eqb (length c.out) said_in) (λ t. rw (t, and-true)) (λ f. rw (f, and-false, ne_eqb (length (0 ∷ image)) (length image) (λ e. omega arith)))

  pub made_all : (calls : List CCall) → own image (as_steps image calls) ≡ made image calls
  unfolding own as_steps made
  made_all [] = refl
  made_all (c ∷ rest) = ap₂ ◌∷◌ (made-is c) (made_all rest)

  pub lent_all : (calls : List CCall) → CLent image calls → Lent image (as_steps image calls)
  unfolding CLent Lent as_steps
  lent_all [] l = tt
  lent_all (c ∷ rest) l = (
    pick_ind (λ (bytes : List ℕ). (bytes ≡ image) ⊎ (length bytes ≡ length image → ⊥)) (eqb (length c.out) said_in) (λ t. l.0)
        (λ f. inr (λ e. omega arith)),
    lent_all rest l.1,
  )

  pub follow_all : (k : List ℕ) (calls : List CCall) (n b : List ℕ) → is_record n b k ≡ true → Foreign image (read_walk n b k) (as_steps image calls)
      → (c_said (c_steps n b k calls) ≡ said (steps (read_walk n b k) (as_steps image calls)))
      × (c_moves_of (c_steps n b k calls) ≡ moves_of (steps (read_walk n b k) (as_steps image calls)))
      × CForeign image n b k calls
      × (c_handed (c_steps n b k calls) ≡ handed_by (steps (read_walk n b k) (as_steps image calls)))
  unfolding c_steps c_said c_moves_of c_handed CForeign steps said moves_of handed_by Foreign as_steps step_as
  follow_all k [] n b is f = (refl, refl, tt, refl)
  follow_all k (c ∷ rest) n b is f =
      let o = goes n b k c is image f.0 in
      let l = c_step n b k c in
      let next = follow_all k rest l.numbers l.buf o.0.keeps (rw o.0.reads f.1) in (
        ap₂ ◌∷◌ o.0.says (next.0 ∙ ap (λ (w : Walk). said (steps w (as_steps image rest))) o.0.reads),
        ap₂ ◌+◌ o.0.costs (next.1 ∙ ap (λ (w : Walk). moves_of (steps w (as_steps image rest))) o.0.reads),
        (o.1, next.2),
        ap₂ ◌∷◌ o.0.carries (next.3 ∙ ap (λ (w : Walk). handed_by (steps w (as_steps image rest))) o.0.reads),
      )
