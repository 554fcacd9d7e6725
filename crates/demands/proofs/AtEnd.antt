-- THE INCLUDED END (02 [12]): over an accepted image the answers are those of the machine that moved on past it, and the moves up to the first
-- none are fewer exactly where it is handed out. The idea of the proof: both machines stand at one walk until the end is out; then nothing is
-- left of the row, the walk is ended here, and there it makes a move or more to its none.
use Rattle.std.specs.Prelude.{◌≡◌, ◌∷◌, ◌+◌, ◌≤◌, ◌<◌, Some, None, Ok, Err}
use Rattle.base.specs.Kit.{refl, ap, sym, ◌∙◌, subst, List, [], Bool, true, false, true≢false, false≢true, and-true, inl, inr, ℕ, arith, length, take, get_or}
use Rattle.base.specs.Pick.{pick}
use Rattle.base.proofs.Choice.{by_test}
use Rattle.cursor.specs.RangeBound.{at_end, is_last, bound_of}
use Rattle.demands.specs.Types.{RangeBound, Tested, StartMode, Ended, Walk, Answer, WalkRange, Stepped}
use Rattle.layering.specs.Keys.{Pair}
use Rattle.layering.specs.Depths.{depth_of}
use Rattle.layering.specs.Ascending.{Ascending}
use Rattle.layering.proofs.Sieve.{front, front_passes}
use Rattle.layering.proofs.Bound.{end-is-last}
use Rattle.layering.proofs.Size.{moves-fit}
use Rattle.layering.proofs.Walk.{Conf, rest, left, pot}
use Rattle.verify.specs.Check.{check_number, check}
use Rattle.verify.proofs.Theorem.{accepted_obeys}
use Rattle.walk.specs.Walk.{number_of, keys_of, len_of, value_of}
use Rattle.walk.specs.Placing.{fresh_walk, place}
use Rattle.scan.specs.Machine.{Ran, is_ended, scan_of, declined_with, answered, finished, step}
use Rattle.scan.specs.MovesOn.{moved_on, step_on}
use Rattle.scan.proofs.BeginLaws.{step_ended}
use Rattle.lent.proofs.Same.{step_as_lem}
use Rattle.demands.specs.Demand.{Call, steps, Lent, Said, hands_out, none, declines, said_by, said, moves_of, own, head_said, tail_of, due}
use Rattle.demands.specs.AtEnd.{steps_on, is_none, up_to_none, is_end, is_any, StopsAtEnd}
use Rattle.demands.proofs.Relation.{resumed}
use Rattle.demands.proofs.Run.{Came, out, end}
use Rattle.demands.proofs.Steps.{admitted, Stage, ended, going, Walks, Paid, goes_on_lem, walk_ok_lem, by-step, pays, other_length, all-steps}
use Rattle.demands.proofs.Whole.{taken, bound-kind, bound-length, bound_tests, stage, walks, few-moves}

-- THE MACHINE THAT MOVES ON: a step that says none is the same there.
none_stays : (s : Stepped) → said_by s ≡ none → moved_on s ≡ s
unfolding said_by number_of keys_of moved_on is_none pick
none_stays s e = go s.answer refl
  where
    go : (a : Answer) → s.answer ≡ a → moved_on s ≡ s
    go (Ok (Some key)) f = absurd (false≢true (ap is_none (rw f at e)))
    go (Ok None) f = rw f
    go (Err d) f = rw f

on_none : (w : Walk) (image : List ℕ) → said_by (step w image) ≡ none → step_on w image ≡ step w image
unfolding step_on
on_none w image e = none_stays (step w image) e

-- and one over bytes of another length
on-foreign : (w : Walk) (lent : List ℕ) → step w lent ≡ declined_with WalkRange w → step_on w lent ≡ declined_with WalkRange w
unfolding step_on moved_on keys_of pick
on-foreign w lent e = rw e

on-moves : (s : Stepped) → (moved_on s).moves ≡ s.moves
unfolding moved_on
on-moves s = refl

-- THE MOVES up to the first none, by what the first step says.
module _ (s : Stepped) (rest : List Stepped) where
  up_none : is_none (said_by s) ≡ true → moves_of (up_to_none (s ∷ rest)) ≡ s.moves
  unfolding up_to_none moves_of pick
  up_none e = rw e (omega arith)

  up_more : is_none (said_by s) ≡ false → moves_of (up_to_none (s ∷ rest)) ≡ s.moves + moves_of (up_to_none rest)
  unfolding up_to_none moves_of pick
  up_more e = rw e

-- a step that answers none, and one that is declined
module _ (w : Walk) where
  says_none : is_none (said_by (answered (Ok None) 0 w)) ≡ true
  unfolding said_by number_of keys_of is_none pick
  says_none = refl

  says-21 : said_by (declined_with WalkRange w) ≡ declines 21
  unfolding said_by number_of pick
  says-21 = refl

-- nothing more is handed out where the row is out
none-due : (kind : ℕ) (bound : List ℕ) (l : List Bool) → is_any (is_end kind bound) (due l []) ≡ false
unfolding is_any is_end due head_said tail_of
none-due kind bound [] = refl
none-due kind bound (true ∷ l) = none-due kind bound l
none-due kind bound (false ∷ l) = none-due kind bound l

module _ (image : List ℕ) (B : RangeBound) (Kind-ok : B.kind ≤ 2) (len-ok : B.len ≤ 256) where
  abbrev bytes : List ℕ
  bytes = take B.len B.key

  abbrev ends : Said → Bool
  ends = is_end B.kind bytes

  -- A STEP of both machines from one walk: they stand at one walk behind it; or the end is out, and the machine that moves on stands in a row of
  -- which nothing is left.
  data Turn (s : Stepped) : Type 0 where
    same : moved_on s ≡ s → ends (said_by s) ≡ false → Turn s
    parts : (d : Conf) → is_none (said_by s) ≡ false → ends (said_by s) ≡ true → s.walk.state ≡ Ended → said_by (moved_on s) ≡ said_by s
        → Walks image B (moved_on s).walk d → is_ended (moved_on s).walk.state ≡ false → left (admitted B) d ≡ [] → pot d ≤ length image → Turn s

  turned : (w : Walk) (c : Conf) → Walks image B w c → pot c ≤ length image → {r : Ran} → Came image B.kind bytes c 0 r → Turn (finished w r)
  unfolding finished said_by number_of keys_of len_of value_of is_none is_end moved_on scan_of resumed pick left rest front pot Ascending
  turned w c h k (out x c' false n s e m g fit deep rep key at) = same refl (ap (at_end B.kind bytes) (sym key) ∙ sym at)
  turned w c h k (out x c' true n s e m g fit deep rep key at) =
      let gone = end-is-last B.kind bytes x (left (admitted B) c') (subst Ascending e h.ascends) (front_passes (admitted B) (rest c')) (sym at) in
      parts c' refl (ap (at_end B.kind bytes) (sym key) ∙ sym at) refl refl
      (goes_on_lem image B Kind-ok len-ok w s _ h.same_length h.same-bound fit fit.deep c' rep (subst Ascending e h.ascends).1
      (deep (depth_of image) h.known).1 (omega (arith, h.few, ap length e)))
      refl gone (omega arith)
  turned w c h k (end n s e m g fit) = same refl refl

  turn_of_lem : (w : Walk) (c : Conf) → Walks image B w c → pot c ≤ length image → Turn (step w image)
  unfolding said_by number_of keys_of is_end moved_on pick
  turn_of_lem w c h k = by-step image B Kind-ok len-ok w c h k Turn (λ e o. same refl refl) (λ e r. turned w c h k)

  -- a walk that is not ended makes a move
  moves-one : (w : Walk) (c : Conf) → Walks image B w c → pot c ≤ length image → is_ended w.state ≡ false → 0 < (step w image).moves
  unfolding finished
  moves-one w c h k f =
      by-step image B Kind-ok len-ok w c h k (λ (s : Stepped). 0 < s.moves) (λ e o. absurd (true≢false (sym (ap is_ended e) ∙ f))) (λ e r. go)
    where
      go : {r : Ran} → Came image B.kind bytes c 0 r → 0 < (finished w r).moves
      go (out x c' last n s e m g fit deep rep key at) = m
      go (end n s e m g fit) = m

  -- of a walk that is ended nothing is left
  ended-left : (w : Walk) (c : Conf) → Walks image B w c → w.state ≡ Ended → left (admitted B) c ≡ []
  unfolding left rest front
  ended-left w c h e = go c h.stage
    where
      go : (d : Conf) → Stage image B w d → left (admitted B) d ≡ []
      go d (ended f) = refl
      go d (going f rep) = absurd (true≢false (sym (ap is_ended e) ∙ f))

  -- A STEP over other bytes is declined by both.
  abbrev Foreign21 : Walk → List ℕ → Type 0
  Foreign21 w lent = step w lent ≡ declined_with WalkRange w

  foreign_of : (w : Walk) (c : Conf) → Walks image B w c → (lent : List ℕ) → (length lent ≡ length image → ⊥) → Foreign21 w lent
  foreign_of w c h lent e = other_length w lent (λ d. e (d ∙ h.same_length))

  -- NOTHING IS LEFT of either walk: both say none without end.
  both-none : (calls : List Call) → Lent image calls → (w v : Walk) (c d : Conf) → Walks image B w c → Walks image B v d
      → left (admitted B) c ≡ [] → left (admitted B) d ≡ [] → pot c ≤ length image → pot d ≤ length image
      → said (steps w calls) ≡ said (steps_on v calls)
  unfolding Lent steps steps_on said head_said tail_of
  both-none [] l w v c d h g u z k j = refl
  both-none (call ∷ rest) (inl e, l) w v c d h g u z k j =
      let q : Paid image B c w.handed (step w image) = pays image B Kind-ok len-ok w c h k in
      let p : Paid image B d v.handed (step v image) = pays image B Kind-ok len-ok v d g j in
      let o : said_by (step v image) ≡ none = p.head ∙ ap head_said z in
      let ih = both-none rest l (step w image).walk (step v image).walk q.to p.to q.walks p.walks (q.tail ∙ ap tail_of u) (p.tail ∙ ap tail_of z)
      (omega (arith, q.cost)) (omega (arith, p.cost)) in
      rw (step_as_lem call.form w call.bytes, e, on_none v image o) (cc (q.head ∙ ap head_said u, o, ih))
  both-none (call ∷ rest) (inr e, l) w v c d h g u z k j =
      rw (step_as_lem call.form w call.bytes, foreign_of w c h call.bytes e, on-foreign v call.bytes (foreign_of v d g call.bytes e))
      (cc (says-21 w, says-21 v, both-none rest l w v c d h g u z k j))

  -- THE END IS OUT: the walk here is ended; there it makes a move or more to its none.
  record Parted (now before : List Stepped) : Type 0 where
    fewer : is_any is_none (said now) ≡ true → moves_of (up_to_none now) < moves_of (up_to_none before)
    else_same : is_any is_none (said now) ≡ false → moves_of (up_to_none now) ≡ moves_of (up_to_none before)

  parted : (calls : List Call) → Lent image calls → (w v : Walk) (c d : Conf) → Walks image B w c → w.state ≡ Ended → Walks image B v d
      → is_ended v.state ≡ false → left (admitted B) d ≡ [] → pot d ≤ length image → Parted (steps w calls) (steps_on v calls)
  unfolding Lent steps steps_on said is_any head_said is_none
  parted [] l w v c d h s g n z k = record { fewer = λ e. absurd (false≢true e); else_same = λ e. refl }
  parted (call ∷ rest) (inl e, l) w v c d h s g n z k =
      let p : Paid image B d v.handed (step v image) = pays image B Kind-ok len-ok v d g k in
      let o : said_by (step v image) ≡ none = p.head ∙ ap head_said z in
      rw (step_as_lem call.form w call.bytes, e, ← step_ended w image (walk_ok_lem image B Kind-ok len-ok w c h) (ap is_ended s), on_none v image o)
      (record {
        fewer = λ t. omega (arith, up_none _ (steps w rest) (says_none w), up_none (step v image) (steps_on (step v image).walk rest) (ap is_none o), moves-one v d g k n);
        else_same = λ t. absurd (true≢false (rw (says_none w) at t));
      })
  parted (call ∷ rest) (inr e, l) w v c d h s g n z k =
      let ih = parted rest l w v c d h s g n z k in
      let i = up_more _ (steps w rest) (ap is_none (says-21 w)) in
      let j = up_more _ (steps_on v rest) (ap is_none (says-21 v)) in
      rw (step_as_lem call.form w call.bytes, foreign_of w c h call.bytes e, on-foreign v call.bytes (foreign_of v d g call.bytes e))
      (record {
        fewer = λ t. omega (arith, i, j, ih.fewer (rw (says-21 w) at t));
        else_same = λ t. omega (arith, i, j, ih.else_same (rw (says-21 w) at t));
      })

  -- a step that says none: nothing was left, and no end is handed out behind it
  none_left : (l : List Pair) → is_none (head_said l) ≡ true → l ≡ []
  unfolding is_none head_said
  none_left [] e = refl
  none_left (x ∷ l) e = absurd (false≢true e)

  none-behind : (calls : List Call) → Lent image calls → (w : Walk) (c : Conf) → Walks image B w c → left (admitted B) c ≡ [] → pot c ≤ length image
      → is_any ends (said (steps w calls)) ≡ false
  none-behind calls l w c h z k =
      rw ((all-steps image B Kind-ok len-ok calls l w c h k).0, z) (none-due B.kind bytes (own image calls))

  -- ONE STEP over the image before others, of which the claim holds
  module _ (w : Walk) (c : Conf) (h : Walks image B w c) (k : pot c ≤ length image) (rest : List Call) (l : Lent image rest)
      (ih : StopsAtEnd B.kind bytes (steps (step w image).walk rest) (steps_on (step w image).walk rest)) where
    abbrev s : Stepped
    s = step w image

    q : Paid image B c w.handed s
    q = pays image B Kind-ok len-ok w c h k

    low : pot q.to ≤ length image
    low = omega (arith, q.cost)

    -- none: no end is handed out behind it
    at_none : is_none (said_by s) ≡ true → ends (said_by s) ≡ false → StopsAtEnd B.kind bytes (s ∷ steps s.walk rest) (s ∷ steps_on s.walk rest)
    unfolding said is_any head_said tail_of
    at_none n f =
        let empty : left (admitted B) c ≡ [] = none_left (left (admitted B) c) (ap is_none (sym q.head) ∙ n) in
        let behind = none-behind rest l s.walk q.to q.walks (q.tail ∙ ap tail_of empty) low in
        record {
          answers = ap {B = List Said} (λ t. said_by s ∷ t) ih.answers;
          fewer = λ t u. absurd (false≢true (rw (f, behind) at u));
          else_same = λ t. up_none s (steps s.walk rest) n ∙ sym (up_none s (steps_on s.walk rest) n);
        }

    -- a key that is not the end
    at_key : is_none (said_by s) ≡ false → ends (said_by s) ≡ false → StopsAtEnd B.kind bytes (s ∷ steps s.walk rest) (s ∷ steps_on s.walk rest)
    unfolding said is_any
    at_key n f =
        let i = up_more s (steps s.walk rest) n in
        let j = up_more s (steps_on s.walk rest) n in
        record {
          answers = ap {B = List Said} (λ t. said_by s ∷ t) ih.answers;
          fewer = λ t u. omega (arith, i, j, ih.fewer (rw n at t) (rw f at u));
          else_same = λ t. omega (arith, i, j, ih.else_same (rw (n, f) at t));
        }

    -- the end
    at_end_lem : (d : Conf) → is_none (said_by s) ≡ false → ends (said_by s) ≡ true → s.walk.state ≡ Ended → said_by (moved_on s) ≡ said_by s
        → Walks image B (moved_on s).walk d → is_ended (moved_on s).walk.state ≡ false → left (admitted B) d ≡ [] → pot d ≤ length image
        → StopsAtEnd B.kind bytes (s ∷ steps s.walk rest) (moved_on s ∷ steps_on (moved_on s).walk rest)
    unfolding said is_any
    at_end_lem d n f st sb wv nv z j =
        let p = parted rest l s.walk (moved_on s).walk q.to d q.walks st wv nv z j in
        let a = both-none rest l s.walk (moved_on s).walk q.to d q.walks wv (ended-left s.walk q.to q.walks st) z low j in
        let i = up_more s (steps s.walk rest) n in
        let o = up_more (moved_on s) (steps_on (moved_on s).walk rest) (ap is_none sb ∙ n) in
        record {
          answers = cc (sb, a);
          fewer = λ t u. omega (arith, i, o, on-moves s, p.fewer (rw n at t));
          else_same = λ t. omega (arith, i, o, on-moves s, p.else_same (sym (and-true _) ∙ rw (n, f) at t));
        }

    one-step : Turn s → StopsAtEnd B.kind bytes (s ∷ steps s.walk rest) (moved_on s ∷ steps_on (moved_on s).walk rest)
    one-step (same e f) = rw e (by_test (is_none (said_by s)) (λ n. at_none n f) (λ n. at_key n f))
    one-step (parts d n f st sb wv nv z j) = at_end_lem d n f st sb wv nv z j

  -- EVERY LIST OF STEPS
  stops : (calls : List Call) → Lent image calls → (w : Walk) (c : Conf) → Walks image B w c → pot c ≤ length image
      → StopsAtEnd B.kind bytes (steps w calls) (steps_on w calls)
  unfolding Lent steps steps_on step_on said is_any is_none is_end
  stops [] l w c h k = record { answers = refl; fewer = λ e. absurd (false≢true e); else_same = λ e. refl }
  stops (call ∷ rest) (inl e, l) w c h k =
      let q : Paid image B c w.handed (step w image) = pays image B Kind-ok len-ok w c h k in
      rw (step_as_lem call.form w call.bytes, e)
      (one-step w c h k rest l (stops rest l (step w image).walk q.to q.walks (omega (arith, q.cost))) (turn_of_lem w c h k))
  stops (call ∷ rest) (inr e, l) w c h k =
      let ih = stops rest l w c h k in
      let f = foreign_of w c h call.bytes e in
      let i = up_more _ (steps w rest) (ap is_none (says-21 w)) in
      let j = up_more _ (steps_on w rest) (ap is_none (says-21 w)) in
      rw (step_as_lem call.form w call.bytes, on-foreign w call.bytes f, f)
      (record {
        answers = ap {B = List Said} (λ t. said_by (declined_with WalkRange w) ∷ t) ih.answers;
        fewer = λ t u. omega (arith, i, j, ih.fewer (rw (says-21 w) at t) (rw (says-21 w) at u));
        else_same = λ t. omega (arith, i, j, ih.else_same (rw (says-21 w) at t));
      })

-- the bound that a placing keeps has the end of the one that was given
same_end : (kind : ℕ) (bound : List ℕ) (l : List Said)
    → is_any (is_end (bound_of kind bound).kind (take (bound_of kind bound).len (bound_of kind bound).key)) l ≡ is_any (is_end kind bound) l
unfolding is_any is_end at_end
same_end kind bound [] = refl
same_end kind bound (hands_out x ∷ l) = cc (ap (λ (t : List ℕ → Tested). is_last (t x.key).side) (bound_tests kind bound), same_end kind bound l)
same_end kind bound (none ∷ l) = same_end kind bound l
same_end kind bound (declines n ∷ l) = same_end kind bound l

-- THE THEOREM, of a placing over an image whose check gives 0 and any list of steps of either form, lent that image or bytes of another length.
pub stops-at_end : (image : List ℕ) → ((i : ℕ) → get_or image i 0 < 256) → check_number (check image) ≡ 0
    → (mode : StartMode) (cursor : List ℕ) → ((i : ℕ) → get_or cursor i 0 < 256) → (kind : ℕ) (bound : List ℕ)
    → (place image mode cursor kind bound).declined ≡ None → (calls : List Call) → Lent image calls
    → (let w = (place image mode cursor kind bound).walk in StopsAtEnd kind bound (steps w calls) (steps_on w calls))
stops-at_end image b a mode cursor bc kind bound e calls l =
    let o = (accepted_obeys image a).0 in
    let t = taken image mode cursor kind bound e in
    let r =
    stops image (bound_of kind bound) (bound-kind kind bound t.1.kinds) (bound-length kind bound t.1.fits) calls l (fresh_walk image mode cursor kind bound)
    (stage image b o mode cursor bc kind bound t.1) (walks image b o mode cursor bc kind bound t.1)
    (omega (arith, few-moves image b o mode cursor bc kind bound t.1, moves-fit image o)) in
    rw t.0
    (record {
      answers = r.answers;
      fewer = λ n u. r.fewer n (same_end kind bound _ ∙ u);
      else_same = λ u. r.else_same (rw (same_end kind bound) u);
    })
