-- One turn of the loop: what it holds before it, what it holds past the moves along a leaf, and what each outcome of its move comes to. The moves that are left always come to what all of them come to.
use Rattle.std.specs.Prelude.{◌≡◌, ◌⊎◌, ◌+◌, ◌-◌, ◌≤◌, ◌<◌, Some, None, Ok, Err}
use Rattle.base.specs.Kit.{refl, inl, inr, sym, ◌∙◌, ap, subst, Bool, true, false, false≢true, and-eq-true_iff, List, ℕ, arith, sub-zero, not-true, eqb-true, length}
use Rattle.base.proofs.Choice.{pick-on, pick_off}
use Rattle.key.specs.Part.{part}
use Rattle.search.specs.Traversal.{leaf_there}
use Rattle.moves.specs.CodeMoves.{InRange}
use Rattle.scan.specs.Types.{Held, ScanState, ScanStateStart as Start, ScanStateRetry as Retry, ScanStateFindNext as FindNext, Down, Up, ScanCtx, Outcome, Continue, Push, Emit, Exhausted, Walk, Answer, Decline, MovesSpent, Along}
use Rattle.moves.proofs.Laws.{Between}
use Rattle.walk.specs.Walk.{walk_ok}
use Rattle.scan.specs.Machine.{is_up, move, scan_state, scan_of, key_out, finished}
use Rattle.scan.specs.CodeLoop.{counted, Run, came_to, goes_on, emitted_by, after_by, run_by, all_by, advance_by, advanced_of, is_next, is_along, AfterKey, AlongFrom}
use Rattle.walk.specs.declared.scan_state.WalkState.TheVariants as walk
use Rattle.scan.proofs.BeginLaws.{starts_between}
use Rattle.scan.proofs.Kept.{Long, Going, move-kept}
use Rattle.scan.proofs.RunLaws.{turn}

next_state : (state : ScanState) → is_next state ≡ true → state ≡ FindNext
next_state (Start mode) e = absurd (false≢true e)
next_state Retry e = absurd (false≢true e)
next_state FindNext e = refl
next_state Down e = absurd (false≢true e)
next_state Up e = absurd (false≢true e)

-- a whole walk right after a key
pub along_so : (c : ScanCtx) (whole : Bool) → is_along c whole ≡ true → (whole ≡ true) × AfterKey c
unfolding is_along
along_so c whole e =
    let l = (and-eq-true_iff _ _).0 e in
    let d = (and-eq-true_iff _ _).0 l.0 in
    let n = (and-eq-true_iff _ _).0 d.0 in
    (n.0, record { next = next_state c.state n.1; not-due = not-true c.dup d.1; last-is = eqb-true _ _ l.1 })

module _ (whole : Bool) (w : Walk) (image : List ℕ) (kind : ℕ) (bound : List ℕ) where
  -- the moves that are left, n of them
  abbrev left : ℕ → ℕ → ℕ → Held → Run
  left = run_by whole image kind bound

  -- What the loop holds after some moves.
  pub record Midway (s : Held) (moves keys : ℕ) (tested : Bool) : Type 0 where
    pub within : moves ≤ length image
    pub few : keys ≤ moves
    pub same : left (length image - moves) keys moves s ≡ all_by whole w image
    pub fits : Between s.ctx.state s.ctx
    pub long : Long s
    pub known : tested ≡ true → (s.ctx.state ≡ FindNext) × (leaf_there image s.ctx.leaf ≡ true)

  -- It has made a move with the outcome out, and holds u now.
  pub record Made (out : Outcome) (u : Held) (moves keys : ℕ) : Type 0 where
    pub within : moves + 1 ≤ length image
    pub few : keys ≤ moves
    pub goes : (o : Outcome) → out ≡ o → Going image kind bound (Ok o) u
    pub long : Long u
    pub same : (o : Outcome) → out ≡ o
        → after_by whole (Ok o) (counted (Ok o) keys) (moves + 1) u (left (length image - (moves + 1)) (counted (Ok o) keys) (moves + 1) u) ≡ all_by whole w image

  -- What all the moves come to.
  abbrev pub Comes : Run → Type 0
  Comes r = advanced_of w r ≡ advance_by whole w image

  comes : (r : Run) → r ≡ all_by whole w image → Comes r
  unfolding advance_by
  comes r e = ap (advanced_of w) e

  -- before the first move
  pub begins : walk_ok w (length image) ≡ true → Long (scan_of w) → kind ≡ w.bound.kind → bound ≡ part w.bound.key 0 w.bound.len
      → (begun : Bool) → (begun ≡ true → (w.state ≡ walk.FindNext) × (leaf_there image w.leaf ≡ true)) → Midway (scan_of w) 0 0 begun
  unfolding part scan_of all_by
  begins ok l k b begun t = record {
    within = omega arith;
    few = omega arith;
    same = rw (k, b, sub-zero);
    fits = starts_between w (length image) ok;
    long = l;
    known = λ e. (ap (scan_state w.mode) (t e).0, (t e).1);
  }

  -- In a turn, past the moves along a leaf: a move is left, and none of those that were made before the turn is lost.
  pub record Turning (before : ℕ) (s : Held) (moves keys : ℕ) (tested : Bool) : Type 0 where
    pub held : Midway s moves keys tested
    pub more : moves < length image
    pub grows : before ≤ moves

  -- where none was made
  pub not_along : (s : Held) (moves keys : ℕ) (tested : Bool) → Midway s moves keys tested → moves < length image
      → (t : Held) (moves' keys' : ℕ) (tested' : Bool) → t ≡ s → moves' ≡ moves → keys' ≡ keys → tested' ≡ tested
      → Turning moves t moves' keys' tested'
  not_along s moves keys tested h more t moves' keys' tested' es em ek et =
      rw (es, em, ek, et) (record { held = h; more = more; grows = omega arith })

  -- ALONG A LEAF: a is what the moves along it came to, and b the buffer
  module _ (s : Held) (moves keys : ℕ) (tested : Bool) (h : Midway s moves keys tested) (e : is_along s.ctx whole ≡ true) where
    pub in-layer : InRange s.ctx.depth s.ctx
    in-layer = subst (λ (x : ScanState). Between x s.ctx) (along_so s.ctx whole e).1.next h.fits

    module _ (a : Along) (b : List ℕ) (f : AlongFrom image kind bound s.buf s.ctx keys moves a b) where
      all_so : (t : Bool) → whole ≡ t → run_by t image kind bound (length image - moves) keys moves s ≡ all_by whole w image
      all_so t u = ap (λ (x : Bool). run_by x image kind bound (length image - moves) keys moves s) (sym u) ∙ h.same

      -- the loop goes on with a move that has tested its leaf
      pub along-on : a.end ≡ None
          → (t : Held) (moves' keys' : ℕ) (tested' : Bool) → t ≡ record { ctx = a.ctx; buf = b; stack = s.stack } → moves' ≡ a.moves → keys' ≡ a.keys → tested' ≡ true
          → Turning moves t moves' keys' tested'
      along-on g t moves' keys' tested' es em ek et =
          rw (es, em, ek, et) (record {
            held = record {
              within = f.within;
              few = f.few;
              same =
                  ap (λ (t : Bool). run_by t image kind bound (length image - a.moves) a.keys a.moves (record { ctx = a.ctx; buf = b; stack = s.stack })) (along_so s.ctx whole e).0
                  ∙ rw g at (f.same s.stack) ∙ all_so true (along_so s.ctx whole e).0;
              fits = subst (λ (x : ScanState). Between x a.ctx) (sym f.after.next) f.in_range_lem;
              long = (f.long, h.long.1);
              known = λ t. (f.after.next, (f.tested g).1);
            };
            more = (f.tested g).0;
            grows = f.grows;
          })

      -- the loop ends with an answer
      pub along_ends : (answer : Answer) → a.end ≡ Some answer → Comes (came_to answer false a.keys a.moves (record { ctx = a.ctx; buf = b; stack = s.stack }))
      along_ends answer g = comes _ (rw g at (f.same s.stack) ∙ all_so true (along_so s.ctx whole e).0)

  module _ (s : Held) (moves keys : ℕ) (tested : Bool) (h : Midway s moves keys tested) where
    -- no move is left
    pub none : length image ≤ moves → Comes (came_to (Err MovesSpent) false keys moves s)
    unfolding run_by
    none l = let z : length image - moves ≡ 0 = omega arith in comes _ (rw z at h.same)

    module _ (more : moves < length image) where
      -- the move is declined; what the loop holds then is not told
      pub declines : (d : Decline) → (move image kind bound s).outcome ≡ Err d → (u : Held) → Comes (came_to (Err d) false keys (moves + 1) u)
      unfolding after_by counted finished
      declines d e u = comes _ (sym (turn image kind bound whole moves keys s (Err d) (move image kind bound s).scan more (rw (← e))) ∙ h.same)

      -- it is made
      pub made : (out : Outcome) (u : Held) → move image kind bound s ≡ record { outcome = Ok out; scan = u } → Made out u moves keys
      made out u e =
          let k = rw e at (move-kept image kind bound s h.fits h.long (is_up s.ctx.state) refl) in
          record {
            within = omega arith;
            few = h.few;
            goes = λ o g. subst (λ (x : Outcome). Going image kind bound (Ok x) u) g k.0;
            long = k.1;
            same = λ o g. sym (turn image kind bound whole moves keys s _ _ more (rw (e, g))) ∙ h.same;
          }

  module _ (out : Outcome) (u : Held) (moves keys : ℕ) (m : Made out u moves keys) where
    -- the loop goes on, with n keys out
    on : (n : ℕ) → n ≤ keys + 1 → left (length image - (moves + 1)) n (moves + 1) u ≡ all_by whole w image → Between u.ctx.state u.ctx → Midway u (moves + 1) n false
    on n l e h = record { within = m.within; few = omega (arith, m.few); same = e; fits = h; long = m.long; known = λ f. absurd (false≢true f) }

    pub goes_on_lem : (out ≡ Continue) ⊎ ((root : ℕ) × (out ≡ Push root)) → Midway u (moves + 1) keys false
    unfolding after_by counted
    goes_on_lem (inl e) = on keys (omega arith) (m.same Continue e) (m.goes Continue e)
    goes_on_lem (inr e) = on keys (omega arith) (m.same (Push e.0) e.1) (m.goes (Push e.0) e.1)

    -- a key is counted, and the loop goes on
    pub counts : (value : ℕ) (last : Bool) → out ≡ Emit value last → whole ≡ true → last ≡ false → Midway u (moves + 1) (keys + 1) false
    unfolding after_by counted
    counts value last e t f =
        on (keys + 1) (omega arith)
        (pick-on _ (goes_on whole last) refl _ _ _ (ap (λ (x : Bool). goes_on x last) t ∙ ap (goes_on true) f) refl ∙ m.same (Emit value last) e)
        (m.goes (Emit value last) e).1

    -- a key is out: a step hands it out, and a count is at its end with the last
    pub fits_key : (value : ℕ) (last : Bool) → out ≡ Emit value last → u.ctx.cursor.offset + u.ctx.cursor.len ≤ 256
    fits_key value last e = (m.goes (Emit value last) e).0.in_range_lem.within

    out_of : (value : ℕ) (last : Bool) → out ≡ Emit value last → goes_on whole last ≡ false
        → emitted_by whole value last (keys + 1) (moves + 1) u ≡ all_by whole w image
    unfolding after_by counted
    out_of value last e t = pick_off _ (goes_on whole last) refl _ _ _ t refl ∙ m.same (Emit value last) e

    pub emits : (value : ℕ) (last : Bool) → out ≡ Emit value last → whole ≡ false
        → Comes (came_to (key_out (u.ctx.cursor.offset + u.ctx.cursor.len) value) last (keys + 1) (moves + 1) u)
    emits value last e t = comes _ (pick_off _ whole refl _ _ _ t refl ∙ out_of value last e (ap (λ (x : Bool). goes_on x last) t))

    pub counts_last : (value : ℕ) (last : Bool) → out ≡ Emit value last → whole ≡ true → last ≡ true → Comes (came_to (Ok None) false (keys + 1) (moves + 1) u)
    counts_last value last e t f = comes _ (pick-on _ whole refl _ _ _ t refl ∙ out_of value last e (ap (λ (x : Bool). goes_on x last) t ∙ ap (goes_on true) f))

    -- the walk is at its end
    pub exhausts : out ≡ Exhausted → Comes (came_to (Ok None) false keys (moves + 1) u)
    unfolding after_by counted
    exhausts e = comes _ (m.same Exhausted e)
