-- Steps of a walk, and every list of them. Proved: a step lent the walk's image says the head of what is left, and one
-- lent another length changes nothing; hence what a list of steps says and carries, and that its moves are no more than the
-- potential. And one loop of moves counts as many keys as are left.
use Rattle.std.specs.Prelude.{◌≡◌, ◌∷◌, ◌+◌, ◌≤◌, None, Ok}
use Rattle.base.specs.Kit.{refl, ap, ap₂, sym, ◌∙◌, subst, List, [], Bool, true, false, not, inl, inr, ℕ, arith, length, take, eq-eqb, ne_eqb}
use Rattle.base.specs.Pick.{pick}
use Rattle.cursor.specs.RangeBound.{contains}
use Rattle.demands.specs.Types.{Held, RangeBound, WalkStateFindNext as FindNext, Ended, HandedOut, Walk, WalkRange, Stepped}
use Rattle.layering.specs.Keys.{Pair}
use Rattle.layering.specs.Depths.{depth_of}
use Rattle.layering.specs.Ascending.{Ascending}
use Rattle.layering.proofs.Sieve.{front, front_passes}
use Rattle.layering.proofs.Bound.{end-is-last}
use Rattle.layering.proofs.Walk.{Conf, over, rest, KnownAt, left, pot}
use Rattle.moves.specs.CodeMoves.{InRange}
use Rattle.walk.specs.Walk.{number_of, keys_of, len_of, value_of, nothing_yet, one_more, in_range, walk_ok}
use Rattle.walk.proofs.NumberLaws.{fits-walk}
use Rattle.scan.specs.Machine.{Ran, run, is_ended, ctx_of, scan_of, walk_of, declined_with, answered, finished, advance, step}
use Rattle.scan.specs.CodeLoop.{run_by, all_by, keys_ahead, keys_left}
use Rattle.lent.proofs.Same.{step_as_lem}
use Rattle.demands.specs.Demand.{Call, steps, Lent, Said, hands_out, declines, said_by, said, moves_of, own, head_said, tail_of, due, Foreign}
use Rattle.demands.specs.HandedOut.{handed_by, head_handed, due_handed}
use Rattle.demands.proofs.Relation.{resumed, Rep}
use Rattle.demands.proofs.Run.{Came, out, end, comes}
use Rattle.demands.proofs.Tally.{counts}

-- ANOTHER LENGTH is declined, and the walk is as it came.
pub other_length : (w : Walk) (lent : List ℕ) → (length lent ≡ w.image_len → ⊥)
    → step w lent ≡ declined_with WalkRange w
unfolding step walk_ok in_range pick
other_length w lent h = rw (ne_eqb w.image_len (length lent) (λ e. h (sym e)))

-- What a walk's bound admits.
abbrev pub admitted : RangeBound → List ℕ → Bool
admitted B = contains B.kind (take B.len B.key)

-- A walk between calls stands where the walk over rows stands, or both are at their end. B is its bound.
module _ (image : List ℕ) (B : RangeBound) where
  pub data Stage (w : Walk) : Conf → Type 0 where
    ended : w.state ≡ Ended → Stage w over
    going : {c : Conf} → is_ended w.state ≡ false → Rep image B.kind (take B.len B.key) (scan_of w) c
        → Stage w c

  pub record Walks (w : Walk) (c : Conf) : Type 0 where
    pub same_length : w.image_len ≡ length image
    pub same-bound : w.bound ≡ B
    pub fit : InRange w.depth (ctx_of w)
    pub stage : Stage w c
    pub ascends : Ascending (left (admitted B) c)
    pub known : KnownAt (depth_of image) c
    pub few : w.handed.count + length (left (admitted B) c) ≤ length image
    pub last_fits : w.handed.depth ≤ 31

  -- What a step of it comes to, h handed out before: the head of what was left is said and carried, its tail is left, and the potential pays for
  -- the moves.
  pub record Paid (c : Conf) (h : HandedOut) (t : Stepped) : Type 0 where
    pub to : Conf
    pub walks : Walks t.walk to
    pub head : said_by t ≡ head_said (left (admitted B) c)
    pub tail : left (admitted B) to ≡ tail_of (left (admitted B) c)
    pub carries : t.handed ≡ head_handed image (left (admitted B) c) h
    pub keeps : t.walk.handed ≡ t.handed
    pub cost : t.moves + pot to ≤ pot c

  module _ (Kind-ok : B.kind ≤ 2) (len-ok : B.len ≤ 256) where
    pub walk_ok_lem : (w : Walk) (c : Conf) → Walks w c → walk_ok w (length image) ≡ true
    walk_ok_lem w c h =
        fits-walk w (length image)
        (record {
          length-is = h.same_length;
          depth-fits = h.fit.deep;
          offset-is = h.fit.place;
          end_fits = h.fit.within;
          position-fits = h.fit.position;
          kind_fits = subst (λ (z : RangeBound). z.kind ≤ 2) (sym h.same-bound) Kind-ok;
          bound-fits = subst (λ (z : RangeBound). z.len ≤ 256) (sym h.same-bound) len-ok;
          last_fits = h.last_fits;
          count_fits = omega (arith, h.few);
        })

    -- the walk after a run, with h handed out: it goes on behind a key, or is ended
    module _ (w : Walk) (s : Held) (h : HandedOut) (a : w.image_len ≡ length image) (b : w.bound ≡ B) (fit : InRange s.ctx.depth s.ctx) (deep : h.depth ≤ 31) where
      pub goes_on_lem : (c : Conf) → Rep image B.kind (take B.len B.key) (resumed s) c → Ascending (left (admitted B) c) → KnownAt (depth_of image) c
          → h.count + length (left (admitted B) c) ≤ length image → Walks (walk_of w FindNext h s) c
      unfolding scan_of resumed
      goes_on_lem c rep asc known few = record {
        same_length = a;
        same-bound = b;
        fit = record { place = fit.place; deep = fit.deep; within = fit.within; position = fit.position };
        stage = going refl rep;
        ascends = asc;
        known = known;
        few = few;
        last_fits = deep;
      }

      is_over_lem : h.count ≤ length image → Walks (walk_of w Ended h s) over
      unfolding left rest front Ascending KnownAt
      is_over_lem few = record {
        same_length = a;
        same-bound = b;
        fit = record { place = fit.place; deep = fit.deep; within = fit.within; position = fit.position };
        stage = ended refl;
        ascends = tt;
        known = tt;
        few = omega arith;
        last_fits = deep;
      }

    -- a run is over: with a key, which at the included end is the last that is left; or with none
    finishes : (w : Walk) (c : Conf) → Walks w c → {r : Ran} → Came image B.kind (take B.len B.key) c 0 r → Paid c w.handed (finished w r)
    unfolding finished said_by number_of keys_of len_of value_of pick head_said head_handed tail_of left rest front pot Ascending
    finishes w c v (out x c' false n s e m h fit deep rep key at) =
        let d = deep (depth_of image) v.known in
        record {
          to = c';
          walks = goes_on_lem w s _ v.same_length v.same-bound fit fit.deep c' rep (subst Ascending e v.ascends).1 d.1 (omega (arith, v.few, ap length e));
          head = ap (λ (t : List ℕ). hands_out (record { key = t; value = x.value })) (sym key) ∙ ap head_said (sym e);
          tail = ap tail_of (sym e);
          carries = ap (one_more w.handed) (sym d.0) ∙ ap (λ (l : List Pair). head_handed image l w.handed) (sym e);
          keeps = refl;
          cost = omega arith;
        }
    finishes w c v (out x c' true n s e m h fit deep rep key at) =
        let d = deep (depth_of image) v.known in
        record {
          to = over;
          walks = is_over_lem w s _ v.same_length v.same-bound fit fit.deep (omega (arith, v.few, ap length e));
          head = ap (λ (t : List ℕ). hands_out (record { key = t; value = x.value })) (sym key) ∙ ap head_said (sym e);
          tail = sym (end-is-last B.kind (take B.len B.key) x (left (admitted B) c') (subst Ascending e v.ascends) (front_passes (admitted B) (rest c')) (sym at)) ∙ ap tail_of (sym e);
          carries = ap (one_more w.handed) (sym d.0) ∙ ap (λ (l : List Pair). head_handed image l w.handed) (sym e);
          keeps = refl;
          cost = omega arith;
        }
    finishes w c v (end n s e m h fit) = record {
      to = over;
      walks = is_over_lem w s _ v.same_length v.same-bound fit v.last_fits (omega (arith, v.few));
      head = ap head_said (sym e);
      tail = ap tail_of (sym e);
      carries = ap (λ (l : List Pair). head_handed image l w.handed) (sym e);
      keeps = refl;
      cost = omega arith;
    }

    -- A STEP is none where the walk is ended, and else what its run comes to.
    module _ (w : Walk) (c : Conf) (h : Walks w c) (k : pot c ≤ length image) (P : Stepped → Type 0)
        (none : w.state ≡ Ended → c ≡ over → P (answered (Ok None) 0 w))
        (runs : is_ended w.state ≡ false → (r : Ran) → Came image B.kind (take B.len B.key) c 0 r → P (finished w r)) where
      in_stage : (d : Conf) → c ≡ d → Stage w d → P (pick (is_ended w.state) (answered (Ok None) 0 w) (advance w image))
      unfolding advance pick
      in_stage d q (ended e) = rw (ap is_ended e) (none e q)
      in_stage d q (going e rep) =
          rw e
          (subst (λ (z : RangeBound). P (finished w (run image z.kind (take z.len z.key) (length image) 0 (scan_of w)))) (sym h.same-bound)
          (runs e _ (comes image B.kind (take B.len B.key) (length image) 0 (scan_of w) c (subst (Rep image B.kind (take B.len B.key) (scan_of w)) (sym q) rep) k)))

      pub by-step : P (step w image)
      unfolding step pick
      by-step = rw (walk_ok_lem w c h) (in_stage c refl h.stage)

    pub pays : (w : Walk) (c : Conf) → Walks w c → pot c ≤ length image → Paid c w.handed (step w image)
    unfolding said_by number_of keys_of head_said head_handed tail_of left rest front pot pick Ascending KnownAt
    pays w c h k =
        by-step w c h k (Paid c w.handed)
        (λ e o. rw o (record {
          to = over;
          walks = record {
            same_length = h.same_length;
            same-bound = h.same-bound;
            fit = h.fit;
            stage = ended e;
            ascends = tt;
            known = tt;
            few = omega (arith, h.few);
            last_fits = h.last_fits;
          };
          head = refl;
          tail = refl;
          carries = refl;
          keeps = refl;
          cost = omega arith;
        }))
        (λ e r. finishes w c h)

    -- ALL MOVES IN ONE LOOP: as many keys as are left
    keys_in : (w : Walk) (c : Conf) → w.bound ≡ B → Ascending (left (admitted B) c) → pot c ≤ length image → Stage w c
        → pick (not (is_ended w.state)) (keys_ahead w image) 0 ≡ length (left (admitted B) c)
    unfolding keys_ahead all_by left rest front pick
    keys_in w c b asc k (ended e) = rw e
    keys_in w c b asc k (going e rep) =
        rw e
        (subst
        (λ (z : RangeBound). (run_by true image z.kind (take z.len z.key) (length image) 0 0 (scan_of w)).keys
        ≡ length (left (admitted B) c)) (sym b)
        (omega (arith, counts image B.kind (take B.len B.key) (length image) 0 0 (scan_of w) c rep asc k)))

    pub keys-left : (w : Walk) (c : Conf) → Walks w c → pot c ≤ length image
        → keys_left w image ≡ length (left (admitted B) c)
    unfolding keys_left
    keys-left w c h k = rw (walk_ok_lem w c h) (keys_in w c h.same-bound h.ascends k h.stage)

    -- EVERY LIST OF STEPS
    pub all-steps : (calls : List Call) → Lent image calls → (w : Walk) (c : Conf) → Walks w c
        → pot c ≤ length image
        → (said (steps w calls) ≡ due (own image calls) (left (admitted B) c)) × Foreign image w calls × (moves_of (steps w calls) ≤ pot c)
        × (handed_by (steps w calls) ≡ due_handed image (own image calls) (left (admitted B) c) w.handed)
    unfolding Lent steps said moves_of own due Foreign number_of pick said_by handed_by due_handed
    all-steps [] l w c h k = (refl, tt, omega arith, refl)
    all-steps (call ∷ rest) (inl e, l) w c h k =
        let q : Paid c w.handed (step w image) = pays w c h k in
        let ih = all-steps rest l (step w image).walk q.to q.walks (omega (arith, q.cost)) in
        rw (step_as_lem call.form w call.bytes, e, eq-eqb (length image) (length image) refl) (
          cc (q.head, q.tail, ih.0),
          (λ f. absurd (f refl), ih.1),
          omega (arith, q.cost, ih.2),
          ap₂ {C = List HandedOut} (λ h t. h ∷ t) q.carries (ih.3 ∙ ap₂ (due_handed image (own image rest)) q.tail (q.keeps ∙ q.carries)),
        )
    all-steps (call ∷ rest) (inr e, l) w c h k =
        let ih = all-steps rest l w c h k in
        rw (
          step_as_lem call.form w call.bytes,
          other_length w call.bytes (λ d. e (d ∙ h.same_length)),
          ne_eqb (length call.bytes) (length image) e,
        )
        (ap {B = List Said} (λ t. declines 21 ∷ t) ih.0, (λ f. (refl, refl, refl), ih.1), omega (arith, ih.2), ap {B = List HandedOut} (λ t. nothing_yet ∷ t) ih.3)
