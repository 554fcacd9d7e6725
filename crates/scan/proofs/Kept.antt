-- What a run of moves keeps, over any bytes: the lengths of buffer and stack, and where a key is out the range of the numbers, with the key told
-- as the last exactly at the included end.
use Rattle.std.specs.Prelude.{◌≡◌, ◌+◌, ◌<◌, Some, None, Result, Ok, Err}
use Rattle.base.specs.Kit.{refl, sym, subst, Bool, true, false, List, ℕ, zero, suc, arith, eqb, length, length-set, take, eqb-true, eqb-false}
use Rattle.cursor.specs.RangeBound.{at_end}
use Rattle.moves.specs.CodeMoves.{InRange}
use Rattle.moves.proofs.Laws.{Between, Before, After, not_up, popped_in_range, Good, entered_in_range, move_in_range}
use Rattle.moves.proofs.Told.{Told, Passes, move_told}
use Rattle.scan.specs.Types.{Held, ScanState, Up, ScanCtx, Outcome, Continue, Push, Emit, Exhausted, Pass, Decline, LayerContext, Answer}
use Rattle.scan.specs.Machine.{Moved, is_up, pushing, passed_by, popped, unstacked, move, Ran, after, run}
use Rattle.scan.proofs.MoveLaws.{up_state, other_state, pass-is, up_is, end_is}

-- The lengths of what the loop holds.
abbrev pub Long : Held → Type 0
Long s = (length s.buf ≡ 256) × (length s.stack ≡ 31)

module _ (image : List ℕ) (kind : ℕ) (bound : List ℕ) where
  -- A key that is out: cursor and buffer hold it.
  pub record IsOut (len : ℕ) (last : Bool) (s : Held) : Type 0 where
    pub in_range_lem : InRange s.ctx.depth s.ctx
    pub len_is : len ≡ s.ctx.cursor.offset + s.ctx.cursor.len
    pub last-is : last ≡ at_end kind bound (take len s.buf)

  -- Where the loop goes on, its numbers are in range; behind a key it may.
  abbrev pub Going : Result Outcome Decline → Held → Type 0
  Going (Ok Continue) s = Between s.ctx.state s.ctx
  Going (Ok (Push root)) s = Between s.ctx.state s.ctx
  Going (Ok (Emit value last)) s = IsOut (s.ctx.cursor.offset + s.ctx.cursor.len) last s × Between s.ctx.state s.ctx
  Going (Ok Exhausted) s = Unit {0}
  Going (Err d) s = Unit {0}

  abbrev pub Kept : Moved → Type 0
  Kept m = Going m.outcome m.scan × Long m.scan

  -- a pass, and the layer that it found
  pushed : (o : Outcome) (c : ScanCtx) (buf : List ℕ) (stack : List LayerContext) → After o c → Told kind bound o c.cursor buf → length buf ≡ 256
      → length stack ≡ 31 → Kept (pushing o (record { ctx = c; buf = buf; stack = stack }))
  unfolding pushing
  pushed Continue c buf stack h o l t = (h, (l, t))
  pushed (Push root) c buf stack h o l t = (entered_in_range c _ refl refl c.state h.0 h.1 refl, (l, simp length-set t))
  pushed (Emit value last) c buf stack h o l t =
      ((record { in_range_lem = h.1; len_is = refl; last-is = o }, subst (λ (x : ScanState). Between x c) (sym h.0) h.1), (l, t))
  pushed Exhausted c buf stack h o l t = (tt, (l, t))

  passed : (s : Held) (buf : List ℕ) (r : Result Pass Decline) → Good r → Passes kind bound buf r → length buf ≡ 256 → Long s → Kept (passed_by s buf r)
  unfolding passed_by
  passed s buf (Ok p) h o l t = pushed p.outcome p.ctx buf s.stack h o l t.1
  passed s buf (Err d) h o l t = (tt, t)

  module _ (s : Held) (h : Between s.ctx.state s.ctx) (l : Long s) where
    up_range : InRange s.ctx.depth s.ctx → 0 < s.ctx.depth → Before Up (popped s.ctx s.stack)
    up_range r d = popped_in_range s.ctx _ refl refl r d refl

    unstacked-length : length (unstacked s.ctx s.stack) ≡ 31
    unstacked-length = simp length-set l.1

    from_up : is_up s.ctx.state ≡ true → (b : Bool) → eqb s.ctx.depth 0 ≡ b → Kept (move image kind bound s)
    from_up u true e = rw (end_is image kind bound s u (eqb-true _ _ e)) (tt, l)
    from_up u false e =
        let d : s.ctx.depth ≡ 0 → ⊥ = eqb-false _ _ e in
        let up : s.ctx.state ≡ Up = up_state s.ctx.state u in
        let r : InRange s.ctx.depth s.ctx = subst (λ (x : ScanState). Between x s.ctx) up h in
        let p : Before s.ctx.state (popped s.ctx s.stack) =
        subst (λ (x : ScanState). Before x (popped s.ctx s.stack)) (sym up) (up_range r (omega arith)) in
        let m = move_in_range s.ctx.state image kind bound s.buf (popped s.ctx s.stack) p l.0 in
        rw (up_is image kind bound s u d) (passed _ _ _ m.0 (move_told kind bound s.ctx.state image s.buf (popped s.ctx s.stack)) m.1 (l.0, unstacked-length))

    pub move-kept : (b : Bool) → is_up s.ctx.state ≡ b → Kept (move image kind bound s)
    move-kept true u = from_up u (eqb s.ctx.depth 0) refl
    move-kept false u =
        let r = move_in_range s.ctx.state image kind bound s.buf s.ctx (not_up s.ctx.state s.ctx (other_state s.ctx.state u) h) l.0 in
        rw (pass-is image kind bound s u) (passed _ _ _ r.0 (move_told kind bound s.ctx.state image s.buf s.ctx) r.1 l)

  -- THE RUN
  abbrev pub OutBy : Answer → Bool → Held → Type 0
  OutBy (Ok (Some k)) last s = IsOut k.len last s
  OutBy (Ok None) last s = Unit {0}
  OutBy (Err d) last s = Unit {0}

  abbrev pub KeptBy : Ran → Type 0
  KeptBy r = OutBy r.answer r.last r.scan × Long r.scan

  after_kept : (o : Result Outcome Decline) (moves : ℕ) (s : Held) (rest : Ran) → Going o s → Long s
      → (Between s.ctx.state s.ctx → KeptBy rest) → KeptBy (after o moves s rest)
  unfolding after
  after_kept (Ok Continue) moves s rest h l f = f h
  after_kept (Ok (Push root)) moves s rest h l f = f h
  after_kept (Ok (Emit value last)) moves s rest h l f = (h.0, l)
  after_kept (Ok Exhausted) moves s rest h l f = (tt, l)
  after_kept (Err d) moves s rest h l f = (tt, l)

  pub run-kept : (n moves : ℕ) (s : Held) → Between s.ctx.state s.ctx → Long s → KeptBy (run image kind bound n moves s)
  unfolding run
  run-kept zero moves s h l = (tt, l)
  run-kept (suc n) moves s h l =
      let m = move-kept s h l (is_up s.ctx.state) refl in
      after_kept _ _ _ _ m.0 m.1 (λ g. run-kept n (moves + 1) (move image kind bound s).scan g m.1)
