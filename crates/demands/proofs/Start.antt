-- The Start moves of a walk, one for each layer that the cursor's bytes lead into, over an accepted image. Proved: with
-- them the walk comes to a place from which on the row, and the rows stacked on the way, have exactly the keys past the
-- start; and the potential pays for them. The idea: slot by slot the verdict is the test that the row is sieved by
-- (proofs/Verdict.antt); a layer that is entered hands the rest of the cursor on, and the row behind its slot waits.
use Rattle.std.specs.Prelude.{◌≡◌, ◌++◌, ◌+◌, ◌*◌, ◌-◌, ◌^◌, ◌≤◌, ◌<◌, Result, Ok}
use Rattle.base.specs.Kit.{refl, ap, ap₂, sym, ◌∙◌, subst, List, append_assoc, Bool, true, false, ℕ, zero, suc, arith, length, take, drop, set, length-append, length-drop, take-append-drop, take_at, drop_at, take_all, take-take, length-take-le, lt-leb}
use Rattle.base.specs.Pick.{pick}
use Rattle.base.specs.Decline.{and_then}
use Rattle.key.specs.Ikey.{ikey_of, ikey_bytes}
use Rattle.key.specs.Part.{part}
use Rattle.key.proofs.Order.{cmp_prefix}
use Rattle.key.proofs.Bytes.{Bytes, bytes_take, bytes_drop}
use Rattle.key.proofs.Ikey.{rank, be-take, ikey_bytes-length, ikey_bytes-ikey_of}
use Rattle.node.specs.Layout.{value_at}
use Rattle.demands.specs.Types.{Held, Slot, CursorPlace, StartMode, Above, From, Verdict, Started, StartedAt, StartedEnter, ScanState, ScanStateStart as Start, Continue, Decline}
use Rattle.cursor.specs.CursorKey.{shift, suffix_of, store_ikey}
use Rattle.layering.specs.Tree.{Node, Slots, none, value, layer, fields_at}
use Rattle.layering.specs.Keys.{Pair, own_bytes}
use Rattle.layering.specs.Sieve.{sieve, is_less, is_not_greater, is_above, is_from, past}
use Rattle.layering.proofs.Row.{Row, stop, hop, val, sub, keys, weight, Asc}
use Rattle.layering.proofs.Flat.{flat_n, flat_s}
use Rattle.layering.proofs.Held.{HeldN}
use Rattle.layering.proofs.Sieve.{sieve-append, all_pass}
use Rattle.layering.proofs.Descent.{Past, past_weight, past_asc, past-sieve, none_below, NextHop, route_n, descent_n, hop_n}
use Rattle.layering.proofs.Depths.{Known, known_behind, known_past}
use Rattle.layering.proofs.Walk.{Stack, frame, seek, above, climb, KnownAbove, KnownAt}
use Rattle.search.specs.Traversal.{reach}
use Rattle.search.specs.Helper.{position, slot_in}
use Rattle.start.specs.Start.{verdict, by_verdict, start_from, start_position}
use Rattle.moves.specs.Moves.{stand_at, standing, kept, taken_on, begin, start_in, find_start, pass_in}
use Rattle.scan.specs.Machine.{pushing, entered, passed_by, before, move_in, move}
use Rattle.demands.proofs.Leaf.{used_in, ikey_in, LeafOk, past_slot}
use Rattle.demands.proofs.Moves.{dup_off}
use Rattle.demands.proofs.Relation.{IsSub, At, Core, Standing, plain, Nexts}
use Rattle.demands.proofs.Values.{core-move, sub-ikey}
use Rattle.demands.proofs.Follow.{arrived, core_down}
use Rattle.demands.proofs.Sound.{SoundN, SoundS, layer_of_lem, behind-value, behind-layer}
use Rattle.demands.proofs.Reach.{reach_n}
use Rattle.demands.proofs.Read.{Lands, route_n_lands, row_s}
use Rattle.demands.proofs.Place.{next_ready}
use Rattle.demands.proofs.Verdict.{Judged, passes, stands, Wide, SaysSub, passes-sub, stands-sub, enters-sub, past_low, past_high, val-says, sub-says}

-- what the layers above have of both keys does not count
past_prefix : (mode : StartMode) (p y a : List ℕ) → past mode (p ++ y) (p ++ a) ≡ past mode y a
unfolding past is_above is_from
past_prefix Above p y a = ap is_less (cmp_prefix p y a)
past_prefix From p y a = ap is_not_greater (cmp_prefix p y a)

-- a key that goes on past eight bytes ranks as what lies below a layer slot
long_rank : (y : List ℕ) {x : ℕ} → 8 < length y → x ≡ ikey_of y → rank y ≤ x * 16 + 9
unfolding rank
long_rank y h e = omega arith

-- X is the whole cursor, p what the layers above have of it, y what is left of it in a layer.
module _ (mode : StartMode) (X p y : List ℕ) (whole : X ≡ p ++ y) (by : Bytes y) where
  at_prefix : (a : List ℕ) → past mode X (p ++ a) ≡ past mode y a
  at_prefix a = ap (λ (q : List ℕ). past mode q (p ++ a)) whole ∙ past_prefix mode p y a

  no_low : (k : List ℕ) → Bytes k → rank k < rank y → past mode X (p ++ k) ≡ false
  no_low k bk h = at_prefix k ∙ past_low y k by bk mode h

  -- a row from above the cursor's rank on is past the start
  all_high : (hi : ℕ) (r : Row) → suc (rank y) ≤ hi → Asc hi r → sieve (past mode X) (keys p r) ≡ keys p r
  all_high hi r h a =
      all_pass p (past mode X) (suc (rank y)) (λ k bk g. at_prefix k ∙ past_high y k by bk mode g) hi r h a

  -- a value slot that is passed over, or stood at
  val-out : (k : List ℕ) (b : Bool) (v : ℕ) (r : Row) → past mode y k ≡ false
      → sieve (past mode X) (keys p (val k b v r)) ≡ sieve (past mode X) (keys p r)
  unfolding keys sieve pick
  val-out k true v r e = rw (at_prefix k ∙ e)
  val-out k false v r e = refl

  val_in : (k : List ℕ) (b : Bool) (v : ℕ) (r : Row) → past mode y k ≡ true → rank y ≤ rank k → Asc (suc (rank k)) r
      → sieve (past mode X) (keys p (val k b v r)) ≡ keys p (val k b v r)
  unfolding keys sieve pick
  val_in k true v r e h a = rw (at_prefix k ∙ e, all_high (suc (rank k)) r (omega arith) a)
  val_in k false v r e h a = all_high (suc (rank k)) r (omega arith) a

  -- a layer slot that is passed over, stood at, or entered
  sub_out : (k : List ℕ) (q : ℕ) (s r : Row) → length k ≡ 8 → Bytes k → Asc 1 s → ikey_of k * 16 + 9 < rank y
      → sieve (past mode X) (keys p (sub k q s r)) ≡ sieve (past mode X) (keys p r)
  unfolding keys
  sub_out k q s r e b a h =
      sieve-append (past mode X) (keys (p ++ k) s) (keys p r)
      ∙ ap (λ (l : List Pair). l ++ sieve (past mode X) (keys p r))
      (none_below p (past mode X) (rank y) no_low k s e b a h)

  sub_in : (k : List ℕ) (q : ℕ) (s r : Row) (low : ℕ) → Asc low (sub k q s r) → rank y < ikey_of k * 16 + 9
      → sieve (past mode X) (keys p (sub k q s r)) ≡ keys p (sub k q s r)
  unfolding Asc
  sub_in k q s r low a h =
      all_high (ikey_of k * 16 + 9) (sub k q s r) h (a.0, a.1, omega arith, a.3, a.4)

  sub_part : (k : List ℕ) (q : ℕ) (s r : Row) → Asc (suc (ikey_of k * 16 + 9)) r → rank y ≤ ikey_of k * 16 + 9
      → sieve (past mode X) (keys p (sub k q s r)) ≡ sieve (past mode X) (keys (p ++ k) s) ++ keys p r
  unfolding keys
  sub_part k q s r a h =
      sieve-append (past mode X) (keys (p ++ k) s) (keys p r)
      ∙ ap (λ (l : List Pair). sieve (past mode X) (keys (p ++ k) s) ++ l)
      (all_high (suc (ikey_of k * 16 + 9)) r (omega arith) a)

  -- IN A LEAF
  module _ (image : List ℕ) (depth l : ℕ) where
    -- The search stands at position j, in the row `to`; or it enters the layer of the slot there.
    pub record Stood (row : Row) (j : ℕ) : Type 0 where
      pub to : Row
      pub within : j ≤ used_in image l
      pub at : At image depth l j to
      pub low : ℕ
      pub asc : Asc low to
      pub hops : NextHop (ikey_of y) to
      pub left : sieve (past mode X) (keys p row) ≡ keys p to
      pub known : (t : List ℕ → ℕ) → Known t p row → Known t p to
      pub light : weight to ≤ weight row

    pub record Entered (row : Row) (j : ℕ) : Type 0 where
      pub k : List ℕ
      pub q : ℕ
      pub node : Node
      pub from : ℕ
      pub behind : Row
      pub slot : IsSub image depth l j k q
      pub sound : SoundN image (depth + 1) from 0 (2 ^ 64) 0 q node
      pub inner : Asc 1 (flat_n node stop)
      pub at : At image depth l (j + 1) behind
      pub asc : Asc (suc (ikey_of k * 16 + 9)) behind
      pub long : 8 < length y
      pub own : ikey_in image l j ≡ ikey_of y
      pub left : sieve (past mode X) (keys p row)
          ≡ sieve (past mode X) (keys (p ++ k) (flat_n node stop)) ++ keys p behind
      pub known : (t : List ℕ → ℕ) → Known t p row → Known t (p ++ k) (flat_n node stop) × Known t p behind
      pub light : 5 + weight (flat_n node stop) + weight behind ≤ weight row

    pub data Begins (row : Row) : Result Started Decline → Type 0 where
      stands_at_lem : (j : ℕ) → Stood row j → Begins row (Ok (StartedAt (position j)))
      enters-at : (j : ℕ) → Entered row j → Begins row (Ok (StartedEnter (slot_in image l j)))

    -- one slot more in front, that is passed over
    begins-on : {row row' : Row} → sieve (past mode X) (keys p row) ≡ sieve (past mode X) (keys p row')
        → ((t : List ℕ → ℕ) → Known t p row → Known t p row') → weight row' ≤ weight row → {o : Result Started Decline} → Begins row' o → Begins row o
    begins-on e q h (stands_at_lem j g) =
        stands_at_lem j
        (record {
          to = g.to;
          within = g.within;
          at = g.at;
          low = g.low;
          asc = g.asc;
          hops = g.hops;
          left = e ∙ g.left;
          known = λ t a. g.known t (q t a);
          light = omega (arith, g.light);
        })
    begins-on e q h (enters-at j g) =
        enters-at j
        (record {
          k = g.k;
          q = g.q;
          node = g.node;
          from = g.from;
          behind = g.behind;
          slot = g.slot;
          sound = g.sound;
          inner = g.inner;
          at = g.at;
          asc = g.asc;
          long = g.long;
          own = g.own;
          left = e ∙ g.left;
          known = λ t a. g.known t (q t a);
          light = omega (arith, g.light);
        })

    -- behind the leaf's last slot all is past the start
    all-behind : (r : Row) (low : ℕ) → At image depth l (used_in image l) r → Asc low r → NextHop (ikey_of y) r
        → sieve (past mode X) (keys p r) ≡ keys p r
    unfolding At Asc NextHop keys sieve rank
    all-behind stop low a s h = refl
    all-behind (hop m z r) low a s h = all_high (z * 16) r (omega arith) s.1
    all-behind (val k b v r) low a s h = absurd (omega (arith, a.0.used))
    all-behind (sub k q t r) low a s h = absurd (omega (arith, a.0.used))

    module _ (ok : LeafOk image l) (k : CursorPlace) (buf : List ℕ) (ek : k.ikey ≡ ikey_of y)
        (el : k.len ≡ length y) (rest : 8 < length y → suffix_of k buf ≡ drop 8 y)
        (wide : Wide mode (k.offset + k.len)) (eo : k.offset ≡ 8 * depth) (r : Row)
        (ar : At image depth l (used_in image l) r) where
      pub begins : (s : Slots) {from lo hi i : ℕ} (m low : ℕ) → SoundS image depth from lo hi l i s
          → i + m ≡ used_in image l → Asc low (flat_s s r) → NextHop (ikey_of y) (flat_s s r)
          → Begins (flat_s s r) (start_from mode image l k buf i m)
      unfolding start_from by_verdict and_then flat_n HeldN At Asc NextHop Known weight
      begins none {i = i} zero low g e a h =
          stands_at_lem i
          (record {
            to = r;
            within = omega arith;
            at = subst (λ (j : ℕ). At image depth l j r) (omega arith) ar;
            low = low;
            asc = a;
            hops = h;
            left = all-behind r low ar a h;
            known = λ t q. q;
            light = omega arith;
          })
      begins none (suc m) low g e a h = absurd (omega (arith, g.holds))
      begins (value f t) zero low g e a h = absurd (omega (arith, g.holds.0))
      begins (value f t) {i = i} (suc m) low g e a h =
          past_slot image l ok (Begins (flat_s (value f t) r)) i (omega arith) _
          (go
          (subst (λ (q : List ℕ). Judged y q mode (verdict mode image l k buf (slot_in image l i))) (sym d.0.part)
          (val-says image l ok k buf y by ek el rest mode wide i d.0.used depth d.0.kind d.0.real eo))
          (begins t m _ (behind-value image g) (omega arith) a.2 h))
        where
          d : At image depth l i (flat_s (value f t) r)
          d = row_s image (value f t) r g ar

          go : {v : Result Verdict Decline} → Judged y (own_bytes f) mode v → {o : Result Started Decline} → Begins (flat_s t r) o
              → Begins (flat_s (value f t) r) (and_then v (λ w. by_verdict w i (slot_in image l i) o))
          go (passes n) ih =
              begins-on (val-out (own_bytes f) f.live f.value (flat_s t r) n) (λ u q. known_behind u p (own_bytes f) f.live f.value (flat_s t r) q) (omega arith) ih
          go (stands n w) ih =
              stands_at_lem i
              (record {
                to = flat_s (value f t) r;
                within = omega (arith, d.0.used);
                at = d;
                low = low;
                asc = a;
                hops = h;
                left = val_in (own_bytes f) f.live f.value (flat_s t r) n w a.2;
                known = λ u q. q;
                light = omega arith;
              })
      begins (layer f n t) zero low g e a h = absurd (omega (arith, g.holds.0))
      begins (layer f n t) {from = from} {i = i} (suc m) low g e a h =
          past_slot image l ok (Begins (flat_s (layer f n t) r)) i (omega arith) _
          (go (sub-says image l ok k buf y by ek el rest mode wide i d.0.used d.0.layer)
          (begins t m _ (behind-layer image g) (omega arith) a.4 h))
        where
          d : At image depth l i (flat_s (layer f n t) r)
          d = row_s image (layer f n t) r g ar

          go : {v : Result Verdict Decline} → SaysSub y (ikey_in image l i) v → {o : Result Started Decline} → Begins (flat_s t r) o
              → Begins (flat_s (layer f n t) r) (and_then v (λ w. by_verdict w i (slot_in image l i) o))
          go (passes-sub w) ih =
              begins-on
              (sub_out (ikey_bytes f.ikey) f.value (flat_n n stop) (flat_s t r) a.0 a.1 a.3
              (omega (arith, sub-ikey image d.0))) (λ u q. q.1) (omega arith) ih
          go (stands-sub w) ih =
              stands_at_lem i
              (record {
                to = flat_s (layer f n t) r;
                within = omega (arith, d.0.used);
                at = d;
                low = low;
                asc = a;
                hops = h;
                left =
                    sub_in (ikey_bytes f.ikey) f.value (flat_n n stop) (flat_s t r) low a
                    (omega (arith, sub-ikey image d.0));
                known = λ u q. q;
                light = omega arith;
              })
          go (enters-sub w x) ih =
              enters-at i
              (record {
                k = ikey_bytes f.ikey;
                q = f.value;
                node = n;
                from = from;
                behind = flat_s t r;
                slot = d.0;
                sound = layer_of_lem image g;
                inner = a.3;
                at = d.5;
                asc = a.4;
                long = w;
                own = x;
                left =
                    sub_part (ikey_bytes f.ikey) f.value (flat_n n stop) (flat_s t r) a.4
                    (long_rank y w (sub-ikey image d.0 ∙ x));
                known = λ u q. q;
                light = omega arith;
              })

-- THE CURSOR IN ITS BUFFER: the walk's first `length p` bytes are p, and y follows.
module _ (p y z : List ℕ) where
  split-key : p ++ y ++ z ≡ (p ++ take 8 y) ++ (drop 8 y ++ z)
  split-key =
      ap (λ (q : List ℕ). p ++ q ++ z) (sym (take-append-drop 8 y))
      ∙ simp (append_assoc)

  module _ (buf : List ℕ) (held : buf ≡ p ++ y ++ z) (long : 8 < length y) where
    past_eight : (n : ℕ) → length p ≡ n → drop (n + 8) buf ≡ drop 8 y ++ z
    past_eight n e =
        ap (drop (n + 8)) (held ∙ split-key)
        ∙ drop_at (p ++ take 8 y) (drop 8 y ++ z) (n + 8)
        (length-append p (take 8 y) ∙ omega (arith, length-take-le 8 y (omega arith)))

    -- what `suffix_of` reads
    rest_of-key : (k : CursorPlace) → length p ≡ k.offset → k.len ≡ length y → suffix_of k buf ≡ drop 8 y
    unfolding suffix_of part pick
    rest_of-key k e el =
        rw (lt-leb k.len 8 (omega arith))
        (ap (take (k.len - 8)) (past_eight k.offset e)
        ∙ take_at (drop 8 y) z (k.len - 8) (length-drop 8 y ∙ omega arith))

    -- the first eight bytes are there already
    stored_again : (n x : ℕ) → length p ≡ n → ikey_bytes x ≡ take 8 y → store_ikey buf n x ≡ buf
    unfolding store_ikey
    stored_again n x e ex =
        let front : take n buf ≡ p = ap (take n) (held ∙ append_assoc p y z) ∙ take_at p (y ++ z) n e in
        let eight : take 8 (ikey_bytes x) ≡ take 8 y = take_all 8 (ikey_bytes x) (omega (arith, ikey_bytes-length x)) ∙ ex in
        ap₂ (λ (s t : List ℕ). s ++ t) (ap₂ (λ (s t : List ℕ). s ++ t) front eight) (past_eight n e)
        ∙ sym (held ∙ split-key)

-- the bytes of a long key's ikey
eight-bytes : (y : List ℕ) → Bytes y → 8 < length y → ikey_bytes (ikey_of y) ≡ take 8 y
unfolding ikey_of
eight-bytes y b h =
    ap ikey_bytes (be-take 8 y (take 8 y) (sym (take-take 8 8 y (omega arith))))
    ∙ ikey_bytes-ikey_of (take 8 y) (bytes_take 8 y b) (length-take-le 8 y (omega arith))

module _ (image : List ℕ) (mode : StartMode) (X z : List ℕ) (wide : Wide mode (length X)) where
  -- THE START OF A LAYER whose root the walk has: p of the cursor is behind it, y is left.
  pub record Starting (s : Held) (p y : List ℕ) (st : Stack) (n : Node) : Type 0 where
    pub state : s.ctx.state ≡ Start mode
    pub core : Core image s p st
    pub whole : X ≡ p ++ y
    pub bytes : Bytes y
    pub held : s.buf ≡ X ++ z
    pub ikey : s.ctx.cursor.ikey ≡ ikey_of y
    pub len : s.ctx.cursor.len ≡ length y
    pub off : s.ctx.dup ≡ false
    pub none_out : s.ctx.last ≡ 0
    pub from : ℕ
    pub sound : SoundN image s.ctx.depth from 0 (2 ^ 64) 0 s.ctx.root n
    pub low : ℕ
    pub asc : Asc low (flat_n n stop)

  -- The walk in the layer whose root is q, entered from the leaf at l.
  unfoldable pub entering : Held → ℕ → ℕ → Held
  entering s l q = record {
    ctx = stand_at (entered q s.ctx) l s.ctx.position (shift s.ctx.cursor s.buf) (Start mode) s.ctx.dup s.ctx.last;
    buf = store_ikey s.buf s.ctx.cursor.offset s.ctx.cursor.ikey;
    stack = set s.stack s.ctx.depth (record { root = s.ctx.root; leaf = l });
  }

  module _ (kind : ℕ) (bound : List ℕ) where
    -- one Start move
    starts : (s : Held) (l i : ℕ) → s.ctx.state ≡ Start mode
        → reach image s.ctx.cursor.ikey s.ctx.root ≡ Ok l
        → start_position mode image l s.ctx.cursor s.buf ≡ Ok (StartedAt (position i))
        → move image kind bound s ≡ record { outcome = Ok Continue; scan = arrived s l i s.ctx.dup }
    unfolding move move_in before pass_in passed_by pushing pick find_start start_in taken_on begin kept standing arrived
    starts s l i e h g = ap (λ (z : ScanState). move_in z image kind bound s) e ∙ rw (h, g)

    enters : (s : Held) (l : ℕ) (t : Slot) → s.ctx.state ≡ Start mode
        → reach image s.ctx.cursor.ikey s.ctx.root ≡ Ok l
        → start_position mode image l s.ctx.cursor s.buf ≡ Ok (StartedEnter t)
        → move image kind bound s ≡ record { outcome = Ok Continue; scan = entering s l (value_at image l t) }
    unfolding move move_in before pass_in passed_by pushing pick find_start start_in taken_on begin entering
    enters s l t e h g = ap (λ (z : ScanState). move_in z image kind bound s) e ∙ rw (h, g)

    -- WHERE THE START MOVES COME TO from s, in a layer whose row is `row`: `steps` of them enter a layer, and the last
    -- stands in the row `to`, with `over` waiting above it.
    pub record BegunIn (s : Held) (p : List ℕ) (st : Stack) (row : Row) : Type 0 where
      pub steps : ℕ
      pub pre : List ℕ
      pub to : Row
      pub over : Stack
      pub rep : Nexts image kind bound steps (λ t. Standing image t pre over to) s
      pub left : sieve (past mode X) (keys p row) ++ above st ≡ keys pre to ++ above over
      pub known : (t : List ℕ → ℕ) → Known t p row → KnownAbove t st → KnownAt t (seek steps pre to over)
      pub light : steps + weight to + climb over ≤ weight row + climb st

    module _ (s : Held) (p y : List ℕ) (st : Stack) (n : Node) (g : Starting s p y st n) where
      x : ℕ
      x = ikey_of y

      leaf-at : ℕ
      leaf-at = (route_n x n stop).0

      landed : Lands image s.ctx.depth (route_n x n stop)
      unfolding At
      landed = route_n_lands image n x stop g.sound (λ m d. (refl, d))

      reaches-leaf : reach image s.ctx.cursor.ikey s.ctx.root ≡ Ok leaf-at
      unfolding reach leaf-at x
      reaches-leaf =
          ap (λ (i : ℕ). reach image i s.ctx.root) g.ikey
          ∙ reach_n image n (s.ctx.root + 1) (ikey_of y) stop g.sound (omega arith)

      -- what the descent passed over ranks below the cursor
      passed : Past (rank y) (flat_n n stop) (route_n x n stop).1
      unfolding rank x
      passed = descent_n n (ikey_of y) (rank y) g.low stop g.asc (omega arith)

      held-key : s.buf ≡ p ++ y ++ z
      held-key = g.held ∙ ap (λ (q : List ℕ). q ++ z) g.whole

      whole_length : length X ≡ s.ctx.cursor.offset + s.ctx.cursor.len
      whole_length =
          ap length g.whole ∙ length-append p y ∙ omega (arith, g.core.pre-length, g.len)

      rest-is : 8 < length y → suffix_of s.ctx.cursor s.buf ≡ drop 8 y
      rest-is h = rest_of-key p y z s.buf held-key h s.ctx.cursor g.core.pre-length g.len

      found : Begins mode X p y g.whole g.bytes image s.ctx.depth leaf-at (route_n x n stop).1
          (start_position mode image leaf-at s.ctx.cursor s.buf)
      unfolding start_position leaf-at x NextHop
      found =
          let a = past_asc passed g.low g.asc in
          let h : NextHop (ikey_of y) (route_n (ikey_of y) n stop).1 = hop_n n (ikey_of y) stop tt in
          subst (λ (r : Row). Begins mode X p y g.whole g.bytes image s.ctx.depth leaf-at r
          (start_position mode image leaf-at s.ctx.cursor s.buf)) (sym landed.is)
          (begins mode X p y g.whole g.bytes image s.ctx.depth leaf-at landed.ok s.ctx.cursor s.buf
          g.ikey g.len rest-is (subst (Wide mode) whole_length wide) g.core.fit.place landed.behind
          landed.next landed.slots (used_in image leaf-at) a.0 landed.sound (omega arith)
          (subst (Asc a.0) landed.is a.1) (subst (NextHop (ikey_of y)) landed.is h))

      -- the walk stands there
      stood : (j : ℕ)
          → Stood mode X p y g.whole g.bytes image s.ctx.depth leaf-at (route_n x n stop).1 j
          → start_position mode image leaf-at s.ctx.cursor s.buf ≡ Ok (StartedAt (position j))
          → BegunIn s p st (flat_n n stop)
      unfolding Nexts arrived leaf-at KnownAt
      stood j f e = record {
        steps = 0;
        pre = p;
        to = f.to;
        over = st;
        rep = record {
          to = arrived s leaf-at j s.ctx.dup;
          goes = starts s leaf-at j g.state reaches-leaf e;
          then = plain refl
              (record {
                core = core-move image (omega (arith, f.within)) g.core;
                ok = landed.ok;
                at = f.at;
                lo = f.low;
                asc = f.asc;
                seen = omega (arith, g.none_out);
                ready = rw g.ikey (next_ready (ikey_of y) f.to f.hops);
              })
              (λ h. dup_off image _ _ g.off);
        };
        left =
            ap (λ (l : List Pair). l ++ above st)
            (past-sieve p (past mode X) (rank y) (no_low mode X p y g.whole g.bytes) g.low passed g.asc
            ∙ f.left);
        known = λ t q a. (f.known t (known_past t p passed q), a);
        light = omega (arith, f.light, past_weight passed);
      }

      -- or enters a layer, and is at its start
      module _ (j : ℕ) (f : Entered mode X p y g.whole g.bytes image s.ctx.depth leaf-at (route_n x n stop).1 j)
        where
          inside : Held
          inside = entering s leaf-at f.q

          bytes-own : ikey_bytes s.ctx.cursor.ikey ≡ take 8 y
          bytes-own = ap ikey_bytes g.ikey ∙ eight-bytes y g.bytes f.long

          k-own : f.k ≡ take 8 y
          k-own = f.slot.part ∙ ap ikey_bytes f.own ∙ eight-bytes y g.bytes f.long

          starting : Starting inside (p ++ f.k) (drop 8 y) (frame p f.behind st) f.node
          unfolding inside entering shift leaf-at
          starting = record {
            state = refl;
            core =
                core_down image s inside p f.k f.q leaf-at j f.behind st g.core landed.ok f.slot f.at
                f.asc refl refl (omega (arith, g.core.fit.within, g.len, f.long)) g.core.fit.position
                (ap (store_ikey s.buf s.ctx.cursor.offset) (g.ikey ∙ sym f.own)) refl;
            whole =
                g.whole ∙ ap (λ (q : List ℕ). p ++ q) (sym (take-append-drop 8 y) ∙ ap (λ (q : List ℕ). q ++ drop 8 y) (sym k-own))
                ∙ sym (append_assoc p f.k (drop 8 y));
            bytes = bytes_drop 8 y g.bytes;
            held =
                stored_again p y z s.buf held-key f.long s.ctx.cursor.offset s.ctx.cursor.ikey
                g.core.pre-length bytes-own ∙ g.held;
            ikey = ap ikey_of (rest-is f.long);
            len = omega (arith, g.len, length-drop 8 y);
            off = g.off;
            none_out = g.none_out;
            from = f.from;
            sound = f.sound;
            low = 1;
            asc = f.inner;
          }

          went_in : start_position mode image leaf-at s.ctx.cursor s.buf ≡ Ok (StartedEnter (slot_in image leaf-at j))
              → BegunIn inside (p ++ f.k) (frame p f.behind st) (flat_n f.node stop) → BegunIn s p st (flat_n n stop)
          unfolding Nexts above climb KnownAbove KnownAt inside fields_at
          went_in e b = record {
            steps = suc b.steps;
            pre = b.pre;
            to = b.to;
            over = b.over;
            rep = record {
              to = inside;
              goes = enters s leaf-at (slot_in image leaf-at j) g.state reaches-leaf e
                  ∙ ap (λ (q : ℕ). record { outcome = Ok Continue; scan = entering s leaf-at q }) (sym f.slot.root);
              then = b.rep;
            };
            left =
                ap (λ (l : List Pair). l ++ above st)
                (past-sieve p (past mode X) (rank y) (no_low mode X p y g.whole g.bytes) g.low passed g.asc
                ∙ f.left)
                ∙ append_assoc (sieve (past mode X) (keys (p ++ f.k) (flat_n f.node stop))) (keys p f.behind) (above st)
                ∙ b.left;
            known = λ t q a. let g = f.known t (known_past t p passed q) in b.known t g.0 (g.1, a);
            light = omega (arith, b.light, f.light, past_weight passed);
          }

      -- ONE LAYER
      one-layer : ((t : Held) (p' : List ℕ) (st' : Stack) (n' : Node) → 8 < length y → Starting t p' (drop 8 y) st' n'
          → BegunIn t p' st' (flat_n n' stop)) → BegunIn s p st (flat_n n stop)
      one-layer ih = go refl found
        where
          go : {o : Result Started Decline} → start_position mode image leaf-at s.ctx.cursor s.buf ≡ o
              → Begins mode X p y g.whole g.bytes image s.ctx.depth leaf-at (route_n x n stop).1 o
              → BegunIn s p st (flat_n n stop)
          go e (stands_at_lem j f) = stood j f e
          go e (enters-at j f) =
              went_in j f e (ih (inside j f) (p ++ f.k) (frame p f.behind st) f.node f.long (starting j f))

    -- ALL START MOVES: each layer entered takes eight bytes of the cursor.
    pub begins_all : (f : ℕ) (s : Held) (p y : List ℕ) (st : Stack) (n : Node) → Starting s p y st n
        → length y ≤ 8 * f + 8 → BegunIn s p st (flat_n n stop)
    begins_all zero s p y st n g h = one-layer s p y st n g (λ t p' st' n' w r. absurd (omega arith))
    begins_all (suc f) s p y st n g h =
        one-layer s p y st n g
        (λ t p' st' n' w r. begins_all f t p' (drop 8 y) st' n' r (omega (arith, length-drop 8 y)))
