-- A fresh walk over an accepted image stands before a row (`begin`), whatever its cursor: what is left of it is what lies
-- past the start, each key of it has its depth, and the potential is no more than the tree weighs.
use Rattle.std.specs.Prelude.{◌≡◌, ◌++◌, ◌+◌, ◌*◌, ◌-◌, ◌≤◌, ◌<◌, Ok}
use Rattle.base.specs.Kit.{refl, ap, sym, ◌∙◌, subst, List, [], append-nil, true, ℕ, suc, arith, ltb, length, get_or, replicate, lt-ltb, le-ltb}
use Rattle.base.specs.Pick.{pick}
use Rattle.base.proofs.Choice.{pick_ind}
use Rattle.key.specs.Ikey.{ikey_of}
use Rattle.key.specs.Part.{padded}
use Rattle.demands.specs.Types.{Held, Ordering, CursorPlace, StartMode, Above, From, WalkState, WalkStateStart as Start, WalkStateRetry as Retry}
use Rattle.key.proofs.Order.{Cmp, is_lt, is_eq, is_gt, cmp}
use Rattle.key.proofs.Bytes.{Bytes}
use Rattle.key.proofs.Ikey.{rank}
use Rattle.node.specs.Layout.{root_offset}
use Rattle.cursor.specs.CursorKey.{from_slice}
use Rattle.layering.specs.Tree.{tree_of}
use Rattle.layering.specs.Accepted.{Obeys}
use Rattle.layering.specs.Sieve.{sieve, past}
use Rattle.layering.proofs.Row.{Row, stop, keys, weight}
use Rattle.layering.proofs.Flat.{flat_n}
use Rattle.layering.proofs.Pairs.{obeys-row}
use Rattle.layering.proofs.Depths.{Known}
use Rattle.layering.proofs.Walk.{Stack, bottom, seek, above, KnownAbove, KnownAt, climb, pot}
use Rattle.layering.proofs.Descent.{Past, past_asc, NextHop, route_n, descent_n, hop_n}
use Rattle.search.specs.Traversal.{reach}
use Rattle.moves.specs.declared.context.ScanState.TheVariants as loop
use Rattle.walk.specs.Placing.{start_state, fresh_walk}
use Rattle.scan.specs.Machine.{scan_state, last_ikey, scan_of}
use Rattle.demands.proofs.Search.{reached-at, stands}
use Rattle.demands.proofs.Relation.{At, Nexts, Rep}
use Rattle.demands.proofs.Follow.{arrived, retried}
use Rattle.demands.proofs.Sound.{sound}
use Rattle.demands.proofs.Reach.{reach_n}
use Rattle.demands.proofs.Read.{Lands, route_n_lands, landed_at}
use Rattle.demands.proofs.Place.{opening, core_opening, Placed, place_above}
use Rattle.demands.proofs.Verdict.{Wide}
use Rattle.demands.proofs.Start.{begins_all}

fresh-scan : (image : List ℕ) (mode : StartMode) (x : List ℕ) (kind : ℕ) (bound : List ℕ) (st : WalkState)
    → start_state mode (length x) ≡ st
    → scan_of (fresh_walk image mode x kind bound) ≡ opening image x (scan_state mode st) (last_ikey st (ikey_of x))
unfolding scan_of fresh_walk from_slice opening
fresh-scan image mode x kind bound st e =
    ap (λ (st : WalkState). opening image x (scan_state mode st) (last_ikey st (ikey_of x))) e

-- which state a placing leaves
past_eight : (mode : StartMode) (x : List ℕ) → 8 < length x → start_state mode (length x) ≡ Start
unfolding start_state pick
past_eight mode x h = rw (lt-ltb 8 (length x) h)

from_start : (x : List ℕ) → start_state From (length x) ≡ Start
unfolding start_state
from_start x = pick_ind (λ (s : WalkState). s ≡ Start) (ltb 8 (length x)) (λ t. refl) (λ t. refl)

above_retry : (x : List ℕ) → length x ≤ 8 → start_state Above (length x) ≡ Retry
unfolding start_state pick
above_retry x h = rw (le-ltb 8 (length x) h)

-- Where a fresh walk stands, s its first scan.
pub record Begun (image : List ℕ) (mode : StartMode) (x : List ℕ) (kind : ℕ) (bound : List ℕ) (s : Held) : Type 0 where
  pub steps : ℕ
  pub pre : List ℕ
  pub to : Row
  pub over : Stack
  pub rep : Rep image kind bound s (seek steps pre to over)
  pub left : sieve (past mode x) (keys [] (flat_n (tree_of image) stop)) ≡ keys pre to ++ above over
  pub known : (t : List ℕ → ℕ) → Known t [] (flat_n (tree_of image) stop) → KnownAt t (seek steps pre to over)
  pub light : pot (seek steps pre to over) ≤ weight (flat_n (tree_of image) stop) + 3

module _ (image : List ℕ) (b : (i : ℕ) → get_or image i 0 < 256) (o : Obeys image) (x : List ℕ) (bx : Bytes x)
    (kind : ℕ) (bound : List ℕ) where
  -- WITH START
  begin-start : (mode : StartMode) → Wide mode (length x) → length x ≤ 256
      → Begun image mode x kind bound (opening image x (loop.Start mode) 0)
  unfolding opening padded Rep above KnownAbove climb pot
  begin-start mode w h =
      let g = begins_all image mode x (replicate (256 - length x) 0) w kind bound 31 (opening image x (loop.Start mode) 0)
      [] x bottom (tree_of image)
      (record {
        state = refl;
        core = core_opening image x (loop.Start mode) h;
        whole = refl;
        bytes = bx;
        held = refl;
        ikey = refl;
        len = refl;
        off = refl;
        none_out = refl;
        from = 8;
        sound = sound image b o;
        low = 0;
        asc = obeys-row image b o;
      })
      (omega arith) in
      record {
        steps = g.steps;
        pre = g.pre;
        to = g.to;
        over = g.over;
        rep = g.rep;
        left = sym (append-nil _) ∙ g.left;
        known = λ t q. g.known t q tt;
        light = omega (arith, g.light);
      }

  -- WITH RETRY: above a cursor of at most eight bytes
  module _ (short : length x ≤ 8) where
    row : Row
    row = flat_n (tree_of image) stop

    -- the leaf that the cursor's ikey leads to, and the row from there on
    leaf-at : ℕ
    leaf-at = (route_n (ikey_of x) (tree_of image) stop).0

    row_at : Row
    row_at = (route_n (ikey_of x) (tree_of image) stop).1

    k : CursorPlace
    k = record { offset = 0; len = length x; ikey = ikey_of x }

    landed : Lands image 0 (route_n (ikey_of x) (tree_of image) stop)
    unfolding At
    landed = route_n_lands image (tree_of image) (ikey_of x) stop (sound image b o) (λ m d. (refl, d))

    reaches-leaf : reach image (ikey_of x) (root_offset image) ≡ Ok leaf-at
    unfolding reach leaf-at
    reaches-leaf = reach_n image (tree_of image) (root_offset image + 1) (ikey_of x) stop (sound image b o) (omega arith)

    hops : NextHop (ikey_of x) row_at
    unfolding row_at NextHop
    hops = hop_n (tree_of image) (ikey_of x) stop tt

    passed : (lo : ℕ) → ikey_of x * 16 ≤ lo → Past lo row row_at
    unfolding row row_at
    passed lo h = descent_n (tree_of image) (ikey_of x) lo 0 stop (obeys-row image b o) h

    begin_retry : Begun image Above x kind bound (opening image x loop.Retry 0)
    unfolding Rep Nexts opening arrived row row_at leaf-at k rank above KnownAbove KnownAt climb pot
    begin_retry =
        let s = past_asc (passed (suc (rank x)) (omega arith)) 0 (obeys-row image b o) in
        let z = reached-at (stands image leaf-at landed.ok k (padded x) short) in
        let q : Placed image x (arrived (opening image x loop.Retry 0) leaf-at z.0 true) row
        = place_above image x short bx leaf-at z.0 landed.ok (omega (arith, z.2.high)) row 0
        (obeys-row image b o) row_at s.0 (landed_at image landed) s.1 hops (passed (suc (rank x)) (omega arith)) z.2 in
        record {
          steps = 0;
          pre = [];
          to = q.to;
          over = bottom;
          rep = record {
            to = arrived (opening image x loop.Retry 0) leaf-at z.0 true;
            goes = retried image kind bound (opening image x loop.Retry 0) leaf-at z.0 refl reaches-leaf z.1;
            then = q.stands;
          };
          left = q.left ∙ sym (append-nil _);
          known = λ t a. (q.known t a, tt);
          light = omega (arith, q.light);
        }

  -- EVERY FRESH WALK. The bound's arguments are the walk's own (kind' and bound') and those that its moves go by.
  pub begin-at : (mode : StartMode) (kind' : ℕ) (bound' : List ℕ) → length x ≤ 256
      → Begun image mode x kind bound (scan_of (fresh_walk image mode x kind' bound'))
  unfolding Wide
  begin-at From kind' bound' h =
      subst (Begun image From x kind bound) (sym (fresh-scan image From x kind' bound' Start (from_start x)))
      (begin-start From tt h)
  begin-at Above kind' bound' h = go (cmp 8 (length x))
    where
      go : {u : Ordering} → Cmp 8 (length x) u
          → Begun image Above x kind bound (scan_of (fresh_walk image Above x kind' bound'))
      go (is_lt c) =
          subst (Begun image Above x kind bound)
          (sym (fresh-scan image Above x kind' bound' Start (past_eight Above x c))) (begin-start Above c h)
      go (is_eq c) =
          subst (Begun image Above x kind bound)
          (sym (fresh-scan image Above x kind' bound' Retry (above_retry x (omega arith)))) (begin_retry (omega arith))
      go (is_gt c) =
          subst (Begun image Above x kind bound)
          (sym (fresh-scan image Above x kind' bound' Retry (above_retry x (omega arith)))) (begin_retry (omega arith))
