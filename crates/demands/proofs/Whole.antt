-- From the placing to the row. Proved: what a placing that was taken says of its arguments; that the walk's bound
-- admits what its argument does; and that what is left of a fresh walk is the row that demand 3 speaks of. Hence every
-- list of steps, and the count of one loop of moves.
use Rattle.std.specs.Prelude.{◌≡◌, ◌+◌, ◌*◌, ◌%◌, ◌≤◌, ◌<◌, None, Result, Ok, Err}
use Rattle.base.specs.Kit.{refl, ap, sym, ◌∙◌, subst, List, [], Bool, true, false, ℕ, arith, ltb, eqb, length, take, get_or, replicate, eqb-true, le-ltb, eq-eqb, le-leb}
use Rattle.base.specs.Pick.{pick}
use Rattle.base.proofs.Choice.{pick_ind}
use Rattle.key.specs.Part.{padded}
use Rattle.key.proofs.Bytes.{bytes_of}
use Rattle.key.proofs.Ikey.{padded-take}
use Rattle.node.specs.Layout.{stated_length, edition}
use Rattle.node.specs.Heading.{heading, length_ok}
use Rattle.cursor.specs.CursorKey.{from_slice}
use Rattle.cursor.specs.RangeBound.{is_within, tested, contains, bound_of}
use Rattle.demands.specs.Types.{RangeBound, Tested, StartMode, Above, From, WalkState, Decline}
use Rattle.layering.specs.Tree.{tree_of}
use Rattle.layering.specs.Keys.{Pair, live_pairs, leaves_n, values_n, layers_n}
use Rattle.layering.specs.Depths.{depth_of}
use Rattle.layering.specs.Accepted.{Obeys}
use Rattle.layering.specs.Ascending.{Ascending}
use Rattle.layering.specs.Sieve.{sieve, past, row_of}
use Rattle.layering.proofs.Row.{stop, weight}
use Rattle.layering.proofs.Flat.{weighs_n}
use Rattle.layering.proofs.Size.{moves-fit}
use Rattle.layering.proofs.Pairs.{row-pairs, pairs-ascend}
use Rattle.layering.proofs.Depths.{row_known}
use Rattle.layering.proofs.Few.{row_fits}
use Rattle.layering.proofs.Sieve.{front, front-sieve}
use Rattle.layering.proofs.Asked.{past-ascends, row_in-order}
use Rattle.layering.proofs.Bound.{contains-closed}
use Rattle.layering.proofs.Walk.{Conf, seek, rest, left, pot}
use Rattle.base.specs.Decline.{and_then}
use Rattle.walk.specs.Walk.{nothing_yet}
use Rattle.walk.proofs.PlaceLaws.{placed_fits}
use Rattle.walk.specs.Placing.{short_state, start_state, placing, fresh_walk, placed_by, place}
use Rattle.scan.specs.Machine.{is_ended, scan_of}
use Rattle.scan.specs.CodeLoop.{keys_left}
use Rattle.demands.specs.Demand.{Call, steps, Lent, said, moves_of, own, due, Foreign}
use Rattle.demands.specs.HandedOut.{handed_by, due_handed}
use Rattle.demands.proofs.Begin.{Begun, begin-at}
use Rattle.demands.proofs.Steps.{admitted, Walks, going, all-steps, keys-left}

-- THE PLACING. It was taken: cursor, kind and bound are in their limits, and the walk is fresh.
pub record Limits (cursor : List ℕ) (kind : ℕ) (bound : List ℕ) : Type 0 where
  pub cursor-fits : length cursor ≤ 256
  pub kinds : kind ≤ 2
  pub fits : length bound ≤ 256

module _ (image : List ℕ) (mode : StartMode) (cursor : List ℕ) (kind : ℕ) (bound : List ℕ) where
  pub taken : (place image mode cursor kind bound).declined ≡ None
      → ((place image mode cursor kind bound).walk ≡ fresh_walk image mode cursor kind bound) × Limits cursor kind bound
  unfolding place
  taken = go (placing image cursor kind bound) refl
    where
      go : (r : Result Unit Decline) → placing image cursor kind bound ≡ r → (placed_by r (fresh_walk image mode cursor kind bound)).declined ≡ None
          → ((placed_by r (fresh_walk image mode cursor kind bound)).walk ≡ fresh_walk image mode cursor kind bound) × Limits cursor kind bound
      go (Ok seen) e n = let f = placed_fits image cursor kind bound e in (refl, record { cursor-fits = f.1; kinds = f.2; fits = f.3 })
      go (Err d) e n = cc

-- an accepted image has no fault in its heading, so that a placing within the limits is taken
pub takes : (image : List ℕ) → Obeys image → (mode : StartMode) (cursor : List ℕ) (kind : ℕ) (bound : List ℕ)
    → length cursor ≤ 256 → kind ≤ 2 → length bound ≤ 256 → (place image mode cursor kind bound).declined ≡ None
unfolding place placing heading length_ok and_then pick
takes image o mode cursor kind bound c k f =
    rw (
      le-leb 440 (length image) o.long,
      le-leb (length image) 16777216 o.short,
      eq-eqb (length image % 8) 0 o.whole,
      eq-eqb (stated_length image) (length image) o.stated,
      eq-eqb (edition image) 1 o.first-edition,
      le-ltb 256 (length cursor) c,
      le-ltb 2 kind k,
      le-ltb 256 (length bound) f,
    )

-- THE BOUND that a placing keeps.
module _ (kind : ℕ) (bound : List ℕ) where
  pub bound-kind : kind ≤ 2 → (bound_of kind bound).kind ≤ 2
  unfolding bound_of
  bound-kind h = pick_ind (λ (b : RangeBound). b.kind ≤ 2) (eqb kind 0) (λ t. omega arith) (λ t. h)

  pub bound-length : length bound ≤ 256 → (bound_of kind bound).len ≤ 256
  unfolding bound_of
  bound-length h = pick_ind (λ (b : RangeBound). b.len ≤ 256) (eqb kind 0) (λ t. omega arith) (λ t. h)

  -- its test is that of the bound that was given
  pub bound_tests : (let B : RangeBound = bound_of kind bound in tested B.kind (take B.len B.key)) ≡ tested kind bound
  unfolding bound_of tested pick
  bound_tests = go (eqb kind 0) refl
    where
      go : (c : Bool) → eqb kind 0 ≡ c
          → (let B : RangeBound = pick c (record { kind = 0; len = 0; key = replicate 256 0 }) (record { kind = kind; len = length bound; key = padded bound }) in
          tested B.kind (take B.len B.key))
          ≡ tested kind bound
      go true e = rw (eqb-true kind 0 e)
      go false e = ap (tested kind) (padded-take bound)

  bound_admits : admitted (bound_of kind bound) ≡ contains kind bound
  unfolding contains
  bound_admits = ap {B = List ℕ → Bool} (λ (t : List ℕ → Tested) (key : List ℕ). is_within (t key).side) bound_tests

-- a walk that was placed is not ended
not_ended : (mode : StartMode) (n : ℕ) → is_ended (start_state mode n) ≡ false
unfolding start_state
not_ended mode n =
    pick_ind (λ (s : WalkState). is_ended s ≡ false) (ltb 8 n) (λ t. refl) (λ t. go mode)
  where
    go : (mode : StartMode) → is_ended (short_state mode) ≡ false
    go Above = refl
    go From = refl

-- The moves that a walk makes in all, at most.
abbrev pub limit : List ℕ → ℕ
limit image = leaves_n (tree_of image) + values_n (tree_of image) + 4 * layers_n (tree_of image) + 2

module _ (image : List ℕ) (b : (i : ℕ) → get_or image i 0 < 256) (o : Obeys image) (mode : StartMode)
    (cursor : List ℕ) where
  module _ (bc : (i : ℕ) → get_or cursor i 0 < 256) (kind : ℕ) (bound : List ℕ) (lim : Limits cursor kind bound) where
    begun : Begun image mode cursor (bound_of kind bound).kind
        (take (bound_of kind bound).len (bound_of kind bound).key) (scan_of (fresh_walk image mode cursor kind bound))
    begun =
        begin-at image b o cursor (bytes_of cursor bc) (bound_of kind bound).kind
        (take (bound_of kind bound).len (bound_of kind bound).key) mode kind bound lim.cursor-fits

    -- where it stands
    pub stage : Conf
    stage = seek begun.steps begun.pre begun.to begun.over

    -- what is left of it is the row
    left-row : left (admitted (bound_of kind bound)) stage ≡ row_of image mode cursor kind bound
    unfolding left rest row_of live_pairs stage
    left-row =
        ap (front (admitted (bound_of kind bound)))
        (sym begun.left ∙ ap (sieve (past mode cursor)) (row-pairs (tree_of image) []))
        ∙ ap (λ (t : List ℕ → Bool). front t (sieve (past mode cursor) (live_pairs image))) (bound_admits kind bound)
        ∙ front-sieve (contains kind bound) (contains-closed kind bound) (sieve (past mode cursor) (live_pairs image))
        (past-ascends image b o mode cursor)

    -- a fresh walk stands before its row
    pub walks : Walks image (bound_of kind bound) (fresh_walk image mode cursor kind bound) stage
    unfolding fresh_walk from_slice stage
    walks = record {
      same_length = refl;
      same-bound = refl;
      fit = record { place = refl; deep = omega arith; within = omega (arith, lim.cursor-fits); position = omega arith };
      stage = going (not_ended mode (length cursor)) begun.rep;
      ascends = subst Ascending (sym left-row) (row_in-order image b o mode cursor kind bound);
      known = begun.known (depth_of image) (row_known image (pairs-ascend image b o));
      few = omega (arith, ap length left-row, row_fits image o mode cursor kind bound);
      last_fits = omega arith;
    }

    -- its potential
    pub few-moves : pot stage ≤ limit image
    unfolding stage weight
    few-moves = omega (arith, begun.light, weighs_n (tree_of image) stop o.paths)

    -- EVERY LIST OF STEPS FROM A FRESH WALK
    pub fresh-steps : (calls : List Call) → Lent image calls
        → (said (steps (fresh_walk image mode cursor kind bound) calls)
        ≡ due (own image calls) (row_of image mode cursor kind bound))
        × Foreign image (fresh_walk image mode cursor kind bound) calls
        × (moves_of (steps (fresh_walk image mode cursor kind bound) calls) ≤ limit image)
        × (handed_by (steps (fresh_walk image mode cursor kind bound) calls)
        ≡ due_handed image (own image calls) (row_of image mode cursor kind bound) nothing_yet)
    unfolding fresh_walk
    fresh-steps calls l =
        let s =
        all-steps image (bound_of kind bound) (bound-kind kind bound lim.kinds)
        (bound-length kind bound lim.fits) calls l (fresh_walk image mode cursor kind bound)
        stage walks (omega (arith, few-moves, moves-fit image o)) in
        (s.0 ∙ ap (due (own image calls)) left-row, s.1, omega (arith, s.2, few-moves), s.3 ∙ ap (λ (l : List Pair). due_handed image (own image calls) l nothing_yet) left-row)

    -- ALL ITS MOVES IN ONE LOOP: as many keys as the row has
    pub fresh-keys : keys_left (fresh_walk image mode cursor kind bound) image
        ≡ length (row_of image mode cursor kind bound)
    fresh-keys =
        keys-left image (bound_of kind bound) (bound-kind kind bound lim.kinds) (bound-length kind bound lim.fits)
        (fresh_walk image mode cursor kind bound) stage walks
        (omega (arith, few-moves, moves-fit image o))
        ∙ ap length left-row
