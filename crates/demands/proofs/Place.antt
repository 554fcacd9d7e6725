-- Where a walk above a cursor of at most eight bytes begins. Proved: its Retry comes to a place from which on the row has exactly the
-- keys past the start. The idea: what the descent and the search in the leaf pass over ranks below the cursor, or with
-- it where the walk begins above it; a slot of the cursor's own rank is passed over by the duplicate check, and stands
-- dead.
use Rattle.std.specs.Prelude.{◌≡◌, ◌+◌, ◌*◌, ◌≤◌, ◌<◌, Ok}
use Rattle.base.specs.Kit.{refl, ◌∙◌, subst, List, [], true, false, ℕ, zero, suc, arith, length, replicate, length-replicate}
use Rattle.key.specs.Ikey.{ikey_of}
use Rattle.key.specs.Part.{padded}
use Rattle.demands.specs.Types.{Held, Ordering, ScanState, ScanStateRetry as Retry, Above}
use Rattle.key.proofs.Order.{Cmp, is_lt, is_eq, is_gt, cmp}
use Rattle.key.proofs.Bytes.{Bytes}
use Rattle.key.proofs.Ikey.{rank, padded-length}
use Rattle.node.specs.Layout.{root_offset}
use Rattle.layering.specs.Sieve.{sieve, past}
use Rattle.layering.proofs.Row.{Row, stop, hop, val, sub, keys, weight, Asc}
use Rattle.layering.proofs.Part.{slot_rank}
use Rattle.layering.proofs.Sieve.{all_pass, above_yes, above_no}
use Rattle.layering.proofs.Walk.{bottom}
use Rattle.layering.proofs.Descent.{Past, here, over_val, over-sub, past_trans, past_weight, past-sieve, NextHop}
use Rattle.layering.proofs.Depths.{Known, known_behind, known_past}
use Rattle.walk.specs.Walk.{empty_context}
use Rattle.demands.proofs.Leaf.{used_in, rank_at, LeafOk}
use Rattle.demands.proofs.Search.{Stands}
use Rattle.demands.proofs.Moves.{dup_at, dup_no, dup_yes}
use Rattle.demands.proofs.Relation.{Ready, At, Piled, Core, Finds, Standing, plain, passes}
use Rattle.demands.proofs.Values.{val_rank, sub-ikey, core-move}
use Rattle.demands.proofs.Follow.{arrived}

pub next_ready : (x : ℕ) (r : Row) → NextHop x r → Ready x r
unfolding NextHop Ready
next_ready x stop h = tt
next_ready x (hop l y r) h = h
next_ready x (val k b v r) h = tt
next_ready x (sub k q s r) h = tt

-- The first scan of a walk with cursor x.
unfoldable pub opening : List ℕ → List ℕ → ScanState → ℕ → Held
opening image x state last = record {
  ctx = record {
    root = root_offset image;
    leaf = 0;
    position = record { 0 = 0 };
    cursor = record { offset = 0; len = length x; ikey = ikey_of x };
    depth = 0;
    state = state;
    dup = false;
    last = last;
  };
  buf = padded x;
  stack = replicate 31 empty_context;
}

pub core_opening : (image x : List ℕ) (state : ScanState) → length x ≤ 256 → Core image (opening image x state 0) [] bottom
unfolding opening Piled
core_opening image x state h = record {
  fit = record { place = refl; deep = omega arith; within = omega arith; position = omega arith };
  pre-length = refl;
  pre = refl;
  long = padded-length x h;
  tall = length-replicate 31 empty_context;
  piled = (refl, refl);
}

-- A cursor of at most eight bytes: the start goes by rank.
module _ (x : List ℕ) (short : length x ≤ 8) (bx : Bytes x) where
  -- what is left of the row from a place on, where all that ranks no higher has been passed
  left_there : (r to : Row) (m low : ℕ) → Asc m r → Past (suc (rank x)) r to → suc (rank x) ≤ low
      → Asc low to → sieve (past Above x) (keys [] r) ≡ keys [] to
  unfolding past
  left_there r to m low a p h b =
      past-sieve [] (past Above x) (suc (rank x)) (λ k bk g. above_no x k short bx bk g) m p a
      ∙ all_pass [] (past Above x) (suc (rank x)) (λ k bk g. above_yes x k bx bk g) low to h b

module _ (image : List ℕ) where
  -- A jump to position i of a leaf: the row there, and that what was passed over ranks below lo.
  pub record Jump (l x lo i : ℕ) (r : Row) : Type 0 where
    pub to : Row
    pub at : At image 0 l i to
    pub past : Past lo r to
    pub hops : NextHop x to
    pub low : ℕ
    pub asc : Asc low to

  jump-on : (l x lo i n : ℕ) {r to : Row} → Past lo r to → Jump l x lo (i + 1 + n) to → Jump l x lo (i + suc n) r
  jump-on l x lo i n p g = record {
    to = g.to;
    at = subst (λ (z : ℕ). At image 0 l z g.to) (omega arith) g.at;
    past = past_trans p g.past;
    hops = g.hops;
    low = g.low;
    asc = g.asc;
  }

  jump : (l x lo n i m : ℕ) (r : Row) → At image 0 l i r → Asc m r → NextHop x r → i + n ≤ used_in image l
      → ((j : ℕ) → i ≤ j → j < i + n → rank_at image l j < lo) → Jump l x lo (i + n) r
  unfolding At Asc NextHop rank_at slot_rank
  jump l x lo zero i m r a s h w b = record {
    to = r;
    at = subst (λ (z : ℕ). At image 0 l z r) (omega arith) a;
    past = here;
    hops = h;
    low = m;
    asc = s;
  }
  jump l x lo (suc n) i m stop a s h w b = absurd (omega (arith, a.0))
  jump l x lo (suc n) i m (hop q y r) a s h w b = absurd (omega (arith, a.0))
  jump l x lo (suc n) i m (val k c v r) a s h w b =
      jump-on l x lo i n (over_val {k = k} (omega (arith, val_rank image a.0, b i (omega arith) (omega arith))) here)
      (jump l x lo n (i + 1) (suc (rank k)) r a.1 s.2 h (omega arith) (λ j g k. b j (omega arith) (omega arith)))
  jump l x lo (suc n) i m (sub k q t r) a s h w b =
      jump-on l x lo i n
      (over-sub {k = k} (omega (arith, sub-ikey image a.0, a.0.layer, b i (omega arith) (omega arith))) here)
      (jump l x lo n (i + 1) (suc (ikey_of k * 16 + 9)) r a.5 s.4 h (omega arith)
      (λ j g k. b j (omega arith) (omega arith)))

  -- A walk that has come to its first place s: what it finds there on, of the row r, is what lies past the start.
  pub record Placed (x : List ℕ) (s : Held) (r : Row) : Type 0 where
    pub to : Row
    pub stands : Standing image s [] bottom to
    pub left : sieve (past Above x) (keys [] r) ≡ keys [] to
    pub known : (t : List ℕ → ℕ) → Known t [] r → Known t [] to
    pub light : weight to ≤ weight r

  module _ (x : List ℕ) (short : length x ≤ 8) (bx : Bytes x) (l i : ℕ) (ok : LeafOk image l)
      (within : i ≤ used_in image l) (r : Row) (m : ℕ) (asc : Asc m r) where
    -- where its Retry comes to
    abbrev pub begun : Held
    begun = arrived (opening image x Retry 0) l i true

    finds-begun : (to : Row) (low : ℕ) → At image 0 l i to → Asc low to → NextHop (ikey_of x) to → Finds image begun [] to bottom
    unfolding opening arrived
    finds-begun to low a s h = record {
      core = core-move image (omega arith) (core_opening image x Retry (omega arith));
      ok = ok;
      at = a;
      lo = low;
      asc = s;
      seen = omega arith;
      ready = next_ready (ikey_of x) to h;
    }

    -- the floor bounds the row there
    raise : (lo : ℕ) (to : Row) (low : ℕ) → At image 0 l i to → Asc low to → NextHop (ikey_of x) to
        → lo ≤ ikey_of x * 16 + 16 → (i < used_in image l → lo ≤ rank_at image l i) → Asc lo to
    unfolding At Asc NextHop rank_at slot_rank
    raise lo stop low a s h c g = tt
    raise lo (hop q y to) low a s h c g = (omega arith, s.1)
    raise lo (val k b v to) low a s h c g = (omega (arith, val_rank image a.0, g a.0.used), s.1, s.2)
    raise lo (sub k q t to) low a s h c g =
        (s.0, s.1, omega (arith, sub-ikey image a.0, a.0.layer, g a.0.used), s.3, s.4)

    -- all slots from there on are new to the walk
    plain_at : (to : Row) (low : ℕ) → At image 0 l i to → Asc low to
        → NextHop (ikey_of x) to → Past (suc (rank x)) r to
        → (i < used_in image l → suc (rank x) ≤ rank_at image l i)
        → (i < used_in image l → dup_at image (padded x) begun.ctx ≡ Ok false)
        → Placed x begun r
    unfolding opening arrived rank
    plain_at to low a s h p g d = record {
      to = to;
      stands = plain refl (finds-begun to low a s h) d;
      left =
          left_there x short bx r to m (suc (rank x)) asc p (omega arith)
          (raise (suc (rank x)) to low a s h (omega arith) g);
      known = λ t q. known_past t [] p q;
      light = past_weight p;
    }

    -- the slot there is the cursor's own
    own_at : (to : Row) (low : ℕ) → At image 0 l i to → Asc low to → NextHop (ikey_of x) to → Past (suc (rank x)) r to
        → i < used_in image l → rank x ≡ rank_at image l i → Placed x begun r
    unfolding opening arrived rank At Asc NextHop rank_at slot_rank weight keys Known
    own_at stop low a s h p b e = absurd (omega (arith, a.0))
    own_at (hop q y to) low a s h p b e = absurd (omega (arith, a.0))
    own_at (sub k q t to) low a s h p b e = absurd (omega (arith, a.0.layer))
    own_at (val k c v to) low a s h p b e = record {
      to = val k false v to;
      stands =
          passes {k = k} {b = c} {v = v} refl (finds-begun (val k c v to) low a s h)
          (dup_yes image _ _ refl (omega arith) (omega arith)) (omega (arith, val_rank image a.0));
      left =
          left_there x short bx r to m (suc (rank k)) asc
          (past_trans p (over_val {k = k} (omega (arith, val_rank image a.0)) here))
          (omega (arith, val_rank image a.0)) s.2;
      known = λ t q. known_behind t [] k c v to (known_past t [] p q);
      light = omega (arith, past_weight p);
    }

    -- THE PLACE THAT A SEARCH IN THE LEAF COMES TO, where the row q stands from the leaf's first slot on
    module _ (q : Row) (low : ℕ) (aq : At image 0 l 0 q) (sq : Asc low q) (hq : NextHop (ikey_of x) q) where
      pub place_above : Past (suc (rank x)) r q → Stands image l (ikey_of x * 16 + length x) i
          → Placed x begun r
      unfolding rank opening arrived
      place_above p g = go (cmp i (used_in image l)) (cmp (rank x) (rank_at image l i))
        where
          j : Jump l (ikey_of x) (suc (rank x)) (0 + i) q
          j =
              jump l (ikey_of x) (suc (rank x)) i 0 low q aq sq hq (omega arith)
              (λ n a b. omega (arith, g.passed n a (omega arith)))

          there : At image 0 l i j.to
          there = subst (λ (n : ℕ). At image 0 l n j.to) (omega arith) j.at

          go : {o u : Ordering} → Cmp i (used_in image l) o → Cmp (rank x) (rank_at image l i) u
              → Placed x begun r
          go (is_lt a) (is_lt b) =
              plain_at j.to j.low there j.asc j.hops (past_trans p j.past) (λ c. b)
              (λ c. dup_no image _ _ short (omega arith))
          go (is_lt a) (is_eq b) = own_at j.to j.low there j.asc j.hops (past_trans p j.past) a b
          go (is_lt a) (is_gt b) = absurd (omega (arith, g.there (omega arith)))
          go (is_eq a) b =
              plain_at j.to j.low there j.asc j.hops (past_trans p j.past)
              (λ c. absurd (omega arith)) (λ c. absurd (omega arith))
          go (is_gt a) b = absurd (omega arith)
