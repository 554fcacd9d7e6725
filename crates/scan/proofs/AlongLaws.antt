-- The moves along a leaf: each is a move of the machine that hands out a key, so that what is left to do stays what it was.
use Rattle.std.specs.Prelude.{◌≡◌, ◌+◌, ◌-◌, ◌≤◌, ◌<◌, None, Ok, Err, Some}
use Rattle.base.specs.Kit.{refl, sym, ◌∙◌, ap, true, false, List, ℕ, arith, length}
use Rattle.base.specs.Pick.{pick}
use Rattle.base.proofs.Choice.{pick-on, pick_off}
use Rattle.scan.specs.Types.{Held, Slot, CursorPlace, ScanCtx, HandedKey, LayerContext, Unreadable, MovesSpent}
use Rattle.cursor.specs.CursorKey.{with_ikey, with_length}
use Rattle.search.specs.Traversal.{leaf_there}
use Rattle.moves.specs.Moves.{onward, key_place, key_buf}
use Rattle.moves.specs.CodeMoves.{InRange}
use Rattle.moves.specs.CodeFastPath.{outcome_of, fast_slot, next_of}
use Rattle.moves.proofs.StoredKey.{key_fits, key-buf-length}
use Rattle.moves.proofs.FastLaws.{Fast, fast_facts}
use Rattle.scan.specs.CodeLoop.{counted, came_to, goes_on, after_by, run_by, AfterKey, ahead, along_with, AlongFrom}
use Rattle.scan.proofs.RunLaws.{turn}
use Rattle.scan.proofs.FastMove.{leaf_gone, moves_so}

module _ (image : List ℕ) (kind : ℕ) (bound buf₀ : List ℕ) (c₀ : ScanCtx) (keys₀ moves₀ : ℕ) where
  abbrev scan : ScanCtx → List ℕ → List LayerContext → Held
  scan c buf stack = record { ctx = c; buf = buf; stack = stack }

  -- What the moves along the leaf have come to.
  pub record Going (buf : List ℕ) (c : ScanCtx) (keys moves : ℕ) : Type 0 where
    pub same : (stack : List LayerContext) → ahead image kind bound keys moves (scan c buf stack) ≡ ahead image kind bound keys₀ moves₀ (scan c₀ buf₀ stack)
    pub after : AfterKey c
    pub in_range_lem : InRange c.depth c
    pub long : length buf ≡ 256
    pub few : keys ≤ moves
    pub grows : moves₀ ≤ moves
    pub within : moves ≤ length image

  module _ (buf : List ℕ) (c : ScanCtx) (keys moves : ℕ) (g : Going buf c keys moves) where
    pub room : c.cursor.offset ≤ 248
    room = omega (arith, g.in_range_lem.place, g.in_range_lem.deep)

    -- no move is left
    pub spent : length image ≤ moves → AlongFrom image kind bound buf₀ c₀ keys₀ moves₀ (along_with (Some (Err MovesSpent)) c keys moves) buf
    unfolding run_by
    spent l = record {
      same = λ stack. let z : length image - moves ≡ 0 = omega arith in rw z at (g.same stack);
      after = g.after;
      in_range_lem = g.in_range_lem;
      long = g.long;
      few = g.few;
      grows = g.grows;
      within = g.within;
      tested = λ e. absurd cc;
    }

    module _ (more : moves < length image) where
      -- its leaf is not there
      pub gone : leaf_there image c.leaf ≡ false → AlongFrom image kind bound buf₀ c₀ keys₀ moves₀ (along_with (Some (Err Unreadable)) c keys (moves + 1)) buf
      unfolding after_by counted pick
      gone e = record {
        same = λ stack. sym (turn image kind bound true moves keys (scan c buf stack) _ _ more (leaf_gone image kind bound buf stack c g.after e)) ∙ g.same stack;
        after = g.after;
        in_range_lem = g.in_range_lem;
        long = g.long;
        few = omega (arith, g.few);
        grows = omega (arith, g.grows);
        within = omega arith;
        tested = λ e. absurd cc;
      }

      module _ (there : leaf_there image c.leaf ≡ true) where
        -- the next move is not the fast path's
        pub slow : AlongFrom image kind bound buf₀ c₀ keys₀ moves₀ (along_with None c keys moves) buf
        unfolding pick
        slow = record {
          same = g.same;
          after = g.after;
          in_range_lem = g.in_range_lem;
          long = g.long;
          few = g.few;
          grows = g.grows;
          within = g.within;
          tested = λ e. (more, there);
        }

        -- it is: k and b are cursor and buffer with the key
        module _ (slot : Slot) (e : fast_slot image c.leaf c.position c.cursor ≡ Some slot) (k : CursorPlace) (ek : k ≡ key_place image c.leaf slot c.cursor)
            (b : List ℕ) (eb : b ≡ key_buf image c.leaf slot c.cursor.offset buf) where
          facts : Fast image c.leaf c.position c.cursor slot
          facts = fast_facts image c.leaf c.position c.cursor slot e

          long_still : length b ≡ 256
          long_still = rw eb (key-buf-length image c.leaf slot c.cursor room facts.storable buf g.long)

          goes_on_lem : InRange c.depth (onward c k k.ikey)
          unfolding onward key_place with_ikey with_length
          goes_on_lem =
              let p : k.offset ≡ c.cursor.offset = ap (λ (x : CursorPlace). x.offset) ek in
              record {
                place = p ∙ g.in_range_lem.place;
                deep = g.in_range_lem.deep;
                within = rw ek (key_fits image c.leaf slot c.cursor room facts.storable);
                position = omega (arith, facts.used);
              }

          after_it : AfterKey (onward c k k.ikey)
          unfolding onward
          after_it = record { next = refl; not-due = refl; last-is = refl }

          -- the bound ends them with this key, and n keys are out
          ends : (n : ℕ) → n ≤ moves + 1
              → ((stack : List LayerContext) → came_to (Ok None) false n (moves + 1) (scan (onward c k k.ikey) b stack) ≡ ahead image kind bound keys₀ moves₀ (scan c₀ buf₀ stack))
              → AlongFrom image kind bound buf₀ c₀ keys₀ moves₀ (along_with (Some (Ok None)) (onward c k k.ikey) n (moves + 1)) b
          unfolding onward pick
          ends n l s = record {
            same = s;
            after = after_it;
            in_range_lem = goes_on_lem;
            long = long_still;
            few = l;
            grows = omega (arith, g.grows);
            within = omega arith;
            tested = λ e. absurd cc;
          }

          -- the key is out; where it is the last, the count is at its end
          module _ (h : HandedKey) (f : Some h ≡ next_of image kind bound b c.leaf slot k) where
            comes : (stack : List LayerContext)
                → pick (goes_on true h.last) (ahead image kind bound (keys + 1) (moves + 1) (scan (onward c k k.ikey) b stack)) (came_to (Ok None) false (keys + 1) (moves + 1) (scan (onward c k k.ikey) b stack))
                ≡ ahead image kind bound keys₀ moves₀ (scan c₀ buf₀ stack)
            unfolding onward outcome_of after_by counted pick
            comes stack = sym (turn image kind bound true moves keys (scan c buf stack) _ _ more (moves_so image kind bound buf stack c g.after there slot e k b (Some h) ek eb f)) ∙ g.same stack

            pub out : h.last ≡ false → Going b (onward c k k.ikey) (keys + 1) (moves + 1)
            unfolding onward
            out t = record {
              same = λ stack. pick-on _ (goes_on true h.last) refl _ _ _ (ap (goes_on true) t) refl ∙ comes stack;
              after = after_it;
              in_range_lem = goes_on_lem;
              long = long_still;
              few = omega (arith, g.few);
              grows = omega (arith, g.grows);
              within = omega arith;
            }

            pub last_out : h.last ≡ true → AlongFrom image kind bound buf₀ c₀ keys₀ moves₀ (along_with (Some (Ok None)) (onward c k k.ikey) (keys + 1) (moves + 1)) b
            last_out t =
                ends (keys + 1) (omega (arith, g.few)) (λ stack. pick_off _ (goes_on true h.last) refl _ _ _ (ap (goes_on true) t) refl ∙ comes stack)

          -- it is past the bound
          pub past : None ≡ next_of image kind bound b c.leaf slot k
              → AlongFrom image kind bound buf₀ c₀ keys₀ moves₀ (along_with (Some (Ok None)) (onward c k k.ikey) keys (moves + 1)) b
          unfolding onward outcome_of after_by counted
          past f =
              ends keys (omega (arith, g.few))
              (λ stack. sym (turn image kind bound true moves keys (scan c buf stack) _ _ more (moves_so image kind bound buf stack c g.after there slot e k b None ek eb f)) ∙ g.same stack)
