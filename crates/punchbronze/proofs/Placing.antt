-- THE THEOREM `place_keeps`: the record of a placing, declined or not, is a walk's, and reads back as the placing's walk.
use Rattle.std.specs.Prelude.{◌≡◌, ◌≤◌, Result, Ok, Err}
use Rattle.base.specs.Kit.{refl, true, List, ℕ, arith, eqb, length}
use Rattle.base.proofs.Choice.{pick_ind}
use Rattle.key.proofs.Ikey.{padded-length}
use Rattle.cursor.specs.CursorKey.{from_slice}
use Rattle.cursor.specs.RangeBound.{bound_of}
use Rattle.punchbronze.specs.Types.{Decline, RangeBound, StartMode}
use Rattle.walk.specs.Walk.{zero_walk}
use Rattle.walk.specs.Placing.{placing, placed_by, fresh_walk, place}
use Rattle.walk.proofs.PlaceLaws.{placed_fits}
use Rattle.walk_record.specs.Record.{numbers_of, read_walk, is_record}
use Rattle.walk_record.proofs.Inverse.{Arrays, record_inverse}

zero_arrays : Arrays zero_walk
unfolding zero_walk
zero_arrays = record { stack_is = refl; buf-is = refl; key-is = refl; kind_fits = omega arith }

module _ (image : List ℕ) (mode : StartMode) (key : List ℕ) (kind : ℕ) (bound : List ℕ) where
  bound-fits : kind ≤ 2 → length bound ≤ 256 → (length (bound_of kind bound).key ≡ 256) × ((bound_of kind bound).kind ≤ 255)
  unfolding bound_of
  bound-fits k l =
      pick_ind (λ (b : RangeBound). (length b.key ≡ 256) × (b.kind ≤ 255)) (eqb kind 0)
      (λ t. (refl, omega arith)) (λ f. (padded-length bound l, omega arith))

  fresh_arrays : placing image key kind bound ≡ Ok tt → Arrays (fresh_walk image mode key kind bound)
  unfolding fresh_walk from_slice
  fresh_arrays e =
      let f = placed_fits image key kind bound e in
      let b = bound-fits f.2 f.3 in
      record { stack_is = refl; buf-is = padded-length key (omega arith); key-is = b.0; kind_fits = b.1 }

  placed_arrays : (r : Result Unit Decline) → placing image key kind bound ≡ r → Arrays (placed_by r (fresh_walk image mode key kind bound)).walk
  placed_arrays (Ok tt) e = fresh_arrays e
  placed_arrays (Err d) e = zero_arrays

  place_arrays : Arrays (place image mode key kind bound).walk
  unfolding place
  place_arrays = placed_arrays (placing image key kind bound) refl

  pub place_keeps : (is_record (numbers_of (place image mode key kind bound).walk) (place image mode key kind bound).walk.cursor.buf (place image mode key kind bound).walk.bound.key ≡ true)
      × (read_walk (numbers_of (place image mode key kind bound).walk) (place image mode key kind bound).walk.cursor.buf (place image mode key kind bound).walk.bound.key ≡ (place image mode key kind bound).walk)
  place_keeps = record_inverse (place image mode key kind bound).walk place_arrays
