-- THE THEOREM `c-demand-3`: demand 3 over the functions that C calls, for every list of calls of `pb_step` on a record that `pb_place_above`
-- or `pb_place_from` filled. The idea of the proof: the record reads back as the walk that was placed, each call leaves a record that reads
-- back as the walk after a step (proofs/Calls.antt), and demand 3 speaks of those steps.
use Rattle.std.specs.Prelude.{◌≡◌, ◌+◌, ◌*◌, ◌≤◌, ◌<◌, None}
use Rattle.base.specs.Kit.{ap, sym, ◌∙◌, Bool, true, List, ℕ, arith, length, get_or}
use Rattle.base.specs.Pick.{pick}
use Rattle.base.proofs.Choice.{by_test}
use Rattle.layering.specs.Sieve.{row_of}
use Rattle.verify.specs.Check.{check_number, check_counts, check}
use Rattle.walk.specs.Walk.{nothing_yet}
use Rattle.walk.specs.Placing.{place}
use Rattle.walk_record.specs.Record.{numbers_of}
use Rattle.demands.specs.Demand.{due}
use Rattle.demands.specs.HandedOut.{due_handed}
use Rattle.walk.proofs.PlaceLaws.{declined-none, none-code}
use Rattle.demands.proofs.Demand.{demand-3, is-taken}
use Rattle.demands.proofs.HandedOut.{carried-due}
use Rattle.punchbronze.specs.Interface.{fitting, placed_number, placed_numbers, placed_buf, placed_bound, PutPlaced}
use Rattle.punchbronze.proofs.Placing.{place_keeps}
use Rattle.c_demands.specs.Types.{StartMode, Placed}
use Rattle.c_demands.specs.CDemand.{CCall, CLeft, c_steps, Kept, CLent, made, c_said, c_moves_of, c_handed, CDemand3}
use Rattle.c_demands.proofs.Calls.{kept-is, as_steps, made_all, lent_all, follow_all}

-- A placing that returned 0: the lent record has a record's lengths, the placing was taken, and its walk was put there.
module _ (p : Placed) (numbers buf bound numbers' buf' bound' : List ℕ) (put : PutPlaced p numbers buf bound 0 numbers' buf' bound') where
  fits : fitting numbers buf bound ≡ true
  unfolding placed_number pick
  fits =
      by_test (fitting numbers buf bound) (λ t. t)
      (λ f. absurd (let z : ◌≡◌ {A = ℕ} 0 21 = rw f at put.number in omega arith))

  not-declined : p.declined ≡ None
  unfolding placed_number pick
  not-declined = declined-none p (sym (rw fits at put.number))

  numbers_are : numbers' ≡ numbers_of p.walk
  unfolding placed_numbers pick
  numbers_are = rw fits at put.numbers-left

  buf-is : buf' ≡ p.walk.cursor.buf
  unfolding placed_buf pick
  buf-is = rw fits at put.buf-left

  bound-is : bound' ≡ p.walk.bound.key
  unfolding placed_bound pick
  bound-is = rw fits at put.bound-left

-- Over an image of bytes whose check gives 0; a lent record, whatever it held, and what a placing in either mode that returned 0 left of it
-- (`PutPlaced`); and any list of calls, each lent that image or bytes of another length (`CLent`), and any output.
pub c-demand-3 : (image : List ℕ) → ((i : ℕ) → get_or image i 0 < 256) → check_number (check image) ≡ 0
    → (mode : StartMode) (cursor : List ℕ) → ((i : ℕ) → get_or cursor i 0 < 256) → (kind : ℕ) (key : List ℕ)
    → (numbers buf bound numbers' buf' bound' : List ℕ) → PutPlaced (place image mode cursor kind key) numbers buf bound 0 numbers' buf' bound'
    → (calls : List CCall) → CLent image calls → CDemand3 image mode cursor kind key numbers' buf' bound' calls
c-demand-3 image b a mode cursor bc kind key numbers buf bound numbers' buf' bound' put calls l =
    let p = place image mode cursor kind key in
    let d =
    demand-3 image b a mode cursor bc kind key (not-declined p numbers buf bound numbers' buf' bound' put) (as_steps image calls) (lent_all image calls l) in
    let kept = place_keeps image mode cursor kind key in
    let f = follow_all image p.walk.bound.key calls (numbers_of p.walk) p.walk.cursor.buf kept.0 (rw kept.1 d.foreign) in
    rw (
      numbers_are p numbers buf bound numbers' buf' bound' put,
      buf-is p numbers buf bound numbers' buf' bound' put,
      bound-is p numbers buf bound numbers' buf' bound' put,
    )
    (record {
      says = rw (f.0, kept.1) (d.says ∙ ap (λ (which : List Bool). due which (row_of image mode cursor kind key)) (made_all image calls));
      foreign = f.2;
      ascends = d.ascends;
      total = rw (f.1, kept.1) d.total;
    })

-- 02 [13]: what the same calls carry is what is due of the row.
pub c-carried-due : (image : List ℕ) → ((i : ℕ) → get_or image i 0 < 256) → check_number (check image) ≡ 0
    → (mode : StartMode) (cursor : List ℕ) → ((i : ℕ) → get_or cursor i 0 < 256) → (kind : ℕ) (key : List ℕ)
    → (numbers buf bound numbers' buf' bound' : List ℕ) → PutPlaced (place image mode cursor kind key) numbers buf bound 0 numbers' buf' bound'
    → (calls : List CCall) → CLent image calls
    → c_handed (c_steps numbers' buf' bound' calls) ≡ due_handed image (made image calls) (row_of image mode cursor kind key) nothing_yet
c-carried-due image b a mode cursor bc kind key numbers buf bound numbers' buf' bound' put calls l =
    let p = place image mode cursor kind key in
    let taken = not-declined p numbers buf bound numbers' buf' bound' put in
    let d = demand-3 image b a mode cursor bc kind key taken (as_steps image calls) (lent_all image calls l) in
    let due = carried-due image b a mode cursor bc kind key taken (as_steps image calls) (lent_all image calls l) in
    let kept = place_keeps image mode cursor kind key in
    let f = follow_all image p.walk.bound.key calls (numbers_of p.walk) p.walk.cursor.buf kept.0 (rw kept.1 d.foreign) in
    rw (
      numbers_are p numbers buf bound numbers' buf' bound' put,
      buf-is p numbers buf bound numbers' buf' bound' put,
      bound-is p numbers buf bound numbers' buf' bound' put,
      f.3,
      kept.1,
    )
    (due ∙ ap (λ (which : List Bool). due_handed image which (row_of image mode cursor kind key) nothing_yet) (made_all image calls))

-- COROLLARIES. The same of anything that calls left which meet `pb_step`'s contract (`Kept`).
pub by_contract : (image : List ℕ) (mode : StartMode) (cursor : List ℕ) (kind : ℕ) (key numbers buf bound : List ℕ) (calls : List CCall)
    → CDemand3 image mode cursor kind key numbers buf bound calls → (lefts : List CLeft) → Kept numbers buf bound calls lefts
    → (c_said lefts ≡ due (made image calls) (row_of image mode cursor kind key))
    × (c_moves_of lefts ≤ (check_counts (check image)).leaves + (check_counts (check image)).value_slots + 4 * (check_counts (check image)).sub_layers + 2)
by_contract image mode cursor kind key numbers buf bound calls d lefts h = rw (kept-is bound calls numbers buf lefts h) (d.says, d.total)

-- Over an accepted image a placing into a record of a record's lengths returns 0 where cursor, kind and bound key are in their limits.
pub is_placed : (image : List ℕ) → check_number (check image) ≡ 0 → (mode : StartMode) (cursor : List ℕ) (kind : ℕ) (key numbers buf bound : List ℕ)
    → fitting numbers buf bound ≡ true → length cursor ≤ 256 → kind ≤ 2 → length key ≤ 256
    → placed_number (place image mode cursor kind key) numbers buf bound ≡ 0
unfolding placed_number pick
is_placed image a mode cursor kind key numbers buf bound s c k h = rw s (none-code _ (is-taken image a mode cursor kind key c k h))
