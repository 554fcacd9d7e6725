-- The two loops over the stack, as functions of the turns left, and what all turns come to.
use Rattle.std.specs.Prelude.{◌≡◌, ◌+◌, ◌*◌, ◌-◌, ◌<◌, ◌≤◌}
use Rattle.base.specs.Kit.{refl, List, ℕ, zero, suc, arith, get_or, set, replicate}
use Rattle.base.proofs.Count.{left-more}
use Rattle.walk.specs.Walk.{empty_context}
use Rattle.walk_record.specs.Types.{LayerContext, Walk}
use Rattle.walk_record.specs.Record.{stack_at, entry_at, entries, stack_numbers, numbers_of}
use Rattle.walk_record.specs.CodeLaid.{head_of}

-- the stack filled from the numbers, entry by entry
unfoldable pub fill : List ℕ → List LayerContext → ℕ → ℕ → List LayerContext
fill s stack i zero = stack
fill s stack i (suc n) = fill s (set stack i (entry_at s i)) (i + 1) n

pub fill_more : (s : List ℕ) (stack : List LayerContext) (i : ℕ) → i < 31
    → fill s stack i (31 - i) ≡ fill s (set stack i (entry_at s i)) (i + 1) (31 - (i + 1))
unfolding fill
fill_more s stack i h = rw (left-more 31 i h)

pub fill_done : (s : List ℕ) (stack : List LayerContext) (i : ℕ) → 31 ≤ i → fill s stack i (31 - i) ≡ stack
unfolding fill
fill_done s stack i h = let e : 31 - i ≡ 0 = omega arith in rw e

pub fill_all : (s : List ℕ) → fill s (replicate 31 empty_context) 0 31 ≡ entries s 0 31
unfolding fill entries
fill_all s = refl

-- the numbers filled from the stack, entry by entry
unfoldable pub spread : List ℕ → List LayerContext → ℕ → ℕ → List ℕ
spread l stack i zero = l
spread l stack i (suc n) =
    let e = get_or stack i empty_context in
    spread (set (set l (stack_at + 2 * i) e.root) (stack_at + 1 + 2 * i) e.leaf) stack (i + 1) n

pub spread_more : (l : List ℕ) (stack : List LayerContext) (i : ℕ) → i < 31
    → spread l stack i (31 - i)
    ≡ spread (set (set l (stack_at + 2 * i) (get_or stack i empty_context).root) (stack_at + 1 + 2 * i) (get_or stack i empty_context).leaf) stack (i + 1) (31 - (i + 1))
unfolding spread
spread_more l stack i h = rw (left-more 31 i h)

pub spread_done : (l : List ℕ) (stack : List LayerContext) (i : ℕ) → 31 ≤ i → spread l stack i (31 - i) ≡ l
unfolding spread
spread_done l stack i h = let e : 31 - i ≡ 0 = omega arith in rw e

pub spread_all : (w : Walk) → spread (head_of w) w.stack 0 31 ≡ numbers_of w
unfolding spread numbers_of head_of stack_numbers
spread_all w = refl
