-- The counting loops: their invariant, and what each way through a turn says of it; and what the placing's number decides.
use Rattle.std.specs.Prelude.{◌≡◌, ◌+◌, ◌-◌, ◌≤◌, ◌<◌, Option, None, Some, Result, Ok}
use Rattle.base.specs.Kit.{refl, ◌∙◌, ap, List, [], ℕ, suc, sub-zero, zero-add, arith, length}
use Rattle.base.specs.Pick.{pick}
use Rattle.base.specs.declared.Decline.{Decline}
use Rattle.base.proofs.Count.{left-more}
use Rattle.cursor.specs.declared.range_bound.StartMode.TheVariants.{Above}
use Rattle.walk.specs.Walk.{keys_of}
use Rattle.walk.specs.Placing.{place, walk_unless, accepted}
use Rattle.scan.specs.Machine.{step}
use Rattle.walk.specs.declared.scan_state.Placed.{Placed}
use Rattle.walk.specs.declared.scan_state.Walk.{Walk}
use Rattle.walk.specs.Types.{Answer, Stepped}
use Rattle.bench_loops.specs.CodeCounting.{count_key, keys_from, none_if, keys_above}

-- THE INVARIANT of a loop that began at the walk w₀: the keys counted and those still to be counted are all of them.
abbrev pub Counts : List ℕ → Walk → Walk → ℕ → Type 0
Counts image w₀ w count =
    (count ≤ length image) × (count + keys_from (length image - count) w image ≡ keys_from (length image) w₀ image)

-- it holds at the start
pub begins : (image : List ℕ) (w : Walk) → Counts image w w 0
begins image w = (omega arith, simp (sub-zero, zero-add))

-- A TURN of the loop, of n in all, with its step s.
pub turn : (image : List ℕ) (n count : ℕ) (w : Walk) → count < n → (s : Stepped) → s ≡ step w image
    → keys_from (n - count) w image ≡ count_key s.answer (keys_from (n - (count + 1)) s.walk image)
unfolding keys_from
turn image n count w h s e = rw (left-more n count h, ← e)

-- none is left of n
pub no_turn : (image : List ℕ) (n count : ℕ) (w : Walk) → n ≤ count → keys_from (n - count) w image ≡ 0
unfolding keys_from
no_turn image n count w h = let e : n - count ≡ 0 = omega arith in rw e

-- the answers
a_key : (a : Answer) (rest : ℕ) → keys_of a ≡ 1 → count_key a rest ≡ suc rest
unfolding count_key pick
a_key a rest e = rw e

no_key : (a : Answer) (rest : ℕ) → keys_of a ≡ 0 → count_key a rest ≡ 0
unfolding count_key pick
no_key a rest e = rw e

-- the placing's walk is handed out
taken : (o : Option Decline) (w v : Walk) → walk_unless o w ≡ Ok v → (keys : Walk → ℕ) → keys v ≡ none_if o (keys w)
taken None w v e keys = let same : v ≡ w = cc in ap keys same
taken (Some d) w v e keys = absurd (cc)

-- no walk is
refused : (o : Option Decline) (w : Walk) → ((v : Walk) → walk_unless o w ≡ Ok v → ⊥) → (n : ℕ) → 0 ≡ none_if o n
refused None w h n = absurd (h w refl)
refused (Some d) w h n = refl

module _ (image : List ℕ) (w₀ w : Walk) (count : ℕ) (inv : Counts image w₀ w count) where
  module _ (h : count < length image) (s : Stepped) (e : s ≡ step w image) where
    -- a key: the loop goes on from the step's walk
    pub goes_on_lem : keys_of s.answer ≡ 1 → Counts image w₀ s.walk (count + 1)
    goes_on_lem f = let t = turn image (length image) count w h s e ∙ a_key s.answer _ f in (omega arith, omega (arith, t, inv.1))

    -- no key: the loop ends
    pub ends : keys_of s.answer ≡ 0 → count ≡ keys_from (length image) w₀ image
    ends f = let t = turn image (length image) count w h s e ∙ no_key s.answer _ f in omega (arith, t, inv.1)

  -- as many keys as the image has bytes
  pub runs-out : length image ≤ count → length image ≡ keys_from (length image) w₀ image
  runs-out h = let t = no_turn image (length image) count w h in omega (arith, t, inv)

module _ (image : List ℕ) (p : Placed) (e : p ≡ place image Above [] 0 []) (r : Result Walk Decline) (f : r ≡ accepted p) where
  -- the placing is declined
  pub declined : ((w : Walk) → r ≡ Ok w → ⊥) → 0 ≡ keys_above image
  unfolding keys_above accepted
  declined h = rw (← e) (refused p.declined p.walk (rw f at h) _)

  -- the walk is counted
  pub counted : (w : Walk) → r ≡ Ok w → (n : ℕ) → n ≡ keys_from (length image) w image → n ≡ keys_above image
  unfolding keys_above accepted
  counted w g n k = rw (← e) (k ∙ taken p.declined p.walk w (rw f at g) (λ (v : Walk). keys_from (length image) v image))
