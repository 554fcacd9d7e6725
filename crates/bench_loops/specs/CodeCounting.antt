-- What the timed loops count, over any bytes.
use Rattle.std.specs.Prelude.{◌≡◌, ◌+◌, Option, None, Some}
use Rattle.std.specs.Borrow.{Bor}
use Rattle.base.specs.Kit.{List, [], ℕ, zero, suc, eqb, length, take, drop}
use Rattle.base.specs.Pick.{pick}
use Rattle.base.specs.declared.Decline.{Decline}
use Rattle.cursor.specs.RangeBound.{contains}
use Rattle.cursor.specs.declared.range_bound.StartMode.TheVariants.{Above}
use Rattle.walk.specs.Walk.{keys_of}
use Rattle.walk.specs.Placing.{place}
use Rattle.scan.specs.Machine.{step}
use Rattle.walk.specs.declared.scan_state.Walk.{Walk}
use Rattle.walk.specs.Types.{Answer, Stepped}

-- A form of the step: whatever it may return of a walk and an image is the step's.
abbrev pub IsStep : (Walk → Bor (List ℕ) → Stepped → Type 0) → Type 0
IsStep P = (w : Walk) (image : Bor (List ℕ)) (s : Stepped) → P w image s → s ≡ step w image.now

-- One more than the rest where a key is out; no more where none is.
unfoldable pub count_key : Answer → ℕ → ℕ
count_key a rest = pick (eqb (keys_of a) 0) 0 (suc rest)

-- How many of the first n steps hand out a key before the first answer that is no key.
unfoldable pub keys_from : ℕ → Walk → List ℕ → ℕ
keys_from zero w image = 0
keys_from (suc n) w image =
    let s = step w image in
    let rest = keys_from n s.walk image in
    count_key s.answer rest

-- n, and 0 where something is declined
abbrev pub none_if : Option Decline → ℕ → ℕ
none_if None n = n
none_if (Some d) n = 0

-- The same of a walk above the empty cursor, unbounded, and of as many steps as the image has bytes; 0 where the placing is
-- declined.
unfoldable pub keys_above : List ℕ → ℕ
keys_above image =
    let p = place image Above [] 0 [] in
    none_if p.declined (keys_from (length image) p.walk image)

-- How many of the first n names the bound admits, each a row of so many bytes.
unfoldable pub rows_within : ℕ → ℕ → ℕ → List ℕ → List ℕ → ℕ
rows_within zero width kind bound names = 0
rows_within (suc n) width kind bound names =
    pick (contains kind bound (take width names)) 1 0 + rows_within n width kind bound (drop width names)
