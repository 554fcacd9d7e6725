-- Laws of a record's tests that go by a loop, one turn at a time.
use Rattle.std.specs.Prelude.{◌≡◌, ◌&&◌, ◌+◌, ◌-◌, ◌<◌}
use Rattle.base.specs.Kit.{ltb, sub-one, refl, sym, ◌∙◌, Bool, true, false, not, and-true, and-false, and_assoc, List, ℕ, zero, suc, eqb, add-one, arith, length, get_or, set, eqb-true, eqb-false, add-zero, zero-add, get_or-set_same, get_or-set_other}
use Rattle.node.specs.Layout.{separator_at}
use Rattle.verify.specs.Types.{Slot}
use Rattle.verify.specs.Check.{separators_from, fresh_from, permutes_from}
use Rattle.node.specs.Permuter.{slot_at}

-- FRESH: none of the fields before is the slot; by one field more, at the end.
abbrev other : ℕ → ℕ → ℕ → Bool
other permutation slot i = not (eqb (slot_at permutation (record { 0 = i })).0 slot)

fresh-more : (permutation slot i n : ℕ)
    → fresh_from permutation slot i (suc n) ≡ (fresh_from permutation slot i n && other permutation slot (i + n))
unfolding fresh_from
fresh-more permutation slot i zero = rw add-zero (and-true _)
fresh-more permutation slot i (suc n) =
    let e : i + 1 + n ≡ i + suc n = omega arith in
    rw (fresh-more permutation slot (i + 1) n, e)
    (sym (and_assoc (other permutation slot i) (fresh_from permutation slot (i + 1) n) (other permutation slot (i + suc n))))

pub fresh_none : (permutation slot : ℕ) → fresh_from permutation slot 0 0 ≡ true
unfolding fresh_from
fresh_none permutation slot = refl

pub seen_more : (permutation k i : ℕ) (seen : List Bool) (s : Slot) → s ≡ slot_at permutation (record { 0 = i }) → s.0 < length seen
    → get_or seen k false ≡ not (fresh_from permutation k 0 i)
    → get_or (set seen s.0 true) k false ≡ not (fresh_from permutation k 0 (i + 1))
seen_more permutation k i seen s e l h = go (eqb s.0 k) refl
  where
    go : (t : Bool) → eqb s.0 k ≡ t → get_or (set seen s.0 true) k false ≡ not (fresh_from permutation k 0 (i + 1))
    go true f =
        rw (add-one i, fresh-more permutation k 0 i, zero-add i, ← e, f, and-false (fresh_from permutation k 0 i), ← eqb-true s.0 k f)
        (get_or-set_same seen s.0 true false l)
    go false f =
        rw (add-one i, fresh-more permutation k 0 i, zero-add i, ← e, f, and-true (fresh_from permutation k 0 i))
        (get_or-set_other seen s.0 k true false (λ q. eqb-false _ _ f (sym q)) ∙ h)

-- PERMUTATION: the fields from i on are below 15 and fresh.
pub permutes_none : (permutation i n : ℕ) → n ≡ 0 → permutes_from permutation i n ≡ true
unfolding permutes_from
permutes_none permutation i n e = rw e

pub permutes_next : (permutation i n : ℕ) → 0 < n
    → permutes_from permutation i n
    ≡ (ltb (slot_at permutation (record { 0 = i })).0 15
    && (fresh_from permutation (slot_at permutation (record { 0 = i })).0 0 i && permutes_from permutation (i + 1) (n - 1)))
unfolding permutes_from
permutes_next permutation i zero h = absurd (omega arith)
permutes_next permutation i (suc n) h = rw sub-one

-- SEPARATORS: those from i on ascend, from above `lo` to below `hi`.
pub separators_none : (image : List ℕ) (at lo hi i n : ℕ) → n ≡ 0 → separators_from image at lo hi i n ≡ true
unfolding separators_from
separators_none image at lo hi i n e = rw e

pub separators_next : (image : List ℕ) (at lo hi i n : ℕ) → 0 < n
    → separators_from image at lo hi i n
    ≡ (ltb lo (separator_at image at i)
    && (ltb (separator_at image at i) hi && separators_from image at (separator_at image at i) hi (i + 1) (n - 1)))
unfolding separators_from
separators_next image at lo hi i zero h = absurd (omega arith)
separators_next image at lo hi i (suc n) h = rw sub-one
