-- LEAVES. What joining slots and filling leaves with whole groups does: pairs and numbers stay, no leaf has more than fifteen slots, and
-- the leaves' ikeys ascend, each leaf's below the first of the next. Assumes nothing of what the slots are.
use Rattle.std.specs.Prelude.{◌≡◌, ◌∷◌, ◌++◌, ◌+◌, ◌-◌, ◌≤◌, ◌<◌}
use Rattle.base.specs.Kit.{Bool, true, false, inl, refl, ap, sym, ◌∙◌, List, [], append_assoc, ℕ, suc, arith, leb, length, leb-true, le-leb}
use Rattle.base.specs.Pick.{pick}
use Rattle.key.specs.Ikey.{ikey_bytes}
use Rattle.layering.specs.Tree.{Fields, Slots, none, value, layer}
use Rattle.layering.specs.Keys.{Pair, own_bytes, pairs_n, pairs_s, leaves_n, leaves_s, values_n, values_s}
use Rattle.layering.specs.Accepted.{ShortPathsN, ShortPathsS, Before, BeforeFirst, AscendN, AscendS, InRangeN, InRangeS, FieldsN, FieldsS}
use Rattle.building.specs.CodeOrder.{leaves_l}
use Rattle.building.specs.Shape.{size_s, join_s, onto_s, fill, first_ikey_s}
use Rattle.building.proofs.Plain.{PlainN, PlainS}

-- Every element of a list has a property.
abbrev pub Each : {A : Type 0} → (A → Type 0) → List A → Type 0
Each P [] = Unit {0}
Each P (x ∷ l) = P x × Each P l

-- JOINING
pub join_size : (a b : Slots) → size_s (join_s a b) ≡ size_s a + size_s b
unfolding join_s size_s
join_size none b = omega arith
join_size (value s r) b = omega (arith, join_size r b)
join_size (layer s n r) b = omega (arith, join_size r b)

picked : (t : Bool) (x : Pair) (l m : List Pair) → pick t (x ∷ l ++ m) (l ++ m) ≡ pick t (x ∷ l) l ++ m
unfolding pick
picked true x l m = refl
picked false x l m = refl

pub join-pairs : (q : List ℕ) (a b : Slots) → pairs_s q (join_s a b) ≡ pairs_s q a ++ pairs_s q b
unfolding join_s pairs_n
join-pairs q none b = refl
join-pairs q (value s r) b =
    rw (join-pairs q r b) (picked s.live (record { key = q ++ own_bytes s; value = s.value }) (pairs_s q r) (pairs_s q b))
join-pairs q (layer s n r) b = rw (join-pairs q r b) (sym (append_assoc (pairs_n (q ++ ikey_bytes s.ikey) n) (pairs_s q r) (pairs_s q b)))

pub join_leaves : (a b : Slots) → leaves_s (join_s a b) ≡ leaves_s a + leaves_s b
unfolding join_s leaves_n
join_leaves none b = omega arith
join_leaves (value s r) b = join_leaves r b
join_leaves (layer s n r) b = omega (arith, join_leaves r b)

pub join_values : (a b : Slots) → values_s (join_s a b) ≡ values_s a + values_s b
unfolding join_s values_n
join_values none b = omega arith
join_values (value s r) b = omega (arith, join_values r b)
join_values (layer s n r) b = omega (arith, join_values r b)

pub join_plain : (m : ℕ) (a b : Slots) → PlainS m a → PlainS m b → PlainS m (join_s a b)
unfolding join_s PlainN
join_plain m none b p c = c
join_plain m (value s r) b p c = (p.0, join_plain m r b p.1 c)
join_plain m (layer s n r) b p c = (p.0, join_plain m r b p.1 c, p.2, p.3, p.4)

pub join-fields : (depth : ℕ) (a b : Slots) → FieldsS depth a → FieldsS depth b → FieldsS depth (join_s a b)
unfolding join_s FieldsN
join-fields depth none b p c = c
join-fields depth (value s r) b p c = (p.0, join-fields depth r b p.1 c)
join-fields depth (layer s n r) b p c = (p.0, p.1, join-fields depth r b p.2 c)

pub join-paths : (a b : Slots) → ShortPathsS a → ShortPathsS b → ShortPathsS (join_s a b)
unfolding join_s ShortPathsN
join-paths none b p c = c
join-paths (value s r) b p c = join-paths r b p c
join-paths (layer s n r) b p c = (p.0, join-paths r b p.1 c)

pub join_first : (a b : Slots) → 0 < size_s a → first_ikey_s (join_s a b) ≡ first_ikey_s a
unfolding join_s size_s first_ikey_s
join_first none b h = absurd (omega arith)
join_first (value s r) b h = refl
join_first (layer s n r) b h = refl

-- Slots that ascend, with ikeys from lo up to but not at hi.
abbrev pub Span : ℕ → ℕ → Slots → Type 0
Span lo hi s = AscendS s × InRangeS lo hi s

pub span_wider : (lo hi lo' hi' : ℕ) (s : Slots) → lo' ≤ lo → hi ≤ hi' → InRangeS lo hi s → InRangeS lo' hi' s
unfolding InRangeN
span_wider lo hi lo' hi' none a b r = tt
span_wider lo hi lo' hi' (value s t) a b r = (omega (arith, r.0), omega (arith, r.1), span_wider lo hi lo' hi' t a b r.2)
span_wider lo hi lo' hi' (layer s n t) a b r =
    (omega (arith, r.0), omega (arith, r.1), r.2, span_wider lo hi lo' hi' t a b r.3)

-- the first of the slots behind
first-behind : (s : Fields) (mid hi : ℕ) (r b : Slots) → s.ikey < mid → BeforeFirst s r → InRangeS mid hi b → BeforeFirst s (join_s r b)
unfolding join_s BeforeFirst Before InRangeN
first-behind s mid hi none none l f g = tt
first-behind s mid hi none (value t r) l f g = inl (omega (arith, g.0))
first-behind s mid hi none (layer t n r) l f g = inl (omega (arith, g.0))
first-behind s mid hi (value t r) b l f g = f
first-behind s mid hi (layer t n r) b l f g = f

pub join_span : (lo mid hi : ℕ) (a b : Slots) → lo ≤ mid → mid ≤ hi → Span lo mid a → Span mid hi b → Span lo hi (join_s a b)
unfolding join_s AscendN InRangeN
join_span lo mid hi none b h k p c = (c.0, span_wider mid hi lo hi b h (omega arith) c.1)
join_span lo mid hi (value s r) b h k p c =
    let t = join_span lo mid hi r b h k (p.0.1, p.1.2) c in
    ((first-behind s mid hi r b p.1.1 p.0.0 c.1, t.0), (p.1.0, omega (arith, p.1.1), t.1))
join_span lo mid hi (layer s n r) b h k p c =
    let t = join_span lo mid hi r b h k (p.0.2, p.1.3) c in
    ((first-behind s mid hi r b p.1.1 p.0.0 c.1, p.0.1, t.0), (p.1.0, omega (arith, p.1.1), p.1.2, t.1))

-- FILLING
-- a property that joining keeps
module _ (P : Slots → Type 0) (empty : P none) (join : (a b : Slots) → P a → P b → P (join_s a b)) where
  onto-each : (g : Slots) (l : List Slots) → P g → Each P l → Each P (onto_s g l)
  unfolding onto_s
  onto-each g [] p e = (p, tt)
  onto-each g (s ∷ l) p e = (join g s p e.0, e.1)

  pub fill-each : (room : ℕ) (gs : List Slots) → Each P gs → Each P (fill room gs)
  unfolding fill pick
  fill-each room [] e = (empty, tt)
  fill-each room (g ∷ gs) e =
      let r : ℕ = pick (leb (size_s g) room) room 15 - size_s g in
      go (leb (size_s g) room) (onto_s g (fill r gs)) (onto-each g (fill r gs) e.0 (fill-each r gs e.1))
    where
      go : (t : Bool) (l : List Slots) → Each P l → Each P (pick t l (none ∷ l))
      go true l h = h
      go false l h = (empty, h)

-- the pairs and the leaves below
abbrev pub pairs_l : List ℕ → List Slots → List Pair
pairs_l q [] = []
pairs_l q (s ∷ l) = pairs_s q s ++ pairs_l q l

onto-pairs : (q : List ℕ) (g : Slots) (l : List Slots) → pairs_l q (onto_s g l) ≡ pairs_s q g ++ pairs_l q l
unfolding onto_s
onto-pairs q g [] = refl
onto-pairs q g (s ∷ l) = rw (join-pairs q g s) (append_assoc (pairs_s q g) (pairs_s q s) (pairs_l q l))

pub fill-pairs : (q : List ℕ) (room : ℕ) (gs : List Slots) → pairs_l q (fill room gs) ≡ pairs_l q gs
unfolding fill pick pairs_n
fill-pairs q room [] = refl
fill-pairs q room (g ∷ gs) =
    let r : ℕ = pick (leb (size_s g) room) room 15 - size_s g in
    go (leb (size_s g) room) (onto_s g (fill r gs)) ∙ onto-pairs q g (fill r gs)
    ∙ ap (λ (l : List Pair). pairs_s q g ++ l) (fill-pairs q r gs)
  where
    go : (t : Bool) (l : List Slots) → pairs_l q (pick t l (none ∷ l)) ≡ pairs_l q l
    go true l = refl
    go false l = refl

onto_leaves : (g : Slots) (l : List Slots) → leaves_l (onto_s g l) ≡ leaves_s g + leaves_l l
unfolding onto_s
onto_leaves g [] = refl
onto_leaves g (s ∷ l) = omega (arith, join_leaves g s)

pub fill_leaves : (room : ℕ) (gs : List Slots) → leaves_l (fill room gs) ≡ leaves_l gs
unfolding fill pick leaves_n
fill_leaves room [] = omega arith
fill_leaves room (g ∷ gs) =
    let r : ℕ = pick (leb (size_s g) room) room 15 - size_s g in
    go (leb (size_s g) room) (onto_s g (fill r gs)) ∙ onto_leaves g (fill r gs) ∙ ap (λ (n : ℕ). leaves_s g + n) (fill_leaves r gs)
  where
    go : (t : Bool) (l : List Slots) → leaves_l (pick t l (none ∷ l)) ≡ leaves_l l
    go true l = refl
    go false l = omega arith

-- no leaf has more than fifteen slots, and the first no more than its room
abbrev pub Few : Slots → Type 0
Few s = size_s s ≤ 15

abbrev pub Sized : ℕ → List Slots → Type 0
Sized room [] = ⊥
Sized room (s ∷ l) = (size_s s ≤ room) × Each Few l

onto-sized : (g : Slots) (r room : ℕ) (l : List Slots) → Sized r l → size_s g + r ≤ room → Sized room (onto_s g l)
unfolding onto_s
onto-sized g r room [] h k = absurd h
onto-sized g r room (s ∷ l) h k = (omega (arith, join_size g s, h.0), h.1)

pub fill-sized : (room : ℕ) (gs : List Slots) → Each Few gs → Sized room (fill room gs)
unfolding fill pick size_s
fill-sized room [] e = (omega arith, tt)
fill-sized room (g ∷ gs) e =
    go (leb (size_s g) room) refl (λ r. fill-sized r gs e.1)
  where
    other : (l : List Slots) → Sized 15 l → Sized room (none ∷ l)
    other [] h = absurd h
    other (s ∷ l) h = (omega arith, h)

    go : (t : Bool) → leb (size_s g) room ≡ t → ((r : ℕ) → Sized r (fill r gs))
        → Sized room (pick t (onto_s g (fill (pick t room 15 - size_s g) gs)) (none ∷ onto_s g (fill (pick t room 15 - size_s g) gs)))
    go true h f = onto-sized g (room - size_s g) room (fill (room - size_s g) gs) (f (room - size_s g)) (omega (arith, leb-true (size_s g) room h))
    go false h f =
        other (onto_s g (fill (15 - size_s g) gs))
        (onto-sized g (15 - size_s g) 15 (fill (15 - size_s g) gs) (f (15 - size_s g)) (omega (arith, e.0)))

-- THE IKEYS. Groups of one ikey each, which ascend from lo up to but not at hi.
abbrev pub Chain : ℕ → ℕ → List Slots → Type 0
Chain lo hi [] = lo ≤ hi
Chain lo hi (g ∷ gs) =
    (lo ≤ first_ikey_s g) × Span (first_ikey_s g) (suc (first_ikey_s g)) g × (0 < size_s g) × Chain (suc (first_ikey_s g)) hi gs

pub chain-le : (lo hi : ℕ) (gs : List Slots) → Chain lo hi gs → lo ≤ hi
chain-le lo hi [] c = c
chain-le lo hi (g ∷ gs) c = omega (arith, c.0, chain-le (suc (first_ikey_s g)) hi gs c.3)

-- Leaves whose slots ascend from lo up to but not at hi: each below the first ikey of the next, none but the first empty.
abbrev pub Tail : ℕ → ℕ → Slots → List Slots → Type 0
Tail lo hi s [] = Span lo hi s × (lo ≤ hi)
Tail lo hi s (t ∷ l) = Span lo (first_ikey_s t) s × (lo ≤ first_ikey_s t) × (first_ikey_s t < hi) × (0 < size_s t) × Tail (first_ikey_s t) hi t l

abbrev pub Packed : ℕ → ℕ → List Slots → Type 0
Packed lo hi [] = ⊥
Packed lo hi (s ∷ l) = Tail lo hi s l

join_tail : (lo x hi : ℕ) (g s : Slots) (l : List Slots) → lo ≤ x → Span x (suc x) g → Tail (suc x) hi s l → Tail lo hi (join_s g s) l
join_tail lo x hi g s [] a p t =
    let r = join_span x (suc x) hi g s (omega arith) t.1 p t.0 in
    ((r.0, span_wider x hi lo hi (join_s g s) a (omega arith) r.1), omega (arith, t.1))
join_tail lo x hi g s (u ∷ l) a p t =
    let r = join_span x (suc x) (first_ikey_s u) g s (omega arith) t.1 p t.0 in
    ((r.0, span_wider x (first_ikey_s u) lo (first_ikey_s u) (join_s g s) a (omega arith) r.1), omega (arith, t.1), t.2, t.3, t.4)

onto_packed : (lo x hi : ℕ) (g : Slots) (l : List Slots) → lo ≤ x → Span x (suc x) g → Packed (suc x) hi l → Packed lo hi (onto_s g l)
unfolding onto_s
onto_packed lo x hi g [] a p t = absurd t
onto_packed lo x hi g (s ∷ l) a p t = join_tail lo x hi g s l a p t

-- a leaf is closed before the group g, which did not fit
closed : (lo hi : ℕ) (g : Slots) (l : List Slots) → lo ≤ first_ikey_s g → first_ikey_s g < hi → 0 < size_s g
    → Packed (first_ikey_s g) hi (onto_s g l) → Packed lo hi (none ∷ onto_s g l)
unfolding onto_s AscendN InRangeN
closed lo hi g [] a b c t = ((tt, tt), a, b, c, t)
closed lo hi g (s ∷ l) a b c t =
    let e : first_ikey_s (join_s g s) ≡ first_ikey_s g = join_first g s c in
    ((tt, tt), omega arith, omega arith, omega (arith, join_size g s), rw e t)

pub fill_packed : (lo hi room : ℕ) (gs : List Slots) → Chain lo hi gs → Packed lo hi (fill room gs)
unfolding fill pick AscendN InRangeN
fill_packed lo hi room [] c = ((tt, tt), c)
fill_packed lo hi room (g ∷ gs) c =
    let r : ℕ = pick (leb (size_s g) room) room 15 - size_s g in
    go (leb (size_s g) room) (fill r gs) (fill_packed (suc (first_ikey_s g)) hi r gs c.3)
  where
    go : (t : Bool) (l : List Slots) → Packed (suc (first_ikey_s g)) hi l → Packed lo hi (pick t (onto_s g l) (none ∷ onto_s g l))
    go true l h = onto_packed lo (first_ikey_s g) hi g l c.0 c.1 h
    go false l h =
        closed lo hi g l c.0 (omega (arith, chain-le (suc (first_ikey_s g)) hi gs c.3)) c.2
        (onto_packed (first_ikey_s g) (first_ikey_s g) hi g l (omega arith) c.1 h)

-- with room for the first group the first leaf is not empty
abbrev pub Begun : List Slots → Type 0
Begun [] = ⊥
Begun (s ∷ l) = 0 < size_s s

begun-onto : (g : Slots) (l : List Slots) → 0 < size_s g → Begun (onto_s g l)
unfolding onto_s
begun-onto g [] h = h
begun-onto g (s ∷ l) h = omega (arith, join_size g s)

pub fill-begun : (room : ℕ) (g : Slots) (gs : List Slots) → 0 < size_s g → size_s g ≤ room → Begun (fill room (g ∷ gs))
unfolding fill pick
fill-begun room g gs h k = rw (le-leb (size_s g) room k) (begun-onto g (fill (room - size_s g) gs) h)

pub fill-some : (room : ℕ) (gs : List Slots) → 0 < length (fill room gs)
unfolding fill pick onto_s
fill-some room [] = omega arith
fill-some room (g ∷ gs) = go (leb (size_s g) room) (fill (pick (leb (size_s g) room) room 15 - size_s g) gs)
  where
    some : (l : List Slots) → 0 < length (onto_s g l)
    some [] = omega arith
    some (s ∷ l) = omega arith

    go : (t : Bool) (l : List Slots) → 0 < length (pick t (onto_s g l) (none ∷ onto_s g l))
    go true l = some l
    go false l = omega arith
