-- LAYERS. Proved: the layer that is built of an ascending list of pairs is right in every point of `LayerOk`. Assumes that its keys fit
-- the layers left, and that it has no more leaves than an image holds.
use Rattle.std.proofs.lemmas.Grind.{common_steps}
use Rattle.std.specs.Prelude.{◌≡◌, ◌∷◌, ◌++◌, ◌+◌, ◌^◌, ◌≤◌, ◌<◌}
use Rattle.base.specs.Kit.{refl, ap, ap₂, sym, ◌∙◌, subst, List, [], map, flatten, ℕ, zero, suc, arith, length, length-append, length-map}
use Rattle.base.specs.Pick.{pick}
use Rattle.key.specs.Ikey.{ikey_of}
use Rattle.key.proofs.Bytes.{Bytes}
use Rattle.building.proofs.ByteLaws.{ikey_of-lt}
use Rattle.node.specs.Version.{bit, at_rest}
use Rattle.layering.specs.Tree.{Node, Slots, none, value, layer}
use Rattle.layering.specs.Keys.{Pair, pairs_n, pairs_s, leaves_n, leaves_s, values_n, values_s}
use Rattle.layering.specs.Accepted.{ShortPathsN, ShortPathsS, AscendN, AscendS, InRangeN, InRangeK, InRangeS, FieldsN, FieldsS}
use Rattle.layering.specs.Ascending.{All, Ascending}
use Rattle.layering.proofs.Row.{all_map}
use Rattle.building.specs.CodeOrder.{leaves_l, limit}
use Rattle.building.specs.Shape.{group_slots, groups, size_s, join_s, fill, leaf_of, first_ikey_s, first_ikey_n, kids_of, root_over, leaves_of, layer_over, layer_of}
use Rattle.building.specs.CodeGood.{Good}
use Rattle.building.specs.Build.{offset_n}
use Rattle.building.proofs.Numbers.{identity-permutes}
use Rattle.building.proofs.Plain.{PlainN, PlainS}
use Rattle.building.proofs.Fill.{Each, join-pairs, join_values, join_plain, join-fields, join-paths, fill-each, pairs_l, fill-pairs, fill_leaves, Few, Sized, fill-sized, Chain, Tail, Packed, fill_packed, Begun, fill-begun, fill-some}
use Rattle.building.proofs.Levels.{NodeOk, pairs_l as pairs_ln, leaves_l as leaves_ln, root-pairs, root_leaves, root_ok}
use Rattle.building.proofs.Groups.{all_split, ascending_split, ikey_g, Group, Later, StartsAt, groups-flatten, groups-start, group-some, group-few, under, LayerOk, PieceOk, group_ok}

-- LEAVES
pub leaves_of_lem : (l : List Slots) → leaves_ln (map leaf_of l) ≡ length l + leaves_l l
unfolding leaf_of leaves_n
leaves_of_lem [] = omega arith
leaves_of_lem (s ∷ l) = omega (arith, leaves_of_lem l)

pairs_of : (q : List ℕ) (l : List Slots) → pairs_ln q (map leaf_of l) ≡ pairs_l q l
unfolding leaf_of pairs_n
pairs_of q [] = refl
pairs_of q (s ∷ l) = ap (λ (r : List Pair). pairs_s q s ++ r) (pairs_of q l)

some_range : (s : Slots) (lo hi : ℕ) → 0 < size_s s → InRangeS lo hi s → lo < hi
unfolding size_s InRangeN
some_range none lo hi h r = absurd (omega arith)
some_range (value s t) lo hi h r = omega (arith, r.0, r.1)
some_range (layer s n t) lo hi h r = omega (arith, r.0, r.1)

-- where there are several leaves the first is not empty
abbrev Solid : List Slots → Type 0
Solid [] = ⊥
Solid (s ∷ []) = Unit {0}
Solid (s ∷ t ∷ l) = 0 < size_s s

begun_solid : (l : List Slots) → Begun l → Solid l
begun_solid [] b = b
begun_solid (s ∷ []) b = tt
begun_solid (s ∷ t ∷ l) b = b

side_by_side : (s : Slots) (l : List Slots) (lo hi : ℕ) → Solid (s ∷ l) → Tail lo hi s l → InRangeK lo hi (kids_of (leaf_of s) (map leaf_of l))
unfolding kids_of leaf_of InRangeN first_ikey_n
side_by_side s [] lo hi d t = t.0.1
side_by_side s (u ∷ l) lo hi d t =
    (some_range s lo (first_ikey_s u) d t.0.1, t.2, t.0.1, side_by_side u l (first_ikey_s u) hi (solid u l t.3) t.4)
  where
    solid : (u : Slots) (l : List Slots) → 0 < size_s u → Solid (u ∷ l)
    solid u [] h = tt
    solid u (v ∷ l) h = h

module _ (m depth : ℕ) (q : List ℕ) where
  -- what joining keeps
  abbrev pub SlotsOk : Slots → Type 0
  SlotsOk s = PlainS m s × FieldsS depth s × ShortPathsS s × (values_s s ≡ length (pairs_s q s))

  none_ok : SlotsOk none
  unfolding PlainN FieldsN ShortPathsN values_n pairs_n
  none_ok = (tt, tt, tt, refl)

  join_ok : (a b : Slots) → SlotsOk a → SlotsOk b → SlotsOk (join_s a b)
  join_ok a b p c = (
    join_plain m a b p.0 c.0,
    join-fields depth a b p.1 c.1,
    join-paths a b p.2 c.2,
    join_values a b ∙ ap₂ (λ (x y : ℕ). x + y) p.3 c.3 ∙ sym (length-append (pairs_s q a) (pairs_s q b)) ∙ sym (ap length (join-pairs q a b)),
  )

  leaf_ok : (s : Slots) → SlotsOk s → AscendS s → size_s s ≤ 15 → NodeOk m 0 depth q (leaf_of s)
  unfolding leaf_of PlainN FieldsN AscendN ShortPathsN values_n pairs_n offset_n bit at_rest pick
  leaf_ok s p a f =
      record {
        plain = (refl, refl, omega arith, f, p.0);
        fields = (refl, identity-permutes (size_s s) (omega arith), p.1);
        ascend = a;
        paths = p.2;
        count = p.3;
        offset = refl;
      }

  leaves_ok : (s : Slots) (l : List Slots) (lo hi : ℕ) → Each SlotsOk (s ∷ l) → size_s s ≤ 15 → Each Few l → Tail lo hi s l
      → Each (NodeOk m 0 depth q) (map leaf_of (s ∷ l))
  leaves_ok s [] lo hi e f g t = (leaf_ok s e.0 t.0.0 f, tt)
  leaves_ok s (u ∷ l) lo hi e f g t = (leaf_ok s e.0 t.0.0 f, leaves_ok u l (first_ikey_s u) hi e.1 g.0 g.1 t.4)

  over_leaves : (l : List Slots) → Each SlotsOk l → Sized 15 l → Packed 0 (2 ^ 64) l → Solid l → length l ≤ limit
      → NodeOk m 12 depth q (root_over (length (map leaf_of l)) (map leaf_of l)) × InRangeN 0 (2 ^ 64) (root_over (length (map leaf_of l)) (map leaf_of l))
  over_leaves [] e z p d n = absurd p
  over_leaves (s ∷ l) e z p d n =
      root_ok m depth q (length (map leaf_of (s ∷ l))) 12 0 (map leaf_of (s ∷ l)) 0 (2 ^ 64) (omega arith)
      (omega (arith, length-map (s ∷ l) leaf_of)) (omega arith) (omega arith) (leaves_ok s l 0 (2 ^ 64) e z.0 z.1 p)
      (side_by_side s l 0 (2 ^ 64) d p)

  -- GROUPS
  module _ (deep : depth + suc m ≡ 32) (sub : List Pair → Node)
      (subs : (l : List Pair) (r : List ℕ) → 0 < m → Ascending l → All (Good m (depth + 1)) l → leaves_n (sub l) ≤ limit → LayerOk m (depth + 1) r l (sub l)) where
    record One (g : List Pair) (s : Slots) : Type 0 where
      ok : PieceOk m depth (ikey_g g) q g s
      few : size_s s ≤ 15
      some : 0 < size_s s
      first : first_ikey_s s ≡ ikey_g g
      small : ikey_g g < 2 ^ 64

    one : (g : List Pair) → Group g → Ascending g → All (Good (suc m) depth) g → leaves_s (group_slots sub g) ≤ limit → One g (group_slots sub g)
    one [] o a g b = absurd o
    one (x ∷ l) o a g b =
        record {
          ok = group_ok m depth deep q sub subs (ikey_of x.key) (x ∷ l) a g (refl, o) b;
          few = omega (arith, group-few sub x l a (all_map (Good (suc m) depth) (λ (z : Pair). Bytes z.key) (λ z h. h.bytes) (x ∷ l) g) o);
          some = (group-some sub x l).0;
          first = (group-some sub x l).1;
          small = ikey_of-lt x.key g.0.bytes;
        }

    pub record Pieces (lo : ℕ) (gs : List (List Pair)) : Type 0 where
      pub ok : Each SlotsOk (map (group_slots sub) gs)
      pub few : Each Few (map (group_slots sub) gs)
      chain : Chain lo (2 ^ 64) (map (group_slots sub) gs)
      pairs : pairs_l q (map (group_slots sub) gs) ≡ map (under q) (flatten gs)

    map-append : (a b : List Pair) → map (under q) (a ++ b) ≡ map (under q) a ++ map (under q) b
    map-append [] b = refl
    map-append (x ∷ a) b = ap (λ (r : List Pair). under q x ∷ r) (map-append a b)

    one_more_lem : (lo : ℕ) (g : List Pair) (gs : List (List Pair)) → lo ≤ ikey_g g → One g (group_slots sub g) → Pieces (suc (ikey_g g)) gs → Pieces lo (g ∷ gs)
    unfolding flatten
    one_more_lem lo g gs h o p = grind (arith, common_steps)

    later : (k : ℕ) (gs : List (List Pair)) → k < 2 ^ 64 → Later k gs → Ascending (flatten gs) → All (Good (suc m) depth) (flatten gs)
        → leaves_l (map (group_slots sub) gs) ≤ limit → Pieces (suc k) gs
    unfolding flatten
    later k [] h l a g b = record { ok = tt; few = tt; chain = h; pairs = refl }
    later k (x ∷ gs) h l a g b =
        let c = ascending_split x (flatten gs) a in
        let d = all_split (Good (suc m) depth) x (flatten gs) g in
        let o : One x (group_slots sub x) = one x l.0 c.0 d.0 (omega arith) in
        one_more_lem (suc k) x gs l.1 o (later (ikey_g x) gs o.small l.2 c.1 d.1 (omega arith))

    starting : (k : ℕ) (gs : List (List Pair)) → StartsAt k gs → Ascending (flatten gs) → All (Good (suc m) depth) (flatten gs)
        → leaves_l (map (group_slots sub) gs) ≤ limit → Pieces 0 gs
    unfolding flatten
    starting k [] l a g b = absurd l
    starting k (x ∷ gs) l a g b =
        let c = ascending_split x (flatten gs) a in
        let d = all_split (Good (suc m) depth) x (flatten gs) g in
        let o : One x (group_slots sub x) = one x l.0 c.0 d.0 (omega arith) in
        one_more_lem 0 x gs (omega arith) o (later (ikey_g x) gs o.small (rw l.1 l.2) c.1 d.1 (omega arith))

    pub pieces : (ps : List Pair) → Ascending ps → All (Good (suc m) depth) ps → leaves_l (map (group_slots sub) (groups ps)) ≤ limit → Pieces 0 (groups ps)
    unfolding groups flatten
    pieces [] a g b = record { ok = tt; few = tt; chain = omega arith; pairs = refl }
    pieces (x ∷ l) a g b =
        starting (ikey_of x.key) (groups (x ∷ l))
        (groups-start x l a (all_map (Good (suc m) depth) (λ (z : Pair). Bytes z.key) (λ z h. h.bytes) (x ∷ l) g))
        (subst Ascending (sym (groups-flatten (x ∷ l))) a) (subst (All (Good (suc m) depth)) (sym (groups-flatten (x ∷ l))) g) b

    solid : (gs : List (List Pair)) → Pieces 0 gs → Solid (fill 15 (map (group_slots sub) gs))
    unfolding fill
    solid [] p = tt
    solid (g ∷ gs) p =
        begun_solid (fill 15 (map (group_slots sub) (g ∷ gs)))
        (fill-begun 15 (group_slots sub g) (map (group_slots sub) gs) p.chain.2 p.few.0)

    -- THE LAYER
    over_ok : (ps : List Pair) → Ascending ps → All (Good (suc m) depth) ps → leaves_n (layer_over sub ps) ≤ limit → LayerOk (suc m) depth q ps (layer_over sub ps)
    unfolding layer_over leaves_of
    over_ok ps a g b =
        let f : List Slots = map (group_slots sub) (groups ps) in
        let l : List Slots = fill 15 f in
        let ns : List Node = map leaf_of l in
        let n : length ns ≡ length l = length-map l leaf_of in
        let w : 0 < length l = fill-some 15 f in
        let c : leaves_n (root_over (length ns) ns) ≡ length l + leaves_l f =
        root_leaves (length ns) ns (omega arith) (omega arith) ∙ leaves_of_lem l ∙ ap (λ (y : ℕ). length l + y) (fill_leaves 15 f) in
        let p : Pieces 0 (groups ps) = pieces ps a g (omega (arith, b, c)) in
        let t = over_leaves l (fill-each SlotsOk none_ok join_ok 15 f p.ok) (fill-sized 15 f p.few) (fill_packed 0 (2 ^ 64) 15 f p.chain) (solid (groups ps) p) (omega (arith, b, c)) in
        record {
          left = m;
          layers = refl;
          plain = t.0.plain;
          fields = t.0.fields;
          ascend = t.0.ascend;
          paths = t.0.paths;
          range = t.1;
          offset = t.0.offset;
          pairs =
              root-pairs q (length ns) ns (omega arith) (omega arith) ∙ pairs_of q l ∙ fill-pairs q 15 f ∙ p.pairs
              ∙ ap (map (under q)) (groups-flatten ps);
          count = t.0.count;
        }

-- ALL LAYERS
pub layer_ok : (m depth : ℕ) (q : List ℕ) (ps : List Pair) → depth + m ≡ 32 → 0 < m → Ascending ps → All (Good m depth) ps
    → leaves_n (layer_of m ps) ≤ limit → LayerOk m depth q ps (layer_of m ps)
unfolding layer_of
layer_ok zero depth q ps d h a g b = absurd (omega arith)
layer_ok (suc m) depth q ps d h a g b =
    over_ok m depth q d (layer_of m) (λ l r w c e f. layer_ok m (depth + 1) r l (omega arith) w c e f) ps a g b
