-- WHAT THE PARTS OF A GROUP LAY: short keys nothing but their slots, two or more long keys a layer and its slot. Assumes nothing.
use Rattle.std.specs.Prelude.{◌≡◌, ◌∷◌, ◌++◌, ◌≤◌}
use Rattle.base.specs.Kit.{refl, sym, ap, ◌∙◌, false, List, [], append_assoc, append-nil, map, ℕ, arith, length, eqb, ne_eqb, paste-zero, add-zero}
use Rattle.base.specs.Pick.{pick}
use Rattle.key.specs.Ikey.{ikey_of}
use Rattle.layering.specs.Tree.{Fields, Node}
use Rattle.layering.specs.Keys.{Pair}
use Rattle.layering.specs.Ascending.{All}
use Rattle.layering.specs.Accepted.{room}
use Rattle.building.specs.Shape.{ends_here, has_layer, below, long_slots}
use Rattle.building.specs.Build.{start_at, root_at, suffix_bytes, suffix_word}
use Rattle.building.specs.CodeLaid.{Laid, laid_value, laid_layer, laid}
use Rattle.groups.specs.CodeGroups.{short_slots}

-- one short key: it has no suffix
module _ (x : Pair) (h : length x.key ≤ 8) where
  no-suffix : eqb (length x.key) 64 ≡ false
  no-suffix = ne_eqb (length x.key) 64 (λ k. omega arith)

  short-bytes : suffix_bytes (ends_here x) ≡ []
  unfolding suffix_bytes ends_here pick
  short-bytes = rw no-suffix

  short-room : room (ends_here x) ≡ 0
  unfolding room ends_here pick
  short-room = rw no-suffix

  short-start : (at : ℕ) → start_at at (ends_here x) ≡ ends_here x
  unfolding start_at ends_here pick
  short-start at = rw no-suffix

  laid-short : (l : Laid) → laid_value l (ends_here x) ≡ record { out = l.out; at = l.at; fields = l.fields ++ (ends_here x ∷ []) }
  unfolding laid_value
  laid-short l = rw (short-bytes, short-room, short-start l.at, ← paste-zero l.out l.at [], add-zero l.at) refl

pub laid-shorts : (S : List Pair) → All (λ (x : Pair). length x.key ≤ 8) S → (l : Laid)
    → laid l (short_slots S) ≡ record { out = l.out; at = l.at; fields = l.fields ++ map ends_here S }
unfolding laid short_slots
laid-shorts [] h l = ap (λ (f : List Fields). record { out = l.out; at = l.at; fields = f }) (sym (append-nil l.fields))
laid-shorts (x ∷ S) h l =
    ap (λ (k : Laid). laid k (short_slots S)) (laid-short x h.0 l)
    ∙ laid-shorts S h.1 (record { out = l.out; at = l.at; fields = l.fields ++ (ends_here x ∷ []) })
    ∙ ap (λ (f : List Fields). record { out = l.out; at = l.at; fields = f }) (append_assoc l.fields (ends_here x ∷ []) (map ends_here S))

pub laid-layer : (sub : List Pair → Node) (x y : Pair) (ps : List Pair) (l : Laid)
    → laid l (long_slots sub (x ∷ y ∷ ps)) ≡ laid_layer l (has_layer x) (sub (map below (x ∷ y ∷ ps)))
unfolding laid long_slots
laid-layer sub x y ps l = refl

-- the slot of such a layer, whose root stands at `root`
pub record LayerSlot (root : ℕ) (x : Pair) (f : Fields) : Type 0 where
  pub ikey : f.ikey ≡ ikey_of x.key
  pub keylenx : f.keylenx ≡ 128
  pub value : f.value ≡ root
  pub word : suffix_word f ≡ 0
  pub live : f.live ≡ false

pub layer_slot_lem : (root : ℕ) (x : Pair) → LayerSlot root x (root_at root (has_layer x))
unfolding suffix_word root_at has_layer
layer_slot_lem root x = record { ikey = refl; keylenx = refl; value = refl; word = refl; live = refl }
