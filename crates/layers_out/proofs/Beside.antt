-- THE SIBLINGS OF AN INTERNODE, one by one: what is left, written from here, comes to the same as the whole. Assumes of the lines what a
-- layer is given.
use Rattle.std.specs.Prelude.{◌≡◌, ◌∷◌, ◌++◌, ◌+◌, ◌*◌, ◌-◌, ◌^◌, ◌≤◌, ◌<◌, ◌⊎◌}
use Rattle.base.specs.Kit.{refl, ap, sym, ◌∙◌, List, [], append_assoc, append-nil, map, ℕ, suc, arith, length, length-append, drop, add-mul, length-map, inl, inr}
use Rattle.layering.specs.Tree.{Node}
use Rattle.layering.specs.Accepted.{end_n}
use Rattle.building.specs.Shape.{first_ikey_n}
use Rattle.building.specs.Build.{stands_at}
use Rattle.building.specs.CodeOrder.{leaves_l, limit, after, leaves_behind, siblings, tower}
use Rattle.building.specs.CodeWritten.{Behind, put}
use Rattle.building.specs.CodeSiblings.{written_l, end_l, last_l, stands_l, internode_row, closed}
use Rattle.building.proofs.Plain.{PlainN}
use Rattle.building.proofs.Placed.{grow_n}
use Rattle.building.proofs.Tower.{siblings-cons}
use Rattle.building.proofs.Towers.{siblings-none, tower_plain}
use Rattle.building.proofs.Siblings.{grow_l, written-length, last-behind}
use Rattle.groups.specs.CodeLines.{slots_in}
use Rattle.image_out.specs.CodeRows.{children_of}
use Rattle.image_out.specs.declared.Children.{Children}
use Rattle.image_out.proofs.Rows.{children_n}
use Rattle.layers_out.specs.CodeCycle.{Room, leaves_at, siblings_at, Rest, Wrote, Closed}
use Rattle.layers_out.specs.declared.run.Run.{Run}
use Rattle.layers_out.proofs.Lines.{leaves_ok, leaves-some, leaves_after, rest-rest, no-slots, some-slots, after-after, after-nil}

-- The loop's invariant.
pub record SiblingsSoFar (h : ℕ) (out₀ : List ℕ) (r : Run) (i : ℕ) (out : List ℕ) (q : Run) (c : Children) : Type 0 where
  pub few : i ≤ 15
  pub separators : List ℕ
  pub nodes : List ℕ
  pub row : c ≡ children_of separators nodes
  pub separators-count : length separators ≡ i
  pub nodes-count : length nodes ≡ i + 1
  pub separators-same : separators ++ map first_ikey_n (siblings_at q.lines h (15 - i)) ≡ map first_ikey_n (siblings_at r.lines h 15)
  pub nodes-same : nodes ++ stands_l q.at (siblings_at q.lines h (15 - i)) ≡ r.node ∷ stands_l r.at (siblings_at r.lines h 15)
  pub bytes : written_l out q.at q.prev (siblings_at q.lines h (15 - i)) ≡ written_l out₀ r.at r.prev (siblings_at r.lines h 15)
  pub end : end_l q.at (siblings_at q.lines h (15 - i)) ≡ end_l r.at (siblings_at r.lines h 15)
  pub last : last_l q.at q.prev (siblings_at q.lines h (15 - i)) ≡ last_l r.at r.prev (siblings_at r.lines h 15)
  pub rest : Rest (i * 16 ^ h) r.lines q.lines
  pub some : 0 < q.at
  pub behind : Behind q.prev q.at
  pub long : length out ≡ length out₀

pub siblings-begin : (h : ℕ) (out : List ℕ) (r : Run) (c : Children) → 0 < r.at → Behind r.prev r.at → c ≡ children_of [] (r.node ∷ [])
    → SiblingsSoFar h out r 0 out r c
unfolding after
siblings-begin h out r c a b e =
    let z : 0 * 16 ^ h ≡ 0 = omega arith in
    record {
      few = omega arith;
      separators = [];
      nodes = r.node ∷ [];
      row = e;
      separators-count = refl;
      nodes-count = refl;
      separators-same = refl;
      nodes-same = refl;
      bytes = refl;
      end = refl;
      last = refl;
      rest = record { below = refl; slots = rw z refl };
      some = a;
      behind = b;
      long = refl;
    }

-- what is left begins with the subtree over the leaves that are left
begins : (h i : ℕ) (l : List Node) → 0 < length l → i < 15
    → siblings (tower h) (16 ^ h) (15 - i) l ≡ tower h l ∷ siblings (tower h) (16 ^ h) (15 - (i + 1)) (drop (16 ^ h) l)
begins h i l a b = let e : 15 - i ≡ suc (15 - (i + 1)) = omega arith in rw e (siblings-cons (tower h) (16 ^ h) (15 - (i + 1)) l a)

module _ (h : ℕ) (out₀ : List ℕ) (r : Run) (i : ℕ) (out : List ℕ) (q : Run) (c : Children)
    (inv : SiblingsSoFar h out₀ r i out q c) (less : i < 15) (more : 0 < length (slots_in q.lines)) where
  abbrev leaves : List Node
  leaves = leaves_at q.lines

  some : 0 < length leaves
  some = leaves-some q.lines q.few more

  next_plain : PlainN q.lines.below h (tower h leaves)
  next_plain = tower_plain q.lines.below h leaves some (leaves_ok q.lines q.few)

  first : siblings_at q.lines h (15 - i) ≡ tower h leaves ∷ siblings (tower h) (16 ^ h) (15 - (i + 1)) (drop (16 ^ h) leaves)
  first = begins h i leaves some less

  -- there is room for the next subtree
  pub next_fits : end_l r.at (siblings_at r.lines h 15) + 256 ≤ length out₀ → end_n q.at (tower h leaves) ≤ length out
  unfolding end_l
  next_fits f =
      let e : end_l (end_n q.at (tower h leaves)) (siblings (tower h) (16 ^ h) (15 - (i + 1)) (drop (16 ^ h) leaves)) ≡ end_l r.at (siblings_at r.lines h 15) =
      ap (end_l q.at) (sym first) ∙ inv.end in
      omega (arith, e, inv.long, grow_l (siblings (tower h) (16 ^ h) (15 - (i + 1)) (drop (16 ^ h) leaves)) (end_n q.at (tower h leaves)))

  pub siblings_turn : (out' : List ℕ) (q' : Run) (c' : Children) → end_n q.at (tower h leaves) ≤ length out
      → Wrote (16 ^ h) out out' q q' (tower h leaves)
      → ((xs cs : List ℕ) → c ≡ children_of xs cs → length cs ≡ length xs + 1 → c' ≡ children_of (xs ++ (q'.first ∷ [])) (cs ++ (q'.node ∷ [])))
      → SiblingsSoFar h out₀ r (i + 1) out' q' c'
  unfolding written_l end_l last_l stands_l
  siblings_turn out' q' c' fits w d =
      let l : leaves_at q'.lines ≡ drop (16 ^ h) leaves = leaves_after (16 ^ h) q.lines q'.lines q.few w.rest in
      let rem : List Node = siblings (tower h) (16 ^ h) (15 - (i + 1)) (drop (16 ^ h) leaves) in
      let m : siblings_at q'.lines h (15 - (i + 1)) ≡ rem = ap (siblings (tower h) (16 ^ h) (15 - (i + 1))) l in
      let k : i * 16 ^ h + 16 ^ h ≡ (i + 1) * 16 ^ h = omega arith in
      record {
        few = omega arith;
        separators = inv.separators ++ (q'.first ∷ []);
        nodes = inv.nodes ++ (q'.node ∷ []);
        row = d inv.separators inv.nodes inv.row (omega (arith, inv.separators-count, inv.nodes-count));
        separators-count = length-append inv.separators (q'.first ∷ []) ∙ ap (λ (y : ℕ). y + 1) inv.separators-count;
        nodes-count = length-append inv.nodes (q'.node ∷ []) ∙ ap (λ (y : ℕ). y + 1) inv.nodes-count;
        separators-same =
            rw (m, w.first) (append_assoc inv.separators (first_ikey_n (tower h leaves) ∷ []) (map first_ikey_n rem) ∙ ap (λ (y : List Node). inv.separators ++ map first_ikey_n y) (sym first) ∙ inv.separators-same);
        nodes-same =
            rw (m, w.node, w.at) (append_assoc inv.nodes (stands_at q.at (tower h leaves) ∷ []) (stands_l (end_n q.at (tower h leaves)) rem)
            ∙ ap (λ (y : List Node). inv.nodes ++ stands_l q.at y) (sym first) ∙ inv.nodes-same);
        bytes = rw (m, w.bytes, w.at, w.prev) (ap (written_l out q.at q.prev) (sym first) ∙ inv.bytes);
        end = rw (m, w.at) (ap (end_l q.at) (sym first) ∙ inv.end);
        last = rw (m, w.at, w.prev) (ap (last_l q.at q.prev) (sym first) ∙ inv.last);
        rest = rw (← k) (rest-rest (i * 16 ^ h) (16 ^ h) r.lines q.lines q'.lines inv.rest w.rest);
        some = rw w.at (omega (arith, inv.some, grow_n (tower h leaves) q.at));
        behind = rw (w.at, w.prev) (last-behind q.lines.below h q.at (tower h leaves) next_plain);
        long = rw w.bytes (written-length out q.lines.below h q.at q.prev (tower h leaves) next_plain inv.behind fits ∙ inv.long);
      }

shares : (i k : ℕ) → i ≤ 15 → i * k + (15 - i) * k ≡ 15 * k
shares i k h = let e : i + (15 - i) ≡ 15 = omega arith in sym (add-mul i (15 - i) k) ∙ ap (λ (y : ℕ). y * k) e

-- NONE IS LEFT: fifteen are written, or no line is left
module _ (h : ℕ) (out₀ : List ℕ) (r : Run) (i : ℕ) (out : List ℕ) (q : Run) (c : Children) (inv : SiblingsSoFar h out₀ r i out q c) where
  abbrev whole : List Node
  whole = siblings_at r.lines h 15

  pub record NoneLeft : Type 0 where
    pub siblings : siblings_at q.lines h (15 - i) ≡ []
    pub slots : slots_in q.lines ≡ after (15 * 16 ^ h) (slots_in r.lines)

  pub none_fifteen : 15 ≤ i → NoneLeft
  unfolding siblings
  none_fifteen a =
      let e : 15 - i ≡ 0 = omega arith in
      let f : i ≡ 15 = omega (arith, inv.few) in
      record { siblings = rw e refl; slots = inv.rest.slots ∙ ap (λ (y : ℕ). after (y * 16 ^ h) (slots_in r.lines)) f }

  pub none-lines : slots_in q.lines ≡ [] → NoneLeft
  unfolding leaves_behind
  none-lines a =
      let k : i * 16 ^ h + (15 - i) * 16 ^ h ≡ 15 * 16 ^ h = shares i (16 ^ h) inv.few in
      record {
        siblings = rw a (siblings-none (tower h) (16 ^ h) (15 - i));
        slots =
            a ∙ sym (after-nil ((15 - i) * 16 ^ h)) ∙ ap (after ((15 - i) * 16 ^ h)) (sym a ∙ inv.rest.slots)
            ∙ after-after (i * 16 ^ h) ((15 - i) * 16 ^ h) (slots_in r.lines) ∙ ap (λ (y : ℕ). after y (slots_in r.lines)) k;
      }

  module _ (n : NoneLeft) where
    pub end_reached : q.at ≡ end_l r.at whole
    unfolding end_l
    end_reached = ap (end_l q.at) (sym n.siblings) ∙ inv.end

    pub siblings_done : (out' : List ℕ)
        → ((xs cs : List ℕ) → c ≡ children_of xs cs → length xs ≤ 15 → out' ≡ put out q.at (internode_row (length xs) xs cs))
        → (few : leaves_l (slots_in q.lines) ≤ limit)
        → Closed h out₀ out' r (record { at = q.at + 256; lines = q.lines; prev = q.prev; node = q.at; first = r.first; few = few }) whole
    unfolding end_l last_l stands_l written_l closed
    siblings_done out' w few =
        let xs : inv.separators ≡ map first_ikey_n whole = sym (append-nil inv.separators) ∙ ap (λ (y : List Node). inv.separators ++ map first_ikey_n y) (sym n.siblings) ∙ inv.separators-same in
        let cs : inv.nodes ≡ r.node ∷ stands_l r.at whole = sym (append-nil inv.nodes) ∙ ap (λ (y : List Node). inv.nodes ++ stands_l q.at y) (sym n.siblings) ∙ inv.nodes-same in
        let o : out ≡ written_l out₀ r.at r.prev whole = ap (written_l out q.at q.prev) (sym n.siblings) ∙ inv.bytes in
        let k : length inv.separators ≡ length whole = ap length xs ∙ length-map whole first_ikey_n in
        record {
          bytes = w inv.separators inv.nodes inv.row (omega (arith, inv.separators-count, inv.few)) ∙ rw (k, xs, cs, end_reached, o) refl;
          at = ap (λ (y : ℕ). y + 256) end_reached;
          node = end_reached;
          prev = ap (last_l q.at q.prev) (sym n.siblings) ∙ inv.last;
          first = refl;
          rest = record { below = inv.rest.below; slots = n.slots };
        }

-- WHAT THE CODE ASKS on its way
module _ (h : ℕ) (out₀ : List ℕ) (r : Run) (i : ℕ) (out : List ℕ) (q : Run) (c : Children) (inv : SiblingsSoFar h out₀ r i out q c)
    (room : Room out₀ r.at r.prev (end_l r.at (siblings_at r.lines h 15) + 256)) where
  pub next-room : (less : i < 15) (left : 0 < q.lines.left) → Room out q.at q.prev (end_n q.at (tower h (leaves_at q.lines)))
  next-room less left =
      record {
        some = inv.some;
        behind = inv.behind;
        fits = next_fits h out₀ r i out q c inv less (some-slots q.lines left) room.fits;
        short = omega (arith, inv.long, room.short);
      }

  pub child_fits : i < 15 → c.n < 15
  child_fits less = omega (arith, children_n c inv.separators inv.nodes inv.row, inv.separators-count)

  none_left : (15 ≤ i) ⊎ (q.lines.left ≡ 0) → NoneLeft h out₀ r i out q c inv
  none_left (inl a) = none_fifteen h out₀ r i out q c inv a
  none_left (inr a) = none-lines h out₀ r i out q c inv (no-slots q.lines a)

  pub internode-fits : q.at + 256 ≤ length out
  internode-fits = omega (arith, grow_l (siblings_at q.lines h (15 - i)) q.at, inv.end, inv.long, room.fits)

  module _ (w : (15 ≤ i) ⊎ (q.lines.left ≡ 0)) where
    module _ (out' : List ℕ) (p : (xs cs : List ℕ) → c ≡ children_of xs cs → length xs ≤ 15 → out' ≡ put out q.at (internode_row (length xs) xs cs)) where
      pub internode-is : (few : leaves_l (slots_in q.lines) ≤ limit)
          → Closed h out₀ out' r (record { at = q.at + 256; lines = q.lines; prev = q.prev; node = q.at; first = r.first; few = few }) (siblings_at r.lines h 15)
      internode-is = siblings_done h out₀ r i out q c inv (none_left w) out' p

-- what an internode rests on
pub ruleset internode_rules = (siblings-begin)
