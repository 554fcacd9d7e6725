-- What the code puts for a leaf, an internode and the trailer, field by field, comes to the record's bytes, put at once.
-- Assumes nothing.
use Rattle.std.specs.Prelude.{◌≡◌, ◌++◌, ◌+◌, ◌-◌, ◌≤◌}
use Rattle.base.specs.Kit.{◌∙◌, ap, List, append_assoc, append-nil, map, ℕ, arith, length, length-append, replicate, flatten}
use Rattle.layering.specs.Tree.{Fields}
use Rattle.building.specs.Shape.{identity}
use Rattle.building.specs.Build.{le_bytes, words, mask, suffix_word, leaf_bytes}
use Rattle.building.specs.CodeWritten.{put}
use Rattle.building.specs.CodeSiblings.{internode_row}
use Rattle.building.proofs.Stands.{le_bytes-length, words-length}
use Rattle.building.proofs.Numbers.{mask_lt}
use Rattle.image_out.specs.declared.LeafSlots.{LeafSlots}
use Rattle.image_out.specs.declared.Children.{Children}
use Rattle.image_out.specs.CodeRows.{row_of, slots_of, fresh_head, children_of, trailer_bytes}
use Rattle.image_out.proofs.PutRows.{Wrote, and_then, low-bytes, words-padded}

row_words : (w n : ℕ) (xs : List ℕ) → words w n (row_of n xs) ≡ words w n xs
unfolding row_of
row_words w n xs = words-padded w n (n - length xs) xs

-- what a leaf's first sixteen bytes are, and the whole
abbrev pub leaf_start : ℕ → ℕ → List ℕ
leaf_start mask n = le_bytes 4 2147483648 ++ le_bytes 4 mask ++ le_bytes 8 (17134975606245761280 + n)

leaf-bytes : (s : LeafSlots) (fs : List Fields) (at : ℕ) → s ≡ slots_of fs → length fs ≤ 15
    → leaf_start s.mask s.n ++ words 8 15 s.ikeys ++ (words 1 15 s.lens ++ replicate 1 0)
    ++ words 8 15 s.values
    ++ words 8 15 s.suffixes
    ++ le_bytes 8 0
    ≡ leaf_bytes (fresh_head at (length fs)) fs
unfolding slots_of leaf_bytes flatten identity
leaf-bytes s fs at e h =
    let m : le_bytes 4 (mask fs) ≡ le_bytes 2 (mask fs) ++ replicate 2 0 = low-bytes 2 2 (mask fs) (mask_lt fs 16 (omega arith)) in
    rw (
      e,
      m,
      row_words 8 15 (map (λ (s : Fields). s.ikey) fs),
      row_words 1 15 (map (λ (s : Fields). s.keylenx) fs),
      row_words 8 15 (map (λ (s : Fields). s.value) fs),
      row_words 8 15 (map suffix_word fs),
    ) (simp (append_assoc, append-nil))

internode-bytes : (c : Children) (xs cs : List ℕ) → c ≡ children_of xs cs → length xs ≤ 15
    → le_bytes 4 0 ++ le_bytes 4 c.n ++ words 8 15 c.separators ++ words 8 16 c.nodes ≡ internode_row (length xs) xs cs
unfolding children_of internode_row flatten
internode-bytes c xs cs e l =
    let m : le_bytes 4 (length xs) ≡ le_bytes 1 (length xs) ++ replicate 3 0 = low-bytes 1 3 (length xs) (omega arith) in
    rw (e, m, row_words 8 15 xs, row_words 8 16 cs) (simp (append_assoc, append-nil))

module _ (out : List ℕ) (at : ℕ) where
  pub head_puts : (mask n : ℕ) (o₁ o₂ o₃ : List ℕ) → at + 16 ≤ length out → o₁ ≡ put out at (le_bytes 4 2147483648) → o₂ ≡ put o₁ (at + 4) (le_bytes 4 mask)
      → o₃ ≡ put o₂ (at + 8) (le_bytes 8 (17134975606245761280 + n)) → o₃ ≡ put out at (leaf_start mask n)
  head_puts mask n o₁ o₂ o₃ h e₁ e₂ e₃ =
      let w₁ : Wrote out at o₁ (le_bytes 4 2147483648) 4 = record { same = e₁; size = le_bytes-length 4 2147483648 } in
      let w₂ = and_then w₁ (le_bytes 4 mask) 4 (le_bytes-length 4 mask) e₂ (omega arith) in
      (and_then w₂ (le_bytes 8 (17134975606245761280 + n)) 8 (le_bytes-length 8 (17134975606245761280 + n)) e₃ (omega arith)).same

  pub leaf_puts : (s : LeafSlots) (o₁ o₂ o₃ o₄ o₅ o₆ : List ℕ) → at + 400 ≤ length out → o₁ ≡ put out at (leaf_start s.mask s.n)
      → o₂ ≡ put o₁ (at + 16) (words 8 15 s.ikeys) → o₃ ≡ put o₂ (at + 136) (words 1 15 s.lens ++ replicate 1 0)
      → o₄ ≡ put o₃ (at + 152) (words 8 15 s.values) → o₅ ≡ put o₄ (at + 272) (words 8 15 s.suffixes) → o₆ ≡ put o₅ (at + 392) (le_bytes 8 0)
      → (fs : List Fields) → s ≡ slots_of fs → length fs ≤ 15 → o₆ ≡ put out at (leaf_bytes (fresh_head at (length fs)) fs)
  leaf_puts s o₁ o₂ o₃ o₄ o₅ o₆ h e₁ e₂ e₃ e₄ e₅ e₆ fs e l =
      let w₁ : Wrote out at o₁ (leaf_start s.mask s.n) 16 =
      record { same = e₁; size = simp (length-append, le_bytes-length) } in
      let w₂ = and_then w₁ (words 8 15 s.ikeys) 120 (words-length 8 15 s.ikeys) e₂ (omega arith) in
      let w₃ = and_then w₂ (words 1 15 s.lens ++ replicate 1 0) 16 (simp (length-append, words-length)) e₃ (omega arith) in
      let w₄ = and_then w₃ (words 8 15 s.values) 120 (words-length 8 15 s.values) e₄ (omega arith) in
      let w₅ = and_then w₄ (words 8 15 s.suffixes) 120 (words-length 8 15 s.suffixes) e₅ (omega arith) in
      let w₆ = and_then w₅ (le_bytes 8 0) 8 (le_bytes-length 8 0) e₆ (omega arith) in
      w₆.same ∙ ap (put out at) (leaf-bytes s fs at e l)

  pub internode_puts : (c : Children) (o₁ o₂ o₃ o₄ : List ℕ) → at + 256 ≤ length out → o₁ ≡ put out at (le_bytes 4 0) → o₂ ≡ put o₁ (at + 4) (le_bytes 4 c.n)
      → o₃ ≡ put o₂ (at + 8) (words 8 15 c.separators) → o₄ ≡ put o₃ (at + 128) (words 8 16 c.nodes) → (xs cs : List ℕ) → c ≡ children_of xs cs
      → length xs ≤ 15 → o₄ ≡ put out at (internode_row (length xs) xs cs)
  internode_puts c o₁ o₂ o₃ o₄ f e₁ e₂ e₃ e₄ xs cs e l =
      let w₁ : Wrote out at o₁ (le_bytes 4 0) 4 = record { same = e₁; size = le_bytes-length 4 0 } in
      let w₂ = and_then w₁ (le_bytes 4 c.n) 4 (le_bytes-length 4 c.n) e₂ (omega arith) in
      let w₃ = and_then w₂ (words 8 15 c.separators) 120 (words-length 8 15 c.separators) e₃ (omega arith) in
      let w₄ = and_then w₃ (words 8 16 c.nodes) 128 (words-length 8 16 c.nodes) e₄ (omega arith) in
      w₄.same ∙ ap (put out at) (internode-bytes c xs cs e l)

  pub trailer_puts : (root count : ℕ) (o₁ o₂ o₃ o₄ : List ℕ) → at + 32 ≤ length out → o₁ ≡ put out at (le_bytes 8 root) → o₂ ≡ put o₁ (at + 8) (le_bytes 8 count)
      → o₃ ≡ put o₂ (at + 16) (le_bytes 8 (at + 32)) → o₄ ≡ put o₃ (at + 24) (le_bytes 8 1) → o₄ ≡ put out at (trailer_bytes at root count)
  unfolding flatten
  trailer_puts root count o₁ o₂ o₃ o₄ h e₁ e₂ e₃ e₄ =
      let w₁ : Wrote out at o₁ (le_bytes 8 root) 8 = record { same = e₁; size = le_bytes-length 8 root } in
      let w₂ = and_then w₁ (le_bytes 8 count) 8 (le_bytes-length 8 count) e₂ (omega arith) in
      let w₃ = and_then w₂ (le_bytes 8 (at + 32)) 8 (le_bytes-length 8 (at + 32)) e₃ (omega arith) in
      let w₄ = and_then w₃ (le_bytes 8 1) 8 (le_bytes-length 8 1) e₄ (omega arith) in
      let q : le_bytes 8 root ++ le_bytes 8 count ++ le_bytes 8 (at + 32) ++ le_bytes 8 1 ≡ trailer_bytes at root count = simp (append_assoc, append-nil) in
      w₄.same ∙ ap (put out at) q
