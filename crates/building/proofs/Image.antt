-- THE IMAGE OF A TREE: its length and trailer, and that the tree it holds is the one that was written. Assumes that the tree can be written
-- (PlainN), lies in post-order from byte 8 on, and that the image is no longer than 01 allows.
use Rattle.std.specs.Prelude.{◌≡◌, ◌∷◌, ◌+◌, ◌%◌, ◌-◌, ◌^◌, ◌≤◌, ◌<◌}
use Rattle.base.specs.Kit.{refl, sym, ◌∙◌, List, [], flatten, ℕ, mod-eq_of_lt, arith, length, get_or, take, replicate, length-append, length-replicate}
use Rattle.node.specs.Le.{u64_at}
use Rattle.node.specs.Layout.{root_offset, key_count, stated_length, edition}
use Rattle.layering.specs.Tree.{Node, leaf, internode, beyond, Kids, last, more, Slots, none, value, layer, layer_at, tree_of}
use Rattle.layering.specs.Keys.{values_n, values_k, values_s}
use Rattle.layering.specs.Accepted.{room, end_n, end_k, end_s, InPostOrderN}
use Rattle.verify.proofs.Places.{aligned_n}
use Rattle.building.specs.Shape.{size_s}
use Rattle.building.specs.Build.{le_bytes, offset_n, bytes_n, image_of}
use Rattle.building.proofs.Stands.{Stands, le_bytes-length, stands-le, stands_self}
use Rattle.building.proofs.Records.{parted}
use Rattle.building.proofs.Plain.{PlainN, PlainK, PlainS, length_n}
use Rattle.building.proofs.Placed.{grow_k, grow_s}
use Rattle.building.proofs.Readback.{fits_in, read_n}

ruleset widths = (length-append, le_bytes-length, length-replicate)

-- a tree has a leaf
mutual
  unfolding end_n PlainN

  pub one_leaf_n : (n : Node) (m k at : ℕ) → PlainN m k n → at + 400 ≤ end_n at n
  one_leaf_n (leaf h s) m k at p = omega (arith, grow_s s at)
  one_leaf_n (internode h ks) m k at p = omega (arith, one_leaf_k ks m p.3 at p.5)
  one_leaf_n beyond m k at p = absurd p

  one_leaf_k : (ks : Kids) (m k at : ℕ) → PlainK m k ks → at + 400 ≤ end_k at ks
  one_leaf_k (last n) m k at p = one_leaf_n n m k at p
  one_leaf_k (more n x ks) m k at p = omega (arith, one_leaf_n n m k at p.1, grow_k ks (end_n at n))

-- a slot takes more than a byte
mutual
  unfolding end_n PlainN values_n size_s

  pub values_fit_n : (n : Node) (m k at : ℕ) → PlainN m k n → at + values_n n ≤ end_n at n
  values_fit_n (leaf h s) m k at p = omega (arith, values_fit_s s m at p.4, p.3)
  values_fit_n (internode h ks) m k at p = omega (arith, values_fit_k ks m p.3 at p.5)
  values_fit_n beyond m k at p = absurd p

  values_fit_k : (ks : Kids) (m k at : ℕ) → PlainK m k ks → at + values_k ks ≤ end_k at ks
  values_fit_k (last n) m k at p = values_fit_n n m k at p
  values_fit_k (more n x ks) m k at p = omega (arith, values_fit_n n m k at p.1, values_fit_k ks m k (end_n at n) p.2)

  values_fit_s : (s : Slots) (m at : ℕ) → PlainS m s → at + values_s s ≤ end_s at s + size_s s
  values_fit_s none m at p = omega arith
  values_fit_s (value s r) m at p = omega (arith, values_fit_s r m (at + room s) p.1)
  values_fit_s (layer s n r) m at p = omega (arith, values_fit_n n p.2 12 at p.4, values_fit_s r m (end_n at n) p.1)

pub image_of-length : (n : Node) (c : ℕ) → length (image_of n c) ≡ length (bytes_n n) + 40
unfolding image_of flatten
image_of-length n c = simp widths (omega arith)

module _ (n : Node) (c : ℕ) (p : PlainN 31 12 n) (o : InPostOrderN 8 n) (short : length (image_of n c) ≤ 16777216) (few : c < 2 ^ 64) where
  abbrev image : List ℕ
  image = image_of n c

  abbrev parts : List (List ℕ)
  parts =
      replicate 8 0 ∷ bytes_n n ∷ le_bytes 8 (offset_n n) ∷ le_bytes 8 c ∷ le_bytes 8 (length (bytes_n n) + 40) ∷ le_bytes 8 1 ∷ []

  part_there : (i to : ℕ) → i < 6 → length (flatten (take i parts)) ≡ to → Stands image to (get_or parts i [])
  unfolding image_of
  part_there i to j e = parted image parts i 0 to (stands_self image) j (let f : 0 + length (flatten (take i parts)) ≡ length (flatten (take i parts)) = omega arith in f ∙ e)

  tree_there : Stands image 8 (bytes_n n)
  unfolding flatten
  tree_there = part_there 1 8 (omega arith) (simp widths)

  pub image_end : length image ≡ end_n 8 n + 32
  image_end = omega (arith, image_of-length n c, length_n n 31 12 8 p)

  -- a number of the trailer
  word : (i x : ℕ) (back : ℕ) → Stands image (length image - back) (le_bytes 8 x) → x < 2 ^ 64 → u64_at image (length image - back) ≡ x
  unfolding u64_at
  word i x back st b = stands-le image 8 x (length image - back) st ∙ mod-eq_of_lt b

  pub root_is : root_offset image ≡ offset_n n
  unfolding flatten
  root_is = word 2 (offset_n n) 32 (part_there 2 (length image - 32) (omega arith) (simp widths (omega (arith, image_of-length n c)))) (omega (arith, fits_in image short n 31 12 8 p o tree_there))

  pub count-is : key_count image ≡ c
  unfolding flatten
  count-is = word 3 c 24 (part_there 3 (length image - 24) (omega arith) (simp widths (omega (arith, image_of-length n c)))) few

  pub stated-is : stated_length image ≡ length image
  unfolding flatten
  stated-is =
      word 4 (length (bytes_n n) + 40) 16 (part_there 4 (length image - 16) (omega arith) (simp widths (omega (arith, image_of-length n c)))) (omega (arith, image_of-length n c))
      ∙ sym (image_of-length n c)

  pub edition-is : edition image ≡ 1
  unfolding flatten
  edition-is = word 5 1 8 (part_there 5 (length image - 8) (omega arith) (simp widths (omega (arith, image_of-length n c)))) (omega arith)

  pub image-long : 440 ≤ length image
  image-long = omega (arith, image_end, one_leaf_n n 31 12 8 p)

  pub image-8 : length image % 8 ≡ 0
  image-8 = omega (arith, image_end, aligned_n n 8 refl)

  -- THE TREE THAT THE IMAGE HOLDS
  pub tree_is : tree_of image ≡ n
  unfolding tree_of layer_at
  tree_is = rw root_is (read_n image short n 31 12 8 p o tree_there)
