-- The image that is built has bytes only. Assumes that suffixes have.
use Rattle.std.specs.Prelude.{◌∷◌, ◌+◌, ◌/◌, ◌-◌}
use Rattle.base.specs.Kit.{List, [], map, flatten, ℕ, zero, suc, arith, eqb, length, replicate}
use Rattle.base.proofs.Choice.{pick_ind}
use Rattle.key.proofs.Bytes.{Bytes, bytes-append}
use Rattle.building.proofs.ByteLaws.{bytes-zeros}
use Rattle.layering.specs.Tree.{Fields, LeafHead, InternodeHead, Node, leaf, internode, beyond, Kids, last, more, Slots, none, value, layer}
use Rattle.layering.specs.Accepted.{room}
use Rattle.building.specs.Build.{le_bytes, words, fields_s, mask, suffix_word, leaf_bytes, offset_n, children_k, separators_k, internode_bytes, suffix_bytes, bytes_n, bytes_k, bytes_s, image_of}
use Rattle.building.proofs.Plain.{PlainV, PlainN, PlainK, PlainS}
use Rattle.building.proofs.Fill.{Each}

le_bytes-bytes : (w x : ℕ) → Bytes (le_bytes w x)
unfolding le_bytes
le_bytes-bytes zero x = tt
le_bytes-bytes (suc w) x = (omega arith, le_bytes-bytes w (x / 256))

words-bytes : (w n : ℕ) (xs : List ℕ) → Bytes (words w n xs)
unfolding words
words-bytes w zero xs = tt
words-bytes w (suc n) [] = bytes-append (le_bytes w 0) (words w n []) (le_bytes-bytes w 0) (words-bytes w n [])
words-bytes w (suc n) (x ∷ xs) = bytes-append (le_bytes w x) (words w n xs) (le_bytes-bytes w x) (words-bytes w n xs)

flatten-bytes : (l : List (List ℕ)) → Each Bytes l → Bytes (flatten l)
unfolding flatten
flatten-bytes [] e = tt
flatten-bytes (a ∷ l) e = bytes-append a (flatten l) e.0 (flatten-bytes l e.1)

leaf_bytes-bytes : (h : LeafHead) (l : List Fields) → Bytes (leaf_bytes h l)
unfolding leaf_bytes
leaf_bytes-bytes h l =
    flatten-bytes _ (
      le_bytes-bytes 4 h.version,
      (
        le_bytes-bytes 2 (mask l),
        (
          bytes-zeros 2,
          (
            le_bytes-bytes 8 h.permutation,
            (
              words-bytes 8 15 (map (λ (s : Fields). s.ikey) l),
              (
                words-bytes 1 15 (map (λ (s : Fields). s.keylenx) l),
                (
                  bytes-zeros 1,
                  (
                    words-bytes 8 15 (map (λ (s : Fields). s.value) l),
                    (words-bytes 8 15 (map suffix_word l), (le_bytes-bytes 8 h.next, tt)),
                  ),
                ),
              ),
            ),
          ),
        ),
      ),
    )

internode_bytes-bytes : (h : InternodeHead) (k : Kids) → Bytes (internode_bytes h k)
unfolding internode_bytes
internode_bytes-bytes h k =
    flatten-bytes _ (le_bytes-bytes 4 h.version, (le_bytes-bytes 1 h.nkeys, (bytes-zeros 3, (words-bytes 8 15 (separators_k k), (words-bytes 8 16 (children_k k), tt)))))

suffix_bytes-bytes : (s : Fields) → PlainV s → Bytes (suffix_bytes s)
unfolding suffix_bytes
suffix_bytes-bytes s v =
    pick_ind Bytes (eqb s.keylenx 64)
    (λ t. bytes-append s.suffix (replicate (room s - length s.suffix) 0) v.bytes (bytes-zeros (room s - length s.suffix))) (λ t. tt)

mutual
  unfolding PlainN bytes_n

  bytes_n-bytes : (n : Node) (m k : ℕ) → PlainN m k n → Bytes (bytes_n n)
  bytes_n-bytes (leaf h s) m k p = bytes-append (bytes_s s) (leaf_bytes h (fields_s s)) (bytes_s-bytes s m p.4) (leaf_bytes-bytes h (fields_s s))
  bytes_n-bytes (internode h ks) m k p = bytes-append (bytes_k ks) (internode_bytes h ks) (bytes_k-bytes ks m p.3 p.5) (internode_bytes-bytes h ks)
  bytes_n-bytes beyond m k p = absurd p

  bytes_k-bytes : (ks : Kids) (m k : ℕ) → PlainK m k ks → Bytes (bytes_k ks)
  bytes_k-bytes (last n) m k p = bytes_n-bytes n m k p
  bytes_k-bytes (more n x ks) m k p = bytes-append (bytes_n n) (bytes_k ks) (bytes_n-bytes n m k p.1) (bytes_k-bytes ks m k p.2)

  bytes_s-bytes : (s : Slots) (m : ℕ) → PlainS m s → Bytes (bytes_s s)
  bytes_s-bytes none m p = tt
  bytes_s-bytes (value s r) m p = bytes-append (suffix_bytes s) (bytes_s r) (suffix_bytes-bytes s p.0) (bytes_s-bytes r m p.1)
  bytes_s-bytes (layer s n r) m p = bytes-append (bytes_n n) (bytes_s r) (bytes_n-bytes n p.2 12 p.4) (bytes_s-bytes r m p.1)

pub image_of-bytes : (n : Node) (c m k : ℕ) → PlainN m k n → Bytes (image_of n c)
unfolding image_of
image_of-bytes n c m k p =
    flatten-bytes _ (bytes-zeros 8, (bytes_n-bytes n m k p, (le_bytes-bytes 8 (offset_n n), (le_bytes-bytes 8 c, (le_bytes-bytes 8 (length (bytes_n n) + 40), (le_bytes-bytes 8 1, tt))))))
