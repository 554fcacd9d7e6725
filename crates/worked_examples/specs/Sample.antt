-- Small images, built field by field from 01's layout, for the worked examples.
use Rattle.std.specs.Prelude.{◌∷◌, ◌++◌, ◌+◌, ◌*◌, ◌/◌, ◌%◌, ◌-◌, ◌^◌}
use Rattle.base.specs.Kit.{Bool, true, false, List, [], map, ℕ, zero, suc, length, replicate}
use Rattle.base.specs.Pick.{pick}
use Rattle.key.specs.Ikey.{ikey_of}

-- The n bytes of a number, the low one first.
unfoldable pub le_bytes : ℕ → ℕ → List ℕ
le_bytes zero x = []
le_bytes (suc n) x = x % 256 ∷ le_bytes n (x / 256)

-- One slot of a leaf.
pub record Entry : Type 0 where
  pub ikey : ℕ
  pub keylenx : ℕ
  pub live : Bool
  pub value : ℕ

-- A key of at most eight bytes that ends in its layer, live or dead; and a layer, whose root is at an offset.
unfoldable pub entry : List ℕ → ℕ → Entry
entry key value = record { ikey = ikey_of key; keylenx = length key; live = true; value = value }

unfoldable pub dead : List ℕ → ℕ → Entry
dead key value = record { ikey = ikey_of key; keylenx = length key; live = false; value = value }

unfoldable pub layer_slot : List ℕ → ℕ → Entry
layer_slot key root = record { ikey = ikey_of key; keylenx = 128; live = false; value = root }

-- Slot s has bit s of the mask.
unfoldable pub mask_from : ℕ → List Entry → ℕ
mask_from s [] = 0
mask_from s (e ∷ es) = pick e.live (2 ^ s) 0 + mask_from (suc s) es

-- A field of every entry, as words of n bytes, zero up to the fifteenth.
unfoldable pub words : ℕ → List ℕ → List ℕ
words n [] = []
words n (x ∷ xs) = le_bytes n x ++ words n xs

unfoldable pub column : ℕ → (Entry → ℕ) → List Entry → List ℕ
column n field es = words n (map field es) ++ replicate (n * (15 - length es)) 0

-- A leaf with its slots in order, no suffix, and no leaf behind it: 400 bytes. The permutation is the identity.
unfoldable pub leaf_bytes : List Entry → List ℕ
leaf_bytes es =
    le_bytes 4 (2 ^ 31) ++ le_bytes 2 (mask_from 0 es) ++ replicate 2 0 ++ le_bytes 8 (0xedcba98765432100 + length es)
    ++ column 8 (λ e. e.ikey) es ++ column 1 (λ e. e.keylenx) es ++ replicate 1 0 ++ column 8 (λ e. e.value) es
    ++ replicate 120 0 ++ le_bytes 8 0

-- An image: eight bytes that are not read, the records, and the trailer.
unfoldable pub image_of : List ℕ → ℕ → ℕ → List ℕ
image_of records root count =
    replicate 8 0 ++ records ++ le_bytes 8 root ++ le_bytes 8 count ++ le_bytes 8 (length records + 40) ++ le_bytes 8 1

-- An image of one leaf, whose trailer states a count of keys.
unfoldable pub one_leaf : ℕ → List Entry → List ℕ
one_leaf count es = image_of (leaf_bytes es) 8 count
