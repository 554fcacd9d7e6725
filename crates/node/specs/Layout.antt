-- Where each field of an image stands (01, "The image"). `image` is the image's bytes, `leaf` and `at` are offsets that
-- count from its start.
use Rattle.std.specs.Prelude.{◌+◌, ◌*◌, ◌/◌, ◌%◌, ◌-◌, ◌^◌, ◌≤◌, ◌<◌}
use Rattle.base.specs.Kit.{Bool, List, ℕ, length, get_or, leb, eqb}
use Rattle.base.specs.Pick.{pick}
use Rattle.node.specs.Le.{u16_at, u32_at, u64_at}
use Rattle.node.specs.Version.{bit}
use Rattle.node.specs.declared.permuter.Slot.{Slot}
use Rattle.node.specs.declared.leaf.Suffix.{Suffix}
use Rattle.node.specs.declared.leaf.SlotKind.{SlotKind}
use Rattle.node.specs.declared.leaf.SlotKind.TheVariants.{Inline, Suffix as WithSuffix, Layer, Unlisted}

-- A record lies in the image: "Leaf, 400 bytes", "Internode, 256 bytes". A leaf has 15 slots.
abbrev pub InLeaf : List ℕ → ℕ → Type 0
InLeaf image leaf = leaf + 400 ≤ length image

abbrev pub InSlot : List ℕ → ℕ → Slot → Type 0
InSlot image leaf slot = (leaf + 400 ≤ length image) × (slot.0 < 15)

abbrev pub InInternode : List ℕ → ℕ → Type 0
InInternode image at = at + 256 ≤ length image

-- Both records: "version u32 at 0".
abbrev pub version_at : List ℕ → ℕ → ℕ
version_at image at = u32_at image at

-- Leaf: "live mask u16 at 4 (bit s for slot s)".
unfoldable pub live_at : List ℕ → ℕ → Slot → Bool
live_at image leaf slot = bit (u16_at image (leaf + 4)) slot.0

-- "permutation u64 at 8".
abbrev pub permutation_at : List ℕ → ℕ → ℕ
permutation_at image leaf = u64_at image (leaf + 8)

-- "15 ikeys u64 at 16".
abbrev pub ikey_at : List ℕ → ℕ → Slot → ℕ
ikey_at image leaf slot = u64_at image (leaf + 16 + 8 * slot.0)

-- "15 `keylenx` bytes at 136".
abbrev pub keylenx_at : List ℕ → ℕ → Slot → ℕ
keylenx_at image leaf slot = get_or image (leaf + 136 + slot.0) 0

-- "`keylenx` 0 to 8 is a key that ends here, 64 a key with a suffix of at least one byte, 128 or more a layer".
unfoldable pub slot_kind : ℕ → SlotKind
slot_kind n = pick (leb n 8) Inline (pick (eqb n 64) WithSuffix (pick (leb 128 n) Layer Unlisted))

-- "15 value words at 152".
abbrev pub value_at : List ℕ → ℕ → Slot → ℕ
value_at image leaf slot = u64_at image (leaf + 152 + 8 * slot.0)

-- "15 suffix words at 272 (low 32 bits offset, high 32 bits length)".
unfoldable pub suffix_at : List ℕ → ℕ → Slot → Suffix
suffix_at image leaf slot =
    record {
      start = u64_at image (leaf + 272 + 8 * slot.0) % 2 ^ 32;
      len = u64_at image (leaf + 272 + 8 * slot.0) / 2 ^ 32;
    }

-- "next leaf u64 at 392".
abbrev pub next_at : List ℕ → ℕ → ℕ
next_at image leaf = u64_at image (leaf + 392)

-- Internode: "key count u8 at 4".
abbrev pub nkeys_at : List ℕ → ℕ → ℕ
nkeys_at image at = get_or image (at + 4) 0

-- "15 ikeys at 8": separator i, from 0 on.
abbrev pub separator_at : List ℕ → ℕ → ℕ → ℕ
separator_at image at i = u64_at image (at + 8 + 8 * i)

-- "16 children u64 at 128".
abbrev pub child_at : List ℕ → ℕ → ℕ → ℕ
child_at image at i = u64_at image (at + 128 + 8 * i)

-- "Trailer, the last 32 bytes, pointing back: root offset, key count, image length, edition (1), each u64".
abbrev pub root_offset : List ℕ → ℕ
root_offset image = u64_at image (length image - 32)

abbrev pub key_count : List ℕ → ℕ
key_count image = u64_at image (length image - 24)

abbrev pub stated_length : List ℕ → ℕ
stated_length image = u64_at image (length image - 16)

abbrev pub edition : List ℕ → ℕ
edition image = u64_at image (length image - 8)
