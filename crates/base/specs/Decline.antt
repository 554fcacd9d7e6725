-- The numbers of the declines: "A declined call returns its number"; the check's are 1 to 10, a placing's 1, 2 and 11 to 13, a step's 21
-- to 23, the builder's 31 to 33.
use Rattle.std.specs.Prelude.{◌≡◌, ℕ, List, Option, Some, None, Result, Ok, Err}
use Rattle.std.specs.Fmt.{decimal}
use Rattle.base.specs.declared.Decline.{Decline}
use Rattle.base.specs.declared.Decline.TheVariants.{ImageLength, Trailer, RecordPlace, RecordVersion, LeafPermutation, SlotLength, SlotKey, SlotOrder, LeafChain, KeyCount, CursorLength, BoundKind, BoundLength, WalkRange, Unreadable, MovesSpent, SheetForm, SheetOrder, ImageRoom}

abbrev pub decline_number : Decline → ℕ
decline_number ImageLength = 1
decline_number Trailer = 2
decline_number RecordPlace = 3
decline_number RecordVersion = 4
decline_number LeafPermutation = 5
decline_number SlotLength = 6
decline_number SlotKey = 7
decline_number SlotOrder = 8
decline_number LeafChain = 9
decline_number KeyCount = 10
decline_number CursorLength = 11
decline_number BoundKind = 12
decline_number BoundLength = 13
decline_number WalkRange = 21
decline_number Unreadable = 22
decline_number MovesSpent = 23
decline_number SheetForm = 31
decline_number SheetOrder = 32
decline_number ImageRoom = 33

-- n is a decline's number.
abbrev pub HasNumber : Decline → ℕ → Type 0
HasNumber d n = n ≡ decline_number d

-- A decline is shown as its number, in decimal.
abbrev pub decline_text : Decline → List ℕ
decline_text d = decimal (decline_number d)

-- A call's number, by its decline if it has one: 0 for none.
unfoldable pub number_if : Option Decline → ℕ
number_if None = 0
number_if (Some d) = decline_number d

-- What f says of an answer; a decline stays.
unfoldable pub and_then : {A B : Type 0} → Result A Decline → (A → Result B Decline) → Result B Decline
and_then (Ok x) f = f x
and_then (Err d) f = Err d
