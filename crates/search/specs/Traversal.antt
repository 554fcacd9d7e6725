-- From a layer's root to a leaf, over any bytes (01, module 5; "22: a move reads a record or suffix that starts below 8 or is
-- not wholly before the trailer, a record not at a multiple of 8, a forbidden version bit, an internode where the walk or a
-- `next` names a leaf, a child not below its parent, a key count over 15").
use Rattle.std.specs.Prelude.{◌&&◌, ◌+◌, ◌%◌, Result, Ok, Err}
use Rattle.base.specs.Kit.{Bool, true, false, not, List, ℕ, zero, suc, leb, ltb, eqb, length}
use Rattle.base.specs.Pick.{pick}
use Rattle.base.specs.Decline.{and_then}
use Rattle.node.specs.Version.{is_leaf, at_rest}
use Rattle.node.specs.Layout.{version_at, nkeys_at, child_at}
use Rattle.node.specs.Ksearch.{upper_bound}
use Rattle.search.specs.Types.{Decline, Unreadable, RecordKind, Leaf, Internode}

-- n bytes at an offset lie between byte 8 and the trailer.
unfoldable pub readable : List ℕ → ℕ → ℕ → Bool
readable image at n = leb 8 at && leb (at + n + 32) (length image)

-- What a move finds at an offset. The leaf bit is read where an internode would lie before the trailer.
unfoldable pub record_at : List ℕ → ℕ → Result RecordKind Decline
record_at image at =
    pick (not (eqb (at % 8) 0 && readable image at 256)) (Err Unreadable)
    (pick (not (at_rest (version_at image at))) (Err Unreadable)
    (pick (not (is_leaf (version_at image at))) (Ok Internode)
    (pick (readable image at 400) (Ok Leaf) (Err Unreadable))))

-- What each kind of record comes to.
unfoldable pub by_kind : {A : Type 0} → RecordKind → A → A → A
by_kind Leaf leaf internode = leaf
by_kind Internode leaf internode = internode

-- A leaf stands there: "an internode where the walk or a `next` names a leaf" is declined too.
unfoldable pub found_leaf : Result RecordKind Decline → Bool
found_leaf (Ok kind) = by_kind kind true false
found_leaf (Err d) = false

unfoldable pub leaf_there : List ℕ → ℕ → Bool
leaf_there image at = found_leaf (record_at image at)

-- The child of an internode that a search goes to ("equal to separator i goes to child i+1").
unfoldable pub child_for : List ℕ → ℕ → ℕ → ℕ
child_for image at ikey = child_at image at (upper_bound image at ikey 0 (nkeys_at image at))

-- The leaf that a search for `ikey` comes to from the record at an offset. A child lies below its parent, so there are
-- fewer records on the way than the offset says; n counts them.
unfoldable pub reach_from : ℕ → List ℕ → ℕ → ℕ → Result ℕ Decline
reach_from zero image ikey at = Err Unreadable
reach_from (suc n) image ikey at =
    and_then (record_at image at)
    (λ kind. by_kind kind (Ok at)
    (pick (ltb 15 (nkeys_at image at)) (Err Unreadable)
    (pick (leb at (child_for image at ikey)) (Err Unreadable) (reach_from n image ikey (child_for image at ikey)))))

unfoldable pub reach : List ℕ → ℕ → ℕ → Result ℕ Decline
reach image ikey root = reach_from (root + 1) image ikey root
