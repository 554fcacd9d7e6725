-- After `unshift` the cursor stands past the slot of the layer that was left: against any slot of its ikey that goes on, it is not
-- below. (01, "Wrong turns a porter may take": with length 8 it would be below, and the layer would be entered again.)
use Rattle.std.specs.Prelude.{◌≡◌, ◌<◌}
use Rattle.base.specs.Kit.{List, ℕ, arith, lt-leb, le-ltb}
use Rattle.base.specs.Pick.{pick}
use Rattle.key.specs.Order.{order, then}
use Rattle.std.specs.declared.cmp.Ordering.TheVariants.{Equal}
use Rattle.cursor.specs.CursorKey.{unshift, compare_slot}
use Rattle.cursor.specs.declared.cursor_key.CursorPlace.{CursorPlace}

pub unshift-past : (k : CursorPlace) (buf : List ℕ) (keylenx : ℕ) → 8 < keylenx → compare_slot (unshift k buf) (unshift k buf).ikey keylenx ≡ Equal
unfolding unshift compare_slot order then pick
unshift-past k buf keylenx h = rw (le-ltb (unshift k buf).ikey (unshift k buf).ikey (omega arith), lt-leb keylenx 8 h)
