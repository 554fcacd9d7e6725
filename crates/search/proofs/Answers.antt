-- A suffix that may be read lies in the image: for the crates above.
use Rattle.std.specs.Prelude.{◌≡◌, ◌+◌, ◌≤◌}
use Rattle.base.specs.Kit.{true, List, ℕ, length}
use Rattle.node.specs.Layout.{suffix_at}
use Rattle.search.specs.Types.{Slot}
use Rattle.search.proofs.TraversalLaws.{in_image}
use Rattle.search.specs.Helper.{suffix_readable}

pub suffix-in : (image : List ℕ) (leaf : ℕ) (s : Slot) → suffix_readable image leaf s ≡ true
    → (suffix_at image leaf s).start + (suffix_at image leaf s).len + 32 ≤ length image
unfolding suffix_readable
suffix-in image leaf s h = (in_image image (suffix_at image leaf s).start (suffix_at image leaf s).len h).1
