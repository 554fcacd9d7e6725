-- `image_out::put_internode` meets its contract: four writes, one behind the other. Assumes nothing.
use Rattle.std.specs.Prelude.{◌≡◌}
use Rattle.base.specs.Kit.{length, rules}
use Rattle.image_out.proofs.RecordBytes.{internode_puts}
use Rattle.image_out.proofs.put_internode.Goals as goal

pub returns : goal.returns
returns c =
    let a = c.args in
    let k : length a.c.separators ≡ 15 = search rules in
    let l : length a.c.nodes ≡ 16 = search rules in
    internode_puts a.out.now a.at a.c _ _ _ _ c.requires c.put_le.ensures c.put_le-2.ensures (rw k at c.put_words.ensures)
    (rw l at c.put_words-2.ensures)
