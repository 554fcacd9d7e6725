-- `groups::lowered_key` meets its contract.
use Rattle.std.specs.Prelude.{◌≤◌}
use Rattle.base.specs.Kit.{arith}
use Rattle.groups.proofs.LineRead.{line-some, line-short, line-lowered}
use Rattle.groups.proofs.lowered_key.Goals as goal

pub unwrap-read-requires : goal.unwrap-read-requires
unwrap-read-requires c = line-some _ _ _ _ _ c.station_at.ensures c.requires.one_line

pub part_of-requires : goal.part_of-requires
part_of-requires c =
    let h : c.unwrap-read.result.key_len ≤ 256 = line-short _ _ _ _ _ c.station_at.ensures c.requires.one_line _ c.unwrap-read.ensures in
    omega arith

pub returns : goal.returns
returns c =
    line-lowered _ _ _ _ _ c.station_at.ensures c.requires.one_line _ c.unwrap-read.ensures _ _ _
    (omega arith) c.min-from.ensures c.part_of.ensures
