-- Four columns and a newline, laid one after another.
use Rattle.std.proofs.Common.{arith}
use Rattle.sheet_spec.proofs.LaidLaws.{laid_at-set}
use Rattle.sheet_write.specs.LineLaws.{line-laid}
use Rattle.sheet_write.proofs.write_line.Goals as goal

pub returns : goal.returns
returns c =
    line-laid _ _ _ _ _ _ _ _ _ _ _ c.requires c.write_column.ensures c.write_column-2.ensures c.write_column-3.ensures c.write_column-4.ensures
    (laid_at-set _ _ _ (omega arith))
