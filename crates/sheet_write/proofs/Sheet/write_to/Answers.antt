-- The parts, laid one after another.
use Rattle.std.proofs.Common.{arith}
use Rattle.sheet_spec.proofs.SheetLaws.{spec_counts_of}
use Rattle.sheet_spec.proofs.LaidLaws.{laid_at-set}
use Rattle.sheet_write.specs.SheetLaws.{parts-laid}
use Rattle.sheet_write.proofs.Sheet.write_to.Goals as goal

pub returns : goal.returns
unfolding spec_counts_of
returns c =
    parts-laid _ _ c.requires.counts c.requires.room.end record {
      head = c.write_line.ensures;
      terms = c.write_lines.ensures;
      names = rw c.names_start.ensures at c.copy_bytes.ensures;
      newline = rw c.names_end.ensures (laid_at-set _ _ _ (omega (arith, c.names_end.ensures)));
      pattern = rw c.pattern_start.ensures at c.write_lines-2.ensures;
      runs = rw c.runs_start.ensures at c.write_lines-3.ensures;
    }
