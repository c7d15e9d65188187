-- Words, zeros and a newline, laid one after another.
use Rattle.std.proofs.Common.{arith}
use Rattle.sheet_form.specs.FormLaws.{first-zeros}
use Rattle.sheet_write.specs.LineLaws.{record_set}
use Rattle.sheet_write.proofs.write_record.Goals as goal

pub returns : goal.returns
returns c = record_set _ _ _ _ _ _ _ _ _ (first-zeros _ 10 (omega arith)) c.requires.2 c.requires.0 c.write_words.ensures c.write_words-2.ensures c.end.ensures
