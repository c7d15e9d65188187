use Rattle.std.proofs.Common.{arith}
use Rattle.sheet_write.specs.LineLaws.{slice_start, slice_turn, slice_whole}
use Rattle.sheet_write.proofs.write_words.Goals as goal

pub loop-i-init : goal.loop-i-init
loop-i-init c = slice_start _ c.args.words.now _

pub loop-i-preserved : goal.loop-i-preserved
loop-i-preserved c = slice_turn _ _ _ _ _ _ _ c.loop-i-test.true c.requires c.loop-i.invariant c.word.ensures c.write_column.ensures

pub returns : goal.returns
returns c = slice_whole _ _ _ _ _ (omega arith) c.loop-i.invariant
