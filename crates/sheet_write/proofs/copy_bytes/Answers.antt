use Rattle.std.proofs.Common.{sym, arith}
use Rattle.sheet_spec.proofs.LaidLaws.{laid_at_none}
use Rattle.sheet_write.specs.LineLaws.{bytes-turn, bytes_whole}
use Rattle.sheet_write.proofs.copy_bytes.Goals as goal

pub loop-i-init : goal.loop-i-init
loop-i-init c = sym (laid_at_none _ _)

pub loop-i-preserved : goal.loop-i-preserved
loop-i-preserved c = bytes-turn _ _ _ _ _ c.loop-i-test.true (omega arith) c.loop-i.invariant

pub returns : goal.returns
returns c = bytes_whole _ _ _ _ _ (omega arith) c.loop-i.invariant
