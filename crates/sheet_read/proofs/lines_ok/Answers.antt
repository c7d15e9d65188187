use Rattle.std.proofs.Common.{arith}
use Rattle.sheet_read.specs.LineLaws.{lines_true, lines_false}
use Rattle.sheet_read.proofs.lines_ok.Goals as goal

pub returns-then-not-line_ok : goal.returns-then-not-line_ok
returns-then-not-line_ok c = lines_false _ _ _ c.width-width.ensures _ _ _ c.loop-i-test.true c.if-not-line_ok.ensures

pub returns : goal.returns
returns c = lines_true _ _ _ c.width-width.ensures _ _ (λ j h. c.loop-i.invariant j (omega arith))
