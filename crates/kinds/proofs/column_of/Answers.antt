-- `kinds::column_of`: each exit is one law of the column.
use Rattle.std.proofs.Common.{arith}
use Rattle.kinds.specs.Kinds.{spec_column_of}
use Rattle.kinds.specs.KindLaws.{column_low, column_none, column_some}
use Rattle.kinds.proofs.column_of.Goals as goal

pub returns-then-t-lt-UNKNOWNS : goal.returns-then-t-lt-UNKNOWNS
unfolding spec_column_of
returns-then-t-lt-UNKNOWNS c = (omega arith, column_low _ _ c.if-t-lt-UNKNOWNS.true)

pub returns-then-t-gt-EXPRESSION : goal.returns-then-t-gt-EXPRESSION
unfolding spec_column_of
returns-then-t-gt-EXPRESSION c = column_none _ _ c.if-t-lt-UNKNOWNS.false c.if-t-gt-EXPRESSION.true

pub returns : goal.returns
unfolding spec_column_of
returns c = (omega arith, column_some _ _ c.if-t-lt-UNKNOWNS.false c.if-t-gt-EXPRESSION.false)
