-- A number that is not in form is none of the counts.
use Rattle.std.proofs.Common.{arith}
use Rattle.sheet_read.specs.SheetLaws.{headless, counts_same}
use Rattle.sheet_read.proofs.counts_of.Goals as goal

pub returns-in_err-number_at : goal.returns-in_err-number_at
returns-in_err-number_at c = rw c.from_residual.ensures (headless _ 0 (omega arith) c.in_err-number_at.ensures)

pub returns-in_err-number_at-2 : goal.returns-in_err-number_at-2
returns-in_err-number_at-2 c = rw c.from_residual-in_err-number_at-2.ensures (headless _ 1 (omega arith) c.in_err-number_at-2.ensures)

pub returns-in_err-number_at-3 : goal.returns-in_err-number_at-3
returns-in_err-number_at-3 c = rw c.from_residual-in_err-number_at-3.ensures (headless _ 2 (omega arith) c.in_err-number_at-3.ensures)

pub returns-in_err-number_at-4 : goal.returns-in_err-number_at-4
returns-in_err-number_at-4 c = rw c.from_residual-in_err-number_at-4.ensures (headless _ 3 (omega arith) c.in_err-number_at-4.ensures)

pub returns : goal.returns
returns c = counts_same _ c.in_ok-number_at.ensures c.in_ok-number_at-2.ensures c.in_ok-number_at-3.ensures c.in_ok-number_at-4.ensures
