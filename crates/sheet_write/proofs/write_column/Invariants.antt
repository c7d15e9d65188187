-- The leading columns that are left to write, laid on what is there, come to the same as all of them.
use Rattle.std.proofs.Common.{◌≡◌}
use Rattle.sheet_spec.specs.Sheet.{leading}
use Rattle.sheet_spec.specs.Job.{laid_at}
use Rattle.sheet_write.proofs.write_column.Given as goal

abbrev pub invariant-loop-k : goal.invariant-loop-k
invariant-loop-k l = laid_at l.out l.p (leading l.k l.left) ≡ laid_at l.initial.out l.p (leading 9 l.initial.left)
