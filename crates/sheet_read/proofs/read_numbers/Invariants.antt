-- The words hold the numbers passed.
use Rattle.std.proofs.Common.{◌≡◌}
use Rattle.sheet_spec.specs.Sheet.{numbers_at}
use Rattle.sheet_spec.specs.Job.{laid_at}
use Rattle.sheet_read.proofs.read_numbers.Given as goal

abbrev pub invariant-loop-i : goal.invariant-loop-i
invariant-loop-i l = l.out ≡ laid_at l.fn.out l.w (numbers_at l.text l.p l.i)
