-- The columns of the words passed are written.
use Rattle.std.proofs.Common.{◌≡◌, take}
use Rattle.sheet_spec.specs.Sheet.{columns}
use Rattle.sheet_spec.specs.Job.{laid_at}
use Rattle.sheet_write.proofs.write_words.Given as goal

abbrev pub invariant-loop-i : goal.invariant-loop-i
invariant-loop-i l = l.out ≡ laid_at l.fn.out l.p (columns (take l.i l.words))
