-- The words hold the numbers of the lines passed.
use Rattle.std.proofs.Common.{◌≡◌}
use Rattle.sheet_spec.specs.Sheet.{words_at}
use Rattle.sheet_spec.specs.Job.{laid}
use Rattle.sheet_read.proofs.read_lines.Given as goal

abbrev pub invariant-loop-i : goal.invariant-loop-i
invariant-loop-i l = l.out ≡ laid (words_at l.text l.p l.form.kept l.form.zeros l.i) l.fn.out
