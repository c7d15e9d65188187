-- The lines that are left to write, laid on what is there, come to the same as all of them.
use Rattle.std.proofs.Common.{◌≡◌, ◌+◌, ◌-◌, ◌*◌, drop}
use Rattle.sheet_spec.specs.Sheet.{lines}
use Rattle.sheet_spec.specs.Job.{laid_at}
use Rattle.sheet_write.proofs.write_lines.Given as goal

abbrev pub invariant-loop-i : goal.invariant-loop-i
invariant-loop-i l =
    laid_at l.out (l.p + l.width * l.i) (lines l.form.kept l.form.zeros (l.n - l.i) (drop (l.form.kept * l.i) l.words))
    ≡ laid_at l.fn.out l.p (lines l.form.kept l.form.zeros l.n l.words)
