-- The lines passed are in form.
use Rattle.std.proofs.Common.{◌≡◌, true, ℕ, ◌<◌, ◌+◌, ◌*◌}
use Rattle.sheet_spec.specs.Sheet.{spec_line_ok}
use Rattle.sheet_read.proofs.lines_ok.Given as goal

abbrev pub invariant-loop-i : goal.invariant-loop-i
invariant-loop-i l = (j : ℕ) → j < l.i → true ≡ spec_line_ok l.text (l.p + l.width * j) l.form.kept l.form.zeros
