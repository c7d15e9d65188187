-- The lines of the entries passed are laid.
use Rattle.std.proofs.Common.{◌≡◌}
use Rattle.sheet_spec.specs.Job.{laid_at, entry_lines}
use Rattle.sheet_form.specs.Form.{line_bytes}
use Rattle.sheet_job.proofs.write_entries.Given as goal

abbrev pub invariant-loop-i : goal.invariant-loop-i
invariant-loop-i l = l.out ≡ laid_at l.fn.out line_bytes (entry_lines l.k l.slots 0 l.i)
