-- `print_refusal`: the line fits or it does not.
use mathlib.Core.Path.{sym}
use native.Mathlib.Omega.{arith}
use Rattle.sheet_spec.specs.Job.{refusal_text}
use Rattle.words.specs.Refusals.{told, spec_number}
use Rattle.sheet_write.specs.Write.{written_of}
use Rattle.sheet_job.specs.JobLaws.{short-written, fit_written, refusal_length}
use Rattle.sheet_job.proofs.print_refusal.Goals as goal

pub returns-then-out-lt-LINE : goal.returns-then-out-lt-LINE
unfolding written_of told spec_number
returns-then-out-lt-LINE c = short-written _ _ (omega (arith, refusal_length c.args.number))

pub returns : goal.returns
unfolding written_of told spec_number refusal_text
returns c = fit_written _ _ _ 41 (sym (refusal_length c.args.number)) (omega arith) c.write_line.ensures
