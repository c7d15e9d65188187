-- The refusal of `from_runs`, or the listing on its field.
use mathlib.Core.Path.{ap, ◌∙◌}
use Rattle.sheet_spec.specs.Job.{written}
use Rattle.view.specs.Check.{answer_of}
use Rattle.sheet_job.specs.JobLaws.{runs-refused, runs_built}
use Rattle.sheet_job.proofs.list_runs.Goals as goal

pub returns-in-Err : goal.returns-in-Err
unfolding answer_of
returns-in-Err c =
    (rw c.number.ensures at c.print_refusal.ensures)
    ∙ ap (λ x. written x c.args.out.now) (runs-refused _ _ _ _ _ _ _ c.from_runs.ensures (ap answer_of c.in-Err.is))

pub returns-in-Ok : goal.returns-in-Ok
unfolding answer_of
returns-in-Ok c =
    c.list_field.ensures ∙ ap (λ x. written x c.args.out.now) (runs_built _ _ _ _ _ _ _ c.from_runs.ensures (ap answer_of c.in-Ok.is))
