-- `run_sheet`: the refusal of the text, or what is printed for the sheet that was read.
use mathlib.Core.Path.{ap, sym, ◌∙◌}
use native.Mathlib.Omega.{arith}
use Rattle.words.specs.Refusals.{told}
use Rattle.sheet_spec.specs.Job.{written, refused_sheet}
use Rattle.sheet_read.specs.Read.{read_of}
use Rattle.sheet_job.specs.RunLaws.{run-refused, sheet_lent}
use Rattle.sheet_job.proofs.run_sheet.Goals as goal

pub overflow_mul-runs : goal.overflow_mul-runs
unfolding read_of told
overflow_mul-runs c =
    omega (arith, sheet_lent _ _ _ _ _ c.read_sheet.ensures _ (ap read_of c.in-Ok.is))

pub slice_bounds-runs-end : goal.slice_bounds-runs-end
unfolding read_of told
slice_bounds-runs-end c =
    omega (arith, sheet_lent _ _ _ _ _ c.read_sheet.ensures _ (ap read_of c.in-Ok.is))

pub slice_bounds-list_runs-end-in-Ok : goal.slice_bounds-list_runs-end-in-Ok
unfolding read_of told
slice_bounds-list_runs-end-in-Ok c =
    (sheet_lent _ _ _ _ _ c.read_sheet.ensures _ (ap read_of c.in-Ok.is)).size_runs

pub overflow_mul-pattern : goal.overflow_mul-pattern
unfolding read_of told
overflow_mul-pattern c =
    omega (arith, sheet_lent _ _ _ _ _ c.read_sheet.ensures _ (ap read_of c.in-Ok.is))

pub slice_bounds-pattern-end : goal.slice_bounds-pattern-end
unfolding read_of told
slice_bounds-pattern-end c =
    omega (arith, sheet_lent _ _ _ _ _ c.read_sheet.ensures _ (ap read_of c.in-Ok.is))

pub slice_bounds-list_runs-end-in-Ok-2 : goal.slice_bounds-list_runs-end-in-Ok-2
unfolding read_of told
slice_bounds-list_runs-end-in-Ok-2 c =
    (sheet_lent _ _ _ _ _ c.read_sheet.ensures _ (ap read_of c.in-Ok.is)).size_pattern

pub returns-in-Err : goal.returns-in-Err
unfolding read_of told
returns-in-Err c =
    c.print_refusal.ensures
    ∙ ap (λ x. written x c.args.out.now) (run-refused _ _ _ _ _ c.read_sheet.ensures _ (ap read_of c.in-Err.is ∙ ap refused_sheet (sym c.number.ensures)))

pub returns-in-Ok : goal.returns-in-Ok
unfolding read_of told
returns-in-Ok c =
    let lent = sheet_lent _ _ _ _ _ c.read_sheet.ensures _ (ap read_of c.in-Ok.is) in
    rw (← lent.printed) (rw (← c.names_part-names.ensures) c.list_runs.ensures)
