-- One law of the step for each exit; what `chained` asks is what the checks let pass.
use Rattle.std.proofs.Common.{refl, sym, ◌∙◌}
use Rattle.std.proofs.lemmas.Result.{err_from_is_err_and}
use Rattle.term_spec.proofs.BoolLaws.{true-T}
use Rattle.words.specs.Refusals.{told_number, spec_number}
use Rattle.words.proofs.RefusalLaws.{number_some}
use Rattle.view.specs.Check.{answer_of}
use Rattle.view.specs.StepLaws.{runs-refused, runs_past, runs_long, runs_fit, runs-passed, runs_few}
use Rattle.view.proofs.from_runs.Goals as goal

pub returns-in_err-check : goal.returns-in_err-check
unfolding answer_of told_number
returns-in_err-check c =
    let p = err_from_is_err_and c.from_residual.result c.from_residual.ensures.1 in
    rw (p.1, p.2) (runs-refused _ _ c.runs_even.ensures c.in_err-check.ensures (number_some _))

pub returns-then-not-runs_inside : goal.returns-then-not-runs_inside
unfolding answer_of told_number spec_number
returns-then-not-runs_inside c = runs_past _ _ c.runs_even.ensures c.in_ok-check.ensures refl (sym c.runs_inside.ensures ∙ c.if-not-runs_inside.true)

pub runs_total-len-requires : goal.runs_total-len-requires
unfolding told_number
runs_total-len-requires c =
    let p = runs-passed _ _ c.runs_even.ensures c.in_ok-check.ensures refl in
    record {
      inside = record { terms = _; few_terms = p.terms; rule = true-T _ (sym c.runs_inside.ensures ∙ c.if-not-runs_inside.false) };
      few = runs_few _ _ c.runs_even.ensures c.in_ok-check.ensures refl;
    }

pub returns-then-len-gt-LIMIT : goal.returns-then-len-gt-LIMIT
unfolding answer_of told_number spec_number
returns-then-len-gt-LIMIT c =
    runs_long _ _ c.runs_even.ensures c.in_ok-check.ensures refl (sym c.runs_inside.ensures ∙ c.if-not-runs_inside.false) c.runs_total-len.ensures
    c.if-len-gt-LIMIT.true

pub chained-requires : goal.chained-requires
unfolding told_number
chained-requires c =
    let p = runs-passed _ _ c.runs_even.ensures c.in_ok-check.ensures refl in
    record {
      store = record {
        inside = record { terms = _; few_terms = p.terms; rule = true-T _ (sym c.runs_inside.ensures ∙ c.if-not-runs_inside.false) };
        store = p.store;
      };
      size = c.runs_total-len.ensures;
    }

pub returns : goal.returns
unfolding told_number
returns c =
    runs_fit _ _ c.runs_even.ensures c.in_ok-check.ensures refl (sym c.runs_inside.ensures ∙ c.if-not-runs_inside.false) c.runs_total-len.ensures
    c.if-len-gt-LIMIT.false c.chained.ensures
