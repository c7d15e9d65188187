-- 1 to 4 are the checks', and 5 to 8 come after them in their order.
use Rattle.std.proofs.Common.{refl, sym, ◌∙◌}
use Rattle.std.proofs.lemmas.Result.{err_from_is_err_and}
use Rattle.calls_spec.specs.Step.{ask}
use Rattle.words.specs.Refusals.{told_number, spec_number}
use Rattle.words.proofs.RefusalLaws.{number_some}
use Rattle.view.specs.Check.{numbered}
use Rattle.listing.specs.RefusalLaws.{refusal_first, refusal_short, refusal_later}
use Rattle.listing.proofs.check_request.Goals as goal

pub returns-in_err-check : goal.returns-in_err-check
unfolding told_number
returns-in_err-check c =
    let p = err_from_is_err_and c.from_residual.result c.from_residual.ensures.1 in
    rw (p.1, p.2) (refusal_first _ _ _ _ c.request_even.ensures c.in_err-check.ensures (number_some _))

pub returns-then-not-runs_inside : goal.returns-then-not-runs_inside
unfolding ask numbered told_number spec_number
returns-then-not-runs_inside c =
    refusal_later _ _ _ _ c.request_even.ensures c.in_ok-check.ensures refl (sym c.if-not-runs_inside.true ∙ c.runs_inside.ensures) refl refl

pub pattern_ok-requires : goal.pattern_ok-requires
unfolding told_number
pattern_ok-requires c = refusal_short _ _ _ _ c.request_even.ensures c.in_ok-check.ensures refl

pub returns-then-not-pattern_ok : goal.returns-then-not-pattern_ok
unfolding ask numbered told_number spec_number
returns-then-not-pattern_ok c =
    refusal_later _ _ _ _ c.request_even.ensures c.in_ok-check.ensures refl (sym c.if-not-runs_inside.false ∙ c.runs_inside.ensures)
    (sym c.if-not-pattern_ok.true ∙ c.pattern_ok.ensures) refl

pub returns-then-not-bindings_ok : goal.returns-then-not-bindings_ok
unfolding ask numbered told_number spec_number
returns-then-not-bindings_ok c =
    refusal_later _ _ _ _ c.request_even.ensures c.in_ok-check.ensures refl (sym c.if-not-runs_inside.false ∙ c.runs_inside.ensures)
    (sym c.if-not-pattern_ok.false ∙ c.pattern_ok.ensures) (sym c.if-not-bindings_ok.true ∙ c.bindings_ok.ensures)

pub returns : goal.returns
unfolding ask numbered told_number
returns c =
    refusal_later _ _ _ _ c.request_even.ensures c.in_ok-check.ensures refl (sym c.if-not-runs_inside.false ∙ c.runs_inside.ensures)
    (sym c.if-not-pattern_ok.false ∙ c.pattern_ok.ensures) (sym c.if-not-bindings_ok.false ∙ c.bindings_ok.ensures)
