-- One law of the step for each exit; what `dropped` asks is what the checks let pass.
use Rattle.std.proofs.Common.{refl}
use Rattle.std.proofs.lemmas.Result.{err_from_is_err_and}
use Rattle.words.specs.Refusals.{told_number, spec_number}
use Rattle.words.proofs.RefusalLaws.{number_some}
use Rattle.view.specs.Check.{answer_of}
use Rattle.view.specs.StepLaws.{usable, any-nodes, reaches, rest-refused, rest_past, rest-fits}
use Rattle.view.proofs.rest.Goals as goal

pub returns-in_err-check : goal.returns-in_err-check
unfolding answer_of told_number
returns-in_err-check c =
    let p = err_from_is_err_and c.from_residual.result c.from_residual.ensures.1 in
    rw (p.1, p.2) (rest-refused _ _ _ c.in_err-check.ensures (number_some _))

pub returns-then-f-k : goal.returns-then-f-k
unfolding answer_of told_number spec_number
returns-then-f-k c = rest_past _ _ _ c.in_ok-check.ensures refl c.if-f-k.true

pub dropped-requires : goal.dropped-requires
unfolding told_number
dropped-requires c =
    let u = usable _ _ _ c.in_ok-check.ensures refl in
    record { store = any-nodes u; reaches = (reaches u, c.if-f-k.false) }

pub returns : goal.returns
unfolding told_number
returns c = rest-fits _ _ _ c.in_ok-check.ensures refl c.if-f-k.false c.dropped.ensures
