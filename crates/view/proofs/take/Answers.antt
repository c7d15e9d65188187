-- One law of the step for each exit.
use Rattle.std.proofs.Common.{refl, ap, ◌∙◌, ◌≡◌, min, arith}
use Rattle.std.proofs.lemmas.Result.{err_from_is_err_and}
use Rattle.words.specs.Refusals.{told_number, spec_number}
use Rattle.words.proofs.RefusalLaws.{number_some}
use Rattle.view.specs.Check.{answer_of}
use Rattle.view.specs.StepLaws.{take-refused, take_past, take-fits}
use Rattle.view_spec.specs.Build.{take_field}
use Rattle.view.proofs.take.Goals as goal

pub returns-in_err-check : goal.returns-in_err-check
unfolding answer_of told_number
returns-in_err-check c =
    let p = err_from_is_err_and c.from_residual.result c.from_residual.ensures.1 in
    rw (p.1, p.2) (take-refused _ _ _ c.in_err-check.ensures (number_some _))

pub returns-then-f-n : goal.returns-then-f-n
unfolding answer_of told_number spec_number
returns-then-f-n c = take_past _ _ _ c.in_ok-check.ensures refl c.if-f-n.true

pub returns : goal.returns
unfolding answer_of told_number
returns c =
    let n : min c.args.f.len c.args.n ≡ c.args.n = omega (arith, c.if-f-n.false) in
    take-fits _ _ _ c.in_ok-check.ensures refl (c.clamped.ensures ∙ ap (take_field _) n) c.if-f-n.false
