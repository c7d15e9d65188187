-- One law of the step for each exit; the answer of `dropped` is clamped.
use Rattle.std.proofs.Common.{refl, ap, arith}
use Rattle.std.proofs.lemmas.Result.{err_from_is_err_and}
use Rattle.words.specs.Refusals.{told_number, spec_number}
use Rattle.words.proofs.RefusalLaws.{number_some}
use Rattle.view.specs.Check.{answer_of}
use Rattle.view.specs.StepLaws.{usable, any-nodes, reaches, range-refused, range_past, range-fits}
use Rattle.view.specs.GrowLaws.{range_built, range-full}
use Rattle.view.proofs.range.Goals.{then-f-k-via-then-f-k, then-f-k-via-else-f-k+then-f-k-2}
use Rattle.view.proofs.range.Goals as goal

pub returns-in_err-check : goal.returns-in_err-check
unfolding answer_of told_number
returns-in_err-check c =
    let p = err_from_is_err_and c.from_residual.result c.from_residual.ensures.1 in
    rw (p.1, p.2) (range-refused _ _ _ _ c.in_err-check.ensures (number_some _))

pub returns-then-f-k : goal.returns-then-f-k
unfolding answer_of told_number spec_number
returns-then-f-k c = elim c.then-f-k.branch [
  | then-f-k-via-then-f-k w ↦ range_past _ _ _ _ c.in_ok-check.ensures refl (omega arith)
  | then-f-k-via-else-f-k+then-f-k-2 w ↦ range_past _ _ _ _ c.in_ok-check.ensures refl (omega arith)
]

pub dropped-requires : goal.dropped-requires
unfolding told_number
dropped-requires c =
    let u = usable _ _ _ c.in_ok-check.ensures refl in
    record { store = any-nodes u; reaches = (reaches u, omega arith) }

pub returns-in_err-g : goal.returns-in_err-g
unfolding answer_of told_number
returns-in_err-g c =
    let p = err_from_is_err_and c.from_residual-in_err-g.result c.from_residual-in_err-g.ensures.1 in
    let full = range-full _ _ _ _ _ _ c.dropped.ensures (ap answer_of c.in_err-g.was) in
    rw (p.1, p.2) (range-fits _ _ _ _ c.in_ok-check.ensures refl (omega arith) full)

pub returns : goal.returns
unfolding answer_of told_number
returns c =
    let built = range_built _ _ _ _ _ _ c.dropped.ensures (ap answer_of c.in_ok-g.was) (omega arith) c.clamped.ensures in
    range-fits _ _ _ _ c.in_ok-check.ensures refl (omega arith) built
