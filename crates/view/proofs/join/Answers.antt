-- One law of the step for each exit; what `joined` asks is what the checks let pass.
use Rattle.std.proofs.Common.{refl, arith}
use Rattle.std.proofs.lemmas.Result.{err_from_is_err_and}
use Rattle.words.specs.Refusals.{told_number, spec_number}
use Rattle.words.proofs.RefusalLaws.{number_some}
use Rattle.view.specs.Check.{answer_of}
use Rattle.view.specs.StepLaws.{usable_both, any-nodes, reaches, join-refused, join_long, join-fits}
use Rattle.view.proofs.join.Goals.{then-f-gt-LIMIT-via-then-f-gt-LIMIT, then-f-gt-LIMIT-via-else-f-gt-LIMIT+then-f-g}
use Rattle.view.proofs.join.Goals as goal

pub returns-in_err-check : goal.returns-in_err-check
unfolding answer_of told_number
returns-in_err-check c =
    let p = err_from_is_err_and c.from_residual.result c.from_residual.ensures.1 in
    rw (p.1, p.2) (join-refused _ _ _ c.in_err-check.ensures (number_some _))

pub returns-then-f-gt-LIMIT : goal.returns-then-f-gt-LIMIT
unfolding answer_of told_number spec_number
returns-then-f-gt-LIMIT c = elim c.then-f-gt-LIMIT.branch [
  | then-f-gt-LIMIT-via-then-f-gt-LIMIT w ↦ join_long _ _ _ c.in_ok-check.ensures refl (omega arith)
  | then-f-gt-LIMIT-via-else-f-gt-LIMIT+then-f-g w ↦ join_long _ _ _ c.in_ok-check.ensures refl (omega arith)
]

pub joined-requires : goal.joined-requires
unfolding told_number
joined-requires c =
    let (u, v) = usable_both _ _ _ c.in_ok-check.ensures refl in
    record { store = any-nodes u; left = reaches u; right = (reaches v, omega arith) }

pub returns : goal.returns
unfolding told_number
returns c = join-fits _ _ _ c.in_ok-check.ensures refl (omega arith) c.joined.ensures
