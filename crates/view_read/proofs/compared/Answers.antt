-- One law of each call for each exit; what `equal_fronts` asks is what the checks let pass.
use Rattle.std.proofs.Common.{refl, sym, ◌∙◌}
use Rattle.std.proofs.lemmas.Result.{err_from_is_err_and}
use borrow.Author.Tests.{leb-false, eqb-true, eqb-false}
use Rattle.words.specs.Refusals.{told_number}
use Rattle.words.proofs.RefusalLaws.{number_some}
use Rattle.view.specs.StepLaws.{usable_both}
use Rattle.view_read.specs.Read.{verdict_of}
use Rattle.view_read.specs.CompareLaws.{both_show, starts-refused, starts-short, starts_by, equal-refused, equal-uneven, equal_by}
use Rattle.view_read.proofs.compared.Goals as goal

pub returns-in_err-check-clause-starts : goal.returns-in_err-check-clause-starts
unfolding verdict_of told_number
returns-in_err-check-clause-starts c fit =
    let p = err_from_is_err_and c.from_residual.result c.from_residual.ensures.1 in
    rw (p.1, p.2) (starts-refused _ _ _ c.in_err-check.ensures (number_some _))

pub returns-in_err-check-clause-equals : goal.returns-in_err-check-clause-equals
unfolding verdict_of told_number
returns-in_err-check-clause-equals c fit =
    let p = err_from_is_err_and c.from_residual.result c.from_residual.ensures.1 in
    rw (p.1, p.2) (equal-refused _ _ _ c.in_err-check.ensures (number_some _))

pub invariant_of-store : goal.invariant_of-store
unfolding told_number
invariant_of-store c = let (u, v) = usable_both _ _ _ c.in_ok-check.ensures refl in record { good = u.values; few = u.terms }

pub equal_fronts-requires : goal.equal_fronts-requires
unfolding told_number
equal_fronts-requires c =
    let (u, v) = usable_both _ _ _ c.in_ok-check.ensures refl in
    (_, both_show u v (c.requires c.if-lengths_fit.true))

pub returns-then-lengths_fit-clause-starts : goal.returns-then-lengths_fit-clause-starts
unfolding verdict_of told_number
returns-then-lengths_fit-clause-starts c fit =
    let (u, v) = usable_both _ _ _ c.in_ok-check.ensures refl in
    let most = c.requires c.if-lengths_fit.true in
    starts_by _ _ _ c.in_ok-check.ensures refl most (c.equal_fronts.ensures _ (both_show u v most))

pub returns-then-lengths_fit-clause-equals : goal.returns-then-lengths_fit-clause-equals
unfolding verdict_of told_number
returns-then-lengths_fit-clause-equals c fit =
    let (u, v) = usable_both _ _ _ c.in_ok-check.ensures refl in
    let most = c.requires c.if-lengths_fit.true in
    equal_by _ _ _ c.in_ok-check.ensures refl (eqb-true _ _ (sym fit ∙ c.if-lengths_fit.true)) (c.equal_fronts.ensures _ (both_show u v most))

pub returns-else-lengths_fit-clause-starts : goal.returns-else-lengths_fit-clause-starts
unfolding verdict_of told_number
returns-else-lengths_fit-clause-starts c fit =
    rw c.if-lengths_fit.false (starts-short _ _ _ c.in_ok-check.ensures refl (leb-false _ _ (sym fit ∙ c.if-lengths_fit.false)))

pub returns-else-lengths_fit-clause-equals : goal.returns-else-lengths_fit-clause-equals
unfolding verdict_of told_number
returns-else-lengths_fit-clause-equals c fit =
    rw c.if-lengths_fit.false (equal-uneven _ _ _ c.in_ok-check.ensures refl (eqb-false _ _ (sym fit ∙ c.if-lengths_fit.false)))
