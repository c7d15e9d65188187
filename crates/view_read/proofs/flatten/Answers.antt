-- One law of the step for each exit; what `place_of` and `copy_out` ask is what the checks let pass.
use Rattle.std.proofs.Common.{refl, ap, sym, ◌∙◌, arith}
use Rattle.std.proofs.lemmas.Result.{err_from_is_err_and}
use Rattle.term_spec.specs.Words.{whole}
use Rattle.words.specs.Refusals.{told_number, spec_number}
use Rattle.words.proofs.RefusalLaws.{number_some}
use Rattle.view.specs.StepLaws.{usable, reaches}
use Rattle.view_read.specs.Read.{spec_place_of, found_of, flat_of}
use Rattle.view_read.specs.PlaceLaws.{below-terms, flatten_refused, flatten_stored, flatten_short, flatten_done}
use Rattle.view_read.proofs.flatten.Goals as goal

pub returns-in_err-check : goal.returns-in_err-check
unfolding whole flat_of found_of told_number
returns-in_err-check c =
    let p = err_from_is_err_and c.from_residual.result c.from_residual.ensures.1 in
    rw (p.1, p.2) (flatten_refused _ _ _ c.in_err-check.ensures (number_some _))

pub place_of-requires : goal.place_of-requires
unfolding whole told_number
place_of-requires c = let u = usable _ _ _ c.in_ok-check.ensures refl in omega (arith, u.store.fits, u.low)

pub returns-in-Some : goal.returns-in-Some
unfolding whole flat_of found_of spec_place_of told_number
returns-in-Some c =
    let low = (usable _ _ _ c.in_ok-check.ensures refl).low in
    flatten_stored _ _ _ c.in_ok-check.ensures refl (sym (ap spec_place_of c.in-Some.is) ∙ c.place_of.ensures _ low)

pub returns-then-work-f : goal.returns-then-work-f
unfolding whole flat_of found_of spec_place_of told_number spec_number
returns-then-work-f c =
    let low = (usable _ _ _ c.in_ok-check.ensures refl).low in
    flatten_short _ _ _ c.in_ok-check.ensures refl (sym (ap spec_place_of c.in-None.is) ∙ c.place_of.ensures _ low) c.if-work-f.true

pub copy_out-requires : goal.copy_out-requires
unfolding whole told_number
copy_out-requires c =
    let u = usable _ _ _ c.in_ok-check.ensures refl in
    record { shows = record { used = _; below = below-terms u; reaches = reaches u }; room = omega arith }

pub returns-else-work-f : goal.returns-else-work-f
unfolding whole flat_of found_of spec_place_of told_number
returns-else-work-f c =
    let u = usable _ _ _ c.in_ok-check.ensures refl in
    flatten_done _ _ _ c.in_ok-check.ensures refl (sym (ap spec_place_of c.in-None.is) ∙ c.place_of.ensures _ u.low)
    c.if-work-f.false (c.copy_out.ensures _ (below-terms u) (reaches u))
