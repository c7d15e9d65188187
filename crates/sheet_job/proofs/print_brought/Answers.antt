-- What is printed for each case.
use mathlib.Core.Path.{◌≡◌, ap, sym, ◌∙◌}
use Rattle.words.specs.Refusals.{spec_number}
use Rattle.calls_spec.specs.Step.{answer_number, slots_of}
use Rattle.sheet_spec.specs.Job.{written, listing_text}
use Rattle.listing.specs.Match.{brought}
use Rattle.sheet_job.specs.JobLaws.{fits_listed}
use Rattle.sheet_job.proofs.print_brought.Goals as goal

pub print_candidates-requires : goal.print_candidates-requires
unfolding brought
print_candidates-requires c = fits_listed _ 0 _ _ _ (ap brought c.in-Listed.is) c.requires

pub print_candidates-requires-in-More : goal.print_candidates-requires-in-More
unfolding brought
print_candidates-requires-in-More c = fits_listed _ 15 _ _ _ (ap brought c.in-More.is) c.requires

pub returns-in-Listed : goal.returns-in-Listed
unfolding brought answer_number slots_of listing_text
returns-in-Listed c =
    c.print_candidates.ensures ∙ ap (λ x. written (listing_text (brought x) c.args.slots.now) c.args.out.now) (sym c.in-Listed.is)

pub returns-in-More : goal.returns-in-More
unfolding brought answer_number slots_of listing_text spec_number
returns-in-More c =
    let e : c.number.result ≡ 15 = c.number.ensures in
    (rw e at c.print_candidates-in-More.ensures) ∙ ap (λ x. written (listing_text (brought x) c.args.slots.now) c.args.out.now) (sym c.in-More.is)
