-- What is printed for a listing, or for its refusal.
use mathlib.Core.Path.{ap, sym, ◌∙◌}
use Rattle.sheet_spec.specs.Job.{written, listing_text}
use Rattle.sheet_spec.proofs.ShownLaws.{refusal_listed}
use Rattle.listing.specs.Match.{matched_of}
use Rattle.sheet_job.proofs.print_listing.Goals as goal

pub print_brought-requires : goal.print_brought-requires
unfolding matched_of
print_brought-requires c = rw c.in-Ok.is at c.requires

pub returns-in-Ok : goal.returns-in-Ok
unfolding matched_of
returns-in-Ok c =
    c.print_brought.ensures ∙ ap (λ x. written (listing_text (matched_of x) c.args.slots.now) c.args.out.now) (sym c.in-Ok.is)

pub returns-in-Err : goal.returns-in-Err
unfolding matched_of
returns-in-Err c =
    let lent = c.args in
    (rw c.number.ensures at c.print_refusal.ensures) ∙ ap (λ x. written x lent.out.now) (refusal_listed _ lent.slots.now)
    ∙ ap (λ x. written (listing_text (matched_of x) lent.slots.now) lent.out.now) (sym c.in-Err.is)
