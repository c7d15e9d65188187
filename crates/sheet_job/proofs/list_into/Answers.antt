-- `list_into`: what the listing leaves is what is printed.
use mathlib.Core.Path.{ap, ◌∙◌}
use Rattle.sheet_spec.specs.Job.{written}
use Rattle.sheet_job.specs.JobLaws.{listing-left}
use Rattle.sheet_job.proofs.list_into.Goals as goal

pub print_listing-requires : goal.print_listing-requires
print_listing-requires c =
    (listing-left _ _ _ _ _ c.match_pattern_with_bindings_candidates-m.ensures c.requires).fits

pub returns : goal.returns
returns c =
    let shown = listing-left _ _ _ _ _ c.match_pattern_with_bindings_candidates-m.ensures c.requires in
    c.print_listing.ensures ∙ ap (λ x. written x c.args.out.now) shown.text
