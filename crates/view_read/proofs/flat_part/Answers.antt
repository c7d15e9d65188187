-- A refusal shows nothing.
use Rattle.std.proofs.Common.{ap, sym, ◌∙◌}
use Rattle.view_read.specs.Read.{flat_by, flat_words}
use Rattle.view_read.specs.FlatLaws.{refused_none}
use Rattle.view_read.proofs.flat_part.Goals as goal

pub returns-in-Ok : goal.returns-in-Ok
unfolding flat_by
returns-in-Ok g c number = c.found_part.ensures ∙ ap (λ a. flat_words a c.args.terms.now c.args.work.now) (sym (ap (flat_by number) c.in-Ok.is))

pub returns-in-Err : goal.returns-in-Err
unfolding flat_by
returns-in-Err g c number = refused_none _ _ _ (ap (flat_by number) c.in-Err.is)
