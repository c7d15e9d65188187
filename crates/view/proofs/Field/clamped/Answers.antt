-- A field with the smaller length is what `take_field` gives.
use Rattle.std.proofs.Common.{ap, ◌∙◌}
use Rattle.view_spec.specs.Build.{take_field}
use Rattle.view.specs.Check.{as_field}
use Rattle.view.proofs.Field.clamped.Goals as goal

pub returns : goal.returns
unfolding take_field
returns c = c.new.ensures ∙ ap (take_field (as_field c.args.self)) c.min.ensures
