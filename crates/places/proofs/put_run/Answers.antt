use Rattle.std.proofs.Common.{◌∙◌}
use Rattle.places.specs.PlacesLaws.{up_next}
use Rattle.places.proofs.put_run.Goals as goal

pub loop-i-preserved : goal.loop-i-preserved
loop-i-preserved c = c.set_word.ensures ∙ up_next _ _ _ _ _ c.loop-i.invariant
