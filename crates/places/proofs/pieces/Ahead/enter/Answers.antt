-- By whether the piece lies in the left.
use Rattle.places.specs.RestLaws.{entered_within, entered_split}
use Rattle.places.proofs.pieces.Ahead.enter.Goals as goal

pub returns-then-at-here : goal.returns-then-at-here
returns-then-at-here g c = entered_within _ _ c.if-at-here.true

pub returns : goal.returns
returns g c = entered_split _ _ c.if-at-here.false c.push.ensures
