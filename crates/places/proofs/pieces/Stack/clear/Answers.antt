use Rattle.places.specs.RestLaws.{none_wait}
use Rattle.places.proofs.pieces.Stack.clear.Goals as goal

pub returns : goal.returns
returns g c = none_wait _
