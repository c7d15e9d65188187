-- The table is lent empty.
use Rattle.term_spec.specs.Term.{limit}
use Rattle.term_spec.proofs.ListLaws.{zeros-at}
use Rattle.places.proofs.read_places.Goals as goal

pub read_with-requires-clause-empty : goal.read_with-requires-clause-empty
read_with-requires-clause-empty c i = zeros-at limit i
