-- The tables are lent empty.
use Rattle.pattern.specs.ApartLaws.{tables_none}
use Rattle.pattern.proofs.apart.first_apart.Goals as goal

pub first_apart_with-requires : goal.first_apart_with-requires
first_apart_with-requires c = (c.requires.0, rw (c.new-chains.ensures.0, c.new-chains.ensures.1) (tables_none _ _ _ c.requires.1))
