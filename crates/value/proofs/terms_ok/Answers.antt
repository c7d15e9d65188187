-- Tables of 0s have no terms.
use Rattle.value.specs.BlockLaws.{tables_none}
use Rattle.value.proofs.terms_ok.Goals as goal

pub all_ok-requires-clause-tables : goal.all_ok-requires-clause-tables
all_ok-requires-clause-tables c = tables_none _ 32 1

pub all_ok-requires-2-clause-tables : goal.all_ok-requires-2-clause-tables
all_ok-requires-2-clause-tables c = tables_none _ 2048 64
