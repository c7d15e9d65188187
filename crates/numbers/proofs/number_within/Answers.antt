-- The tables are lent empty.
use Rattle.std.proofs.Common.{◌+◌, ◌/◌, arith}
use Rattle.term_spec.specs.Term.{limit}
use Rattle.numbers.specs.Digest.{stride}
use Rattle.numbers.specs.DigestLaws.{marked_none}
use Rattle.numbers.proofs.TablesLaws.{tables_none}
use Rattle.numbers.proofs.number_within.Goals as goal

pub number_with-requires-clause-marks : goal.number_with-requires-clause-marks
number_with-requires-clause-marks c = (omega arith, marked_none _ (limit / stride + 1) (omega arith))

pub number_with-requires-clause-tables : goal.number_with-requires-clause-tables
number_with-requires-clause-tables c =
    let store = c.args.store.now in
    rw (c.new-chains.ensures.0, c.new-chains.ensures.1) (tables_none _ _ _ _ _ store.good store.few c.requires.0)
