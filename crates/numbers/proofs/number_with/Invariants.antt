-- The terms that are passed have their numbers, and none cost more than the limit's square.
use Rattle.std.proofs.Common.{◌*◌, ◌≤◌}
use Rattle.term_spec.specs.Term.{limit}
use Rattle.numbers.specs.NumberingLaws.{Numbering}
use Rattle.numbers.proofs.number_with.Given as goal

abbrev pub invariant-loop-k : goal.invariant-loop-k
invariant-loop-k l = record {
  numbered : Numbering l.way.base l.store.names.now l.store.terms.now l.store.used l.fn.numbers l.fn.marks l.numbers l.marks l.chains.heads l.chains.earlier l.sum l.k;
  paid : l.cost ≤ l.k * (limit * limit);
}
