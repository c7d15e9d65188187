-- The tables are those of the bindings passed, and none of these has the name of one before it that is entered. The cost stays within what is let, or
-- it is given up.
use Rattle.std.proofs.Common.{◌+◌, ◌*◌, ◌≤◌}
use Rattle.term_spec.specs.Term.{limit}
use Rattle.pattern.specs.Apart.{NameTables, Apart}
use Rattle.pattern.proofs.apart.first_apart_with.Given as goal

abbrev pub invariant-loop-k : goal.invariant-loop-k
invariant-loop-k l = record {
  tables : NameTables l.way.base l.names l.bindings l.k l.chains.heads l.chains.earlier;
  apart : Apart l.names l.bindings limit l.k;
  paid : l.cost ≤ 8 * limit + 16 * l.k;
}
