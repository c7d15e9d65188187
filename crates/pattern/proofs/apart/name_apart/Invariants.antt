-- Binding k's name is looked for along its chain, at the place looked at, which falls, and so does what can be looked at in vain.
use Rattle.std.proofs.Common.{ℕ, ◌+◌, ◌≤◌}
use Rattle.term_spec.specs.Term.{limit}
use Rattle.numbers.specs.Buckets.{entry}
use Rattle.pattern.specs.ApartLaws.{NameSought}
use Rattle.pattern.proofs.apart.name_apart.Given as goal

abbrev pub invariant-loop-at : goal.invariant-loop-at
invariant-loop-at l = record {
  sought : (base : ℕ) × NameSought base l.names l.bindings l.k l.chains.heads l.chains.earlier (entry l.at);
  paid : l.cost + entry l.at ≤ limit;
}

abbrev pub decreases-loop-at : goal.decreases-loop-at
decreases-loop-at l = entry l.at
