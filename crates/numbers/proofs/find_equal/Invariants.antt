-- The place looked at is one of those that may be equal, further along the chain at each turn; and no place passed cost more than the limit.
use Rattle.std.proofs.Common.{ℕ, ◌+◌, ◌*◌, ◌≤◌, get_or}
use Rattle.term_spec.specs.Term.{limit}
use Rattle.numbers.specs.Buckets.{entry}
use Rattle.numbers.specs.Stores.{Sought}
use Rattle.numbers.proofs.find_equal.Given as goal

abbrev pub invariant-loop-at : goal.invariant-loop-at
invariant-loop-at l = record {
  sought : (base : ℕ) × Sought base l.store l.numbers l.chains l.k (entry l.at);
  paid : l.cost + entry l.at * limit ≤ get_or l.chains.heads l.b 0 * limit;
}

abbrev pub decreases-loop-at : goal.decreases-loop-at
decreases-loop-at l = entry l.at
