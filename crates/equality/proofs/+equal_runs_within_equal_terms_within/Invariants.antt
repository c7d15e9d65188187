-- Bracket depth falls, by two for each bracket entered. The loop's invariant says that the runs without their first k terms are equal exactly if the
-- runs are, and what is left of the budget.
use Rattle.std.proofs.Common.{◌≡◌, ℕ, ◌+◌, ◌-◌, ◌*◌, ◌≤◌}
use Rattle.value.specs.EqualLaws.{depth_at, deepest_in, runs_from}
use Rattle.words.specs.Records.{as_run}
use Rattle.equality.specs.Within.{RunsIn, same_runs}
use Rattle.equality.proofs.+equal_runs_within_equal_terms_within.Given as goal

abbrev pub decreases-equal_runs_within : goal.decreases-equal_runs_within
decreases-equal_runs_within l = 2 * deepest_in l.terms.now l.first.start l.first.len + 1

abbrev pub decreases-equal_terms_within : goal.decreases-equal_terms_within
decreases-equal_terms_within l = 2 * depth_at l.terms.now l.i

abbrev pub invariant-equal_runs_within-loop-k : goal.invariant-equal_runs_within-loop-k
invariant-equal_runs_within-loop-k l = record {
  left : l.left ≤ l.budget - l.first.len;
  same : (used : ℕ) → RunsIn l.names l.terms (as_run l.first) (as_run l.second) used
      → same_runs l.names l.terms used (as_run l.first) (as_run l.second) ≡ runs_from l.names l.terms used l.first.start l.first.len l.second.start l.k;
}
