-- After i terms `deep` is the deepest of the i terms from s on.
use Rattle.std.proofs.Common.{◌-◌, ◌≡◌, ◌≤◌}
use Rattle.term_spec.specs.Term.{deepest}
use Rattle.value.specs.Check.{run_of}
use Rattle.value.proofs.deepest.Given as goal

abbrev pub invariant-loop-i : goal.invariant-loop-i
invariant-loop-i l = (l.i ≤ l.n) × (l.deep ≡ deepest (run_of l.terms l.s l.i))

abbrev pub decreases-loop-i : goal.decreases-loop-i
decreases-loop-i l = l.n - l.i
