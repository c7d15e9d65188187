-- At the terms passed the run cannot begin.
use Rattle.std.proofs.Common.{ℕ, ◌≤◌, ◌<◌}
use Rattle.term_spec.specs.Words.{record_at}
use Rattle.term_spec.specs.Term.{term_layout}
use Rattle.items.specs.Records.{as_item}
use Rattle.rigid.specs.Fit.{Apart}
use Rattle.rigid.proofs.next_begin.Given as goal

abbrev pub invariant-loop-i : goal.invariant-loop-i
invariant-loop-i l = (h : ℕ) → l.from ≤ h → h < l.i → Apart (as_item l.t) (record_at term_layout l.terms h)
