-- The nodes below `at`, wrapped in the records from there on, are the whole (Up); each turn makes the next of them.
use Rattle.nodes.specs.Complete.{completed, last_made}
use Rattle.nodes.specs.CompleteLaws.{Up}
use Rattle.nodes.proofs.complete.Given as goal

abbrev pub invariant-loop-at : goal.invariant-loop-at
invariant-loop-at l =
    let w = l.fn.nodes in
    Up w l.end (last_made l.from l.end l.before) (completed w l.from l.end l.before) l.nodes l.at l.last
