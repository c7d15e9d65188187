-- The runs of the first i bindings are copied.
use Rattle.listing.specs.StartLaws.{Copied}
use Rattle.listing.proofs.walks.start.Given as goal

abbrev pub invariant-loop-i : goal.invariant-loop-i
invariant-loop-i l = Copied l.bindings l.binds l.i
