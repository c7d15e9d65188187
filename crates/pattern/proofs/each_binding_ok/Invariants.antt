-- Every binding that is passed is right.
use Rattle.pattern.specs.Apart.{EachRight}
use Rattle.pattern.proofs.each_binding_ok.Given as goal

abbrev pub invariant-loop-i : goal.invariant-loop-i
invariant-loop-i l = EachRight l.names l.bindings l.i
