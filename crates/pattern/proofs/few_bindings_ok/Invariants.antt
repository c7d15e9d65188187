-- What is left of the bindings comes to the same as all of them.
use Rattle.pattern.specs.BindingLaws.{Naming}
use Rattle.pattern.proofs.few_bindings_ok.Given as goal

abbrev pub invariant-loop-i : goal.invariant-loop-i
invariant-loop-i l = Naming l.names l.bindings l.i
