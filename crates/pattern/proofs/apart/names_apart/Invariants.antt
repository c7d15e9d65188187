-- No binding has the name of one before it that is among those of the passes made.
use Rattle.std.proofs.Common.{◌*◌}
use Rattle.term_spec.specs.Term.{limit}
use Rattle.pattern.specs.Apart.{Apart}
use Rattle.pattern.proofs.apart.names_apart.Given as goal

abbrev pub invariant-loop-pass : goal.invariant-loop-pass
invariant-loop-pass l = Apart l.names l.bindings (l.pass * limit) l.n
