-- i and the place among the names from i on are the place among all.
use Rattle.std.proofs.Common.{◌≡◌, ◌+◌, drop}
use Rattle.term_spec.specs.Words.{decode}
use Rattle.match_spec.specs.Pattern.{binding_layout, find, binding_names}
use Rattle.pattern.specs.Records.{as_name}
use Rattle.pattern.proofs.find_binding.Given as goal

abbrev pub invariant-loop-i : goal.invariant-loop-i
invariant-loop-i l =
    l.i + find (as_name l.names l.x) (drop l.i (binding_names l.names (decode binding_layout l.count l.bindings)))
    ≡ find (as_name l.names l.x) (binding_names l.names (decode binding_layout l.count l.bindings))
