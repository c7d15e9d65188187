-- i and the place among the names from i on are the place among all.
use Rattle.std.proofs.Common.{◌≡◌, ◌+◌, drop}
use Rattle.match_spec.specs.Pattern.{find}
use Rattle.items.specs.Records.{as_item}
use Rattle.pattern.specs.Records.{item_name, first_names}
use Rattle.pattern.proofs.find_first.Given as goal

abbrev pub invariant-loop-i : goal.invariant-loop-i
invariant-loop-i l =
    l.i + find (item_name l.names (as_item l.t)) (drop l.i (first_names l.names l.pattern l.firsts))
    ≡ find (item_name l.names (as_item l.t)) (first_names l.names l.pattern l.firsts)
