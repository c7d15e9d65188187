-- Two runs of a store of the code are two of its terms' runs.
use Rattle.term_spec.specs.Term.{Run}
use Rattle.value.specs.declared.store.Store.{Store}
use Rattle.value.specs.Store.{Within}
use Rattle.equality.specs.Within.{RunsIn}

pub runs_in : (s : Store) (r q : Run) → Within s r → Within s q → RunsIn s.names.now s.terms.now r q s.used
runs_in s r q first second = record { store = s.good; few = s.few; first = first; second = second }
