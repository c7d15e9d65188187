-- The turn of a record over a store of the code.
use Rattle.std.specs.Prelude.{Bool, ℕ}
use Rattle.term_spec.specs.Term.{Run}
use Rattle.match_spec.specs.Element.{Element}
use Rattle.value.specs.declared.store.Store.{Store}
use Rattle.steps.specs.Turn.{Turn}
use Rattle.steps.specs.State.{Place, turn_at}

-- The turn of the specification for an element at a place; `last` says whether its level ends after it.
abbrev pub turn_in : Store → Element ℕ → Bool → Place → Turn Run
turn_in s e last here = turn_at s.names.now s.terms.now s.used e last here
