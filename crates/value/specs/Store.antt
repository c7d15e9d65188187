-- A store of the code, as the definitions take it.
use Rattle.std.specs.Prelude.{List, Bool, ℕ, ◌+◌, ◌≤◌}
use Rattle.term_spec.specs.Term.{Run}
use Rattle.term_spec.specs.Value.{Value}
use Rattle.value.specs.Equal.{equal_at, spec_equal_runs, values_in}
use Rattle.value.specs.declared.store.Store.{Store}

-- The values of its used terms.
abbrev pub values_of : Store → List Value
values_of s = values_in s.names.now s.terms.now s.used

-- Whether terms i and j of a store are equal, and whether two of its runs are.
abbrev pub terms_equal : Store → ℕ → ℕ → Bool
terms_equal s i j = equal_at s.names.now s.terms.now s.used i j

abbrev pub runs_equal : Store → Run → Run → Bool
runs_equal s r q = spec_equal_runs s.names.now s.terms.now s.used r.start r.len q.start q.len

-- A run that ends within the used terms.
abbrev pub Within : Store → Run → Type 0
Within s r = r.start + r.len ≤ s.used
