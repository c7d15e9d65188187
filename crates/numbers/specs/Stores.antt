-- The definitions of numbering over a store of the code.
use Rattle.std.specs.Prelude.{List, ℕ}
use Rattle.value.specs.declared.store.Store.{Store}
use Rattle.numbers.specs.Numbers.{Numbers, Tables, Searched, Placed}
use Rattle.numbers.specs.declared.Chains.{Chains}

-- Of the first k terms, equal ones have one number and others different ones.
abbrev pub Numbered : Store → ℕ → List ℕ → Type 0
Numbered s k numbers = Numbers s.names.now s.terms.now s.used k numbers

-- The numbers of the first k terms, and the chains of those that are entered.
abbrev pub TablesOf : ℕ → Store → ℕ → List ℕ → Chains → Type 0
TablesOf base s k numbers chains = Tables base s.names.now s.terms.now s.used k numbers chains.heads chains.earlier

-- Looking for a term equal to term k along a chain, from place `from` less one on.
abbrev pub Sought : ℕ → Store → List ℕ → Chains → ℕ → ℕ → Type 0
Sought base s numbers chains k from = Searched base s.names.now s.terms.now s.used numbers chains.heads chains.earlier k from

-- What was found.
abbrev pub PlacedIn : Store → List ℕ → ℕ → ℕ → Type 0
PlacedIn s numbers k found = Placed s.names.now s.terms.now s.used numbers k found
