-- What comparing keeps, over a store of the code.
use Rattle.std.specs.Prelude.{List, ℕ}
use Rattle.value.specs.declared.store.Store.{Store}
use Rattle.equality.specs.Memory.{Memory}

-- Words that are the terms' numbers where they say so.
abbrev pub Remembers : Store → List ℕ → Type 0
Remembers s known = Memory s.names.now s.terms.now s.used known
