-- The kinds of variables as rows of the specification's table.
use Rattle.std.specs.Prelude.{ℕ}
use Rattle.kinds.specs.declared.VariableKind.{VariableKind}
use Rattle.kinds.specs.declared.VariableKind.TheVariants.{Symbol, Term, Expression}

-- Each case has its row, and no two have the same one.
abbrev pub row_of : VariableKind → ℕ
row_of Symbol = 0
row_of Term = 1
row_of Expression = 2
