-- Which variable takes which kind of term, on records.
use Rattle.std.specs.Prelude.{◌≡◌, [], Bool, false, get_or, ℕ, suc, zero, ◌<◌, Option, Some, None}
use Rattle.term_spec.specs.Term.{Term}
use Rattle.term_spec.specs.Value.{takes_table, unknown_column}

-- The size of the specification's table.
abbrev pub rows : ℕ
rows = 3

abbrev pub columns : ℕ
columns = 7

-- Its entry.
unfoldable pub takes_at : ℕ → ℕ → Bool
takes_at row column = get_or (get_or takes_table row []) column false

-- The column of a term by its record.
unfoldable pub column_k : ℕ → ℕ → ℕ
column_k zero a = 0
column_k (suc zero) a = 1
column_k (suc (suc zero)) a = 2
column_k (suc (suc (suc zero))) a = 3
column_k (suc (suc (suc (suc k)))) a = unknown_column a

unfoldable pub spec_column_of : Term → ℕ
spec_column_of t = column_k t.kind t.a

-- That is a column of the table, or there is none.
abbrev pub ColumnIs : Option ℕ → Term → Type 0
ColumnIs None t = columns ≡ spec_column_of t
ColumnIs (Some k) t = (k < columns) × (k ≡ spec_column_of t)

-- Whether a variable of row s, t or e takes the term; KindLaws says that this is so of the term's value.
unfoldable pub takes_term : ℕ → Term → Bool
takes_term row t = takes_at row (spec_column_of t)
