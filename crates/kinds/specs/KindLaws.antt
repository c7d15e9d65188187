-- The table on records is the table on values, and what the code's tests of a record come to.
use Rattle.std.specs.Prelude.{◌≡◌, refl, List, [], false, length, get_or, ℕ, suc, zero, ◌+◌, ◌<◌, ◌≤◌}
use Rattle.std.proofs.Common.{ap, sym, ◌∙◌, arith}
use Rattle.std.proofs.Math.ListN.{get_or-eq_default}
use Rattle.term_spec.specs.Term.{Term, unknown_kind, expression_unknown}
use Rattle.term_spec.specs.Value.{Value, value_k, value_of, bracketed, takes_table, unknown_column, column, takes_row}
use Rattle.kinds.specs.declared.VariableKind.{VariableKind}
use Rattle.kinds.specs.declared.VariableKind.TheVariants.{Symbol, Term as TermVariable, Expression}
use Rattle.kinds.specs.Variables.{row_of}
use Rattle.kinds.specs.Kinds.{rows, columns, takes_at, column_k, spec_column_of, takes_term}

-- A term's column is its value's, whatever is below it.
column_value : (k : ℕ) (text : List ℕ) (t : Term) (below : List Value) → column_k k t.a ≡ column (value_k k text t below)
unfolding column_k value_k column bracketed
column_value zero text t below = refl
column_value (suc zero) text t below = refl
column_value (suc (suc zero)) text t below = refl
column_value (suc (suc (suc zero))) text t below = refl
column_value (suc (suc (suc (suc k)))) text t below = refl

pub takes_value : (row : ℕ) (names : List ℕ) (t : Term) (below : List Value) → takes_term row t ≡ takes_row row (value_of names t below)
unfolding takes_term takes_at takes_row spec_column_of value_of
takes_value row names t below = ap (λ z. get_or (get_or takes_table row []) z false) (column_value t.kind _ t below)

-- Kinds before the unknowns' are their own column.
pub column_low : (k a : ℕ) → k < unknown_kind → k ≡ column_k k a
unfolding column_k
column_low zero a h = refl
column_low (suc zero) a h = refl
column_low (suc (suc zero)) a h = refl
column_low (suc (suc (suc zero))) a h = refl
column_low (suc (suc (suc (suc k)))) a h = absurd (omega arith)

unknown_none : (a : ℕ) → expression_unknown < a → columns ≡ unknown_column a
unfolding unknown_column
unknown_none zero h = absurd (omega arith)
unknown_none (suc zero) h = absurd (omega arith)
unknown_none (suc (suc zero)) h = absurd (omega arith)
unknown_none (suc (suc (suc a))) h = refl

unknown_some : (a : ℕ) → a ≤ expression_unknown → unknown_kind + a ≡ unknown_column a
unfolding unknown_column
unknown_some zero h = refl
unknown_some (suc zero) h = refl
unknown_some (suc (suc zero)) h = refl
unknown_some (suc (suc (suc a))) h = absurd (omega arith)

column_high : (k a : ℕ) → unknown_kind ≤ k → unknown_column a ≡ column_k k a
unfolding column_k
column_high zero a h = absurd (omega arith)
column_high (suc zero) a h = absurd (omega arith)
column_high (suc (suc zero)) a h = absurd (omega arith)
column_high (suc (suc (suc zero))) a h = absurd (omega arith)
column_high (suc (suc (suc (suc k)))) a h = refl

-- Unknowns: their columns by what they stand for, one past the table for none.
pub column_none : (k a : ℕ) → unknown_kind ≤ k → expression_unknown < a → columns ≡ column_k k a
column_none k a h q = unknown_none a q ∙ column_high k a h

pub column_some : (k a : ℕ) → unknown_kind ≤ k → a ≤ expression_unknown → unknown_kind + a ≡ column_k k a
column_some k a h q = unknown_some a q ∙ column_high k a h

-- Past the table's columns nothing is taken.
row-length : (row : ℕ) → row < rows → length (get_or takes_table row []) ≡ columns
unfolding takes_table
row-length zero h = refl
row-length (suc zero) h = refl
row-length (suc (suc zero)) h = refl
row-length (suc (suc (suc row))) h = absurd (omega arith)

pub takes_none : (row k : ℕ) → row < rows → columns ≤ k → false ≡ takes_at row k
unfolding takes_at
takes_none row k h q = sym (get_or-eq_default (get_or takes_table row []) false (omega (arith, row-length row h)))

-- A variable's row is one of the table's.
pub row_low : (v : VariableKind) → row_of v < rows
row_low Symbol = omega arith
row_low TermVariable = omega arith
row_low Expression = omega arith
