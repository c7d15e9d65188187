-- What writing answers, and the sheet that is written, as the specification has them.
use Rattle.std.specs.Prelude.{◌≡◌, Result, List, length, ℕ, ◌*◌, ◌≤◌}
use Rattle.term_spec.specs.Words.{count}
use Rattle.term_spec.specs.Term.{term_layout, run_layout}
use Rattle.match_spec.specs.Pattern.{item_layout}
use Rattle.sheet_spec.specs.Sheet.{term_columns, item_columns, run_columns, Sheet, Counts, sheet_end}
use Rattle.sheet_spec.specs.Job.{SheetAnswer, refused_sheet, wrote}
use Rattle.words.specs.declared.refusal.Refusal.{Refusal}
use Rattle.words.specs.Refusals.{told}
use Rattle.sheet_write.specs.declared.Sheet.{Sheet as CodeSheet}

-- 01's number, or the bytes written, for each case.
unfoldable pub written_of : Result ℕ Refusal → SheetAnswer
written_of r = told wrote refused_sheet r

-- What a sheet holds.
abbrev pub sheet_of : List ℕ → List ℕ → List ℕ → List ℕ → Sheet
sheet_of t n p r = record { terms = t; names = n; pattern = p; runs = r }

-- The code's sheet.
abbrev pub as_sheet : CodeSheet → Sheet
as_sheet s = sheet_of s.terms.now s.names.now s.pattern.now s.runs.now

-- The counts of what is to be written.
abbrev pub counts_in : Sheet → Counts
counts_in s = record { terms = count term_layout s.terms; names = length s.names; pattern = count item_layout s.pattern; runs = count run_layout s.runs }

-- A slice that the text fits, and slices of whole records with these counts.
pub record Fitting (s : Sheet) (c : Counts) (out : List ℕ) : Type 0 where
  pub end : sheet_end c ≤ length out
  pub terms : term_columns * c.terms ≤ length s.terms
  pub names : length s.names ≡ c.names
  pub pattern : item_columns * c.pattern ≤ length s.pattern
  pub runs : run_columns * c.runs ≤ length s.runs
