-- The forms of lines and the counts of the code, as the specification has them.
use Rattle.std.specs.Prelude.{List, Bool, replicate, ℕ, ◌+◌, ◌≤◌}
use Rattle.sheet_spec.specs.Sheet.{count_columns, line_width, Counts as SpecCounts, limits}
use Rattle.sheet_form.specs.declared.LineForm.{LineForm}
use Rattle.sheet_form.specs.declared.Counts.{Counts}

-- The bytes of a line of four numbers.
abbrev pub line_bytes : ℕ
line_bytes = line_width count_columns 0

-- The most numbers of a line, so that its bytes are a small number.
abbrev pub most_columns : ℕ
most_columns = 10

-- A line of so many.
abbrev pub Short : LineForm → Type 0
Short f = f.kept + f.zeros ≤ most_columns

-- The code's counts.
abbrev pub as_counts : Counts → SpecCounts
as_counts c = record { terms = c.terms; names = c.names; pattern = c.pattern; runs = c.runs }

-- Counts within the sheet's limits.
abbrev pub in_limits : SpecCounts → Bool
in_limits c = limits c.terms c.names c.pattern c.runs

-- So many zeros.
abbrev pub zeros : ℕ → List ℕ
zeros n = replicate n 0
