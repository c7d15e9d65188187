-- What a call on sheets tells of its answer: 01's number, and each out parameter after it, given the value that it had before.
use Rattle.std.specs.Prelude.{Result, List, ℕ}
use Rattle.sheet_spec.specs.Sheet.{spec_names_start}
use Rattle.sheet_spec.specs.Job.{SheetAnswer, refused_sheet, wrote, counted, AfterSheet}
use Rattle.outputs.specs.Numbers.{told_by}

-- The answer of a call that writes a text, of any refusals, by the numbers that they are told by.
abbrev pub written_by : {E : Type 0} → (E → ℕ) → Result ℕ E → SheetAnswer
written_by number w = told_by wrote refused_sheet number w

-- The bytes written.
unfoldable pub written_out : SheetAnswer → ℕ → ℕ × ℕ
written_out (refused_sheet n) old = (n, old)
written_out (wrote n) old = (0, n)
written_out (counted c) old = (0, old)

-- The out parameters of reading a sheet: terms, where its name bytes start, name bytes, pattern records, runs.
pub record ReadOuts : Type 0 where
  pub terms : ℕ
  pub start : ℕ
  pub names : ℕ
  pub pattern : ℕ
  pub runs : ℕ

-- Those of five numbers.
abbrev pub read_outs : ℕ → ℕ → ℕ → ℕ → ℕ → ReadOuts
read_outs t s m p r = record { terms = t; start = s; names = m; pattern = p; runs = r }

-- The counts of the sheet read, and where its name bytes start.
unfoldable pub counts_out : SheetAnswer → ReadOuts → ℕ × ReadOuts
counts_out (refused_sheet n) old = (n, old)
counts_out (wrote n) old = (0, old)
counts_out (counted c) old = (0, read_outs c.terms (spec_names_start c) c.names c.pattern c.runs)

-- After writing: what was lent too.
unfoldable pub after_write : SheetAnswer × List ℕ → ℕ → (ℕ × ℕ) × List ℕ
after_write x old = (written_out x.0 old, x.1)

-- After reading: the words of terms, pattern and runs too.
unfoldable pub after_read : AfterSheet → ReadOuts → (ℕ × ReadOuts) × List ℕ × List ℕ × List ℕ
after_read x old = (counts_out x.answer old, x.terms, x.pattern, x.runs)
