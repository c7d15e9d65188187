-- What reading a sheet answers, as the specification has it.
use Rattle.std.specs.Prelude.{◌≡◌, Option, Some, None, Result, List, Bool, true, false, ◌&&◌, T, leb, ltb, length, ℕ, suc, zero, ◌+◌, ◌*◌, ◌≤◌}
use Rattle.sheet_spec.specs.Sheet.{column_width, Columns as SpecColumns, blank, shown, unfit, beyond, number_at}
use Rattle.sheet_spec.specs.Sheet.{term_columns, item_columns, run_columns, Counts, head_rule, body_rule, Sheet}
use Rattle.sheet_spec.specs.Job.{SheetAnswer, refused_sheet, counted, AfterSheet, unread, laid}
use Rattle.sheet_form.specs.Form.{as_counts}
use Rattle.sheet_read.specs.declared.Columns.{Columns}
use Rattle.sheet_read.specs.declared.Columns.TheVariants.{Blank, Number, Unfit}
use Rattle.sheet_form.specs.declared.Counts.{Counts as CodeCounts}
use Rattle.words.specs.declared.refusal.Refusal.{Refusal}
use Rattle.words.specs.Refusals.{told}

-- Columns read so far, as the specification has them: whether they are in form, whether a digit was seen, the number.
unfoldable pub columns_by : Bool → Bool → ℕ → SpecColumns
columns_by true true v = shown v
columns_by true false v = blank
columns_by false seen v = unfit

-- The code's columns.
abbrev pub as_columns : Columns → SpecColumns
as_columns Blank = blank
as_columns (Number v) = shown v
as_columns Unfit = unfit

-- Whether they are in form, and whether a digit was seen.
abbrev pub fit_of : Columns → Bool
fit_of Blank = true
fit_of (Number v) = true
fit_of Unfit = false

abbrev pub seen_of : Columns → Bool
seen_of Blank = false
seen_of (Number v) = true
seen_of Unfit = false

-- The number so far, 0 where there is none.
abbrev pub value_of : Columns → ℕ
value_of Blank = 0
value_of (Number v) = v
value_of Unfit = 0

-- The number of a column, if it has one, as the specification has it.
abbrev pub number_of : Option ℕ → ℕ
number_of None = beyond
number_of (Some v) = v

-- So many numbers from p on are below a bound. In form are those below `beyond` (`numbers_ok`); those below 1 are zeros (`zeros_ok`).
unfoldable pub spec_numbers_below : List ℕ → ℕ → ℕ → ℕ → Bool
spec_numbers_below text bound p zero = true
spec_numbers_below text bound p (suc k) = ltb (number_at text p) bound && spec_numbers_below text bound (p + column_width) k

-- A text whose first line is not in form.
abbrev pub Headless : List ℕ → Type 0
Headless text = (c : Counts) → head_rule text c ≡ false

-- A text in form with these counts.
pub record InForm (text : List ℕ) (c : Counts) : Type 0 where
  pub head : T (head_rule text c)
  pub body : T (body_rule text c)

-- Slices that hold the words of a sheet with these counts.
pub record Holds (c : Counts) (t p r : List ℕ) : Type 0 where
  pub terms : term_columns * c.terms ≤ length t
  pub pattern : item_columns * c.pattern ≤ length p
  pub runs : run_columns * c.runs ≤ length r

-- Whether they do.
abbrev pub held : Counts → List ℕ → List ℕ → List ℕ → Bool
held c t p r = leb (term_columns * c.terms) (length t) && leb (item_columns * c.pattern) (length p) && leb (run_columns * c.runs) (length r)

-- Slices with the words of a sheet in their first words.
unfoldable pub filled : Sheet → List ℕ → List ℕ → List ℕ → List ℕ × List ℕ × List ℕ
filled s t p r = (laid s.terms t, laid s.pattern p, laid s.runs r)

-- 01's number, or the counts, for each case.
unfoldable pub read_of : Result CodeCounts Refusal → SheetAnswer
read_of r = told (λ c. counted (as_counts c)) refused_sheet r

-- What reading a sheet leaves.
unfoldable pub leaves_sheet : SheetAnswer → List ℕ → List ℕ → List ℕ → AfterSheet
leaves_sheet a t p r = record { answer = a; terms = t; pattern = p; runs = r }

-- The same where the text is a sheet, by whether the slices are long enough.
abbrev pub read_by : Counts → Sheet → List ℕ → List ℕ → List ℕ → Bool → AfterSheet
read_by c s t p r long =
    elim long [
      | true ↦ record { answer = counted c; terms = laid s.terms t; pattern = laid s.pattern p; runs = laid s.runs r }
      | false ↦ unread 14 t p r
    ]
