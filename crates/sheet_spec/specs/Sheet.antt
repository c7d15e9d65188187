-- The sheet's text form (01, "The sheet"): what a line and a sheet look like, and reading them. Texts are lists of bytes.
use Rattle.std.specs.Prelude.{List, [], ◌∷◌, ◌++◌, Bool, true, false, ◌&&◌, leb, ltb, eqb, length, take}
use Rattle.std.specs.Prelude.{drop, get_or, replicate, ℕ, suc, zero, ◌+◌, ◌-◌, ◌*◌, ◌/◌, ◌%◌, min}
use Rattle.std.proofs.Math.Option.{Option, some, none}
use Rattle.term_spec.specs.Text.{spec_is_digit}
use Rattle.term_spec.specs.Words.{count, whole}
use Rattle.term_spec.specs.Term.{term_layout, run_layout, run_list_limit}
use Rattle.match_spec.specs.Pattern.{item_layout, pattern_limit}

-- ---- the lines, and where they stand in the text ----

-- "each right-justified in ten columns"
abbrev pub column_width : ℕ
column_width = 10

-- The numbers of the first line: its counts.
abbrev pub count_columns : ℕ
count_columns = 4

-- "Term lines of the sheet have five columns of numbers, the other lines four" (02: 2.7): a line shows its record's words. The numbers of a term line.
abbrev pub term_columns : ℕ
term_columns = term_layout.width

-- The numbers of a pattern line.
abbrev pub item_columns : ℕ
item_columns = item_layout.width

-- The numbers of a run line, ..
abbrev pub run_columns : ℕ
run_columns = run_layout.width

-- .. and the zeros after them.
abbrev pub run_zeros : ℕ
run_zeros = 2

-- The bytes of a line: its columns and its newline.
abbrev pub line_width : ℕ → ℕ → ℕ
line_width kept fill = column_width * (kept + fill) + 1

-- The counts that the first line shows.
pub record Counts : Type 0 where
  pub terms : ℕ
  pub names : ℕ
  pub pattern : ℕ
  pub runs : ℕ

-- Where the term lines start.
abbrev pub terms_start : ℕ
terms_start = line_width count_columns 0

-- Where the name bytes start.
abbrev pub spec_names_start : Counts → ℕ
spec_names_start c = terms_start + line_width term_columns 0 * c.terms

-- Where the pattern lines start.
abbrev pub spec_pattern_start : Counts → ℕ
spec_pattern_start c = spec_names_start c + c.names + 1

-- Where the run lines start.
abbrev pub spec_runs_start : Counts → ℕ
spec_runs_start c = spec_pattern_start c + line_width item_columns 0 * c.pattern

-- The bytes of the whole.
abbrev pub sheet_end : Counts → ℕ
sheet_end c = spec_runs_start c + line_width run_columns run_zeros * c.runs

-- ---- writing ----

-- The w columns before the last digit: the digits of v, and spaces where no digit is left.
unfoldable pub leading : ℕ → ℕ → List ℕ
leading zero v = []
leading (suc w) v = leading w (v / 10) ++ elim (eqb v 0) [ true ↦ 32 | false ↦ 48 + v % 10 ] ∷ []

-- "without leading zeros, each right-justified in ten columns with spaces"
unfoldable pub column : ℕ → List ℕ
column v = leading 9 (v / 10) ++ (48 + v % 10) ∷ []

-- The columns of some numbers.
unfoldable pub columns : List ℕ → List ℕ
columns [] = []
columns (v ∷ l) = column v ++ columns l

-- "A line is four decimal numbers .., then a newline", and five of a term (02: 2.7). How many numbers is said by its users.
unfoldable pub line : List ℕ → List ℕ
line l = columns l ++ 10 ∷ []

-- The lines of n records: `kept` words of each, then so many zeros.
unfoldable pub lines : ℕ → ℕ → ℕ → List ℕ → List ℕ
lines kept fill zero w = []
lines kept fill (suc n) w = line (take kept w ++ replicate fill 0) ++ lines kept fill n (drop kept w)

-- What a sheet holds: words of terms, name bytes, words of pattern records, words of runs.
pub record Sheet : Type 0 where
  pub terms : List ℕ
  pub names : List ℕ
  pub pattern : List ℕ
  pub runs : List ℕ

-- "terms (to 512), name bytes (to 4,096)"; pattern records and runs have the limits of a call.
abbrev pub sheet_terms : ℕ
sheet_terms = 512

-- The most name bytes.
abbrev pub sheet_names : ℕ
sheet_names = 4096

-- "First line: terms (to 512), name bytes (to 4,096), pattern records (to 256), runs (to 64)."
unfoldable pub limits : ℕ → ℕ → ℕ → ℕ → Bool
limits t n p r = leb t sheet_terms && leb n sheet_names && leb p pattern_limit && leb r run_list_limit

-- The sheet's text: "Then the term lines, the name bytes and a newline, the pattern lines, and the run lines (start, length, 0, 0)."
unfoldable pub sheet_text : Sheet → List ℕ
sheet_text s =
    line (count term_layout s.terms ∷ length s.names ∷ count item_layout s.pattern ∷ count run_layout s.runs ∷ [])
    ++ lines term_columns 0 (count term_layout s.terms) s.terms
    ++ s.names ++ 10 ∷ lines item_columns 0 (count item_layout s.pattern) s.pattern
    ++ lines run_columns run_zeros (count run_layout s.runs) s.runs

-- Whether a sheet can be written: whole records, counts within the limits.
unfoldable pub sheet_rule : Sheet → Bool
sheet_rule s =
    whole term_layout s.terms && whole item_layout s.pattern && whole run_layout s.runs
    && limits (count term_layout s.terms) (length s.names) (count item_layout s.pattern) (count run_layout s.runs)

-- "below 4,294,967,296"
abbrev pub beyond : ℕ
beyond = 4294967296

-- Every word is below it.
unfoldable pub words_below : List ℕ → Bool
words_below [] = true
words_below (x ∷ l) = ltb x beyond && words_below l

-- ---- reading ----

-- Columns read from the left: spaces only, a number so far, or not in form.
pub data Columns : Type 0 where
  blank : Columns
  shown : ℕ → Columns
  unfit : Columns

-- A digit more; nothing may follow a leading zero.
unfoldable pub digit : Columns → ℕ → Columns
digit blank d = shown d
digit (shown zero) d = unfit
digit (shown (suc v)) d = shown (10 * suc v + d)
digit unfit d = unfit

-- A space more; none may follow a digit.
unfoldable pub space : Columns → Columns
space blank = blank
space (shown v) = unfit
space unfit = unfit

-- One byte more.
unfoldable pub byte : Columns → ℕ → Columns
byte c b = elim (spec_is_digit b) [ true ↦ digit c (b - 48) | false ↦ elim (eqb b 32) [ true ↦ space c | false ↦ unfit ] ]

-- The first k columns from p on.
unfoldable pub scan : List ℕ → ℕ → ℕ → Columns
scan text p zero = blank
scan text p (suc k) = byte (scan text p k) (get_or text (p + k) 0)

-- The number that columns show; `beyond` if they show none below it.
unfoldable pub shown_number : Columns → ℕ
shown_number blank = beyond
shown_number (shown v) = min v beyond
shown_number unfit = beyond

-- The number in the ten columns at p; `beyond` if there is none in form.
unfoldable pub number_at : List ℕ → ℕ → ℕ
number_at text p = shown_number (scan text p column_width)

-- So many numbers in form from p on.
unfoldable pub numbers_ok : List ℕ → ℕ → ℕ → Bool
numbers_ok text p zero = true
numbers_ok text p (suc k) = ltb (number_at text p) beyond && numbers_ok text (p + column_width) k

-- So many zeros from p on.
unfoldable pub zeros_ok : List ℕ → ℕ → ℕ → Bool
zeros_ok text p zero = true
zeros_ok text p (suc k) = eqb (number_at text p) 0 && zeros_ok text (p + column_width) k

-- A line at p: its numbers, its zeros, its newline.
unfoldable pub spec_line_ok : List ℕ → ℕ → ℕ → ℕ → Bool
spec_line_ok text p kept fill =
    numbers_ok text p kept && zeros_ok text (p + column_width * kept) fill && eqb (get_or text (p + column_width * (kept + fill)) 0) 10

-- n such lines.
unfoldable pub spec_lines_ok : List ℕ → ℕ → ℕ → ℕ → ℕ → Bool
spec_lines_ok text p kept fill zero = true
spec_lines_ok text p kept fill (suc n) = spec_line_ok text p kept fill && spec_lines_ok text (p + line_width kept fill) kept fill n

-- So many numbers from p on.
unfoldable pub numbers_at : List ℕ → ℕ → ℕ → List ℕ
numbers_at text p zero = []
numbers_at text p (suc k) = number_at text p ∷ numbers_at text (p + column_width) k

-- The words that n lines show.
unfoldable pub words_at : List ℕ → ℕ → ℕ → ℕ → ℕ → List ℕ
words_at text p kept fill zero = []
words_at text p kept fill (suc n) = numbers_at text p kept ++ words_at text (p + line_width kept fill) kept fill n

-- The counts of a text's first line.
unfoldable pub counts_at : List ℕ → Counts
counts_at text = record {
  terms = number_at text 0;
  names = number_at text column_width;
  pattern = number_at text (2 * column_width);
  runs = number_at text (3 * column_width);
}

-- The first line is in form, its counts are within the limits, and the text ends where they say.
unfoldable pub head_rule : List ℕ → Counts → Bool
head_rule text c =
    leb terms_start (length text) && spec_line_ok text 0 count_columns 0 && limits c.terms c.names c.pattern c.runs && eqb (length text) (sheet_end c)

-- The lines after it are in form, and the name bytes have their newline.
unfoldable pub body_rule : List ℕ → Counts → Bool
body_rule text c =
    spec_lines_ok text terms_start term_columns 0 c.terms && eqb (get_or text (spec_names_start c + c.names) 0) 10
    && spec_lines_ok text (spec_pattern_start c) item_columns 0 c.pattern && spec_lines_ok text (spec_runs_start c) run_columns run_zeros c.runs

-- What the text holds, if it is in form.
unfoldable pub sheet_at : List ℕ → Counts → Sheet
sheet_at text c = record {
  terms = words_at text terms_start term_columns 0 c.terms;
  names = take c.names (drop (spec_names_start c) text);
  pattern = words_at text (spec_pattern_start c) item_columns 0 c.pattern;
  runs = words_at text (spec_runs_start c) run_columns run_zeros c.runs;
}

-- The sheet in a text. "Anything else, or bytes after it, is 16."
unfoldable pub spec_read_sheet : List ℕ → Option Sheet
spec_read_sheet text = elim (head_rule text (counts_at text) && body_rule text (counts_at text)) [ true ↦ some (sheet_at text (counts_at text)) | false ↦ none ]
