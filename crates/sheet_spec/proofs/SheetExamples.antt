-- Worked sheets, by computation: 01's example, and texts that are no sheet.
use Rattle.std.specs.Prelude.{◌≡◌, refl, List, [], ◌∷◌, ◌++◌, map, true, false, replicate, ℕ}
use Rattle.std.proofs.Math.Option.{some, none}
use Rattle.term_spec.specs.Text.{spec_is_digit}
use Rattle.term_spec.specs.Words.{count, whole}
use Rattle.sheet_spec.specs.Sheet.{leading, column, columns, line, lines, Sheet, limits, sheet_text, sheet_rule, digit, space, byte, scan, shown_number}
use Rattle.sheet_spec.specs.Sheet.{number_at, numbers_ok, zeros_ok, spec_line_ok, spec_lines_ok}
use Rattle.sheet_spec.specs.Sheet.{numbers_at, words_at, counts_at, head_rule, body_rule, sheet_at}
use Rattle.sheet_spec.specs.Sheet.{spec_read_sheet, sheet_end}

-- ---- 01's example, "the two term lines" of which "end in a fifth 0" (02: 2.7) ----

-- `e.1 '-' e.2` on `--`.
abbrev pub example : Sheet
example = record {
  terms = 0 ∷ 45 ∷ 0 ∷ 0 ∷ 0 ∷ 0 ∷ 45 ∷ 0 ∷ 0 ∷ 0 ∷ [];
  names = 49 ∷ 50 ∷ [];
  pattern = 7 ∷ 0 ∷ 1 ∷ 0 ∷ 0 ∷ 45 ∷ 0 ∷ 0 ∷ 7 ∷ 1 ∷ 1 ∷ 0 ∷ [];
  runs = 0 ∷ 2 ∷ [];
}

-- Ten columns with one digit.
abbrev pub one : ℕ → List ℕ
one a = 32 ∷ 32 ∷ 32 ∷ 32 ∷ 32 ∷ 32 ∷ 32 ∷ 32 ∷ 32 ∷ a ∷ []

-- Ten columns with two digits.
abbrev pub two : ℕ → ℕ → List ℕ
two a b = 32 ∷ 32 ∷ 32 ∷ 32 ∷ 32 ∷ 32 ∷ 32 ∷ 32 ∷ a ∷ b ∷ []

-- The end of a line.
abbrev pub newline : List ℕ
newline = 10 ∷ []

-- Its text, byte for byte.
abbrev pub example_text : List ℕ
example_text =
    (one 50 ++ one 50 ++ one 51 ++ one 49 ++ newline)
    ++ (one 48 ++ two 52 53 ++ one 48 ++ one 48 ++ one 48 ++ newline)
    ++ (one 48 ++ two 52 53 ++ one 48 ++ one 48 ++ one 48 ++ newline)
    ++ (49 ∷ 50 ∷ newline)
    ++ (one 55 ++ one 48 ++ one 49 ++ one 48 ++ newline)
    ++ (one 48 ++ two 52 53 ++ one 48 ++ one 48 ++ newline)
    ++ (one 55 ++ one 49 ++ one 49 ++ one 48 ++ newline)
    ++ (one 48 ++ one 50 ++ one 48 ++ one 48 ++ newline)

-- A line of four numbers, byte for byte.
pub example-line : line (0 ∷ 45 ∷ 120 ∷ 4294967295 ∷ [])
    ≡ 32 ∷ 32 ∷ 32 ∷ 32 ∷ 32 ∷ 32 ∷ 32 ∷ 32 ∷ 32 ∷ 48
    ∷ 32 ∷ 32 ∷ 32 ∷ 32 ∷ 32 ∷ 32 ∷ 32 ∷ 32 ∷ 52 ∷ 53
    ∷ 32 ∷ 32 ∷ 32 ∷ 32 ∷ 32 ∷ 32 ∷ 32 ∷ 49 ∷ 50 ∷ 48
    ∷ 52 ∷ 50 ∷ 57 ∷ 52 ∷ 57 ∷ 54 ∷ 55 ∷ 50 ∷ 57 ∷ 53 ∷ 10 ∷ []
unfolding line columns column leading
example-line = refl

-- 01's sheet is written as 01 shows it.
pub example_text_lem : sheet_text example ≡ example_text
unfolding line columns column leading lines count sheet_text
example_text_lem = refl

-- And is read back.
pub example_read : spec_read_sheet example_text ≡ some example
unfolding spec_is_digit limits digit space byte scan shown_number number_at numbers_ok zeros_ok spec_line_ok spec_lines_ok numbers_at words_at counts_at
    head_rule body_rule sheet_at spec_read_sheet
example_read = refl

-- Whole records and counts within the limits; half a run.
pub example-rule : map sheet_rule (example ∷ record { terms = []; names = []; pattern = []; runs = 0 ∷ 2 ∷ 0 ∷ [] } ∷ []) ≡ true ∷ false ∷ []
unfolding count whole limits sheet_rule
example-rule = refl

-- ---- in form or not ----

-- A sheet of one term: these bytes are its first number, and these stand after its last.
abbrev pub one_term : List ℕ → List ℕ → List ℕ
one_term number ends = (one 49 ++ one 48 ++ one 48 ++ one 48 ++ newline) ++ number ++ one 48 ++ one 48 ++ one 48 ++ one 48 ++ ends

-- The newline of the term's line, and that after no names.
abbrev pub two_ends : List ℕ
two_ends = 10 ∷ 10 ∷ []

-- A sheet of one run: these bytes are its third number.
abbrev pub one_run : List ℕ → List ℕ
one_run number = (one 48 ++ one 48 ++ one 48 ++ one 49 ++ newline) ++ newline ++ (one 48 ++ one 48 ++ number ++ one 48 ++ newline)

-- 4,294,967,295 and 4,294,967,296.
abbrev pub largest : List ℕ
largest = 52 ∷ 50 ∷ 57 ∷ 52 ∷ 57 ∷ 54 ∷ 55 ∷ 50 ∷ 57 ∷ 53 ∷ []

-- The first number that is too large.
abbrev pub too_large : List ℕ
too_large = 52 ∷ 50 ∷ 57 ∷ 52 ∷ 57 ∷ 54 ∷ 55 ∷ 50 ∷ 57 ∷ 54 ∷ []

-- A number one column too far to the left.
abbrev pub shifted : List ℕ
shifted = 32 ∷ 32 ∷ 32 ∷ 32 ∷ 32 ∷ 32 ∷ 32 ∷ 32 ∷ 53 ∷ 32 ∷ []

-- What a sheet of one term holds.
abbrev pub term_sheet : ℕ → Sheet
term_sheet v = record { terms = v ∷ 0 ∷ 0 ∷ 0 ∷ 0 ∷ []; names = []; pattern = []; runs = [] }

-- Each text below, but the last, differs from one of these in one place.
pub in_form : map spec_read_sheet (one_term (two 52 53) two_ends ∷ one_term largest two_ends ∷ one_run (one 48) ∷ [])
    ≡ some (term_sheet 45) ∷ some (term_sheet 4294967295) ∷ some (record { terms = []; names = []; pattern = []; runs = 0 ∷ 0 ∷ [] }) ∷ []
unfolding spec_is_digit limits digit space byte scan shown_number number_at numbers_ok zeros_ok spec_line_ok spec_lines_ok numbers_at words_at counts_at
    head_rule body_rule sheet_at spec_read_sheet
in_form = refl

-- No text; a byte after the sheet; a byte too few.
pub wrong_length : map spec_read_sheet ([] ∷ one_term (two 52 53) (two_ends ++ newline) ∷ one_term (two 52 53) newline ∷ []) ≡ none ∷ none ∷ none ∷ []
unfolding spec_is_digit limits digit space byte scan shown_number number_at numbers_ok zeros_ok spec_line_ok spec_lines_ok numbers_at words_at counts_at
    head_rule body_rule sheet_at spec_read_sheet
wrong_length = refl

-- Leading zeros; a number too large; a space after the digit; no digit; another byte.
pub wrong_number : map spec_read_sheet
    (one_term (two 48 53) two_ends ∷ one_term (two 48 48) two_ends ∷ one_term too_large two_ends ∷ one_term shifted two_ends
    ∷ one_term (one 32) two_ends ∷ one_term (one 97) two_ends ∷ [])
    ≡ none ∷ none ∷ none ∷ none ∷ none ∷ none ∷ []
unfolding spec_is_digit limits digit space byte scan shown_number number_at numbers_ok zeros_ok spec_line_ok spec_lines_ok numbers_at words_at counts_at
    head_rule body_rule sheet_at spec_read_sheet
wrong_number = refl

-- Another byte for the newline of a line; for that after the names; a run line whose third number is 1.
pub wrong_line : map spec_read_sheet (one_term (two 52 53) (32 ∷ 10 ∷ []) ∷ one_term (two 52 53) (10 ∷ 32 ∷ []) ∷ one_run (one 49) ∷ [])
    ≡ none ∷ none ∷ none ∷ []
unfolding spec_is_digit limits digit space byte scan shown_number number_at numbers_ok zeros_ok spec_line_ok spec_lines_ok numbers_at words_at counts_at
    head_rule body_rule sheet_at spec_read_sheet
wrong_line = refl

-- A term line of four numbers, and one with ten spaces after it, so that the text is as long as it should be; a pattern line of five numbers.
pub wrong_columns : map spec_read_sheet
    (((one 49 ++ one 48 ++ one 48 ++ one 48 ++ newline) ++ (one 48 ++ two 52 53 ++ one 48 ++ one 48 ++ newline) ++ newline)
    ∷ ((one 49 ++ one 48 ++ one 48 ++ one 48 ++ newline) ++ (one 48 ++ two 52 53 ++ one 48 ++ one 48 ++ newline) ++ one 32 ++ newline)
    ∷ ((one 48 ++ one 48 ++ one 49 ++ one 48 ++ newline) ++ newline ++ (one 48 ++ two 52 53 ++ one 48 ++ one 48 ++ one 48 ++ newline))
    ∷ [])
    ≡ none ∷ none ∷ none ∷ []
unfolding spec_is_digit limits digit space byte scan shown_number number_at numbers_ok zeros_ok spec_line_ok spec_lines_ok numbers_at words_at counts_at
    head_rule body_rule sheet_at spec_read_sheet
wrong_columns = refl

-- 513 terms: the first line is enough to refuse them.
pub too_many : spec_read_sheet (line (513 ∷ 0 ∷ 0 ∷ 0 ∷ []) ++ lines 5 0 513 (replicate 2565 0) ++ newline) ≡ none
unfolding line columns column leading lines spec_is_digit limits digit space byte scan shown_number number_at numbers_ok zeros_ok spec_line_ok counts_at
    head_rule spec_read_sheet
too_many = refl

-- The largest counts, and each of them with 1 more.
pub counts_limited : limits 512 4096 256 64 ∷ limits 513 4096 256 64 ∷ limits 512 4097 256 64 ∷ limits 512 4096 257 64 ∷ limits 512 4096 256 65 ∷ []
    ≡ true ∷ false ∷ false ∷ false ∷ false ∷ []
unfolding limits
counts_limited = refl

-- The bytes of the longest sheet.
pub longest_sheet : sheet_end (record { terms = 512; names = 4096; pattern = 256; runs = 64 }) ≡ 43370
longest_sheet = refl
