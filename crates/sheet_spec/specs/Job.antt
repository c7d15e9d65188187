-- What the program `sheet` prints for a text, and what the calls on sheets leave (01, "The sheet").
use Rattle.std.specs.Prelude.{List, [], ◌∷◌, ◌++◌, true, false, ◌&&◌, leb, length, take, drop, get_or, replicate, ℕ, suc, zero, ◌+◌, ◌-◌, ◌*◌, ◌/◌, ◌%◌, ◌≤◌}
use Rattle.std.proofs.Math.Option.{Option, some, none}
use Rattle.term_spec.specs.Words.{count}
use Rattle.term_spec.specs.Term.{term_layout}
use Rattle.view_spec.specs.Node.{Field, node_layout}
use Rattle.match_spec.specs.Answer.{allOfThem}
use Rattle.calls_spec.specs.Store.{Store}
use Rattle.calls_spec.specs.Step.{Request, call_from_runs, call_match, Answer, answer_number, Effect, quiet, making, effect_of, slots_filled, slot_names, step}
use Rattle.calls_spec.specs.Step.{spec_name_count}
use Rattle.sheet_spec.specs.Sheet.{Sheet, line, sheet_text, sheet_rule, limits, Counts, spec_names_start, spec_read_sheet}

-- ---- the whole job ----

-- Words with zeros after them, so many in all.
unfoldable pub padded : ℕ → List ℕ → List ℕ
padded n w = w ++ replicate (n - length w) 0

-- "It lends 65 nodes, 1,024 terms and 16 slots."
abbrev pub nodes_lent : ℕ
nodes_lent = 65

abbrev pub terms_lent : ℕ
terms_lent = 1024

abbrev pub listing_slots : ℕ
listing_slots = 16

-- The stores of a sheet: the sheet's terms are used, and node 0 is there.
unfoldable pub lent_store : Sheet → Store
lent_store s = record {
  names = s.names;
  term_words = padded (terms_lent * term_layout.width) s.terms;
  terms_used = count term_layout s.terms;
  node_words = replicate (nodes_lent * node_layout.width) 0;
  nodes_used = 1;
}

-- The slots of a listing: a run start and a run length for each name of the pattern. With 7 or 9 there are none, and none is written.
unfoldable pub lent_request : Sheet → Field → Request
lent_request s f = record { field = f; pattern = s.pattern; bindings = []; slots = replicate (listing_slots * (2 * spec_name_count s.names s.pattern [])) 0 }

-- "Refusals print one line, the number and three zeros"
unfoldable pub refusal_text : ℕ → List ℕ
refusal_text n = line (n ∷ 0 ∷ 0 ∷ 0 ∷ [])

-- "then candidate, entry, start, length": n lines from entry i of all entries on, k entries to a candidate, both counted from 1.
unfoldable pub entry_lines : ℕ → List ℕ → ℕ → ℕ → List ℕ
entry_lines k slots i zero = []
entry_lines k slots i (suc n) = line ((i / k + 1) ∷ (i % k + 1) ∷ get_or slots (2 * i) 0 ∷ get_or slots (2 * i + 1) 0 ∷ []) ++ entry_lines k slots (suc i) n

-- What a listing prints: "answer, candidates, names, 0" and the candidates, none with a refusal; "15 has 16, the names, 0, and its
-- candidates".
unfoldable pub listing_text : Answer → List ℕ → List ℕ
listing_text a slots =
    line (answer_number a ∷ slots_filled a ∷ slot_names a ∷ 0 ∷ []) ++ entry_lines (slot_names a) slots 0 (slots_filled a * slot_names a)

-- The candidates of an answer: at most 16, of at most 64 entries, in so many words.
pub record Fits (a : Answer) (words : ℕ) : Type 0 where
  pub few : slots_filled a ≤ 16
  pub short : slot_names a ≤ 64
  pub inside : 2 * (slots_filled a * slot_names a) ≤ words

-- The listing on the field that `from_runs` made, or its refusal: it has no other answer.
unfoldable pub match_on : Sheet → Effect → ℕ → Store → List ℕ
match_on s quiet n store = refusal_text n
match_on s (making f) n store =
    let after = step store (call_match allOfThem (lent_request s f)) in
    listing_text after.answer after.slots

-- The same, of its answer.
unfoldable pub match_text : Sheet → Answer → Store → List ℕ
match_text s a store = match_on s (effect_of a) (answer_number a) store

-- What is printed for a sheet, and 16 where there is none.
unfoldable pub job_text : Option Sheet → List ℕ
job_text none = refusal_text 16
job_text (some s) = match_text s (step (lent_store s) (call_from_runs s.runs)).answer (step (lent_store s) (call_from_runs s.runs)).store

-- What the program prints for a text.
unfoldable pub answer_text : List ℕ → List ℕ
answer_text text = job_text (spec_read_sheet text)

-- ---- what the calls on sheets leave ----

-- A slice with what stands from p on replaced.
unfoldable pub laid_at : List ℕ → ℕ → List ℕ → List ℕ
laid_at old p new = take p old ++ new ++ drop (p + length new) old

-- A slice with its first words or bytes replaced.
unfoldable pub laid : List ℕ → List ℕ → List ℕ
laid new old = new ++ drop (length new) old

-- A refusal's number; the bytes written; the counts of the sheet read.
pub data SheetAnswer : Type 0 where
  refused_sheet : ℕ → SheetAnswer
  wrote : ℕ → SheetAnswer
  counted : Counts → SheetAnswer

-- A text into a lent slice: 14 WorkShort if it does not fit, and nothing is written.
unfoldable pub written : List ℕ → List ℕ → SheetAnswer × List ℕ
written text out = elim (leb (length text) (length out)) [ true ↦ (wrote (length text), laid text out) | false ↦ (refused_sheet 14, out) ]

-- Writing a sheet: 1 Uneven where records are not whole or counts exceed the sheet's limits.
unfoldable pub written_sheet : Sheet → List ℕ → SheetAnswer × List ℕ
written_sheet s out = elim (sheet_rule s) [ true ↦ written (sheet_text s) out | false ↦ (refused_sheet 1, out) ]

-- What reading a sheet leaves: the answer, and the lent words of terms, pattern and runs. The names stay in the text.
pub record AfterSheet : Type 0 where
  pub answer : SheetAnswer
  pub terms : List ℕ
  pub pattern : List ℕ
  pub runs : List ℕ

-- The name bytes of a sheet, a part of its text; nothing where the counts are not of that text.
unfoldable pub spec_names_part : List ℕ → Counts → List ℕ
spec_names_part text c =
    elim (limits c.terms c.names c.pattern c.runs && leb (spec_names_start c + c.names) (length text))
    [ true ↦ take c.names (drop (spec_names_start c) text) | false ↦ [] ]

-- Nothing is written on a refusal.
unfoldable pub unread : ℕ → List ℕ → List ℕ → List ℕ → AfterSheet
unread n t p r = record { answer = refused_sheet n; terms = t; pattern = p; runs = r }

-- Reading a sheet: 16 BadSheet, or 14 WorkShort if a lent slice is short.
unfoldable pub read_into : Option Sheet → Counts → List ℕ → List ℕ → List ℕ → AfterSheet
read_into none c t p r = unread 16 t p r
read_into (some s) c t p r =
    elim (leb (length s.terms) (length t) && leb (length s.pattern) (length p) && leb (length s.runs) (length r))
    [ true ↦ record { answer = counted c; terms = laid s.terms t; pattern = laid s.pattern p; runs = laid s.runs r } | false ↦ unread 14 t p r ]
