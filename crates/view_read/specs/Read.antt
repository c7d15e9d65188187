-- The answers of the calls that read, as the specification has them; what flatten and settling leave.
use Rattle.std.specs.Prelude.{Option, Some, None, Result, Ok, Err, List, [], Bool, true, false, leb, length, take, drop, ℕ, ◌+◌, ◌*◌}
use Rattle.term_spec.specs.Words.{count, write}
use Rattle.term_spec.specs.Term.{Term, term_layout, Run as SpecRun}
use Rattle.view_spec.specs.Read.{Place as SpecPlace, stored, scattered}
use Rattle.calls_spec.specs.Store.{Store, capacity}
use Rattle.calls_spec.specs.Step.{Answer, refused, truth, in_store, in_work, Shown, nothing, of_store, of_work, shown_by, After}
use Rattle.words.specs.Records.{as_run}
use Rattle.words.specs.declared.Run.{Run}
use Rattle.words.specs.declared.refusal.Refusal.{Refusal}
use Rattle.words.specs.Refusals.{spec_number}
use Rattle.view_read.specs.declared.Flat.{Flat}
use Rattle.view_read.specs.declared.Flat.TheVariants.{InStore, InWork}

-- 01's number, or yes or no, for each case.
unfoldable pub verdict_of : Result Bool Refusal → Answer
verdict_of (Ok b) = truth b
verdict_of (Err r) = refused (spec_number r)

-- A place of the code, as the specification has it.
unfoldable pub spec_place_of : Option Run → SpecPlace
spec_place_of (Some r) = stored (as_run r)
spec_place_of None = scattered

-- Where the terms are, for each case.
unfoldable pub found_of : Flat → Answer
found_of (InStore r) = in_store (as_run r)
found_of (InWork n) = in_work n

-- 01's number, or where the terms are.
unfoldable pub flat_of : Result Flat Refusal → Answer
flat_of (Ok f) = found_of f
flat_of (Err r) = refused (spec_number r)

-- The same of any refusals, by the numbers that they are told by.
unfoldable pub flat_by : {E : Type 0} → (E → ℕ) → Result Flat E → Answer
flat_by number (Ok f) = found_of f
flat_by number (Err r) = refused (number r)

-- What a call leaves that is lent a work buffer and no slots.
unfoldable pub leaves_work : Answer → Store → List ℕ → After
leaves_work a s w = record { answer = a; store = s; slots = []; work = w }

-- A part of the words of a slice of terms, nothing if it is not all there.
unfoldable pub part_of : Bool → List ℕ → SpecRun → List ℕ
part_of true w r = take (r.len * term_layout.width) (drop (r.start * term_layout.width) w)
part_of false w r = []

-- The words of a run in a slice of terms.
unfoldable pub run_words : List ℕ → SpecRun → List ℕ
run_words w r = part_of (leb (r.start + r.len) (count term_layout w)) w r

-- "shows a part of the term store or a part of the work buffer"
unfoldable pub shown_words : Shown → List ℕ → List ℕ → List ℕ
shown_words nothing terms work = []
shown_words (of_store r) terms work = run_words terms r
shown_words (of_work n) terms work = run_words work (record { start = 0; len = n })

-- The words that an answer shows.
unfoldable pub flat_words : Answer → List ℕ → List ℕ → List ℕ
flat_words a terms work = shown_words (shown_by a) terms work

-- 01's number, or the run, for each case.
unfoldable pub settled_of : Result Run Refusal → Answer
settled_of (Ok r) = in_store (as_run r)
settled_of (Err r) = refused (spec_number r)

-- What settling leaves: its answer, the words of the terms and their count. "13 TermsFull: a settled copy exceeds the unused terms."
unfoldable pub settled_if : Bool → List ℕ → ℕ → List Term → SpecRun → Answer × List ℕ × ℕ
settled_if true w used new r = (in_store r, write term_layout w used new, used + length new)
settled_if false w used new r = (refused 13, w, used)

-- The same, by the room there is.
unfoldable pub settled_by : List ℕ → ℕ → List Term → SpecRun → Answer × List ℕ × ℕ
settled_by w used new r = settled_if (leb (used + length new) (capacity term_layout w)) w used new r
