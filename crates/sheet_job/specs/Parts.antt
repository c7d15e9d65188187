-- The job of a sheet in the parts that the code has: what is lent, and what is printed for what a call left.
use Rattle.std.specs.Prelude.{List, [], ℕ, ◌*◌, ◌≤◌}
use Rattle.term_spec.specs.Term.{term_layout, run_layout, run_list_limit}
use Rattle.view_spec.specs.Node.{node_layout}
use Rattle.match_spec.specs.Pattern.{item_layout, pattern_limit, name_limit}
use Rattle.match_spec.specs.Answer.{allOfThem}
use Rattle.calls_spec.specs.Store.{Store}
use Rattle.calls_spec.specs.Step.{call_match, answer_number, Effect, quiet, making, effect_of, After, step, spec_name_count}
use Rattle.sheet_spec.specs.Job.{nodes_lent, terms_lent, listing_slots, refusal_text, listing_text}
use Rattle.sheet_form.specs.Form.{zeros}
use Rattle.listing.specs.Match.{request_of}

-- ---- what is lent ----

-- "It lends 65 nodes, 1,024 terms and 16 slots", and a pattern and runs up to the sheet's limits: in words.
abbrev pub node_words : ℕ
node_words = nodes_lent * node_layout.width

abbrev pub term_words : ℕ
term_words = terms_lent * term_layout.width

abbrev pub pattern_words : ℕ
pattern_words = pattern_limit * item_layout.width

abbrev pub run_words : ℕ
run_words = run_list_limit * run_layout.width

-- The words of all slots for one name of the pattern.
abbrev pub name_words : ℕ
name_words = listing_slots * run_layout.width

-- All slots for the names of a pattern.
abbrev pub blank_slots : List ℕ → List ℕ → List ℕ
blank_slots names pattern = zeros (listing_slots * (2 * spec_name_count names pattern []))

-- c candidates of k entries, in so many words.
pub record Candidates (c k words : ℕ) : Type 0 where
  pub few : c ≤ listing_slots
  pub short : k ≤ name_limit
  pub inside : 2 * (c * k) ≤ words

-- ---- what is printed ----

-- What is printed for what a listing left.
unfoldable pub listed_text : After → List ℕ
listed_text a = listing_text a.answer a.slots

-- What is printed for a pattern, for what `from_runs` says of fields, its number and the stores that it left.
unfoldable pub built_by : List ℕ → List ℕ → Effect → ℕ → Store → List ℕ
built_by names pattern quiet n s = refusal_text n
built_by names pattern (making f) n s =
    listed_text (step s (call_match allOfThem (request_of f pattern [] (blank_slots names pattern))))

-- The same, of all that it left.
unfoldable pub built_text : List ℕ → List ℕ → After → List ℕ
built_text names pattern a = built_by names pattern (effect_of a.answer) (answer_number a.answer) a.store
