-- What a listing answers and leaves, as the specification has it.
use Rattle.std.specs.Prelude.{Result, Ok, Err, ◌≡◌, List, [], ◌∷◌, map, Bool, ◌&&◌, leb, length, ℕ, ◌+◌, ◌*◌, ◌<◌}
use Rattle.std.proofs.Math.Option.{Option, none}
use Rattle.term_spec.specs.Words.{whole, count, records}
use Rattle.term_spec.specs.Term.{Run, runs_rule}
use Rattle.term_spec.specs.Refusal.{uneven, bad_term, bad_node, bad_field, past_end, bad_pattern, bad_binding, more_than_fit}
use Rattle.view_spec.specs.Node.{Field, field_rule}
use Rattle.match_spec.specs.Pattern.{item_layout, binding_layout, bound_run, pattern_rule, bindings_rule, pattern_limit, name_limit}
use Rattle.match_spec.specs.Walk.{Event, walk}
use Rattle.match_spec.proofs.RunLaws.{Inside}
use Rattle.calls_spec.specs.Store.{Store, nodes, counts_rule, store_terms, store_nodes}
use Rattle.calls_spec.specs.Step.{Request, Answer, refused, listed, After, ask, bindings, start_runs}
use Rattle.steps.specs.State.{Place, levels_of, entries_of, LevelRoom, EntryRoom}
use Rattle.words.specs.declared.Run.{Run as CodeRun}
use Rattle.words.specs.Records.{as_run}
use Rattle.matcher.specs.declared.Goal.{Goal}
use Rattle.matcher.specs.declared.Tally.{Tally}
use Rattle.matcher.specs.declared.Status.TheVariants.{Going}
use Rattle.matcher.specs.Ready.{Given, reading_of, pattern_from, Ready, SlotsReady, Written}
use Rattle.listing.specs.declared.Matched.{Matched}
use Rattle.listing.specs.declared.Matched.TheVariants.{Listed, More}
use Rattle.words.specs.declared.refusal.Refusal.{Refusal}
use Rattle.words.specs.Refusals.{spec_number}

-- 01's number and values for each case.
unfoldable pub brought : Matched → Answer
brought (Listed c k) = listed 0 c k
brought (More c k) = listed more_than_fit c k

-- The same, or a refusal's number.
unfoldable pub matched_of : Result Matched Refusal → Answer
matched_of (Ok m) = brought m
matched_of (Err r) = refused (spec_number r)

-- What a call leaves that is lent slots and no work buffer.
unfoldable pub leaves_slots : Answer → Store → List ℕ → After
leaves_slots a s w = record { answer = a; store = s; slots = w; work = [] }

-- What a listing is lent besides the stores.
abbrev pub request_of : Field → List ℕ → List ℕ → List ℕ → Request
request_of f p b w = record { field = f; pattern = p; bindings = b; slots = w }

-- 1 of pattern and bindings: whole, and at most 256 pattern records.
abbrev pub even_words : List ℕ → List ℕ → Bool
even_words p b = whole item_layout p && leb (count item_layout p) pattern_limit && whole binding_layout b

-- The checks 1 to 8 of a listing, and what comes after them.
unfoldable pub asks_to8 : Store → Field → List ℕ → List ℕ → Option ℕ → Option ℕ
asks_to8 s f p b x =
    ask (counts_rule s && even_words p b) uneven
    (ask (store_terms s) bad_term
    (ask (store_nodes s) bad_node
    (ask (field_rule (nodes s) f) bad_field
    (ask (runs_rule s.terms_used (start_runs (request_of f p b []))) past_end
    (ask (pattern_rule s.names (records item_layout p)) bad_pattern
    (ask (bindings_rule s.names (records binding_layout b) []) bad_binding x))))))

-- The first of 1 to 8 that applies.
unfoldable pub refused_to8 : Store → Field → List ℕ → List ℕ → Option ℕ
refused_to8 s f p b = asks_to8 s f p b none

-- ---- the walk's start ----

-- Nothing is written, and more is to be taken in.
abbrev pub no_tally : Tally
no_tally = record { stop = Going; count = 0 }

-- The walk over the run r with the start's runs and m names may begin, wherever the words of its levels and entries lie.
abbrev pub ReadyToStart : Given → ℕ → Run → List Run → Type 0
ReadyToStart v m r start = (st : Place) → levels_of st ≡ r ∷ [] → entries_of st ≡ start → LevelRoom st.levels → EntryRoom st.binds → Ready v 0 m st

-- The events of the specification's walk over the run r with the start's runs.
abbrev pub events_at : Given → Run → List Run → List (Event (List Run))
events_at v r start = walk (reading_of v) (pattern_from v 0) (r ∷ []) start

-- The same on the words and counts that the code has: the run is among the used terms, the start's bindings are few, and the
-- slots are ready.
pub record CanStart (v : Given) (bindings : List ℕ) (run : CodeRun) (g : Goal) (slots : List ℕ) : Type 0 where
  pub inside : Inside v.used (as_run run)
  pub few : length bindings < (name_limit + 1) * binding_layout.width
  pub ready : ReadyToStart v g.entries (as_run run) (map bound_run (records binding_layout bindings))
  pub open_slots : SlotsReady g no_tally slots

-- The candidates of these events are written.
abbrev pub Started : Given → List ℕ → CodeRun → Goal → Tally → List ℕ → List ℕ → Type 0
Started v bindings run g r before after = Written g (events_at v (as_run run) (map bound_run (records binding_layout bindings))) no_tally r before after
