-- Every public call of the port as one function: its answer, every lent slice and every count after it, refusals included, for any
-- arguments. The code's contracts cite this function, and so does demand 3.
use Rattle.std.specs.Prelude.{List, [], ◌∷◌, ◌++◌, map, Bool, true, false, ◌&&◌, ◌||◌, leb, eqb, length, drop, ℕ, ◌+◌}
use Rattle.std.proofs.Math.Option.{Option, some, none}
use Rattle.term_spec.specs.Words.{count, whole, records, write}
use Rattle.term_spec.specs.Term.{Term, term_layout, Run, run_layout, runs_rule, limit, run_list_limit}
use Rattle.term_spec.specs.Refusal.{uneven, bad_term, bad_node, bad_field, past_end, too_long, bad_pattern, bad_binding, too_many_names, no_match}
use Rattle.term_spec.specs.Refusal.{calls_are_not_patterns, nodes_full, terms_full, work_short}
use Rattle.view_spec.specs.Node.{Node, node_layout, Field, field_rule}
use Rattle.view_spec.specs.Build.{Built, spec_from_runs, join, take_field, rest, range, total}
use Rattle.view_spec.specs.Read.{Place, stored, scattered, place, copy, settled_run, equal_terms, starts_with}
use Rattle.match_spec.specs.Element.{Element, canon_e}
use Rattle.match_spec.specs.Pattern.{Item, item_layout, Binding, binding_layout, bound_run, elements, binding_names, names_after, number, pattern_rule}
use Rattle.match_spec.specs.Pattern.{bindings_rule, pattern_limit, name_limit}
use Rattle.match_spec.specs.Walk.{Event, runs, walk}
use Rattle.match_spec.specs.Answer.{Wanted, Progress, started, absorb, spec_slots_in, number_of}
use Rattle.calls_spec.specs.Store.{Store, terms, nodes, field_terms, capacity, counts_rule, store_terms, store_nodes, add_terms, add_nodes}

-- ---- calls and answers ----

-- What a listing and first match are lent besides the stores: the field, and the words of pattern, starting bindings and slots.
pub record Request : Type 0 where
  pub field : Field
  pub pattern : List ℕ
  pub bindings : List ℕ
  pub slots : List ℕ

-- The calls with their arguments; slices are the words lent. call_match is the listing or first match, by what is wanted.
pub data Call : Type 0 where
  call_from_runs : List ℕ → Call
  call_join : Field → Field → Call
  call_take : Field → ℕ → Call
  call_rest : Field → ℕ → Call
  call_range : Field → ℕ → ℕ → Call
  call_starts_with : Field → Field → Call
  call_equal : Field → Field → Call
  call_flatten : Field → List ℕ → Call
  call_match : Wanted → Request → Call

-- A refusal's number; a field; yes or no; a part of the term store, or the first records of the work buffer; a listing's number (0 or 15),
-- its candidates and its names.
pub data Answer : Type 0 where
  refused : ℕ → Answer
  built : Field → Answer
  truth : Bool → Answer
  in_store : Run → Answer
  in_work : ℕ → Answer
  listed : ℕ → ℕ → ℕ → Answer

-- What a call leaves: its answer, the stores with their counts, and the slots and the work buffer if it was lent them.
pub record After : Type 0 where
  pub answer : Answer
  pub store : Store
  pub slots : List ℕ
  pub work : List ℕ

-- ---- answers, taken apart here only ----

-- 01's number of an answer, 0 if the call is accepted.
unfoldable pub answer_number : Answer → ℕ
answer_number (refused n) = n
answer_number (built f) = 0
answer_number (truth b) = 0
answer_number (in_store r) = 0
answer_number (in_work n) = 0
answer_number (listed n c k) = n

-- What an answer says of fields: nothing, or that this one is new.
pub data Effect : Type 0 where
  quiet : Effect
  making : Field → Effect

-- What each answer says of fields.
unfoldable pub effect_of : Answer → Effect
effect_of (refused n) = quiet
effect_of (built f) = making f
effect_of (truth b) = quiet
effect_of (in_store r) = quiet
effect_of (in_work n) = quiet
effect_of (listed n c k) = quiet

-- What an answer shows: no terms, a run of the term store, or so many records of the work buffer, from its start.
pub data Shown : Type 0 where
  nothing : Shown
  of_store : Run → Shown
  of_work : ℕ → Shown

-- What each answer shows.
unfoldable pub shown_by : Answer → Shown
shown_by (refused n) = nothing
shown_by (built f) = nothing
shown_by (truth b) = nothing
shown_by (in_store r) = of_store r
shown_by (in_work n) = of_work n
shown_by (listed n c k) = nothing

-- How many slots an answer says are filled, and how many names it says each has.
unfoldable pub slots_of : Answer → ℕ × ℕ
slots_of (refused n) = (0, 0)
slots_of (built f) = (0, 0)
slots_of (truth b) = (0, 0)
slots_of (in_store r) = (0, 0)
slots_of (in_work n) = (0, 0)
slots_of (listed n c k) = (c, k)

-- The slots filled.
abbrev pub slots_filled : Answer → ℕ
slots_filled a = (slots_of a).0

-- The names of each.
abbrev pub slot_names : Answer → ℕ
slot_names a = (slots_of a).1

-- ---- what a request asks, read with the names of the store ----

-- The pattern records of a request.
abbrev pub items : Request → List Item
items m = records item_layout m.pattern

-- The starting bindings of a request.
abbrev pub bindings : Request → List Binding
bindings m = records binding_layout m.bindings

-- The pattern as spelled, the names of the start, those of start and pattern together, and the pattern as the walk takes it.
abbrev pub pattern_of : Store → Request → List (Element (List ℕ))
pattern_of s m = elements s.names (items m)

-- The names of the start.
abbrev pub start_names : Store → Request → List (List ℕ)
start_names s m = binding_names s.names (bindings m)

-- The names of start and pattern together: the entries of a candidate.
abbrev pub all_names : Store → Request → List (List ℕ)
all_names s m = names_after (pattern_of s m) (start_names s m)

-- The pattern as the walk takes it: literals in canonical form, names as entry numbers.
abbrev pub numbered_pattern : Store → Request → List (Element ℕ)
numbered_pattern s m = number (map canon_e (pattern_of s m)) (start_names s m)

-- The runs of the start.
abbrev pub start_runs : Request → List Run
start_runs m = map bound_run (bindings m)

-- The slots that fit whole.
abbrev pub slot_count : Store → Request → ℕ
slot_count s m = spec_slots_in (length m.slots) (length (all_names s m))

-- ---- checks ----

-- A check: its number if the test fails, else what comes next.
unfoldable pub ask : Bool → ℕ → Option ℕ → Option ℕ
ask true n next = next
ask false n next = some n

-- 1 of pattern and bindings: whole, and at most 256 pattern records.
unfoldable pub even_request : Request → Bool
even_request m = whole item_layout m.pattern && leb (count item_layout m.pattern) pattern_limit && whole binding_layout m.bindings

-- 5, 7, 8 and 9 of a pattern with its bindings; then what comes next.
abbrev pub named : Store → Request → Option ℕ → Option ℕ
named s m next =
    ask (runs_rule s.terms_used (start_runs m)) past_end
    (ask (pattern_rule s.names (items m)) bad_pattern
    (ask (bindings_rule s.names (bindings m) []) bad_binding
    (ask (leb (length (all_names s m)) name_limit) too_many_names next)))

-- 4, 5, 7, 8 and 9 of a request; then what comes next.
unfoldable pub ask_request : Store → Request → Option ℕ → Option ℕ
ask_request s m next = ask (field_rule (nodes s) m.field) bad_field (named s m next)

-- ---- what calls make and show ----

-- The nodes that are new in what is built.
abbrev pub new_nodes : Store → Built → List Node
new_nodes s k = drop s.nodes_used k.nodes

-- The records of a field that its settling or flattening copies.
abbrev pub field_copy : Store → Field → List Term
field_copy s f = copy (terms s) (nodes s) f

-- "`flatten` shows a part of the term store or a part of the work buffer", by where the field stands.
unfoldable pub flat_answer : Field → Place → Answer
flat_answer f (stored r) = in_store r
flat_answer f scattered = in_work f.len

-- The work buffer after it.
unfoldable pub flat_work : Store → Field → List ℕ → Place → List ℕ
flat_work s f w (stored r) = w
flat_work s f w scattered = write term_layout w 0 (field_copy s f)

-- The events of the walk over the settled field, in the terms with the settled copy.
unfoldable pub match_events : Store → Request → List (Event (List Run))
match_events s m =
    walk (runs s.names (terms s ++ field_copy s m.field)) (numbered_pattern s m) (settled_run (terms s) (nodes s) m.field ∷ []) (start_runs m)

-- The candidates that go into the slots, and why it stopped.
unfoldable pub match_progress : Store → Wanted → Request → Progress (List Run)
match_progress s q m = absorb q (slot_count s m) (match_events s m) started

-- "A refusal returns its number alone": 10 and 11. 0 and 15 come with the count and the names.
unfoldable pub match_answer : ℕ → ℕ → ℕ → Answer
match_answer n c k = elim (eqb n no_match || eqb n calls_are_not_patterns) [ true ↦ refused n | false ↦ listed n c k ]

-- Lists one after another.
unfoldable pub concat : {A : Type 0} → List (List A) → List A
concat [] = []
concat (x ∷ l) = x ++ concat l

-- "Slot, one candidate: a run start and a run length for each name." Words after the candidates stay.
unfoldable pub fill_slots : List ℕ → List (List Run) → List ℕ
fill_slots w candidates = write run_layout w 0 (concat candidates)

-- ---- what a call is lent ----

-- What a call is lent beside the stores, and 1 of that: whole records, and counts within their limits. Slots need not be whole.
pub record Given : Type 0 where
  pub slots : List ℕ
  pub work : List ℕ
  pub even : Bool

-- Neither slots nor a work buffer; slots; a work buffer.
abbrev bare : Bool → Given
bare even = record { slots = []; work = []; even = even }

abbrev with_slots : List ℕ → Bool → Given
with_slots w even = record { slots = w; work = []; even = even }

abbrev with_work : List ℕ → Bool → Given
with_work w even = record { slots = []; work = w; even = even }

-- What each call is lent.
unfoldable pub given : Call → Given
given (call_from_runs w) = bare (whole run_layout w && leb (count run_layout w) run_list_limit)
given (call_join f g) = bare true
given (call_take f n) = bare true
given (call_rest f k) = bare true
given (call_range f k n) = bare true
given (call_starts_with f g) = bare true
given (call_equal f g) = bare true
given (call_flatten f w) = with_work w (whole term_layout w)
given (call_match q m) = with_slots m.slots (even_request m)

-- Its parts, by name.
abbrev pub slots_lent : Call → List ℕ
slots_lent c = (given c).slots

abbrev pub work_lent : Call → List ℕ
work_lent c = (given c).work

abbrev pub even_rule : Call → Bool
even_rule c = (given c).even

-- ---- what a call does ----

-- What a call makes of the stores.
pub data Change : Type 0 where
  keeps : Change
  adds_nodes : List Node → Change
  adds_terms : List Term → Change

-- "12 NodesFull: the nodes which the rules below make for this call exceed the unused ones." "13 TermsFull: a settled copy exceeds the
-- unused terms." Then what comes next.
unfoldable pub fits : Store → Change → Option ℕ → Option ℕ
fits s keeps next = next
fits s (adds_nodes ns) next = ask (leb (s.nodes_used + length ns) (capacity node_layout s.node_words)) nodes_full next
fits s (adds_terms ts) next = ask (leb (s.terms_used + length ts) (capacity term_layout s.term_words)) terms_full next

-- The stores after it.
unfoldable pub changed : Store → Change → Store
changed s keeps = s
changed s (adds_nodes ns) = add_nodes s ns
changed s (adds_terms ts) = add_terms s ts

-- A call on given stores: the first of 4 to 9 that applies; whether the work buffer is long enough (14); what it makes of the stores; and,
-- where nothing refuses it, its answer and the slots and the work buffer after it.
pub record Deed : Type 0 where
  pub asks : Option ℕ
  pub enough : Bool
  pub change : Change
  pub answer : Answer
  pub slots : List ℕ
  pub work : List ℕ

-- A call that makes nodes and answers the field over them.
abbrev building : Store → Option ℕ → Built → Deed
building s asks b = record { asks = asks; enough = true; change = adds_nodes (new_nodes s b); answer = built b.field; slots = []; work = [] }

-- A call that answers only.
abbrev answering : Option ℕ → Answer → Deed
answering asks a = record { asks = asks; enough = true; change = keeps; answer = a; slots = []; work = [] }

-- A listing or first match; "10, 11 and 15 keep the settled copy".
abbrev listing : Store → Wanted → Request → Option ℕ → Deed
listing s q m asks = let o = match_progress s q m in record {
  asks = asks;
  enough = true;
  change = adds_terms (field_copy s m.field);
  answer = match_answer (number_of o.status o.written) (length o.written) (length (all_names s m));
  slots = fill_slots m.slots o.written;
  work = [];
}

-- What each call does. Of the checks "each call makes those it has arguments for".
unfoldable pub deed : Store → Call → Deed
deed s (call_from_runs w) =
    building s
    (ask (runs_rule s.terms_used (records run_layout w)) past_end (ask (leb (total (records run_layout w)) limit) too_long none))
    (spec_from_runs (records run_layout w) (nodes s))
deed s (call_join f g) =
    building s
    (ask (field_rule (nodes s) f && field_rule (nodes s) g) bad_field (ask (leb (f.len + g.len) limit) too_long none))
    (join f g (nodes s))
deed s (call_take f n) =
    answering (ask (field_rule (nodes s) f) bad_field (ask (leb n f.len) past_end none)) (built (take_field f n))
deed s (call_rest f k) =
    building s (ask (field_rule (nodes s) f) bad_field (ask (leb k f.len) past_end none)) (rest f k (nodes s))
deed s (call_range f k n) =
    building s (ask (field_rule (nodes s) f) bad_field (ask (leb (k + n) f.len) past_end none)) (range f k n (nodes s))
deed s (call_starts_with f g) =
    answering (ask (field_rule (nodes s) f && field_rule (nodes s) g) bad_field none) (truth (starts_with (field_terms s f) (field_terms s g)))
deed s (call_equal f g) =
    answering (ask (field_rule (nodes s) f && field_rule (nodes s) g) bad_field none) (truth (equal_terms (field_terms s f) (field_terms s g)))
deed s (call_flatten f w) = record {
  asks = ask (field_rule (nodes s) f) bad_field none;
  enough = leb (length (field_copy s f)) (count term_layout w);
  change = keeps;
  answer = flat_answer f (place (nodes s) f);
  slots = [];
  work = flat_work s f w (place (nodes s) f);
}
deed s (call_match q m) = listing s q m (ask_request s m none)

-- The first of 4 BadField, 5 PastEnd, 6 TooLong, 7 BadPattern, 8 BadBinding and 9 TooManyNames that applies.
abbrev pub arguments : Store → Call → Option ℕ
arguments s c = (deed s c).asks

-- ---- one call ----

-- The first of 1 to 9 that applies, "over all used records".
unfoldable pub input : Store → Call → Option ℕ
input s c = ask (counts_rule s && even_rule c) uneven (ask (store_terms s) bad_term (ask (store_nodes s) bad_node (arguments s c)))

-- The first of 12 to 14 that applies. "14 WorkShort: a copy exceeds the work buffer."
unfoldable pub room : Store → Call → Option ℕ
room s c = fits s (deed s c).change (ask (deed s c).enough work_short none)

-- What a call leaves that none of 1 to 9 and 12 to 14 refuses.
unfoldable pub accept : Store → Call → After
accept s c = record {
  answer = (deed s c).answer;
  store = changed s (deed s c).change;
  slots = (deed s c).slots;
  work = (deed s c).work;
}

-- "A refusal returns its number alone and changes no lent word"; 10, 11 and 15 are accept's.
unfoldable pub refuse : Store → Call → ℕ → After
refuse s c n = record { answer = refused n; store = s; slots = slots_lent c; work = work_lent c }

-- "Checks go 16, 1 to 9, then 12 to 14, then 10, 11 or 15." (16 is the sheet's.)
unfoldable pub decide : Option ℕ → Option ℕ → Store → Call → After
decide (some n) r s c = refuse s c n
decide none (some n) s c = refuse s c n
decide none none s c = accept s c

-- One call on the lent stores.
unfoldable pub step : Store → Call → After
step s c = decide (input s c) (room s c) s c

-- ---- the size of a slot ----

-- The words of pattern and bindings pass 1, 7, 8 and 9.
unfoldable pub names_rule : List ℕ → List ℕ → List ℕ → Bool
names_rule names p b =
    (whole item_layout p && leb (count item_layout p) pattern_limit && whole binding_layout b)
    && pattern_rule names (records item_layout p) && bindings_rule names (records binding_layout b) []
    && leb (length (names_after (elements names (records item_layout p)) (binding_names names (records binding_layout b)))) name_limit

-- The names of start and pattern together: a slot has twice as many words. 0 where they are refused, for then no slot is written.
unfoldable pub spec_name_count : List ℕ → List ℕ → List ℕ → ℕ
spec_name_count names p b =
    elim (names_rule names p b)
    [ true ↦ length (names_after (elements names (records item_layout p)) (binding_names names (records binding_layout b))) | false ↦ 0 ]
