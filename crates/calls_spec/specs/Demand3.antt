-- Demand 3: one theorem about every list of calls. What a list of calls leaves, the model that it is held against, and the demand's
-- sentences as the fields of one record. The theorem is in Demand3Laws.
use Rattle.std.specs.Prelude.{◌≡◌, ◌↔◌, T, length, take, drop, ℕ, suc, zero, ◌*◌, ◌≤◌}
use mathlib.Core.List.{List, [], ◌∷◌, ◌++◌, map, Memᴰ}
use Rattle.std.proofs.Math.Option.{some, none}
use Rattle.std.proofs.Math.ListN.{get_elem?}
use Rattle.std.proofs.Math.Decide.{ℕ_discrete}
use Rattle.term_spec.specs.Words.{decode, records}
use Rattle.term_spec.specs.Term.{Run, run_layout}
use Rattle.term_spec.specs.Value.{Value, forms}
use Rattle.view_spec.specs.Node.{Field}
use Rattle.view_spec.specs.Build.{if_dec, parts}
use Rattle.match_spec.specs.Element.{Env}
use Rattle.match_spec.specs.Consistent.{Consistent, set_form, Before, Sorted}
use Rattle.match_spec.specs.Answer.{allOfThem}
use Rattle.calls_spec.specs.Store.{Store, spelled, shows, field_terms, counts_rule, store_terms, store_nodes}
use Rattle.calls_spec.specs.Step.{Request, Call, call_from_runs, call_join, call_take, call_rest, call_range, call_starts_with, call_equal, call_flatten}
use Rattle.calls_spec.specs.Step.{call_match, Answer, built, Effect, quiet, making, effect_of, slots_filled, slot_names, After, pattern_of, start_names}
use Rattle.calls_spec.specs.Step.{numbered_pattern, start_runs, slot_count, input, room, step}

-- ---- a list of calls: "Each call gets the stores and counts the last one left, the names unchanged" ----

-- One call of the list: the stores it was lent, and what it left.
pub record Moment : Type 0 where
  pub before : Store
  pub call : Call
  pub after : After

-- The calls of a list, each on the stores that the last one left.
unfoldable pub trace : Store → List Call → List Moment
trace s [] = []
trace s (c ∷ cs) = record { before = s; call = c; after = step s c } ∷ trace (step s c).store cs

-- The stores at the end of a list.
unfoldable pub final : Store → List Call → Store
final s [] = s
final s (c ∷ cs) = final (step s c).store cs

-- "They start with any names and used terms within their rules, and node 0 alone."
pub record Start (s : Store) : Type 0 where
  pub counts : T (counts_rule s)
  pub good-terms : T (store_terms s)
  pub good-nodes : T (store_nodes s)
  pub node_0_alone : s.nodes_used ≡ 1

-- ---- the model, which 01 calls the book ----

-- 01 calls it the book. Entries, newest first: a field, and the terms entered for it, as spelled.
abbrev pub Model : Type 0
Model = List (Field × List Value)

-- Whether two fields are the same node and length: an entry's name.
unfoldable pub same_field? : (f g : Field) → Dec ((f.node ≡ g.node) × (f.len ≡ g.len))
same_field? f g = both (ℕ_discrete f.node g.node) (ℕ_discrete f.len g.len)
  where
    both : {P Q : Type 0} → Dec P → Dec Q → Dec (P × Q)
    both (yes p) (yes q) = yes (p, q)
    both (yes p) (no q) = no (λ z. q z.1)
    both (no p) d = no (λ z. p z.0)

-- "A field handed in without an entry has what the meaning under View fields gives": in the stores s handed in with it.
unfoldable pub model_terms : Model → Store → Field → List Value
model_terms [] s f = field_terms s f
model_terms (e ∷ b) s f = if_dec (same_field? f e.0) e.1 (model_terms b s f)

-- What is entered for a field: terms, or terms of other fields.
pub data Entry : Type 0 where
  says : List Value → Entry
  joins : Field → Field → Entry
  takes : Field → ℕ → Entry
  drops : Field → ℕ → Entry
  slices : Field → ℕ → ℕ → Entry

-- Its terms; h gives those of a field.
unfoldable pub entered_by : (Field → List Value) → Entry → List Value
entered_by h (says vs) = vs
entered_by h (joins f g) = h f ++ h g
entered_by h (takes f n) = take n (h f)
entered_by h (drops f k) = drop k (h f)
entered_by h (slices f k n) = take n (drop k (h f))

-- What a call enters, from its arguments and the stores s it was lent. "`from_runs` enters the terms of its runs in order; `join` the
-- left's, then the right's; `rest` its field's after the first c, c its count; `range` those of its field inside its range." (`take`, which
-- 01's lists do not have, as `range` from 0.) A call that answers no field enters nothing, whatever is said here.
unfoldable pub entry : Store → Call → Entry
entry s (call_from_runs w) = says (parts (spelled s) (records run_layout w))
entry s (call_join f g) = joins f g
entry s (call_take f n) = takes f n
entry s (call_rest f k) = drops f k
entry s (call_range f k n) = slices f k n
entry s (call_starts_with f g) = says []
entry s (call_equal f g) = says []
entry s (call_flatten f w) = says []
entry s (call_match q m) = says []

-- The terms that a call enters.
abbrev pub entered : (Field → List Value) → Store → Call → List Value
entered h s c = entered_by h (entry s c)

-- "the field answered, which only names the entry"; "Listings and refused calls enter nothing."
unfoldable pub enter_by : Effect → Model → List Value → Model
enter_by quiet b vs = b
enter_by (making f) b vs = (f, vs) ∷ b

-- The model after one call.
abbrev pub enter_model : Answer → Model → Store → Call → Model
enter_model a b s c = enter_by (effect_of a) b (entered (model_terms b s) s c)

-- The model after the calls of a list.
unfoldable pub model : Model → List Moment → Model
model b [] = b
model b (m ∷ ms) = model (enter_model m.after.answer b m.before m.call) ms

-- ---- listings ----

-- A listing of field F with these words of pattern, bindings and slots, within the rules: "none of 1 to 9 applies".
pub record Listing (r : Request) (m : Moment) : Type 0 where
  pub called : m.call ≡ call_match allOfThem r
  pub within : input m.before m.call ≡ none

-- c slots of k runs each, read from the words lent as slots.
unfoldable pub read_slots : ℕ → ℕ → List ℕ → List (List Run)
read_slots zero k w = []
read_slots (suc c) k w = decode run_layout k w ∷ read_slots c k (drop (k * run_layout.width) w)

-- The runs of the candidates that a call listed, from the slots as it left them.
unfoldable pub listed_runs : Moment → List (List Run)
listed_runs m = read_slots (slots_filled m.after.answer) (slot_names m.after.answer) m.after.slots

-- "A candidate's terms are those its runs show after its listing."
unfoldable pub candidates_of : Moment → List Env
candidates_of m = map (map (shows m.after.store)) (listed_runs m)

-- A consistent extension of a listing's start, in the stores that the call was lent.
abbrev pub Extension : Request → Moment → Env → Type 0
Extension r m B =
    Consistent (pattern_of m.before r) (start_names m.before r) (map (shows m.before) (start_runs r)) (field_terms m.before r.field) B

-- What is listed, against the consistent extensions.
pub record Firsts (r : Request) (m : Moment) : Type 0 where
  -- every consistent extension, by its canonical form, ..
  pub all : List Env
  pub complete : (B : Env) → Extension r m B → Memᴰ (set_form B) all
  -- .. and nothing else, ..
  pub sound : (A : Env) → Memᴰ A all
      → (B : Env) × Extension r m B × (set_form B ≡ A)
  -- .. in 01's order, ..
  pub order : Sorted (Before (numbered_pattern m.before r) (length (start_runs r))) all
  -- .. once.
  pub once : (i j : ℕ) (B : Env) → get_elem? all i ≡ some B → get_elem? all j ≡ some B → i ≡ j
  -- the candidates listed are the first of them, ..
  pub first : map set_form (candidates_of m) ≡ take (length (candidates_of m)) all
  -- .. as many as there are slots for, if terms suffice (13 does not apply), ..
  pub fill : room m.before m.call ≡ none → map set_form (candidates_of m) ≡ take (slot_count m.before r) all
  -- .. and all of them where slots suffice too.
  pub suffice : room m.before m.call ≡ none → length all ≤ slot_count m.before r → map set_form (candidates_of m) ≡ all

-- ---- demand 3, clause by clause ----

-- The clauses, each under its own words.
pub record Demand3 (s : Store) (calls : List Call) : Type 0 where
  -- "Each field it built holds the terms which the book in 01 gives it." Every entry is what its field holds at the end, with text as
  -- spelled and bracket contents, ..
  pub entries : (f : Field) (ts : List Value) → Memᴰ (f, ts) (model [] (trace s calls)) → field_terms (final s calls) f ≡ ts
  -- .. every field that a call answered has an entry, ..
  pub entry_made : (m : Moment) (f : Field) → Memᴰ m (trace s calls) → m.after.answer ≡ built f
      → (ts : List Value) × Memᴰ (f, ts) (model [] (trace s calls))
  -- .. and so holds what the model gives it, whatever stores the model is asked with.
  pub fields : (m : Moment) (f : Field) (other : Store) → Memᴰ m (trace s calls) → m.after.answer ≡ built f
      → field_terms (final s calls) f ≡ model_terms (model [] (trace s calls)) other f
  -- "The i-th candidate listed for F gives every name terms equal to those the j-th listed for G gives it exactly when F and G hold equal
  -- terms and i = j." The listings have one pattern and one table of starting bindings; A is the i-th candidate for F, B the j-th for G.
  pub agree : (m m' : Moment) (F G : Field) (pattern bindings slots slots' : List ℕ) → Memᴰ m (trace s calls) → Memᴰ m' (trace s calls)
      → Listing (record { field = F; pattern = pattern; bindings = bindings; slots = slots }) m
      → Listing (record { field = G; pattern = pattern; bindings = bindings; slots = slots' }) m'
      → (i j : ℕ) (A B : Env) → get_elem? (candidates_of m) i ≡ some A → get_elem? (candidates_of m') j ≡ some B
      → (set_form A ≡ set_form B) ↔ ((forms (field_terms (final s calls) F) ≡ forms (field_terms (final s calls) G)) × (i ≡ j))
  -- a candidate's terms stay what its runs showed after its listing
  pub stay : (m : Moment) (r : Request) → Memᴰ m (trace s calls) → Listing r m → candidates_of m ≡ map (map (shows (final s calls))) (listed_runs m)
  -- "The listed candidates are the first consistent extensions of the starting bindings in 01's order, and where slots and terms suffice,
  -- every consistent extension is listed, once."
  pub firsts : (m : Moment) (r : Request) → Memᴰ m (trace s calls) → Listing r m → Firsts r m
