-- Worked walks, listings and answers, by computation: what is tried, what is found, in which order, and what is said of it.
use Rattle.std.specs.Prelude.{◌≡◌, refl, List, [], ◌∷◌, ◌++◌, map, take, drop, ℕ}
use Rattle.std.proofs.Math.Option.{Option, some, none}
use Rattle.std.proofs.Math.Decide.{ℕ_discrete, dec_lt}
use Rattle.term_spec.specs.Table.{table}
use Rattle.term_spec.specs.Term.{Term, Run}
use Rattle.term_spec.specs.Value.{Value, char, to_list, from_list, bracketed, contents, value_k, value_of, values, canon, canons}
use Rattle.term_spec.specs.Value.{heads?, list?, same?, sames?, takes_table, column, takes_row, symbol, row, takes, decided, takes?}
use Rattle.match_spec.specs.Element.{Element, lit, opening, closing, call, one, many, Level, Env}
use Rattle.match_spec.specs.Consistent.{note, open_lengths}
use Rattle.match_spec.specs.Listing.{guard, each, bind_if, bind, first, enter, leave, cuts, finish, candidates}
use Rattle.match_spec.specs.Walk.{Event, hit, tried, reached, Reading, hits, cells_of, runs, strip, if_fits, at_head, through, if_known, rigid_fits}
use Rattle.match_spec.specs.Walk.{ends, upto, when, with_head, if_empty, take_first, leave_level, finish_walk, bind_run, top_level, spread, walk}
use Rattle.match_spec.specs.Answer.{Wanted, allOfThem, headOnly, Progress, started, after_one, write_hit, absorb_one, absorb, spec_slots_in, number_of}

-- Lists of values, read as they stand.
unfoldable inside_of : Option Level → Level
inside_of none = []
inside_of (some l) = l

unfoldable inside : Level → Level
inside [] = []
inside (v ∷ c) = inside_of (contents v)

abbrev as_they_stand : Reading Level
as_they_stand = record { cells = λ l. l; front = take; back = drop; inner = inside; nothing = [] }

abbrev a : Value
a = char 97

abbrev b : Value
b = char 98

abbrev x : Value
x = char 120

abbrev y : Value
y = char 121

abbrev dash : Value
dash = char 45

-- A pattern, the entries known before it, the terms ahead, and the walk's events.
record Walked : Type 0 where
  pattern : List (Element ℕ)
  known : Env
  field : Level
  events : List (Event Env)

abbrev goes : List (Element ℕ) → Env → Level → List (Event Env) → Walked
goes p env c l = record { pattern = p; known = env; field = c; events = l }

abbrev walked : List Walked
walked =
    -- the empty pattern on nothing, and on a
    goes [] [] [] (hit [] ∷ []) ∷ goes [] [] (a ∷ []) []
    -- 'a' <F> on a reaches the call, on b it does not
    ∷ goes (lit a ∷ call ∷ []) [] (a ∷ []) (reached ∷ []) ∷ goes (lit a ∷ call ∷ []) [] (b ∷ []) []
    -- e.1 (<F>) 'x' on () y: no split fits, and the call is not reached
    ∷ goes (many 0 ∷ opening ∷ call ∷ closing ∷ lit x ∷ []) [] (bracketed [] ∷ y ∷ []) []
    -- the same on () x: one split, and the call
    ∷ goes (many 0 ∷ opening ∷ call ∷ closing ∷ lit x ∷ []) [] (bracketed [] ∷ x ∷ []) (tried ∷ reached ∷ [])
    -- e.1 '-' e.2 on --: two candidates, e.1 empty first
    ∷ goes (many 0 ∷ lit dash ∷ many 1 ∷ []) [] (dash ∷ dash ∷ []) (tried ∷ hit ([] ∷ (dash ∷ []) ∷ []) ∷ tried ∷ hit ((dash ∷ []) ∷ [] ∷ []) ∷ [])
    -- e.1 s.2 <F> with s.2 bound to b, on a: tried, for the projection does not look at the value, and the call is not reached
    ∷ goes (many 1 ∷ one symbol 0 ∷ call ∷ []) ((b ∷ []) ∷ []) (a ∷ []) (tried ∷ [])
    -- with s.2 bound to a it is
    ∷ goes (many 1 ∷ one symbol 0 ∷ call ∷ []) ((a ∷ []) ∷ []) (a ∷ []) (tried ∷ reached ∷ [])
    -- e.1 e.1 on aa and on aaa
    ∷ goes (many 0 ∷ many 0 ∷ []) [] (a ∷ a ∷ []) (tried ∷ tried ∷ hit ((a ∷ []) ∷ []) ∷ tried ∷ [])
    ∷ goes (many 0 ∷ many 0 ∷ []) [] (a ∷ a ∷ a ∷ []) (tried ∷ tried ∷ tried ∷ tried ∷ [])
    -- e.1 e.2 'x' with e.2 bound to nothing, on ax: e.2 is not open, so the run goes on to the x, and one split is tried
    ∷ goes (many 1 ∷ many 0 ∷ lit x ∷ []) ([] ∷ []) (a ∷ x ∷ []) (tried ∷ hit ([] ∷ (a ∷ []) ∷ []) ∷ [])
    -- (e.1) e.2 on (a) b: the last e-variable of a level takes what remains, and nothing is tried
    ∷ goes (opening ∷ many 0 ∷ closing ∷ many 1 ∷ []) [] (bracketed (a ∷ []) ∷ b ∷ []) (hit ((a ∷ []) ∷ (b ∷ []) ∷ []) ∷ [])
    ∷ []

walked-values : map (λ e. walk as_they_stand e.pattern (e.field ∷ []) e.known) walked ≡ map (λ e. e.events) walked
unfolding inside inside_of to_list from_list bracketed contents heads? list? same? sames? takes_table column takes_row row takes decided takes? guard enter
    strip if_fits at_head through if_known rigid_fits ends upto when with_head if_empty take_first leave_level finish_walk bind_run top_level spread walk
    ℕ_discrete dec_lt
walked-values = refl

-- The plain listing has the same candidates in the same order.
listed_values : map (λ e. candidates e.pattern (e.field ∷ []) e.known) walked ≡ map (λ e. hits e.events) walked
unfolding to_list from_list bracketed contents heads? list? same? sames? takes_table column takes_row row takes decided takes? guard each bind_if bind first
    enter leave cuts finish candidates hits ℕ_discrete dec_lt
listed_values = refl

-- Candidates are compared by entries 1, 3 and 4: entry 0 is bound before, entry 2 is an s-variable's, and entry 1 counts once.
compared_lengths :
    open_lengths (many 1 ∷ many 0 ∷ opening ∷ one symbol 2 ∷ many 3 ∷ closing ∷ many 1 ∷ many 4 ∷ [])
    1 ((a ∷ []) ∷ (a ∷ b ∷ []) ∷ (b ∷ []) ∷ [] ∷ (x ∷ []) ∷ []) ≡ 2 ∷ 0 ∷ 1 ∷ []
unfolding note open_lengths dec_lt
compared_lengths = refl

-- ---- runs of a store ----

abbrev rn : ℕ → ℕ → Run
rn s l = record { start = s; len = l }

abbrev tm : ℕ → ℕ → ℕ → ℕ → Term
tm kind a b c = record { kind = kind; a = a; b = b; c = c; d = 0 }

-- The Chars a, a, b and the bracket (a b).
abbrev store : List Term
store = tm 0 97 0 0 ∷ tm 0 97 0 0 ∷ tm 0 98 0 0 ∷ tm 3 1 2 1 ∷ []

-- A pattern, the runs known before it, the run ahead, and the walk's events.
record WalkedRun : Type 0 where
  pattern : List (Element ℕ)
  known : List Run
  field : Run
  events : List (Event (List Run))

abbrev run_goes : List (Element ℕ) → List Run → Run → List (Event (List Run)) → WalkedRun
run_goes p env r l = record { pattern = p; known = env; field = r; events = l }

abbrev walked_runs : List WalkedRun
walked_runs =
    -- s.1 and e.1 bound to term 1, on term 0, which is equal to it: the entry stays as it was
    run_goes (one symbol 0 ∷ []) (rn 1 1 ∷ []) (rn 0 1) (hit (rn 1 1 ∷ []) ∷ []) ∷ run_goes (many 0 ∷ []) (rn 1 1 ∷ []) (rn 0 1) (hit (rn 1 1 ∷ []) ∷ [])
    -- e.1 s.2 on a, e.1 e.2 on a b: empty values have their start too
    ∷ run_goes (many 0 ∷ one symbol 1 ∷ []) [] (rn 0 1) (tried ∷ hit (rn 0 0 ∷ rn 0 1 ∷ []) ∷ [])
    ∷ run_goes (many 0 ∷ many 1 ∷ []) [] (rn 1 2)
    (tried ∷ hit (rn 1 0 ∷ rn 1 2 ∷ []) ∷ tried ∷ hit (rn 1 1 ∷ rn 2 1 ∷ []) ∷ tried ∷ hit (rn 1 2 ∷ rn 3 0 ∷ []) ∷ [])
    -- (e.1) e.2 on (a b): the contents are a part of the store, and what remains is empty after it
    ∷ run_goes (opening ∷ many 0 ∷ closing ∷ many 1 ∷ []) [] (rn 3 1) (hit (rn 1 2 ∷ rn 4 0 ∷ []) ∷ [])
    ∷ []

walked-runs : map (λ e. walk (runs [] store) e.pattern (e.field ∷ []) e.known) walked_runs ≡ map (λ e. e.events) walked_runs
unfolding table to_list from_list bracketed contents value_k value_of values canon canons heads? list? same? sames? takes_table column takes_row row takes
    decided takes? cells_of guard enter strip if_fits at_head if_known rigid_fits ends upto when with_head if_empty take_first leave_level finish_walk bind_run
    top_level spread walk ℕ_discrete dec_lt
walked-runs = refl

-- ---- answers ----

-- What is wanted, the slots, a walk's events, the candidates written and the number said. Candidates are numbers here.
record Answered : Type 0 where
  wanted : Wanted
  slots : ℕ
  events : List (Event ℕ)
  written : List ℕ
  says : ℕ

abbrev answers : Wanted → ℕ → List (Event ℕ) → List ℕ → ℕ → Answered
answers q n l w k = record { wanted = q; slots = n; events = l; written = w; says = k }

-- Two candidates, a split gone into after each; a call between two splits.
abbrev two_hits : List (Event ℕ)
two_hits = hit 1 ∷ tried ∷ hit 2 ∷ tried ∷ []

abbrev a_call : List (Event ℕ)
a_call = tried ∷ reached ∷ tried ∷ []

abbrev answered : List Answered
answered =
    -- room for both, for one, for none
    answers allOfThem 3 two_hits (1 ∷ 2 ∷ []) 0 ∷ answers allOfThem 2 two_hits (1 ∷ 2 ∷ []) 0 ∷ answers allOfThem 1 two_hits (1 ∷ []) 15
    ∷ answers allOfThem 0 two_hits [] 15
    -- first match: the head, and 15 only if no slot fits
    ∷ answers headOnly 3 two_hits (1 ∷ []) 0 ∷ answers headOnly 1 two_hits (1 ∷ []) 0 ∷ answers headOnly 0 two_hits [] 15
    -- no candidate; a call
    ∷ answers allOfThem 1 (tried ∷ []) [] 10 ∷ answers headOnly 0 [] [] 10 ∷ answers allOfThem 1 a_call [] 11 ∷ answers headOnly 0 a_call [] 11
    ∷ []

abbrev progress : Answered → Progress ℕ
progress e = absorb e.wanted e.slots e.events started

answered-written : map (λ e. (progress e).written) answered ≡ map (λ e. e.written) answered
unfolding after_one write_hit absorb_one absorb dec_lt
answered-written = refl

answered_numbers : map (λ e. number_of (progress e).status (progress e).written) answered ≡ map (λ e. e.says) answered
unfolding after_one write_hit absorb_one absorb number_of dec_lt
answered_numbers = refl

-- The slots of two names in 3, 4, 9 and 12 words; with no names there is one.
slots_in_lem : map (λ n. spec_slots_in n 2) (3 ∷ 4 ∷ 9 ∷ 12 ∷ []) ++ map (λ n. spec_slots_in n 0) (0 ∷ 7 ∷ []) ≡ 0 ∷ 1 ∷ 2 ∷ 3 ∷ 1 ∷ 1 ∷ []
unfolding spec_slots_in
slots_in_lem = refl
