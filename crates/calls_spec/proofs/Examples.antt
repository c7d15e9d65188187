-- Worked calls, by computation: at least one for each call, and one for each refusal number from 1 to 15.
use Rattle.std.specs.Prelude.{◌≡◌, refl, List, [], ◌∷◌, ◌++◌, map, true, false, replicate, ℕ, suc, zero}
use Rattle.std.proofs.Math.Decide.{ℕ_discrete, dec_le, dec_lt}
use Rattle.term_spec.specs.Words.{decode, encode, count, whole, records, write}
use Rattle.term_spec.specs.Text.{spec_is_letter, spec_is_digit, spec_is_name_byte, every, identifier_text, number_text, variable_text, text_rule, lower}
use Rattle.term_spec.specs.Table.{table}
use Rattle.term_spec.specs.Term.{term_of, run_of, run_rule, runs_rule, is_scalar, depth_k, deepest, bracket_rule, symbol_rule, term_rule_k, term_rule, terms_rule}
use Rattle.term_spec.specs.Value.{to_list, from_list, bracketed, contents, value_k, value_of, values, canon, canons, heads?, list?, same?, sames?, takes_table}
use Rattle.term_spec.specs.Value.{unknown_column, column, takes_row, row, takes, decided, takes?, is_yes}
use Rattle.view_spec.specs.Node.{node_of, nil_rule, cons_rule, concat_rule, node_rule_k, node_rule, each_node, nodes_rule, field_rule, meaning_k, meaning_of}
use Rattle.view_spec.specs.Build.{if_dec, fuse_head, fuse_onto, fuse, chain_head, chain, total, parts, spec_from_runs, unclamp_k, unclamp_of, unclamp, second_k, plan_k}
use Rattle.view_spec.specs.Build.{plan_of, plan, grow, plan_makes, join_by, join, drop_k, drop_of, drop_plan, drop_makes, drop_node, shrink, take_field, rest, range}
use Rattle.view_spec.specs.Read.{place, copy_at, settled_at, equal_terms, starts_with}
use Rattle.match_spec.specs.Pattern.{item_of, binding_of, name_at, name?, find_here, find, add_if, add, names_after, number, element_k, element, binding_name}
use Rattle.match_spec.specs.Pattern.{item_rule_k, close_rule, nest_rule_k, none_open, items_rule, pattern_rule, binding_rule, bindings_rule}
use Rattle.match_spec.specs.Element.{on_top, wrap, push, put, Ones, canon_e}
use Rattle.match_spec.specs.Consistent.{note, open_lengths, Lex, Before, Sorted}
use Rattle.match_spec.specs.Listing.{guard, each, bind_if, bind, first, enter, leave, cuts, finish, candidates}
use Rattle.match_spec.specs.Walk.{cells_of, strip, if_fits, at_head, through, if_known, rigid_fits, ends, upto, when, with_head, if_empty, take_first, leave_level}
use Rattle.match_spec.specs.Walk.{finish_walk, bind_run, top_level, spread, walk, hits}
use Rattle.match_spec.specs.Answer.{after_one, write_hit, absorb_one, absorb, spec_slots_in, number_of}
use Rattle.calls_spec.specs.Store.{terms, nodes, spelled, shows, field_terms, capacity, counts_rule, store_terms, store_nodes, add_terms, add_nodes}
use Rattle.calls_spec.specs.Step.{answer_number, effect_of, slots_of, ask, even_request, ask_request, flat_answer, flat_work, match_events, match_progress}
use Rattle.calls_spec.specs.Step.{match_answer, concat, fill_slots, given, fits, changed, deed, input, room, accept, refuse, decide, step}
use Rattle.calls_spec.specs.Demand3.{trace, final, same_field?, model_terms, entered_by, entry, enter_by, model, read_slots, listed_runs, candidates_of}
use Rattle.term_spec.specs.Term.{Run}
use Rattle.view_spec.specs.Node.{Field}
use Rattle.match_spec.specs.Answer.{Wanted, allOfThem, headOnly}
use Rattle.calls_spec.specs.Store.{Store}
use Rattle.calls_spec.specs.Step.{Call, call_from_runs, call_join, call_take, call_rest, call_range, call_starts_with, call_equal, call_flatten, call_match}
use Rattle.calls_spec.specs.Step.{Answer, refused, built, truth, in_store, in_work, listed, After}

-- The names `12Xx`; the terms a, b, X, x, (a b), 12 and room for two more; the nodes Nil, [a b], [X x], their Concat, and room for two more.
abbrev pub ex_names : List ℕ
ex_names = 49 ∷ 50 ∷ 88 ∷ 120 ∷ []

abbrev pub ex_terms : List ℕ
ex_terms =
    (0 ∷ 97 ∷ 0 ∷ 0 ∷ 0 ∷ []) ++ (0 ∷ 98 ∷ 0 ∷ 0 ∷ 0 ∷ []) ++ (1 ∷ 2 ∷ 1 ∷ 0 ∷ 0 ∷ [])
    ++ (1 ∷ 3 ∷ 1 ∷ 0 ∷ 0 ∷ []) ++ (3 ∷ 0 ∷ 2 ∷ 1 ∷ 0 ∷ []) ++ (2 ∷ 0 ∷ 2 ∷ 0 ∷ 0 ∷ [])

abbrev pub ex_nodes : List ℕ
ex_nodes = (0 ∷ 0 ∷ 0 ∷ 0 ∷ 0 ∷ 0 ∷ []) ++ (1 ∷ 0 ∷ 2 ∷ 0 ∷ 1 ∷ 2 ∷ []) ++ (1 ∷ 2 ∷ 2 ∷ 0 ∷ 1 ∷ 2 ∷ []) ++ (2 ∷ 1 ∷ 2 ∷ 2 ∷ 2 ∷ 4 ∷ [])

-- A store with these term and node words.
abbrev pub with : List ℕ → ℕ → List ℕ → ℕ → Store
with ts used ns made = record { names = ex_names; term_words = ts; terms_used = used; node_words = ns; nodes_used = made }

abbrev pub ex : Store
ex = with (ex_terms ++ replicate 10 0) 6 (ex_nodes ++ replicate 12 0) 4

abbrev pub fd : ℕ → ℕ → Field
fd n l = record { node = n; len = l }

abbrev pub rn : ℕ → ℕ → Run
rn s l = record { start = s; len = l }

abbrev pub match : Wanted → Field → List ℕ → List ℕ → List ℕ → Call
match q f p b s = call_match q (record { field = f; pattern = p; bindings = b; slots = s })

-- One worked call, and what it leaves.
pub record Worked : Type 0 where
  pub store : Store
  pub call : Call
  pub after : After

-- Answers that change nothing but, perhaps, the slots or the work buffer; answers that leave other stores.
abbrev pub same : Store → Call → Answer → List ℕ → List ℕ → Worked
same s c a slots work = record { store = s; call = c; after = record { answer = a; store = s; slots = slots; work = work } }

abbrev pub moved : Call → Answer → Store → List ℕ → Worked
moved c a t slots = record { store = ex; call = c; after = record { answer = a; store = t; slots = slots; work = [] } }

-- e.1 e.2, s.1, a Call
abbrev pub two_exprs : List ℕ
two_exprs = (7 ∷ 0 ∷ 1 ∷ 0 ∷ []) ++ (7 ∷ 1 ∷ 1 ∷ 0 ∷ [])

abbrev pub one_symbol : List ℕ
one_symbol = 5 ∷ 0 ∷ 1 ∷ 0 ∷ []

abbrev pub a_call : List ℕ
a_call = 8 ∷ 0 ∷ 0 ∷ 0 ∷ []

-- Variables of kind k named by one letter each, for 9; the names are `a` to `v`.
unfoldable pub vars : ℕ → ℕ → List ℕ
vars k zero = []
vars k (suc n) = k ∷ n ∷ 1 ∷ 0 ∷ vars k n

abbrev pub lettered : Store
lettered = record {
  names = (97 ∷ 98 ∷ 99 ∷ 100 ∷ 101 ∷ 102 ∷ 103 ∷ 104 ∷ 105 ∷ 106 ∷ 107 ∷ 108 ∷ 109 ∷ 110 ∷ 111 ∷ 112 ∷ 113 ∷ 114 ∷ 115 ∷ 116 ∷ 117 ∷ 118
      ∷ []);
  term_words = [];
  terms_used = 0;
  node_words = replicate 6 0;
  nodes_used = 1;
}

-- Each Concat doubles the one before, from two terms to 65,536, for 6.
abbrev pub doubled : Store
doubled = record {
  names = [];
  term_words = (0 ∷ 97 ∷ 0 ∷ 0 ∷ 0 ∷ []) ++ (0 ∷ 98 ∷ 0 ∷ 0 ∷ 0 ∷ []);
  terms_used = 2;
  nodes_used = 17;
  node_words = (0 ∷ 0 ∷ 0 ∷ 0 ∷ 0 ∷ 0 ∷ [])
      ++ (1 ∷ 0 ∷ 2 ∷ 0 ∷ 1 ∷ 2 ∷ [])
      ++ (2 ∷ 1 ∷ 2 ∷ 1 ∷ 2 ∷ 4 ∷ [])
      ++ (2 ∷ 2 ∷ 4 ∷ 2 ∷ 3 ∷ 8 ∷ [])
      ++ (2 ∷ 3 ∷ 8 ∷ 3 ∷ 4 ∷ 16 ∷ [])
      ++ (2 ∷ 4 ∷ 16 ∷ 4 ∷ 5 ∷ 32 ∷ [])
      ++ (2 ∷ 5 ∷ 32 ∷ 5 ∷ 6 ∷ 64 ∷ [])
      ++ (2 ∷ 6 ∷ 64 ∷ 6 ∷ 7 ∷ 128 ∷ [])
      ++ (2 ∷ 7 ∷ 128 ∷ 7 ∷ 8 ∷ 256 ∷ [])
      ++ (2 ∷ 8 ∷ 256 ∷ 8 ∷ 9 ∷ 512 ∷ [])
      ++ (2 ∷ 9 ∷ 512 ∷ 9 ∷ 10 ∷ 1024 ∷ [])
      ++ (2 ∷ 10 ∷ 1024 ∷ 10 ∷ 11 ∷ 2048 ∷ [])
      ++ (2 ∷ 11 ∷ 2048 ∷ 11 ∷ 12 ∷ 4096 ∷ [])
      ++ (2 ∷ 12 ∷ 4096 ∷ 12 ∷ 13 ∷ 8192 ∷ [])
      ++ (2 ∷ 13 ∷ 8192 ∷ 13 ∷ 14 ∷ 16384 ∷ [])
      ++ (2 ∷ 14 ∷ 16384 ∷ 14 ∷ 15 ∷ 32768 ∷ [])
      ++ (2 ∷ 15 ∷ 32768 ∷ 15 ∷ 16 ∷ 65536 ∷ []);
}

abbrev pub worked : List Worked
worked =
    -- from_runs: (0, 1) and (1, 1) fuse, (3, 0) is skipped; two Cons, the last run's first
    moved (call_from_runs (0 ∷ 1 ∷ 1 ∷ 1 ∷ 3 ∷ 0 ∷ 5 ∷ 1 ∷ [])) (built (fd 5 3))
    (with (ex_terms ++ replicate 10 0) 6 (ex_nodes ++ (1 ∷ 5 ∷ 1 ∷ 0 ∷ 1 ∷ 1 ∷ []) ++ (1 ∷ 0 ∷ 2 ∷ 4 ∷ 1 ∷ 3 ∷ [])) 6) []
    -- from_runs of nothing is the empty field
    ∷ same ex (call_from_runs (3 ∷ 0 ∷ [])) (built (fd 0 0)) [] []
    -- join: a Concat of the two
    ∷ moved (call_join (fd 1 2) (fd 2 2)) (built (fd 4 4)) (with (ex_terms ++ replicate 10 0) 6 (ex_nodes ++ (2 ∷ 1 ∷ 2 ∷ 2 ∷ 2 ∷ 4 ∷ []) ++ replicate 6 0) 5) []
    -- an empty operand returns the other as it is
    ∷ same ex (call_join (fd 3 0) (fd 3 1)) (built (fd 3 1)) [] []
    ∷ same ex (call_take (fd 3 4) 1) (built (fd 3 1)) [] []
    -- rest by 1: a shortened Cons, and a Concat over it
    ∷ moved (call_rest (fd 3 4) 1) (built (fd 5 3)) (with (ex_terms ++ replicate 10 0) 6
    (ex_nodes ++ (1 ∷ 1 ∷ 1 ∷ 0 ∷ 1 ∷ 1 ∷ []) ++ (2 ∷ 4 ∷ 1 ∷ 2 ∷ 2 ∷ 3 ∷ [])) 6) []
    -- rest by the whole node is node 0
    ∷ same ex (call_rest (fd 1 2) 2) (built (fd 0 0)) [] []
    ∷ moved (call_range (fd 3 4) 1 2) (built (fd 5 2)) (with (ex_terms ++ replicate 10 0) 6
    (ex_nodes ++ (1 ∷ 1 ∷ 1 ∷ 0 ∷ 1 ∷ 1 ∷ []) ++ (2 ∷ 4 ∷ 1 ∷ 2 ∷ 2 ∷ 3 ∷ [])) 6) []
    ∷ same ex (call_starts_with (fd 3 4) (fd 1 2)) (truth true) [] []
    ∷ same ex (call_starts_with (fd 1 2) (fd 3 4)) (truth false) [] []
    -- a clamped Concat holds what its left holds; a b is not X x
    ∷ same ex (call_equal (fd 3 2) (fd 1 2)) (truth true) [] []
    ∷ same ex (call_equal (fd 1 2) (fd 2 2)) (truth false) [] []
    -- flatten: one run is shown in the store, a rope is copied to the work buffer
    ∷ same ex (call_flatten (fd 1 2) []) (in_store (rn 0 2)) [] []
    ∷ same ex (call_flatten (fd 3 0) []) (in_store (rn 0 0)) [] []
    ∷ same ex (call_flatten (fd 3 3) (replicate 20 7)) (in_work 3) []
    ((0 ∷ 97 ∷ 0 ∷ 0 ∷ 0 ∷ []) ++ (0 ∷ 98 ∷ 0 ∷ 0 ∷ 0 ∷ []) ++ (1 ∷ 2 ∷ 1 ∷ 0 ∷ 0 ∷ []) ++ replicate 5 7)
    -- e.1 e.2 on a b: three candidates, the shortest e.1 first; the words after them stay
    ∷ same ex (match allOfThem (fd 1 2) two_exprs [] (replicate 14 9)) (listed 0 3 2) ((0 ∷ 0 ∷ 0 ∷ 2 ∷ 0 ∷ 1 ∷ 1 ∷ 1 ∷ 0 ∷ 2 ∷ 2 ∷ 0 ∷ 9 ∷ 9 ∷ [])) []
    -- first match: the head alone
    ∷ same ex (match headOnly (fd 1 2) two_exprs [] (replicate 14 9)) (listed 0 1 2) ((0 ∷ 0 ∷ 0 ∷ 2 ∷ []) ++ replicate 10 9) []
    -- e.1 bound to b before: one candidate, and its entry shows the binding's own run
    ∷ same ex (match allOfThem (fd 1 2) two_exprs (7 ∷ 0 ∷ 1 ∷ 0 ∷ 1 ∷ []) (replicate 4 9)) (listed 0 1 2) ((0 ∷ 1 ∷ 1 ∷ 1 ∷ [])) []
    -- a rope is settled: the copy goes after the used terms
    ∷ moved (match allOfThem (fd 3 2) (7 ∷ 0 ∷ 1 ∷ 0 ∷ []) [] (9 ∷ 9 ∷ [])) (listed 0 1 1)
    (with (ex_terms ++ (0 ∷ 97 ∷ 0 ∷ 0 ∷ 0 ∷ []) ++ (0 ∷ 98 ∷ 0 ∷ 0 ∷ 0 ∷ [])) 8 (ex_nodes ++ replicate 12 0) 4) (6 ∷ 2 ∷ [])
    -- 1: a run list that is not whole; a term count past its slice; over 64 runs
    ∷ same ex (call_from_runs (0 ∷ 1 ∷ 2 ∷ [])) (refused 1) [] []
    ∷ same (with ex_terms 7 ex_nodes 4) (call_take (fd 1 2) 1) (refused 1) [] []
    ∷ same ex (call_from_runs (replicate 130 0)) (refused 1) [] []
    -- .. terms of four words; a work buffer of four
    ∷ same (with (0 ∷ 97 ∷ 0 ∷ 0 ∷ []) 1 ex_nodes 1) (call_take (fd 0 0) 0) (refused 1) [] []
    ∷ same ex (call_flatten (fd 3 3) (replicate 4 7)) (refused 1) [] (replicate 4 7)
    -- 2: a surrogate; a Char with a fifth word
    ∷ same (with (0 ∷ 55296 ∷ 0 ∷ 0 ∷ 0 ∷ []) 1 ex_nodes 1) (call_take (fd 0 0) 0) (refused 2) [] []
    ∷ same (with (0 ∷ 97 ∷ 0 ∷ 0 ∷ 1 ∷ []) 1 ex_nodes 1) (call_take (fd 0 0) 0) (refused 2) [] []
    -- 3: no node 0; a Cons run past the used terms
    ∷ same (with ex_terms 6 ex_nodes 0) (call_from_runs []) (refused 3) [] []
    ∷ same (with ex_terms 3 ex_nodes 4) (call_take (fd 1 2) 1) (refused 3) [] []
    -- 4: a node that is not there; a length past the reach
    ∷ same ex (call_take (fd 4 0) 0) (refused 4) [] []
    ∷ same ex (call_join (fd 1 2) (fd 2 3)) (refused 4) [] []
    -- 5: a count past the field; a run past the used terms, though empty
    ∷ same ex (call_rest (fd 3 4) 5) (refused 5) [] []
    ∷ same ex (call_from_runs (7 ∷ 0 ∷ [])) (refused 5) [] []
    -- 6: 65,536 terms and one more
    ∷ same doubled (call_join (fd 16 65536) (fd 1 1)) (refused 6) [] []
    -- 7: an Open without its Close
    ∷ same ex (match allOfThem (fd 1 2) (3 ∷ 1 ∷ 0 ∷ 0 ∷ []) [] []) (refused 7) [] []
    -- 8: a kind that is no variable's; a name twice
    ∷ same ex (match allOfThem (fd 1 2) two_exprs (4 ∷ 0 ∷ 1 ∷ 0 ∷ 0 ∷ []) []) (refused 8) [] []
    ∷ same ex (match allOfThem (fd 1 2) two_exprs (7 ∷ 2 ∷ 1 ∷ 0 ∷ 0 ∷ 7 ∷ 3 ∷ 1 ∷ 0 ∷ 0 ∷ []) []) (refused 8) [] []
    -- 9: 65 names
    ∷ same lettered (match allOfThem (fd 0 0) (vars 5 22 ++ vars 6 22 ++ vars 7 21) [] []) (refused 9) [] []
    -- 10: keeps the settled copy
    ∷ moved (match allOfThem (fd 3 2) one_symbol [] (9 ∷ 9 ∷ [])) (refused 10)
    (with (ex_terms ++ (0 ∷ 97 ∷ 0 ∷ 0 ∷ 0 ∷ []) ++ (0 ∷ 98 ∷ 0 ∷ 0 ∷ 0 ∷ [])) 8 (ex_nodes ++ replicate 12 0) 4) (9 ∷ 9 ∷ [])
    -- 11: a Call reached
    ∷ same ex (match allOfThem (fd 1 2) a_call [] (9 ∷ 9 ∷ [])) (refused 11) (9 ∷ 9 ∷ []) []
    -- 12: no room for a node; none is written
    ∷ same (with ex_terms 6 ex_nodes 4) (call_join (fd 1 2) (fd 2 2)) (refused 12) [] []
    -- 13: no room for the settled copy
    ∷ same ex (match allOfThem (fd 3 3) one_symbol [] (9 ∷ 9 ∷ [])) (refused 13) (9 ∷ 9 ∷ []) []
    -- 14: a work buffer too short
    ∷ same ex (call_flatten (fd 3 3) (replicate 10 7)) (refused 14) [] (replicate 10 7)
    -- 15: the slots that fit are filled, two of three; with none, the count is 0, for first match too
    ∷ same ex (match allOfThem (fd 1 2) two_exprs [] (replicate 9 9)) (listed 15 2 2) ((0 ∷ 0 ∷ 0 ∷ 2 ∷ 0 ∷ 1 ∷ 1 ∷ 1 ∷ 9 ∷ [])) []
    ∷ same ex (match headOnly (fd 1 2) two_exprs [] (9 ∷ 9 ∷ 9 ∷ [])) (listed 15 0 2) (9 ∷ 9 ∷ 9 ∷ []) []
    -- the order of the numbers: 4 before 5; 5 before 7; 7 before 8; 13 before 11; 1 before 2
    ∷ same ex (call_rest (fd 4 1) 2) (refused 4) [] []
    ∷ same ex (match allOfThem (fd 1 2) (3 ∷ 1 ∷ 0 ∷ 0 ∷ []) (7 ∷ 0 ∷ 1 ∷ 6 ∷ 1 ∷ []) []) (refused 5) [] []
    ∷ same ex (match allOfThem (fd 1 2) (3 ∷ 1 ∷ 0 ∷ 0 ∷ []) (4 ∷ 0 ∷ 1 ∷ 0 ∷ 0 ∷ []) []) (refused 7) [] []
    ∷ same ex (match allOfThem (fd 3 3) a_call [] []) (refused 13) [] []
    ∷ same (with (0 ∷ 55296 ∷ 0 ∷ 0 ∷ 0 ∷ []) 2 ex_nodes 1) (call_take (fd 0 0) 0) (refused 1) [] []
    -- .. a call's own slice that is not whole (1) before 2; 2 before 3; 5 before 6; in a listing 4 before 5, and 8 before 9
    ∷ same (with (0 ∷ 55296 ∷ 0 ∷ 0 ∷ 0 ∷ []) 1 ex_nodes 1) (call_from_runs (0 ∷ [])) (refused 1) [] []
    ∷ same (with (0 ∷ 55296 ∷ 0 ∷ 0 ∷ 0 ∷ []) 1 ex_nodes 0) (call_take (fd 0 0) 0) (refused 2) [] []
    ∷ same ex (call_from_runs (0 ∷ 65536 ∷ 0 ∷ 1 ∷ [])) (refused 5) [] []
    ∷ same ex (match allOfThem (fd 4 0) one_symbol (7 ∷ 0 ∷ 1 ∷ 6 ∷ 1 ∷ []) []) (refused 4) [] []
    ∷ same lettered (match allOfThem (fd 0 0) (vars 5 22 ++ vars 6 22 ++ vars 7 21) (4 ∷ 0 ∷ 1 ∷ 0 ∷ 0 ∷ []) []) (refused 8) [] []
    ∷ []

pub worked-calls : map (λ e. step e.store e.call) worked ≡ map (λ e. e.after) worked
unfolding decode encode count whole records write spec_is_letter spec_is_digit spec_is_name_byte every identifier_text number_text variable_text text_rule lower table term_of run_of
    run_rule runs_rule is_scalar depth_k deepest bracket_rule symbol_rule term_rule_k term_rule terms_rule to_list from_list bracketed contents value_k value_of values
    canon canons heads? list? same? sames? takes_table unknown_column column takes_row row takes decided takes? node_of nil_rule cons_rule concat_rule node_rule_k
    node_rule each_node nodes_rule field_rule meaning_k meaning_of if_dec fuse_head fuse_onto fuse chain_head chain total parts spec_from_runs unclamp_k unclamp_of unclamp
    second_k plan_k plan_of plan grow plan_makes join_by join drop_k drop_of drop_plan drop_makes drop_node shrink take_field rest range place copy_at settled_at is_yes
    equal_terms starts_with item_of binding_of name_at name? find_here find add_if add names_after number element_k element binding_name item_rule_k close_rule nest_rule_k
    none_open items_rule pattern_rule binding_rule bindings_rule on_top wrap push put Ones canon_e note open_lengths Lex Before Sorted guard each bind_if bind first
    enter leave cuts finish candidates cells_of strip if_fits at_head through if_known rigid_fits ends upto when with_head if_empty take_first leave_level finish_walk
    bind_run top_level spread walk hits after_one write_hit absorb_one absorb spec_slots_in number_of terms nodes spelled shows field_terms capacity counts_rule
    store_terms store_nodes add_terms add_nodes answer_number effect_of ask even_request ask_request flat_answer flat_work match_events match_progress match_answer
    concat fill_slots given fits changed deed input room accept refuse decide step trace final same_field? model_terms entered_by entry enter_by model slots_of
    read_slots listed_runs candidates_of ℕ_discrete dec_le dec_lt vars
worked-calls = refl
