-- 01's starred trial messages as one table, that of 007 as 02 amends it, and one computed test over the definitions: each row is run on lent
-- words, from_runs and then the listing, with the texts of names, identifiers and numbers.
use Rattle.std.specs.Prelude.{◌≡◌, refl, List, [], ◌∷◌, ◌++◌, map, replicate, ℕ}
use Rattle.std.proofs.Math.Decide.{ℕ_discrete, dec_le, dec_lt}
use Rattle.term_spec.specs.Words.{decode, encode, count, whole, records, write}
use Rattle.term_spec.specs.Text.{spec_is_letter, spec_is_digit, spec_is_name_byte, every, identifier_text, number_text, variable_text, text_rule, lower, stripped}
use Rattle.term_spec.specs.Table.{table}
use Rattle.term_spec.specs.Term.{term_of, run_of, run_rule, runs_rule, is_scalar, depth_k, deepest, bracket_rule, symbol_rule, term_rule_k, term_rule, terms_rule}
use Rattle.term_spec.specs.Value.{to_list, from_list, bracketed, contents, value_k, value_of, values, canon, canons, heads?, list?, same?, sames?, takes_table}
use Rattle.term_spec.specs.Value.{unknown_column, column, takes_row, row, takes, decided, takes?, is_yes}
use Rattle.view_spec.specs.Node.{node_of, nil_rule, cons_rule, concat_rule, node_rule_k, node_rule, each_node, nodes_rule, field_rule, meaning_k, meaning_of}
use Rattle.view_spec.specs.Build.{if_dec, fuse_head, fuse_onto, fuse, chain_head, chain, total, parts, spec_from_runs, unclamp_k, unclamp_of, unclamp, second_k, plan_k}
use Rattle.view_spec.specs.Build.{plan_of, plan, grow, plan_makes, join_by, join, drop_k, drop_of, drop_plan, drop_makes, drop_node, shrink, take_field, rest, range}
use Rattle.view_spec.specs.Read.{place, copy_at, settled_at, equal_terms, starts_with}
use Rattle.match_spec.specs.Pattern.{item_of, binding_of, name_at, name?, find_here, find, add_if, add, names_after, number, element_k, element, binding_name}
use Rattle.match_spec.specs.Pattern.{item_rule_k, close_rule, nest_rule_k, none_open, items_rule, pattern_rule, binding_rule, bindings_rule}
use Rattle.match_spec.specs.Element.{on_top, wrap, push, put, Ones, canon_e}
use Rattle.match_spec.specs.Consistent.{note, open_lengths, Lex, Before, Sorted}
use Rattle.match_spec.specs.Listing.{guard, each, bind_if, bind, first, enter, leave, cuts, finish, candidates}
use Rattle.match_spec.specs.Walk.{cells_of, strip, if_fits, at_head, through, if_known, rigid_fits, ends, upto, when, with_head, if_empty, take_first, leave_level}
use Rattle.match_spec.specs.Walk.{finish_walk, bind_run, top_level, spread, walk, hits}
use Rattle.match_spec.specs.Answer.{after_one, write_hit, absorb_one, absorb, spec_slots_in, number_of}
use Rattle.calls_spec.specs.Store.{terms, nodes, spelled, shows, field_terms, capacity, counts_rule, store_terms, store_nodes, add_terms, add_nodes}
use Rattle.calls_spec.specs.Step.{answer_number, effect_of, slots_of, ask, even_request, ask_request, flat_answer, flat_work, match_events, match_progress}
use Rattle.calls_spec.specs.Step.{match_answer, concat, fill_slots, given, fits, changed, deed, input, room, accept, refuse, decide, step}
use Rattle.calls_spec.specs.Demand3.{trace, final, same_field?, model_terms, entered_by, entry, enter_by, model, read_slots, listed_runs, candidates_of}
use Rattle.term_spec.specs.Value.{char, num, unknown}
use Rattle.view_spec.specs.Node.{Field, empty_field}
use Rattle.match_spec.specs.Element.{Env}
use Rattle.match_spec.specs.Answer.{allOfThem}
use Rattle.calls_spec.specs.Store.{Store}
use Rattle.calls_spec.specs.Step.{call_from_runs, call_match, Effect, quiet, making, After}
use Rattle.calls_spec.specs.Demand3.{Moment}

-- The names `12XxA007`, and a store of terms for every row.
abbrev pub row_names : List ℕ
row_names = 49 ∷ 50 ∷ 88 ∷ 120 ∷ 65 ∷ 48 ∷ 48 ∷ 55 ∷ []

abbrev pub row_terms : List ℕ
row_terms =
    (0 ∷ 97 ∷ 0 ∷ 0 ∷ 0 ∷ [])  -- 0: a
    ++ (0 ∷ 97 ∷ 0 ∷ 0 ∷ 0 ∷ [])  -- 1: a
    ++ (0 ∷ 97 ∷ 0 ∷ 0 ∷ 0 ∷ [])  -- 2: a
    ++ (0 ∷ 98 ∷ 0 ∷ 0 ∷ 0 ∷ [])  -- 3: b
    ++ (0 ∷ 45 ∷ 0 ∷ 0 ∷ 0 ∷ [])  -- 4: -
    ++ (0 ∷ 45 ∷ 0 ∷ 0 ∷ 0 ∷ [])  -- 5: -
    ++ (3 ∷ 0 ∷ 1 ∷ 1 ∷ 0 ∷ [])  -- 6: (a)
    ++ (3 ∷ 0 ∷ 0 ∷ 1 ∷ 0 ∷ [])  -- 7: ()
    ++ (0 ∷ 121 ∷ 0 ∷ 0 ∷ 0 ∷ [])  -- 8: y
    ++ (4 ∷ 0 ∷ 0 ∷ 1 ∷ 0 ∷ [])  -- 9: a symbol unknown
    ++ (4 ∷ 1 ∷ 0 ∷ 1 ∷ 0 ∷ [])  -- 10: a term unknown
    ++ (4 ∷ 2 ∷ 0 ∷ 1 ∷ 0 ∷ [])  -- 11: an expression unknown
    ++ (2 ∷ 5 ∷ 3 ∷ 0 ∷ 0 ∷ [])  -- 12: the number 007
    ++ (2 ∷ 7 ∷ 1 ∷ 0 ∷ 0 ∷ [])  -- 13: the number 7
    ++ (4 ∷ 0 ∷ 5 ∷ 1 ∷ 0 ∷ [])  -- 14: a symbol unknown of level 5
    ++ (4 ∷ 0 ∷ 5 ∷ 1 ∷ 1 ∷ [])  -- 15: one of level 4,294,967,301
    ++ (4 ∷ 0 ∷ 5 ∷ 1 ∷ 1 ∷ [])  -- 16: the same

abbrev pub row_store : Store
row_store = record { names = row_names; term_words = row_terms; terms_used = 17; node_words = replicate 24 0; nodes_used = 1 }

-- Pattern records.
abbrev pub symbol_var : ℕ → List ℕ
symbol_var o = 5 ∷ o ∷ 1 ∷ 0 ∷ []

abbrev pub term_var : ℕ → List ℕ
term_var o = 6 ∷ o ∷ 1 ∷ 0 ∷ []

abbrev pub expr_var : ℕ → List ℕ
expr_var o = 7 ∷ o ∷ 1 ∷ 0 ∷ []

abbrev pub letter : ℕ → List ℕ
letter c = 0 ∷ c ∷ 0 ∷ 0 ∷ []

abbrev pub a_call : List ℕ
a_call = 8 ∷ 0 ∷ 0 ∷ 0 ∷ []

-- One row of the table: the pattern, the field's runs, 01's number, and the candidates, each entry by its terms.
pub record Trial : Type 0 where
  pub pattern : List ℕ
  pub runs : List ℕ
  pub number : ℕ
  pub candidates : List Env

abbrev pub trial : List ℕ → List ℕ → ℕ → List Env → Trial
trial p f n l = record { pattern = p; runs = f; number = n; candidates = l }

abbrev pub trials : List Trial
trials =
    -- the empty pattern on nothing, and on a
    trial [] [] 0 ([] ∷ [])
    ∷ trial [] (0 ∷ 1 ∷ []) 10 []
    -- e.1 on nothing
    ∷ trial (expr_var 0) [] 0 (([] ∷ []) ∷ [])
    -- e.1 '-' e.2 on --
    ∷ trial (expr_var 0 ++ letter 45 ++ expr_var 1) (4 ∷ 2 ∷ []) 0 (([] ∷ (char 45 ∷ []) ∷ []) ∷ ((char 45 ∷ []) ∷ [] ∷ []) ∷ [])
    -- e.X e.x on aa, and on aaa
    ∷ trial (expr_var 2 ++ expr_var 3) (0 ∷ 2 ∷ []) 0 (((char 97 ∷ []) ∷ []) ∷ [])
    ∷ trial (expr_var 2 ++ expr_var 3) (0 ∷ 3 ∷ []) 10 []
    -- s.1 and t.1 on (a)
    ∷ trial (symbol_var 0) (6 ∷ 1 ∷ []) 10 []
    ∷ trial (term_var 0) (6 ∷ 1 ∷ []) 0 (((bracketed (char 97 ∷ []) ∷ []) ∷ []) ∷ [])
    -- s.1 on a term unknown, and on a symbol unknown
    ∷ trial (symbol_var 0) (10 ∷ 1 ∷ []) 10 []
    ∷ trial (symbol_var 0) (9 ∷ 1 ∷ []) 0 (((unknown 0 0 0 1 ∷ []) ∷ []) ∷ [])
    -- t.1 and e.1 on an expression unknown
    ∷ trial (term_var 0) (11 ∷ 1 ∷ []) 10 []
    ∷ trial (expr_var 0) (11 ∷ 1 ∷ []) 0 (((unknown 2 0 0 1 ∷ []) ∷ []) ∷ [])
    -- s.1 s.1 on unknowns of one level, and of two levels with the same lower half
    ∷ trial (symbol_var 0 ++ symbol_var 0) (15 ∷ 2 ∷ []) 0 (((unknown 0 5 1 1 ∷ []) ∷ []) ∷ [])
    ∷ trial (symbol_var 0 ++ symbol_var 0) (14 ∷ 2 ∷ []) 10 []
    -- the number 7 on 007: 10 by document 01, a match since numbers compare as numbers (02: 2.9)
    ∷ trial (2 ∷ 7 ∷ 1 ∷ 0 ∷ []) (12 ∷ 1 ∷ []) 0 ([] ∷ [])
    -- s.1 s.1 on 007 7: the first occurrence gives the entry, with the spelling received
    ∷ trial (symbol_var 0 ++ symbol_var 0) (12 ∷ 2 ∷ []) 0 (((num (48 ∷ 48 ∷ 55 ∷ []) ∷ []) ∷ []) ∷ [])
    -- s.A e.A on ab
    ∷ trial (symbol_var 4 ++ expr_var 4) (2 ∷ 2 ∷ []) 0 (((char 97 ∷ []) ∷ (char 98 ∷ []) ∷ []) ∷ [])
    -- 'a' <F> on b, and on a
    ∷ trial (letter 97 ++ a_call) (3 ∷ 1 ∷ []) 10 []
    ∷ trial (letter 97 ++ a_call) (0 ∷ 1 ∷ []) 11 []
    -- e.1 (<F>) 'x' on () y
    ∷ trial (expr_var 0 ++ (3 ∷ 3 ∷ 0 ∷ 0 ∷ []) ++ a_call ++ (4 ∷ 1 ∷ 0 ∷ 0 ∷ []) ++ letter 120) (7 ∷ 2 ∷ []) 10 []
    ∷ []

-- The field that a call answered.
unfoldable pub field_of : Effect → Field
field_of quiet = empty_field
field_of (making f) = f

abbrev pub Outcome : Type 0
Outcome = ℕ × List Env

-- The listing's number and candidates, read from sixteen slots' worth of words, on the stores that from_runs left.
unfoldable pub list_on : After → List ℕ → Outcome
list_on made p =
    let c = call_match allOfThem (record { field = field_of (effect_of made.answer); pattern = p; bindings = []; slots = replicate 32 0 }) in
    let m : Moment = record { before = made.store; call = c; after = step made.store c } in
    (answer_number m.after.answer, candidates_of m)

unfoldable pub run : Trial → Outcome
run r = list_on (step row_store (call_from_runs r.runs)) r.pattern

abbrev pub expected : Trial → Outcome
expected r = (r.number, r.candidates)

pub starred_rows : map run trials ≡ map expected trials
unfolding decode encode count whole records write spec_is_letter spec_is_digit spec_is_name_byte every identifier_text number_text variable_text text_rule lower stripped table term_of run_of
    run_rule runs_rule is_scalar depth_k deepest bracket_rule symbol_rule term_rule_k term_rule terms_rule to_list from_list bracketed contents value_k value_of values
    canon canons heads? list? same? sames? takes_table unknown_column column takes_row row takes decided takes? node_of nil_rule cons_rule concat_rule node_rule_k
    node_rule each_node nodes_rule field_rule meaning_k meaning_of if_dec fuse_head fuse_onto fuse chain_head chain total parts spec_from_runs unclamp_k unclamp_of unclamp
    second_k plan_k plan_of plan grow plan_makes join_by join drop_k drop_of drop_plan drop_makes drop_node shrink take_field rest range place copy_at settled_at is_yes
    equal_terms starts_with item_of binding_of name_at name? find_here find add_if add names_after number element_k element binding_name item_rule_k close_rule nest_rule_k
    none_open items_rule pattern_rule binding_rule bindings_rule on_top wrap push put Ones canon_e note open_lengths Lex Before Sorted guard each bind_if bind first
    enter leave cuts finish candidates cells_of strip if_fits at_head through if_known rigid_fits ends upto when with_head if_empty take_first leave_level finish_walk
    bind_run top_level spread walk hits after_one write_hit absorb_one absorb spec_slots_in number_of terms nodes spelled shows field_terms capacity counts_rule
    store_terms store_nodes add_terms add_nodes answer_number effect_of ask even_request ask_request flat_answer flat_work match_events match_progress match_answer
    concat fill_slots given fits changed deed input room accept refuse decide step trace final same_field? model_terms entered_by entry enter_by model slots_of
    read_slots listed_runs candidates_of ℕ_discrete dec_le dec_lt field_of list_on run
starred_rows = refl
