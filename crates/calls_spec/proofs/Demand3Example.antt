-- Demand 3 on one list of calls: its premises are met and what it says is seen. Two fields that hold `--`, one a run and the other a rope,
-- are listed under `e.1 '-' e.2`; the second listing settles a copy. Two fields that hold the numbers 7 and 007 are listed under `t.1`.
use Rattle.std.specs.Prelude.{◌≡◌, refl, take, replicate, ℕ}
use Rattle.std.proofs.Common.{ap}
use mathlib.Core.List.{List, [], ◌∷◌, ◌++◌, Memᴰ}
use Rattle.std.proofs.Math.ListN.{get_elem?}
use Rattle.std.proofs.Math.Decide.{ℕ_discrete, dec_le, dec_lt}
use Rattle.term_spec.specs.Words.{decode, encode, count, whole, records, write}
use Rattle.term_spec.specs.Text.{spec_is_letter, spec_is_digit, spec_is_name_byte, every, identifier_text, number_text, variable_text, text_rule, lower, stripped}
use Rattle.term_spec.specs.Table.{table}
use Rattle.term_spec.specs.Term.{term_of, run_of, run_rule, runs_rule, is_scalar, depth_k, deepest, bracket_rule, symbol_rule, term_rule_k, term_rule, terms_rule}
use Rattle.term_spec.specs.Value.{to_list, from_list, bracketed, contents, value_k, value_of, values, canon, canons, heads?, list?, same?, sames?, takes_table}
use Rattle.term_spec.specs.Value.{unknown_column, column, takes_row, row, takes, decided, takes?, is_yes}
use Rattle.view_spec.specs.Node.{node_of, nil_rule, cons_rule, concat_rule, node_rule_k, node_rule, each_node, nodes_rule, field_rule, meaning_k, meaning_of}
use Rattle.view_spec.specs.Build.{if_dec, fuse_head, fuse_onto, fuse, chain_head, chain, total, parts, spec_from_runs, unclamp_k, unclamp_of, unclamp, second_k, plan_k}
use Rattle.view_spec.specs.Build.{plan_of, plan, grow, plan_makes, join_by, join, drop_k, drop_of, drop_plan, drop_makes, drop_node, shrink, take_field, rest, range}
use Rattle.view_spec.specs.Read.{place, copy_at, settled_at, equal_terms, starts_with}
use Rattle.match_spec.specs.Pattern.{item_of, binding_of, name_at, name?, find_here, find, add_if, add, names_after, number, element_k, element, binding_name}
use Rattle.match_spec.specs.Pattern.{item_rule_k, close_rule, nest_rule_k, none_open, items_rule, pattern_rule, binding_rule, bindings_rule}
use Rattle.match_spec.specs.Element.{on_top, wrap, push, put, Ones, canon_e}
use Rattle.match_spec.specs.Consistent.{note, open_lengths, Lex, Before, Sorted}
use Rattle.match_spec.specs.Listing.{guard, each, bind_if, bind, first, enter, leave, cuts, finish, candidates}
use Rattle.match_spec.specs.Walk.{cells_of, strip, if_fits, at_head, through, if_known, rigid_fits, ends, upto, when, with_head, if_empty, take_first, leave_level}
use Rattle.match_spec.specs.Walk.{finish_walk, bind_run, top_level, spread, walk, hits}
use Rattle.match_spec.specs.Answer.{after_one, write_hit, absorb_one, absorb, spec_slots_in, number_of}
use Rattle.calls_spec.specs.Store.{terms, nodes, spelled, shows, field_terms, capacity, counts_rule, store_terms, store_nodes, add_terms, add_nodes}
use Rattle.calls_spec.specs.Step.{answer_number, effect_of, slots_of, ask, even_request, ask_request, flat_answer, flat_work, match_events, match_progress}
use Rattle.calls_spec.specs.Step.{match_answer, concat, fill_slots, given, fits, changed, deed, input, room, accept, refuse, decide, step}
use Rattle.calls_spec.specs.Demand3.{trace, final, same_field?, model_terms, entered_by, entry, enter_by, model, read_slots, listed_runs, candidates_of}
use Rattle.term_spec.specs.Value.{Value, char, num, forms}
use Rattle.view_spec.specs.Node.{Field}
use Rattle.match_spec.specs.Element.{Env}
use Rattle.match_spec.specs.Answer.{allOfThem}
use Rattle.calls_spec.specs.Store.{Store}
use Rattle.calls_spec.specs.Step.{Request, Call, call_from_runs, call_join, call_rest, call_range, call_match}
use Rattle.calls_spec.specs.Demand3.{Moment, Start, Listing, Demand3}
use Rattle.calls_spec.proofs.Demand3Laws.{demand3}

abbrev store : Store
store = record {
  names = 49 ∷ 50 ∷ 48 ∷ 48 ∷ 55 ∷ [];
  term_words = (0 ∷ 45 ∷ 0 ∷ 0 ∷ 0 ∷ []) ++ (0 ∷ 45 ∷ 0 ∷ 0 ∷ 0 ∷ [])
      ++ (2 ∷ 4 ∷ 1 ∷ 0 ∷ 0 ∷ []) ++ (2 ∷ 2 ∷ 3 ∷ 0 ∷ 0 ∷ [])
      ++ replicate 20 0;
  terms_used = 4;
  node_words = replicate 60 0;
  nodes_used = 1;
}

abbrev request : Field → List ℕ → Request
request f slots = record { field = f; pattern = (7 ∷ 0 ∷ 1 ∷ 0 ∷ []) ++ (0 ∷ 45 ∷ 0 ∷ 0 ∷ []) ++ (7 ∷ 1 ∷ 1 ∷ 0 ∷ []); bindings = []; slots = slots }

-- t.1, with one slot.
abbrev one_term : Field → Request
one_term f = record { field = f; pattern = 6 ∷ 0 ∷ 1 ∷ 0 ∷ []; bindings = []; slots = replicate 2 0 }

abbrev field : ℕ → ℕ → Field
field n l = record { node = n; len = l }

-- The run `--`; one `-`; the rope of two of these; its rest and a range of it; both listings, the second with one slot only; 7 and 007, each listed.
abbrev calls : List Call
calls =
    call_from_runs (0 ∷ 1 ∷ 1 ∷ 1 ∷ [])
    ∷ call_from_runs (1 ∷ 1 ∷ [])
    ∷ call_join (field 2 1) (field 2 1)
    ∷ call_rest (field 3 2) 1
    ∷ call_range (field 3 2) 0 1
    ∷ call_match allOfThem (request (field 1 2) (replicate 8 0))
    ∷ call_match allOfThem (request (field 3 2) (replicate 4 0))
    ∷ call_from_runs (2 ∷ 1 ∷ [])
    ∷ call_from_runs (3 ∷ 1 ∷ [])
    ∷ call_match allOfThem (one_term (field 4 1))
    ∷ call_match allOfThem (one_term (field 5 1))
    ∷ []

-- The call after the first n.
abbrev moment : ℕ → Call → Moment
moment n c = record { before = final store (take n calls); call = c; after = step (final store (take n calls)) c }

abbrev lists_run : Moment
lists_run = moment 5 (call_match allOfThem (request (field 1 2) (replicate 8 0)))

abbrev lists_rope : Moment
lists_rope = moment 6 (call_match allOfThem (request (field 3 2) (replicate 4 0)))

abbrev lists_seven : Moment
lists_seven = moment 9 (call_match allOfThem (one_term (field 4 1)))

abbrev lists_zeros : Moment
lists_zeros = moment 10 (call_match allOfThem (one_term (field 5 1)))

-- The terms 7 and 007, as spelled.
abbrev seven : List Value
seven = num (55 ∷ []) ∷ []

abbrev zeros : List Value
zeros = num (48 ∷ 48 ∷ 55 ∷ []) ∷ []

-- e.1 empty and e.2 `-`; then the other way round, for which the second listing has no slot.
abbrev first_one : Env
first_one = [] ∷ (char 45 ∷ []) ∷ []

abbrev second_one : Env
second_one = (char 45 ∷ []) ∷ [] ∷ []

-- By computation: the list starts as it should; the listings are within the rules; their candidates; the model's entries, newest first. Candidates and
-- entries have the spelling received.
record Seen : Type 0 where
  starts : Start store
  run_within : Listing (request (field 1 2) (replicate 8 0)) lists_run
  rope_within : Listing (request (field 3 2) (replicate 4 0)) lists_rope
  run-lists : candidates_of lists_run ≡ (first_one ∷ second_one ∷ [])
  rope-lists : candidates_of lists_rope ≡ (first_one ∷ [])
  seven_within : Listing (one_term (field 4 1)) lists_seven
  zeros_within : Listing (one_term (field 5 1)) lists_zeros
  seven-lists : candidates_of lists_seven ≡ ((seven ∷ []) ∷ [])
  zeros-lists : candidates_of lists_zeros ≡ ((zeros ∷ []) ∷ [])
  modelled : model [] (trace store calls)
      ≡ ((field 5 1, zeros) ∷ (field 4 1, seven) ∷ (field 3 1, char 45 ∷ []) ∷ (field 2 1, char 45 ∷ []) ∷ (field 3 2, char 45 ∷ char 45 ∷ []) ∷ (field 2 1, char 45 ∷ []) ∷
      (field 1 2, char 45 ∷ char 45 ∷ []) ∷ [])

seen : Seen
unfolding decode encode count whole records write spec_is_letter spec_is_digit spec_is_name_byte every identifier_text number_text variable_text text_rule lower stripped table term_of run_of
    run_rule runs_rule is_scalar depth_k deepest bracket_rule symbol_rule term_rule_k term_rule terms_rule to_list from_list bracketed contents value_k value_of values
    canon canons heads? list? same? sames? takes_table unknown_column column takes_row row takes decided takes? node_of nil_rule cons_rule concat_rule node_rule_k
    node_rule each_node nodes_rule field_rule meaning_k meaning_of if_dec fuse_head fuse_onto fuse chain_head chain total parts spec_from_runs unclamp_k unclamp_of unclamp
    second_k plan_k plan_of plan grow plan_makes join_by join drop_k drop_of drop_plan drop_makes drop_node shrink take_field rest range place copy_at settled_at is_yes
    equal_terms starts_with item_of binding_of name_at name? find_here find add_if add names_after number element_k element binding_name item_rule_k close_rule nest_rule_k
    none_open items_rule pattern_rule binding_rule bindings_rule on_top wrap push put Ones canon_e note open_lengths Lex Before Sorted guard each bind_if bind first
    enter leave cuts finish candidates cells_of strip if_fits at_head through if_known rigid_fits ends upto when with_head if_empty take_first leave_level finish_walk
    bind_run top_level spread walk hits after_one write_hit absorb_one absorb spec_slots_in number_of terms nodes spelled shows field_terms capacity counts_rule
    store_terms store_nodes add_terms add_nodes answer_number effect_of ask even_request ask_request flat_answer flat_work match_events match_progress match_answer
    concat fill_slots given fits changed deed input room accept refuse decide step trace final same_field? model_terms entered_by entry enter_by model slots_of
    read_slots listed_runs candidates_of ℕ_discrete dec_le dec_lt
seen = record {
  starts = record { counts = tt; good-terms = tt; good-nodes = tt; node_0_alone = refl };
  run_within = record { called = refl; within = refl };
  rope_within = record { called = refl; within = refl };
  run-lists = refl;
  rope-lists = refl;
  seven_within = record { called = refl; within = refl };
  zeros_within = record { called = refl; within = refl };
  seven-lists = refl;
  zeros-lists = refl;
  modelled = refl;
}

-- The listings are calls of the list.
run_there : Memᴰ lists_run (trace store calls)
unfolding trace final
run_there = Memᴰ.tail (Memᴰ.tail (Memᴰ.tail (Memᴰ.tail (Memᴰ.tail (Memᴰ.head refl)))))

rope_there : Memᴰ lists_rope (trace store calls)
unfolding trace final
rope_there = Memᴰ.tail (Memᴰ.tail (Memᴰ.tail (Memᴰ.tail (Memᴰ.tail (Memᴰ.tail (Memᴰ.head refl))))))

seven_there : Memᴰ lists_seven (trace store calls)
unfolding trace final
seven_there =
    Memᴰ.tail (Memᴰ.tail (Memᴰ.tail (Memᴰ.tail (Memᴰ.tail (Memᴰ.tail (Memᴰ.tail
    (Memᴰ.tail (Memᴰ.tail (Memᴰ.head refl)))))))))

zeros_there : Memᴰ lists_zeros (trace store calls)
unfolding trace final
zeros_there =
    Memᴰ.tail (Memᴰ.tail (Memᴰ.tail (Memᴰ.tail (Memᴰ.tail (Memᴰ.tail (Memᴰ.tail
    (Memᴰ.tail (Memᴰ.tail (Memᴰ.tail (Memᴰ.head refl))))))))))

holds : Demand3 store calls
holds = demand3 store calls seen.starts

-- What the theorem says of these: the first candidates agree, so the fields hold equal terms.
fields_agree : forms (field_terms (final store calls) (field 1 2)) ≡ forms (field_terms (final store calls) (field 3 2))
fields_agree =
    ((holds.agree lists_run lists_rope (field 1 2) (field 3 2) ((7 ∷ 0 ∷ 1 ∷ 0 ∷ []) ++ (0 ∷ 45 ∷ 0 ∷ 0 ∷ []) ++ (7 ∷ 1 ∷ 1 ∷ 0 ∷ [])) [] (replicate 8 0)
    (replicate 4 0)
    run_there rope_there seen.run_within seen.rope_within 0 0 first_one first_one
    (ap (λ l. get_elem? l 0) seen.run-lists) (ap (λ l. get_elem? l 0) seen.rope-lists)).0 refl).0

-- The model goes by spelling, listings by equality: the entries of 7 and 007 differ (`modelled`), and their candidates are equal, so the fields hold
-- equal terms.
numbers_agree : forms (field_terms (final store calls) (field 4 1)) ≡ forms (field_terms (final store calls) (field 5 1))
unfolding canon stripped
numbers_agree =
    ((holds.agree lists_seven lists_zeros (field 4 1) (field 5 1) (6 ∷ 0 ∷ 1 ∷ 0 ∷ []) [] (replicate 2 0) (replicate 2 0)
    seven_there zeros_there seen.seven_within seen.zeros_within 0 0 (seven ∷ []) (zeros ∷ [])
    (ap (λ l. get_elem? l 0) seen.seven-lists) (ap (λ l. get_elem? l 0) seen.zeros-lists)).0 refl).0
