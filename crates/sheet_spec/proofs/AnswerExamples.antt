-- What the program prints, by computation: 01's example, a text that is no sheet, and 15 with its candidates.
use Rattle.std.specs.Prelude.{◌≡◌, refl, List, [], ◌∷◌, ◌++◌, take, drop, replicate, ℕ, suc, zero}
use Rattle.std.proofs.Math.Option.{some}
use Rattle.term_spec.specs.Words.{decode, encode, count, whole, records, write}
use Rattle.term_spec.specs.Text.{spec_is_letter, spec_is_digit, spec_is_name_byte, every, identifier_text, number_text, variable_text, text_rule, lower}
use Rattle.term_spec.specs.Table.{table}
use Rattle.term_spec.specs.Term.{term_of, run_of, run_rule, runs_rule, is_scalar, depth_k, deepest}
use Rattle.term_spec.specs.Term.{bracket_rule, symbol_rule, term_rule_k, term_rule, terms_rule}
use Rattle.term_spec.specs.Value.{to_list, from_list, bracketed, contents, value_k, value_of, values, canon, canons, heads?, list?, same?, sames?, takes_table}
use Rattle.term_spec.specs.Value.{unknown_column, column, takes_row, row, takes, decided, takes?, is_yes}
use Rattle.view_spec.specs.Node.{node_of, nil_rule, cons_rule, concat_rule, node_rule_k, node_rule, each_node, nodes_rule, field_rule, meaning_k, meaning_of}
use Rattle.view_spec.specs.Build.{if_dec, fuse_head, fuse_onto, fuse, chain_head, chain, total, parts}
use Rattle.view_spec.specs.Build.{spec_from_runs, unclamp_k, unclamp_of, unclamp, second_k, plan_k}
use Rattle.view_spec.specs.Build.{plan_of, plan, grow, plan_makes, join_by, join, drop_k, drop_of}
use Rattle.view_spec.specs.Build.{drop_plan, drop_makes, drop_node, shrink, take_field, rest, range}
use Rattle.view_spec.specs.Read.{place, copy_at, settled_at, equal_terms, starts_with}
use Rattle.match_spec.specs.Pattern.{item_of, binding_of, name_at, name?, find_here, find, add_if, add, names_after, number, element_k, element, binding_name}
use Rattle.match_spec.specs.Pattern.{item_rule_k, close_rule, nest_rule_k, none_open, items_rule, pattern_rule, binding_rule, bindings_rule}
use Rattle.match_spec.specs.Element.{on_top, wrap, push, put, Ones, canon_e}
use Rattle.match_spec.specs.Consistent.{note, open_lengths, Lex, Before, Sorted}
use Rattle.match_spec.specs.Listing.{guard, each, bind_if, bind, first, enter, leave, cuts, finish, candidates}
use Rattle.match_spec.specs.Walk.{cells_of, strip, if_fits, at_head, through, if_known, rigid_fits}
use Rattle.match_spec.specs.Walk.{ends, upto, when, with_head, if_empty, take_first, leave_level}
use Rattle.match_spec.specs.Walk.{finish_walk, bind_run, top_level, spread, walk, hits}
use Rattle.match_spec.specs.Answer.{after_one, write_hit, absorb_one, absorb, spec_slots_in, number_of}
use Rattle.calls_spec.specs.Store.{terms, nodes, spelled, shows, field_terms, capacity, counts_rule, store_terms, store_nodes, add_terms, add_nodes}
use Rattle.calls_spec.specs.Step.{spec_name_count, names_rule, answer_number, effect_of, slots_of, ask}
use Rattle.calls_spec.specs.Step.{even_request, ask_request, flat_answer, flat_work, match_events}
use Rattle.calls_spec.specs.Step.{match_progress, match_answer, concat, fill_slots, given, fits, changed, deed, input, room, accept, refuse, decide, step}
use Rattle.std.proofs.Math.Decide.{ℕ_discrete, dec_le, dec_lt}
use Rattle.sheet_spec.specs.Sheet.{Sheet, columns, leading, line, limits, digit, space, byte, scan, shown_number, number_at, numbers_ok, zeros_ok, spec_line_ok}
use Rattle.sheet_spec.specs.Sheet.{spec_lines_ok, numbers_at, words_at, counts_at, head_rule, body_rule, sheet_at, spec_read_sheet}
use Rattle.sheet_spec.specs.Sheet.{column as spec_column_of}
use Rattle.sheet_spec.specs.Job.{padded, lent_store, lent_request, refusal_text, entry_lines, listing_text, match_on, match_text, job_text, answer_text}
use Rattle.sheet_spec.proofs.SheetExamples.{one, two, newline, example_text}

-- Ten columns with three digits.
abbrev three : ℕ → ℕ → ℕ → List ℕ
three a b c = 32 ∷ 32 ∷ 32 ∷ 32 ∷ 32 ∷ 32 ∷ 32 ∷ a ∷ b ∷ c ∷ []

-- 01's five lines.
pub example-answer : answer_text example_text
    ≡ (one 48 ++ one 50 ++ one 50 ++ one 48 ++ newline)
    ++ (one 49 ++ one 49 ++ one 48 ++ one 48 ++ newline)
    ++ (one 49 ++ one 50 ++ one 49 ++ one 49 ++ newline)
    ++ (one 50 ++ one 49 ++ one 48 ++ one 49 ++ newline)
    ++ (one 50 ++ one 50 ++ one 50 ++ one 48 ++ newline)
unfolding decode encode count whole records write spec_is_letter spec_is_digit spec_is_name_byte every identifier_text number_text variable_text text_rule lower
    table term_of run_of run_rule runs_rule is_scalar depth_k deepest bracket_rule symbol_rule term_rule_k term_rule terms_rule to_list from_list bracketed
    contents value_k value_of values canon canons heads? list? same? sames? takes_table unknown_column column takes_row row takes decided takes? node_of
    nil_rule cons_rule concat_rule node_rule_k node_rule each_node nodes_rule field_rule meaning_k meaning_of if_dec fuse_head fuse_onto fuse chain_head chain
    total parts spec_from_runs unclamp_k unclamp_of unclamp second_k plan_k plan_of plan grow plan_makes join_by join drop_k drop_of drop_plan drop_makes
    drop_node shrink take_field rest range place copy_at settled_at is_yes equal_terms starts_with item_of binding_of name_at name? find_here find add_if add
    names_after number element_k element binding_name item_rule_k close_rule nest_rule_k none_open items_rule pattern_rule binding_rule bindings_rule on_top
    wrap push put Ones canon_e note open_lengths Lex Before Sorted guard each bind_if bind first enter leave cuts finish candidates cells_of strip if_fits
    at_head through if_known rigid_fits ends upto when with_head if_empty take_first leave_level finish_walk bind_run top_level spread walk hits after_one
    write_hit absorb_one absorb spec_slots_in number_of terms nodes spelled shows field_terms capacity counts_rule store_terms store_nodes add_terms add_nodes
    answer_number effect_of slots_of ask even_request ask_request flat_answer flat_work match_events match_progress match_answer concat fill_slots given fits
    changed deed input room accept refuse decide step ℕ_discrete dec_le dec_lt columns leading spec_column_of line limits digit space byte scan shown_number
    number_at numbers_ok zeros_ok spec_line_ok spec_lines_ok numbers_at words_at counts_at head_rule body_rule sheet_at spec_read_sheet padded lent_store
    spec_name_count names_rule lent_request refusal_text entry_lines listing_text match_on match_text job_text answer_text
example-answer = refl

-- `e.1 e.2` on sixteen terms has seventeen candidates, and sixteen have slots.
abbrev pub many_sheet : Sheet
many_sheet = record {
  terms = replicate 80 0;
  names = 49 ∷ 50 ∷ [];
  pattern = 7 ∷ 0 ∷ 1 ∷ 0 ∷ 7 ∷ 1 ∷ 1 ∷ 0 ∷ [];
  runs = 0 ∷ 16 ∷ [];
}

-- A text that is no sheet.
pub bad-answer : answer_text [] ≡ two 49 54 ++ one 48 ++ one 48 ++ one 48 ++ newline
unfolding spec_is_digit columns leading spec_column_of line limits digit space byte scan shown_number number_at numbers_ok spec_line_ok counts_at head_rule
    spec_read_sheet refusal_text job_text answer_text
bad-answer = refl

-- 15, with sixteen candidates: the first two of them, and the last line of 33.
pub many_answer : take 205 (job_text (some many_sheet)) ++ drop 1312 (job_text (some many_sheet))
    ≡ (two 49 53 ++ two 49 54 ++ one 50 ++ one 48 ++ newline)
    ++ (one 49 ++ one 49 ++ one 48 ++ one 48 ++ newline)
    ++ (one 49 ++ one 50 ++ one 48 ++ two 49 54 ++ newline)
    ++ (one 50 ++ one 49 ++ one 48 ++ one 49 ++ newline)
    ++ (one 50 ++ one 50 ++ one 49 ++ two 49 53 ++ newline)
    ++ (two 49 54 ++ one 50 ++ two 49 53 ++ one 49 ++ newline)
unfolding decode encode count whole records write spec_is_letter spec_is_digit spec_is_name_byte every identifier_text number_text variable_text text_rule lower
    table term_of run_of run_rule runs_rule is_scalar depth_k deepest bracket_rule symbol_rule term_rule_k term_rule terms_rule to_list from_list bracketed
    contents value_k value_of values canon canons heads? list? same? sames? takes_table unknown_column column takes_row row takes decided takes? node_of
    nil_rule cons_rule concat_rule node_rule_k node_rule each_node nodes_rule field_rule meaning_k meaning_of if_dec fuse_head fuse_onto fuse chain_head chain
    total parts spec_from_runs unclamp_k unclamp_of unclamp second_k plan_k plan_of plan grow plan_makes join_by join drop_k drop_of drop_plan drop_makes
    drop_node shrink take_field rest range place copy_at settled_at is_yes equal_terms starts_with item_of binding_of name_at name? find_here find add_if add
    names_after number element_k element binding_name item_rule_k close_rule nest_rule_k none_open items_rule pattern_rule binding_rule bindings_rule on_top
    wrap push put Ones canon_e note open_lengths Lex Before Sorted guard each bind_if bind first enter leave cuts finish candidates cells_of strip if_fits
    at_head through if_known rigid_fits ends upto when with_head if_empty take_first leave_level finish_walk bind_run top_level spread walk hits after_one
    write_hit absorb_one absorb spec_slots_in number_of terms nodes spelled shows field_terms capacity counts_rule store_terms store_nodes add_terms add_nodes
    answer_number effect_of slots_of ask even_request ask_request flat_answer flat_work match_events match_progress match_answer concat fill_slots given fits
    changed deed input room accept refuse decide step ℕ_discrete dec_le dec_lt columns leading spec_column_of line limits digit space byte scan shown_number
    number_at numbers_ok zeros_ok spec_line_ok spec_lines_ok numbers_at words_at counts_at head_rule body_rule sheet_at spec_read_sheet padded lent_store
    spec_name_count names_rule lent_request refusal_text entry_lines listing_text match_on match_text job_text answer_text
many_answer = refl

-- ---- what the sheet lends is just enough ----

-- The words of so many terms `a`.
unfoldable pub letters : ℕ → List ℕ
letters zero = []
letters (suc n) = 0 ∷ 97 ∷ 0 ∷ 0 ∷ 0 ∷ letters n

-- So many runs of term 0 alone, none of which fuses with the next.
unfoldable pub apart : ℕ → List ℕ
apart zero = []
apart (suc n) = 0 ∷ 1 ∷ apart n

-- `e.1` on so many terms.
abbrev pub whole_sheet : ℕ → List ℕ → Sheet
whole_sheet n runs = record { terms = letters n; names = 49 ∷ []; pattern = 7 ∷ 0 ∷ 1 ∷ 0 ∷ []; runs = runs }

-- 64 runs make 64 nodes beside node 0.
pub runs_taken : job_text (some (whole_sheet 1 (apart 64)))
    ≡ (one 48 ++ one 49 ++ one 49 ++ one 48 ++ newline)
    ++ (one 49 ++ one 49 ++ one 49 ++ two 54 52 ++ newline)
unfolding decode encode count whole records write spec_is_letter spec_is_digit spec_is_name_byte every identifier_text number_text variable_text text_rule lower
    table term_of run_of run_rule runs_rule is_scalar depth_k deepest bracket_rule symbol_rule term_rule_k term_rule terms_rule to_list from_list bracketed
    contents value_k value_of values canon canons heads? list? same? sames? takes_table unknown_column column takes_row row takes decided takes? node_of
    nil_rule cons_rule concat_rule node_rule_k node_rule each_node nodes_rule field_rule meaning_k meaning_of if_dec fuse_head fuse_onto fuse chain_head chain
    total parts spec_from_runs unclamp_k unclamp_of unclamp second_k plan_k plan_of plan grow plan_makes join_by join drop_k drop_of drop_plan drop_makes
    drop_node shrink take_field rest range place copy_at settled_at is_yes equal_terms starts_with item_of binding_of name_at name? find_here find add_if add
    names_after number element_k element binding_name item_rule_k close_rule nest_rule_k none_open items_rule pattern_rule binding_rule bindings_rule on_top
    wrap push put Ones canon_e note open_lengths Lex Before Sorted guard each bind_if bind first enter leave cuts finish candidates cells_of strip if_fits
    at_head through if_known rigid_fits ends upto when with_head if_empty take_first leave_level finish_walk bind_run top_level spread walk hits after_one
    write_hit absorb_one absorb spec_slots_in number_of terms nodes spelled shows field_terms capacity counts_rule store_terms store_nodes add_terms add_nodes
    answer_number effect_of slots_of ask even_request ask_request flat_answer flat_work match_events match_progress match_answer concat fill_slots given fits
    changed deed input room accept refuse decide step ℕ_discrete dec_le dec_lt columns leading spec_column_of line limits digit space byte scan shown_number
    number_at numbers_ok zeros_ok spec_line_ok spec_lines_ok numbers_at words_at counts_at head_rule body_rule sheet_at spec_read_sheet padded lent_store
    spec_name_count names_rule lent_request refusal_text entry_lines listing_text match_on match_text job_text answer_text letters apart
runs_taken = refl

-- Beside 512 terms there is room for a settled copy of 512, ..
pub copy-taken : job_text (some (whole_sheet 512 (0 ∷ 256 ∷ 0 ∷ 256 ∷ [])))
    ≡ (one 48 ++ one 49 ++ one 49 ++ one 48 ++ newline)
    ++ (one 49 ++ one 49 ++ three 53 49 50 ++ three 53 49 50 ++ newline)
unfolding decode encode count whole records write spec_is_letter spec_is_digit spec_is_name_byte every identifier_text number_text variable_text text_rule lower
    table term_of run_of run_rule runs_rule is_scalar depth_k deepest bracket_rule symbol_rule term_rule_k term_rule terms_rule to_list from_list bracketed
    contents value_k value_of values canon canons heads? list? same? sames? takes_table unknown_column column takes_row row takes decided takes? node_of
    nil_rule cons_rule concat_rule node_rule_k node_rule each_node nodes_rule field_rule meaning_k meaning_of if_dec fuse_head fuse_onto fuse chain_head chain
    total parts spec_from_runs unclamp_k unclamp_of unclamp second_k plan_k plan_of plan grow plan_makes join_by join drop_k drop_of drop_plan drop_makes
    drop_node shrink take_field rest range place copy_at settled_at is_yes equal_terms starts_with item_of binding_of name_at name? find_here find add_if add
    names_after number element_k element binding_name item_rule_k close_rule nest_rule_k none_open items_rule pattern_rule binding_rule bindings_rule on_top
    wrap push put Ones canon_e note open_lengths Lex Before Sorted guard each bind_if bind first enter leave cuts finish candidates cells_of strip if_fits
    at_head through if_known rigid_fits ends upto when with_head if_empty take_first leave_level finish_walk bind_run top_level spread walk hits after_one
    write_hit absorb_one absorb spec_slots_in number_of terms nodes spelled shows field_terms capacity counts_rule store_terms store_nodes add_terms add_nodes
    answer_number effect_of slots_of ask even_request ask_request flat_answer flat_work match_events match_progress match_answer concat fill_slots given fits
    changed deed input room accept refuse decide step ℕ_discrete dec_le dec_lt columns leading spec_column_of line limits digit space byte scan shown_number
    number_at numbers_ok zeros_ok spec_line_ok spec_lines_ok numbers_at words_at counts_at head_rule body_rule sheet_at spec_read_sheet padded lent_store
    spec_name_count names_rule lent_request refusal_text entry_lines listing_text match_on match_text job_text answer_text letters apart
copy-taken = refl

-- .. and none for one more: 13.
pub copy-refused : job_text (some (whole_sheet 512 (0 ∷ 512 ∷ 0 ∷ 1 ∷ []))) ≡ two 49 51 ++ one 48 ++ one 48 ++ one 48 ++ newline
unfolding decode encode count whole records write spec_is_letter spec_is_digit spec_is_name_byte every identifier_text number_text variable_text text_rule lower
    table term_of run_of run_rule runs_rule is_scalar depth_k deepest bracket_rule symbol_rule term_rule_k term_rule terms_rule to_list from_list bracketed
    contents value_k value_of values canon canons heads? list? same? sames? takes_table unknown_column column takes_row row takes decided takes? node_of
    nil_rule cons_rule concat_rule node_rule_k node_rule each_node nodes_rule field_rule meaning_k meaning_of if_dec fuse_head fuse_onto fuse chain_head chain
    total parts spec_from_runs unclamp_k unclamp_of unclamp second_k plan_k plan_of plan grow plan_makes join_by join drop_k drop_of drop_plan drop_makes
    drop_node shrink take_field rest range place copy_at settled_at is_yes equal_terms starts_with item_of binding_of name_at name? find_here find add_if add
    names_after number element_k element binding_name item_rule_k close_rule nest_rule_k none_open items_rule pattern_rule binding_rule bindings_rule on_top
    wrap push put Ones canon_e note open_lengths Lex Before Sorted guard each bind_if bind first enter leave cuts finish candidates cells_of strip if_fits
    at_head through if_known rigid_fits ends upto when with_head if_empty take_first leave_level finish_walk bind_run top_level spread walk hits after_one
    write_hit absorb_one absorb spec_slots_in number_of terms nodes spelled shows field_terms capacity counts_rule store_terms store_nodes add_terms add_nodes
    answer_number effect_of slots_of ask even_request ask_request flat_answer flat_work match_events match_progress match_answer concat fill_slots given fits
    changed deed input room accept refuse decide step ℕ_discrete dec_le dec_lt columns leading spec_column_of line limits digit space byte scan shown_number
    number_at numbers_ok zeros_ok spec_line_ok spec_lines_ok numbers_at words_at counts_at head_rule body_rule sheet_at spec_read_sheet padded lent_store
    spec_name_count names_rule lent_request refusal_text entry_lines listing_text match_on match_text job_text answer_text letters apart
copy-refused = refl
