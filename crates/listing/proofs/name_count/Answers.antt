-- One law of the count for each exit.
use Rattle.std.proofs.Common.{rules, [], sym, ◌∙◌}
use Rattle.term_spec.proofs.BoolLaws.{true-T}
use Rattle.view_spec.specs.Node.{empty_field}
use Rattle.view.specs.Check.{store_of}
use Rattle.listing.specs.Match.{request_of}
use Rattle.listing.specs.RefusalLaws.{even_short}
use Rattle.listing.specs.ListLaws.{start_many}
use Rattle.listing.specs.CountLaws.{count-uneven, count_pattern, count-bindings, count_many, count_told}
use Rattle.listing.proofs.name_count.Goals as goal

pub returns-then-not-request_even : goal.returns-then-not-request_even
returns-then-not-request_even c = count-uneven _ _ _ (sym c.request_even.ensures ∙ c.if-not-request_even.true)

pub pattern_ok-requires : goal.pattern_ok-requires
pattern_ok-requires c = even_short _ _ (sym c.request_even.ensures ∙ c.if-not-request_even.false)

pub returns-then-not-pattern_ok : goal.returns-then-not-pattern_ok
returns-then-not-pattern_ok c =
    count_pattern _ _ _ (sym c.request_even.ensures ∙ c.if-not-request_even.false) (sym c.pattern_ok.ensures ∙ c.if-not-pattern_ok.true)

pub returns-then-not-bindings_ok : goal.returns-then-not-bindings_ok
returns-then-not-bindings_ok c =
    count-bindings _ _ _ (sym c.request_even.ensures ∙ c.if-not-request_even.false) (sym c.pattern_ok.ensures ∙ c.if-not-pattern_ok.false)
    (sym c.bindings_ok.ensures ∙ c.if-not-bindings_ok.true)

pub returns-then-given-gt-NAME_LIMIT : goal.returns-then-given-gt-NAME_LIMIT
returns-then-given-gt-NAME_LIMIT c =
    count_many _ _ _ (sym c.request_even.ensures ∙ c.if-not-request_even.false) (sym c.pattern_ok.ensures ∙ c.if-not-pattern_ok.false)
    (sym c.bindings_ok.ensures ∙ c.if-not-bindings_ok.false)
    (start_many (store_of _ [] 0 [] 0) (request_of empty_field _ _ []) c.if-given-gt-NAME_LIMIT.true)

pub number_names-requires : goal.number_names-requires
number_names-requires c = record {
  room = (even_short _ _ (sym c.request_even.ensures ∙ c.if-not-request_even.false), search rules, search rules);
  rules = (
    true-T _ (sym c.pattern_ok.ensures ∙ c.if-not-pattern_ok.false),
    true-T _ (sym c.bindings_ok.ensures ∙ c.if-not-bindings_ok.false),
  );
}

pub returns : goal.returns
returns c =
    c.unwrap_or.ensures
    ∙ count_told _ _ _ (sym c.request_even.ensures ∙ c.if-not-request_even.false) (sym c.pattern_ok.ensures ∙ c.if-not-pattern_ok.false)
    (sym c.bindings_ok.ensures ∙ c.if-not-bindings_ok.false) _ c.number_names.ensures.counted c.number_names.ensures.few
