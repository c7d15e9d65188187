-- Each exit is one law of the checks' order; what a callee asks is what the tests before it let pass.
use Rattle.std.proofs.Common.{refl, sym, ◌∙◌}
use Rattle.std.proofs.lemmas.Result.{err_from_is_err_and}
use Rattle.words.specs.Refusals.{told_number, spec_number}
use Rattle.words.proofs.RefusalLaws.{number_some}
use Rattle.value.specs.Check.{unless}
use Rattle.calls_spec.specs.Store.{store_nodes, nodes}
use Rattle.view.specs.CheckLaws.{number_odd, number-nodes, number-terms, number-bad-node, number_fields, even_fits}
use Rattle.view.proofs.check.Goals as goal
use Rattle.view.proofs.check.Goals.{then-not-even-via-then-not-even, then-not-even-via-else-not-even+then-not-nodes_even}
use Rattle.view.proofs.check.Goals.{then-not-field_ok-via-then-not-field_ok, then-not-field_ok-via-else-not-field_ok+then-not-field_ok-2}

pub returns-then-not-even : goal.returns-then-not-even
unfolding told_number spec_number
returns-then-not-even c = elim c.then-not-even.branch [
  | then-not-even-via-then-not-even w ↦ number_odd _ _ _ w.if-not-even.true
  | then-not-even-via-else-not-even+then-not-nodes_even w ↦ number-nodes _ _ _ _ (sym w.nodes_even.ensures ∙ w.if-not-nodes_even.true)
]

pub returns-in_err-check_terms : goal.returns-in_err-check_terms
unfolding told_number
returns-in_err-check_terms c =
    let p = err_from_is_err_and c.from_residual.result c.from_residual.ensures.1 in
    rw (p.1, p.2)
    (number-terms _ _ _ c.if-not-even.false (sym c.nodes_even.ensures ∙ c.if-not-nodes_even.false) c.in_err-check_terms.ensures (number_some _))

pub nodes_ok-requires : goal.nodes_ok-requires
nodes_ok-requires c = even_fits _ _ (sym c.nodes_even.ensures ∙ c.if-not-nodes_even.false)

pub returns-then-not-nodes_ok : goal.returns-then-not-nodes_ok
unfolding told_number spec_number store_nodes nodes
returns-then-not-nodes_ok c =
    number-bad-node _ _ _ c.if-not-even.false (sym c.nodes_even.ensures ∙ c.if-not-nodes_even.false) c.in_ok-check_terms.ensures refl
    (sym c.nodes_ok.ensures ∙ c.if-not-nodes_ok.true)

pub field_ok-requires : goal.field_ok-requires
field_ok-requires c = even_fits _ _ (sym c.nodes_even.ensures ∙ c.if-not-nodes_even.false)

pub field_ok-requires-else-not-field_ok : goal.field_ok-requires-else-not-field_ok
field_ok-requires-else-not-field_ok c = even_fits _ _ (sym c.nodes_even.ensures ∙ c.if-not-nodes_even.false)

pub returns-then-not-field_ok : goal.returns-then-not-field_ok
unfolding told_number spec_number store_nodes nodes unless
returns-then-not-field_ok c = elim c.then-not-field_ok.branch [
  | then-not-field_ok-via-then-not-field_ok w ↦
      number_fields _ _ _ c.if-not-even.false (sym c.nodes_even.ensures ∙ c.if-not-nodes_even.false) c.in_ok-check_terms.ensures refl
      (sym c.nodes_ok.ensures ∙ c.if-not-nodes_ok.false) _ _ (sym c.field_ok.ensures ∙ w.if-not-field_ok.true) refl
  | then-not-field_ok-via-else-not-field_ok+then-not-field_ok-2 w ↦
      number_fields _ _ _ c.if-not-even.false (sym c.nodes_even.ensures ∙ c.if-not-nodes_even.false) c.in_ok-check_terms.ensures refl
      (sym c.nodes_ok.ensures ∙ c.if-not-nodes_ok.false) _ _ (sym c.field_ok.ensures ∙ w.if-not-field_ok.false)
      (sym w.field_ok-else-not-field_ok.ensures ∙ w.if-not-field_ok-2.true)
]

pub returns : goal.returns
unfolding told_number store_nodes nodes unless
returns c =
    number_fields _ _ _ c.if-not-even.false (sym c.nodes_even.ensures ∙ c.if-not-nodes_even.false) c.in_ok-check_terms.ensures refl
    (sym c.nodes_ok.ensures ∙ c.if-not-nodes_ok.false) _ _
    (sym c.field_ok.ensures ∙ c.if-not-field_ok.false) (sym c.field_ok-else-not-field_ok.ensures ∙ c.if-not-field_ok-2.false)
