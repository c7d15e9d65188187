-- Each test that fails gives 1 by a law of the counts; with all counts right the terms' rule gives 2 or nothing.
use Rattle.std.proofs.Common.{arith, sym, ◌∙◌}
use Rattle.words.specs.Refusals.{told_number, spec_number}
use Rattle.value.specs.Check.{unless}
use Rattle.value.specs.CheckLaws.{number-whole, number_names, number_used, number-terms}
use Rattle.value.proofs.check_terms.Goals as goal
use Rattle.value.proofs.check_terms.Goals.{then-terms-ne0-via-then-terms-ne0, then-terms-ne0-via-else-terms-ne0+then-names-gt-LIMIT}
use Rattle.value.proofs.check_terms.Goals.{then-used-gt-LIMIT-via-then-used-gt-LIMIT, then-used-gt-LIMIT-via-else-used-gt-LIMIT+then-terms-used}

pub returns-then-terms-ne0 : goal.returns-then-terms-ne0
unfolding told_number spec_number
returns-then-terms-ne0 c = elim c.then-terms-ne0.branch [
  | then-terms-ne0-via-then-terms-ne0 w ↦ number-whole _ _ _ w.if-terms-ne0.true
  | then-terms-ne0-via-else-terms-ne0+then-names-gt-LIMIT w ↦ number_names _ _ _ w.if-terms-ne0.false w.if-names-gt-LIMIT.true
]

pub returns-then-used-gt-LIMIT : goal.returns-then-used-gt-LIMIT
unfolding told_number spec_number
returns-then-used-gt-LIMIT c = elim c.then-used-gt-LIMIT.branch [
  | then-used-gt-LIMIT-via-then-used-gt-LIMIT w ↦ number_used _ _ _ c.if-terms-ne0.false c.if-names-gt-LIMIT.false (omega arith)
  | then-used-gt-LIMIT-via-else-used-gt-LIMIT+then-terms-used w ↦ number_used _ _ _ c.if-terms-ne0.false c.if-names-gt-LIMIT.false (omega arith)
]

pub returns-then-not-terms_ok : goal.returns-then-not-terms_ok
unfolding told_number spec_number unless
returns-then-not-terms_ok c =
    number-terms _ _ _ c.if-terms-ne0.false c.if-names-gt-LIMIT.false (omega arith) (sym c.if-not-terms_ok.true ∙ c.terms_ok.ensures)

pub returns : goal.returns
unfolding told_number unless
returns c =
    number-terms _ _ _ c.if-terms-ne0.false c.if-names-gt-LIMIT.false (omega arith) (sym c.if-not-terms_ok.false ∙ c.terms_ok.ensures)
