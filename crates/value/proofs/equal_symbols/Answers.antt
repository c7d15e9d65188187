-- The slices of the names are the texts of the two terms.
use Rattle.std.proofs.Common.{rules, ◌∙◌}
use Rattle.term_spec.proofs.ListLaws.{part_slice}
use Rattle.words.proofs.KindLaws.{of_kind}
use Rattle.value.specs.EqualLaws.{symbols_identifiers, symbols_numbers}
use Rattle.value.proofs.equal_symbols.Goals as goal

pub returns-then-is-2 : goal.returns-then-is-2
returns-then-is-2 c =
    let texts = simp part_slice at c.same_identifiers.ensures in texts ∙ symbols_identifiers _ _ _ (of_kind c.is-2.ensures c.if-is-2.true) (search rules)

pub returns-then-is-3 : goal.returns-then-is-3
returns-then-is-3 c =
    let texts = simp part_slice at c.same_numbers.ensures in texts ∙ symbols_numbers _ _ _ (of_kind c.is-3.ensures c.if-is-3.true) (search rules)
