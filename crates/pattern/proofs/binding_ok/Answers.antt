-- The kind, then the text.
use Rattle.std.proofs.Common.{sym, ◌∙◌}
use Rattle.pattern.specs.BindingLaws.{binding_rule_lem}
use Rattle.pattern.proofs.binding_ok.Goals as goal

pub returns-then-is_variable : goal.returns-then-is_variable
returns-then-is_variable c = c.text_ok.ensures ∙ rw c.number.ensures (sym (binding_rule_lem _ _ (sym c.is_variable.ensures ∙ c.if-is_variable.true)))

pub returns-else-is_variable : goal.returns-else-is_variable
returns-else-is_variable c = c.if-is_variable.false ∙ sym (binding_rule_lem _ _ (sym c.is_variable.ensures ∙ c.if-is_variable.false))
