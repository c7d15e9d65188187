-- Of many bindings, the rule of all is that each is right and no two have one name.
use Rattle.std.proofs.Common.{◌∙◌}
use Rattle.pattern.specs.ApartLaws.{told_yes, told_no, told_as, rule_wrong, rule_repeats, rule-holds, right_texts}
use Rattle.pattern.proofs.bindings_ok.Goals as goal

pub returns-else-each_binding_ok : goal.returns-else-each_binding_ok
returns-else-each_binding_ok c =
    let no = c.if-each_binding_ok.false in no ∙ rule_wrong _ _ (told_no c.each_binding_ok.ensures no)

pub names_apart-requires : goal.names_apart-requires
names_apart-requires c = right_texts _ _ (told_yes c.each_binding_ok.ensures c.if-each_binding_ok.true)

pub returns-then-each_binding_ok : goal.returns-then-each_binding_ok
returns-then-each_binding_ok c =
    let right = told_yes c.each_binding_ok.ensures c.if-each_binding_ok.true in
    told_as c.names_apart.ensures (rule-holds _ _ right) (rule_repeats _ _)
