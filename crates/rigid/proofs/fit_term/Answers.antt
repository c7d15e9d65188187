-- `rigid::fit_term`: the texts of a literal and of a term of the store lie in the names.
use Rattle.std.proofs.Common.{arith, ◌<◌}
use Rattle.std.proofs.lemmas.Grind.{common_steps}
use Rattle.steps.specs.StepLaws.{literal_texts}
use Rattle.rigid.proofs.fit_term.Goals as goal

pub symbol_matches-requires-clause-texts : goal.symbol_matches-requires-clause-texts
symbol_matches-requires-clause-texts c =
    let low : c.args.t.kind < 3 = grind (arith, common_steps) in
    (literal_texts _ _ _ _ _ _ _ c.args.store.now.good c.requires.inside c.literal.ensures c.get-u.ensures low c.requires.rule.0).0
