-- Each pair's test is whether its bytes are lowered to one.
use Rattle.std.proofs.Common.{rules, tests, ◌∙◌}
use Rattle.std.specs.Prelude.{eqb}
use Rattle.std.proofs.lemmas.Iterator.{YieldsList-from_slice, YieldsList-from_zip}
use Rattle.std.proofs.lemmas.Iterator.Search.{all_from_yields_List}
use Rattle.term_spec.specs.Text.{lower}
use Rattle.text.specs.TextLaws.{lowered_same}
use Rattle.text.proofs.equal_lowered.Goals as goal

pub returns : goal.returns
returns c =
    all_from_yields_List (λ p. eqb (lower p.0) (lower p.1)) c.all.new.self _ _ c.all.ensures.ran
    (YieldsList-from_zip (YieldsList-from_slice c.args.a.now cc) (YieldsList-from_slice c.args.b.now cc))
    (λ x b q k. search (rules, tests))
    ∙ lowered_same _ _ c.requires
