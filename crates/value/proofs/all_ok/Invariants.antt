-- After i terms the rule of all is that of the terms from i on, and the tables have the i terms.
use Rattle.std.specs.Prelude.{◌≡◌, []}
use Rattle.term_spec.specs.Words.{decode}
use Rattle.term_spec.specs.Term.{term_layout, terms_rule}
use Rattle.value.specs.Blocks.{Tables}
use Rattle.value.specs.CheckLaws.{rest_rule}
use Rattle.value.proofs.all_ok.Given as goal

abbrev pub invariant-loop-i : goal.invariant-loop-i
invariant-loop-i l =
    (terms_rule l.names [] (decode term_layout l.used l.terms) ≡ rest_rule l.names l.terms l.used l.i) × Tables l.terms l.i l.low l.high
