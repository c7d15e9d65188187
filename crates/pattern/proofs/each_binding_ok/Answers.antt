-- A binding that is not right is told.
use Rattle.std.proofs.Common.{sym, ap, ◌∙◌, arith}
use Rattle.match_spec.specs.Pattern.{binding_rule}
use Rattle.pattern.specs.Apart.{it_is, it_is_not}
use Rattle.pattern.specs.ApartLaws.{right_next}
use Rattle.pattern.proofs.each_binding_ok.Goals as goal

pub returns-then-not-binding_ok : goal.returns-then-not-binding_ok
returns-then-not-binding_ok c =
    it_is_not (record {
      place = c.loop-i.i;
      inside = c.loop-i-test.true;
      wrong = ap (binding_rule _) (sym c.get-b.ensures) ∙ sym c.binding_ok.ensures ∙ c.if-not-binding_ok.true;
    })

pub loop-i-preserved : goal.loop-i-preserved
loop-i-preserved c = right_next _ _ c.loop-i.invariant c.get-b.ensures (sym c.binding_ok.ensures ∙ c.if-not-binding_ok.false)

pub returns : goal.returns
returns c = it_is (λ i h. c.loop-i.invariant i (omega (arith, c.loop-i-test.false)))
