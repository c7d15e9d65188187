-- A binding is not right, or its name is among those before it, or the rest is left.
use Rattle.std.proofs.Common.{sym, ◌∙◌, arith}
use Rattle.pattern.specs.NameLaws.{found_inside, found_outside}
use Rattle.pattern.specs.BindingLaws.{naming_start, all_named, bad_binding_lem, repeated, named, named_text}
use Rattle.pattern.proofs.few_bindings_ok.Goals as goal

pub loop-i-init : goal.loop-i-init
loop-i-init c = naming_start _ _

pub returns-then-not-binding_ok : goal.returns-then-not-binding_ok
returns-then-not-binding_ok c =
    bad_binding_lem _ _ _ c.loop-i.invariant c.loop-i-test.true c.get-b.ensures (sym c.binding_ok.ensures ∙ c.if-not-binding_ok.true)

pub find_binding-requires : goal.find_binding-requires
find_binding-requires c =
    (omega arith, rw c.of_binding-x.ensures (named_text _ _ (sym c.binding_ok.ensures ∙ c.if-not-binding_ok.false)), c.loop-i.invariant.texts)

pub returns-then-is_some : goal.returns-then-is_some
returns-then-is_some c =
    let found = rw c.of_binding-x.ensures at c.find_binding.ensures in
    repeated _ _ _ c.loop-i.invariant c.loop-i-test.true c.get-b.ensures (sym c.binding_ok.ensures ∙ c.if-not-binding_ok.false) found.0
    (found_inside _ _ _ _ found (sym c.is_some.ensures ∙ c.if-is_some.true))

pub loop-i-preserved : goal.loop-i-preserved
loop-i-preserved c =
    let found = rw c.of_binding-x.ensures at c.find_binding.ensures in
    named _ _ _ c.loop-i.invariant c.loop-i-test.true c.get-b.ensures (sym c.binding_ok.ensures ∙ c.if-not-binding_ok.false) found.0
    (found_outside _ _ (sym c.is_some.ensures ∙ c.if-is_some.false))

pub returns : goal.returns
returns c = all_named _ _ c.loop-i.i c.loop-i.invariant c.loop-i-test.false
