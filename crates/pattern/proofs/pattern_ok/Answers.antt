-- Each record is out of its rule, or changes the open brackets as it should, or not as it should.
use Rattle.std.proofs.Common.{◌≡◌, List, [], ◌∷◌, ℕ, ◌<◌, length, sym, refl, ◌∙◌, eqb-true, arith}
use borrow.Author.Tests.{eqb-false}
use Rattle.items.specs.Records.{as_item}
use Rattle.numbers.specs.NumbersLaws.{never}
use Rattle.pattern.specs.PatternLaws.{Nested, nesting_start, nesting_all, nesting_bad, nesting_deep, nesting_opens, nesting_other, nesting_unopened, nesting_uncloses, nesting_closes}
use Rattle.pattern.proofs.pattern_ok.Goals.{then-is+else-is_full, else-is+then-is-2+in-Some+else-not-closes, else-is+else-is-2}
use Rattle.pattern.proofs.pattern_ok.Goals as goal

pub loop-i-init : goal.loop-i-init
loop-i-init c = rw c.new-opened.ensures (nesting_start _ _)

pub returns-then-not-item_ok : goal.returns-then-not-item_ok
returns-then-not-item_ok c = nesting_bad c.loop-i.invariant c.loop-i-test.true c.get-t.ensures (sym c.item_ok.ensures ∙ c.if-not-item_ok.true)

pub returns-then-is_full : goal.returns-then-is_full
returns-then-is_full c =
    let good : Nested c.args.names.now c.args.pattern.now c.loop-i.opened.items c.loop-i.i (as_item c.get-t.result) =
    record {
      now = c.loop-i.invariant;
      more = c.loop-i-test.true;
      read = c.get-t.ensures;
      rule = sym c.item_ok.ensures ∙ c.if-not-item_ok.false;
    } in
    nesting_deep good (eqb-true _ _ (sym c.is.ensures ∙ c.if-is.true)) (omega (arith, eqb-true _ _ (sym c.is_full.ensures.value ∙ c.if-is_full.true)))

-- a list that is not longer than none
none : (l : List ℕ) → (0 < length l → ⊥) → l ≡ []
none [] h = refl
none (o ∷ l) h = absurd (h (omega arith))

pub returns-in_default : goal.returns-in_default
returns-in_default c =
    let good : Nested c.args.names.now c.args.pattern.now c.loop-i.opened.items c.loop-i.i (as_item c.get-t.result) =
    record {
      now = c.loop-i.invariant;
      more = c.loop-i-test.true;
      read = c.get-t.ensures;
      rule = sym c.item_ok.ensures ∙ c.if-not-item_ok.false;
    } in
    let variant = rw c.in_default.is at c.pop.ensures.variant in
    nesting_unopened good (eqb-true _ _ (sym c.is-else-is.ensures ∙ c.if-is-2.true)) (none _ (λ more. never (variant.1 more) refl))

pub returns-then-not-closes : goal.returns-then-not-closes
returns-then-not-closes c =
    let good : Nested c.args.names.now c.args.pattern.now c.loop-i.opened.items c.loop-i.i (as_item c.get-t.result) =
    record {
      now = c.loop-i.invariant;
      more = c.loop-i-test.true;
      read = c.get-t.ensures;
      rule = sym c.item_ok.ensures ∙ c.if-not-item_ok.false;
    } in
    nesting_uncloses good (eqb-true _ _ (sym c.is-else-is.ensures ∙ c.if-is-2.true)) _ _ (rw c.in-Some.is at c.pop.ensures.items) c.closes.ensures c.if-not-closes.true

pub loop-i-preserved : goal.loop-i-preserved
loop-i-preserved c =
    let good : Nested c.args.names.now c.args.pattern.now c.loop-i.opened.items c.loop-i.i (as_item c.get-t.result) =
    record {
      now = c.loop-i.invariant;
      more = c.loop-i-test.true;
      read = c.get-t.ensures;
      rule = sym c.item_ok.ensures ∙ c.if-not-item_ok.false;
    } in
    elim c.if-is.branch [
      | then-is+else-is_full w ↦
          let room = eqb-false _ _ (sym w.is_full.ensures.value ∙ w.if-is_full.false) in
          nesting_opens good (eqb-true _ _ (sym c.is.ensures ∙ w.if-is.true)) (omega (arith, w.is_full.ensures.fits, room)) (rw w.opened-is w.push.ensures.items)
      | else-is+then-is-2+in-Some+else-not-closes w ↦
          rw w.opened-is (nesting_closes good (eqb-true _ _ (sym w.is-else-is.ensures ∙ w.if-is-2.true)) _ _ (rw w.in-Some.is at w.pop.ensures.items) w.closes.ensures w.if-not-closes.false)
      | else-is+else-is-2 w ↦ rw w.opened-is (nesting_other good (eqb-false _ _ (sym c.is.ensures ∙ w.if-is.false)) (eqb-false _ _ (sym w.is-else-is.ensures ∙ w.if-is-2.false)))
    ]

pub returns : goal.returns
returns c = c.is_empty.ensures ∙ nesting_all c.loop-i.invariant c.loop-i-test.false
