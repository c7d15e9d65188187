-- Each pass tells of as many bindings as there is room for in the tables.
use Rattle.std.proofs.Common.{◌*◌, arith}
use Rattle.term_spec.specs.Term.{limit}
use Rattle.pattern.specs.Apart.{it_is, it_is_not}
use Rattle.pattern.specs.ApartLaws.{told_yes, told_no, rest_texts, rest_repeats, rest-apart}
use Rattle.pattern.proofs.apart.names_apart.Goals as goal

pub first_told-requires : goal.first_told-requires
first_told-requires c = rest_texts _ _ (c.loop-pass.pass * limit) c.requires

pub returns-then-not-first_told : goal.returns-then-not-first_told
returns-then-not-first_told c = it_is_not (rest_repeats _ _ (c.loop-pass.pass * limit) (told_no c.first_told.ensures c.if-not-first_told.true))

pub loop-pass-preserved : goal.loop-pass-preserved
loop-pass-preserved c d k low =
    rest-apart _ _ (c.loop-pass.pass * limit) c.loop-pass.invariant (told_yes c.first_told.ensures c.if-not-first_told.false) d k (omega (arith, low))

pub returns : goal.returns
returns c = it_is (λ d k low lt h. c.loop-pass.invariant d k (omega (arith, c.loop-pass-test.false, c.div_ceil-pass-end.ensures)) lt h)
