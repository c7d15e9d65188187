-- Runs of two lengths differ, runs at one place are the same, and others are compared by `agree`.
use Rattle.std.proofs.Common.{sym, ◌∙◌, arith, eq-eqb, ne_eqb}
use Rattle.value.specs.EqualLaws.{runs_lengths, runs_same}
use Rattle.numbers.specs.NumbersLaws.{runs-numbered}
use Rattle.numbers.proofs.runs_apart.Goals as goal

pub returns-then-first-second : goal.returns-then-first-second
returns-then-first-second c = (
  omega arith,
  λ names w used k known first second inside.
      runs_lengths names w used _ _ _ _ (omega arith) (omega arith) (λ e. omega (arith, c.if-first-second.true)),
)

pub returns-then-first-second-2 : goal.returns-then-first-second-2
returns-then-first-second-2 c =
    (tt, λ names w used k known first second inside. runs_same names w used _ _ _ _ c.if-first-second.false c.if-first-second-2.true)

pub returns-then-same-first : goal.returns-then-same-first
returns-then-same-first c = (
  tt,
  λ names w used k known first second inside.
      sym (eq-eqb _ _ c.if-same-first.true)
      ∙ runs-numbered names w used k _ known inside _ _ _ first (omega arith) c.if-first-second.false c.agree-same.ensures,
)

pub returns : goal.returns
returns c = (
  omega (arith, c.agree-same.ensures.within),
  λ names w used k known first second inside.
      sym (ne_eqb _ _ c.if-same-first.false)
      ∙ runs-numbered names w used k _ known inside _ _ _ first (omega arith) c.if-first-second.false c.agree-same.ensures,
)
