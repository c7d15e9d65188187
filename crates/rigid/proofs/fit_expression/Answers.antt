-- `rigid::fit_expression`: the run that the variable was given ends within the used terms, and equal ones are taken.
use Rattle.std.proofs.Common.{arith}
use Rattle.steps.specs.StepLaws.{entry_in}
use Rattle.rigid.specs.KindLaws.{many_equals}
use Rattle.rigid.proofs.fit_expression.Goals as goal

pub equal_runs-requires-clause-within : goal.equal_runs-requires-clause-within
equal_runs-requires-clause-within c =
    let h = c.requires.ready in
    (entry_in _ _ _ _ h.1 c.if-s-x.false (c.entry-e.ensures _ c.if-s-x.false), omega (arith, h.0))

pub returns-then-equal_runs : goal.returns-then-equal_runs
returns-then-equal_runs c =
    let h = c.requires.ready in
    let e = c.equal_runs.ensures in (
      (
        omega arith,
        λ p. many_equals _ _ _ _ _ _ _ p
            c.if-s-x.false h.1 h.0 (c.entry-e.ensures _ c.if-s-x.false) (omega arith) e.0 c.if-equal_runs.true,
      ),
      e.1,
    )
