-- `rigid::skip_apart`: the terms passed are those at which the run cannot begin.
use Rattle.std.proofs.Common.{◌<◌, arith}
use Rattle.std.proofs.lemmas.Grind.{common_steps}
use Rattle.rigid.specs.SplitLaws.{apart-at}
use Rattle.rigid.proofs.skip_apart.Goals as goal

pub returns-in-Ok-Char : goal.returns-in-Ok-Char
returns-in-Ok-Char c =
    let n = c.next_begin.ensures in
    let low : c.get-t.result.kind < 4 = grind (arith, common_steps) in (
      omega (arith, n.0),
      omega (arith, n.1),
      λ i a b. apart-at _ _ _ _ _ c.get-t.ensures c.if-given-p.false low (n.2 _ (omega arith) (omega (arith, n.0))),
    )
