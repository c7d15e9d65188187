-- Two brackets are told by their contents' numbers, which lie below both.
use Rattle.std.proofs.Common.{sym, ◌∙◌, eqb-true, arith}
use Rattle.numbers.specs.StoreLaws.{contents-inside, contents_equal, few_read}
use Rattle.numbers.proofs.apart_above.Goals as goal

pub returns-then-is : goal.returns-then-is
returns-then-is c =
    let (lt, inside, known) = c.requires in
    let good = c.args.store.now.good in
    let few = c.args.store.now.few in
    let same = c.if-t-u.false in
    let bracket = eqb-true _ _ (sym c.is.ensures ∙ c.if-is.true) in
    let first = contents-inside good (omega arith) c.get-t.ensures bracket c.contents.ensures in
    let second = contents-inside good inside c.get-u.ensures (sym same ∙ bracket) c.contents-then-is.ensures in (
      few_read _ _ (omega arith) c.runs_apart.ensures.0,
      c.runs_apart.ensures.1 _ _ _ _ known (omega arith) second (omega arith)
          ∙ contents_equal good (omega arith) inside c.get-t.ensures c.get-u.ensures bracket same c.contents.ensures c.contents-then-is.ensures,
    )
