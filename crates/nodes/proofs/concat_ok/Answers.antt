-- The rule of a Concat, where its children are the nodes read.
use Rattle.std.proofs.Common.{arith}
use Rattle.std.proofs.lemmas.Bool.Decides.{nat_tests}
use Rattle.words.specs.Records.{as_node}
use Rattle.nodes.specs.RuleLaws.{concat_read, concat_refused}
use Rattle.nodes.proofs.concat_ok.Goals as goal

pub returns-then-i-n : goal.returns-then-i-n
returns-then-i-n c = concat_refused _ _ _ (λ p q. grind arith)

pub returns-then-n-max : goal.returns-then-n-max
returns-then-n-max c =
    let r = concat_read c.args.nodes.now c.args.i (as_node c.args.n) c.if-i-n.false c.if-i-n-2.false c.get-left.ensures c.get-right.ensures in
    grind (arith, nat_tests, r)

pub returns-else-n-max : goal.returns-else-n-max
returns-else-n-max c =
    let r = concat_read c.args.nodes.now c.args.i (as_node c.args.n) c.if-i-n.false c.if-i-n-2.false c.get-left.ensures c.get-right.ensures in
    grind (arith, nat_tests, r)
