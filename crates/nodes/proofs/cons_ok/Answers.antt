-- The rule of a Cons, where its tail is the node read.
use Rattle.std.proofs.Common.{arith}
use Rattle.std.proofs.lemmas.Bool.Decides.{nat_tests}
use Rattle.words.specs.Records.{as_node}
use Rattle.nodes.specs.RuleLaws.{cons_read, cons_refused}
use Rattle.nodes.proofs.cons_ok.Goals as goal

pub returns-then-n-lt1 : goal.returns-then-n-lt1
returns-then-n-lt1 c = cons_refused _ _ _ _ (λ p q r. grind arith)

pub returns-then-n-eq1 : goal.returns-then-n-eq1
returns-then-n-eq1 c = let r = cons_read c.args.nodes.now c.args.i (as_node c.args.n) c.args.terms c.if-i-n.false c.get-tail.ensures in grind (arith, nat_tests, r)

pub returns-else-n-eq1 : goal.returns-else-n-eq1
returns-else-n-eq1 c = let r = cons_read c.args.nodes.now c.args.i (as_node c.args.n) c.args.terms c.if-i-n.false c.get-tail.ensures in grind (arith, nat_tests, r)
