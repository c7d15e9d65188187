-- Every node keeps its rule, or one does not; of no nodes, none is node 0.
use Rattle.std.specs.Prelude.{true, false}
use Rattle.std.proofs.Common.{rules, arith}
use borrow.Author.Tests.{tests}
use Rattle.std.proofs.lemmas.Bool.Decides.{nat_tests}
use Rattle.std.proofs.lemmas.Iterator.{cases_from_all, YieldsList-from_range}
use Rattle.nodes.specs.RuleLaws.{Passes, each_tested, nodes_empty}
use Rattle.nodes.proofs.nodes_ok.Goals as goal

pub returns-then-used-ge1 : goal.returns-then-used-ge1
returns-then-used-ge1 c =
    let passes = Passes c.args.nodes.now c.args.terms c.args.used in
    each_tested _ _ _ _ c.if-used-ge1.true
    (cases_from_all _ _ c.all.result (passes true) (passes false) c.all.ensures.ran (YieldsList-from_range 0 c.args.used c.args.used (cc) (omega arith))
    (λ x q k. search (rules, tests)) (λ x q k. search (rules, tests)))

pub returns-else-used-ge1 : goal.returns-else-used-ge1
returns-else-used-ge1 c = let e = nodes_empty c.args.nodes.now c.args.terms c.args.used c.if-used-ge1.false in grind (arith, nat_tests, e)
