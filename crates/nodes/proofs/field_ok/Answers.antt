-- The reach of the node read decides.
use Rattle.std.proofs.Common.{arith}
use Rattle.std.proofs.lemmas.Bool.Decides.{nat_tests}
use Rattle.nodes.specs.RuleLaws.{field_out, field_in}
use Rattle.nodes.proofs.field_ok.Goals as goal

pub returns-then-node-used : goal.returns-then-node-used
returns-then-node-used c = field_in _ _ _ _ c.if-node-used.true c.get.ensures

pub returns-else-node-used : goal.returns-else-node-used
returns-else-node-used c = let h = field_out c.args.nodes.now c.args.used c.args.node c.args.len c.if-node-used.false in grind (arith, nat_tests, h)
