-- The next Concat can be made, and leaves the way up one further.
use Rattle.nodes.specs.CompleteLaws.{up_end, up_ready, up_next}
use Rattle.nodes.proofs.complete.Goals as goal

pub make_concat-requires-clause-store : goal.make_concat-requires-clause-store
make_concat-requires-clause-store c =
    (up_ready c.loop-at.invariant c.loop-at-test.true c.get-n.ensures c.child.ensures c.child-in-loop-at.ensures).store

pub make_concat-requires-clause-fits : goal.make_concat-requires-clause-fits
make_concat-requires-clause-fits c =
    let r = up_ready c.loop-at.invariant c.loop-at-test.true c.get-n.ensures c.child.ensures c.child-in-loop-at.ensures in
    (r.room, r.left, r.size, r.right)

pub loop-at-preserved : goal.loop-at-preserved
loop-at-preserved c =
    up_next c.loop-at.invariant c.loop-at-test.true c.get-n.ensures c.child.ensures c.child-in-loop-at.ensures c.make_concat.ensures

pub returns : goal.returns
returns c = up_end c.loop-at.invariant c.loop-at-test.false
