-- What comparing run by run leaves is told by the numbers of the terms.
use Rattle.std.proofs.Common.{arith}
use Rattle.rope.specs.Fronts.{equal_from}
use Rattle.rope.specs.FrontLaws.{over_store, terms-same, ropes_short, told_different, told_most, told_all, told_rest}
use Rattle.rope.proofs.equal_fronts.Goals as goal

pub returns-then-f-g : goal.returns-then-f-g
returns-then-f-g c used asked = terms-same _ _ (rw c.if-f-g.true)

pub overflow_add-store : goal.overflow_add-store
overflow_add-store c =
    omega (arith, c.args.store.now.few, ropes_short (over_store c.args.store.now c.requires.1))

pub overflow_add-store-2 : goal.overflow_add-store-2
overflow_add-store-2 c =
    omega (arith, c.args.store.now.few, ropes_short (over_store c.args.store.now c.requires.1))

pub returns-then-done-n : goal.returns-then-done-n
unfolding equal_from
returns-then-done-n c used asked =
    told_all _ _ _ _ _ (c.equal_some.ensures used asked) c.in-Some.is c.if-done-n.true

pub equal_rest-requires-clause-within : goal.equal_rest-requires-clause-within
equal_rest-requires-clause-within c =
    told_most _ _ _ _ _ (c.equal_some.ensures _ c.requires.1) c.in-Some.is

pub returns-in-None : goal.returns-in-None
unfolding equal_from
returns-in-None c used asked =
    told_different _ _ _ _ _ (c.equal_some.ensures used asked) c.in-None.is

pub returns-else-done-n : goal.returns-else-done-n
unfolding equal_from
returns-else-done-n c used asked =
    told_rest _ _ _ _ _ (c.equal_some.ensures used asked) c.in-Some.is (c.equal_rest.ensures used asked)
