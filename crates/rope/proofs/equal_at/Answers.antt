use Rattle.std.proofs.Common.{arith}
use Rattle.rope.specs.FrontLaws.{at_same, at_differ}
use Rattle.rope.proofs.equal_at.Goals as goal

pub returns-then-known-word : goal.returns-then-known-word
returns-then-known-word c names w used known =
    at_differ known c.loop-i.i (omega arith) (rw (c.word.ensures, c.word-in-loop-i.ensures) at c.if-known-word.true)

pub returns : goal.returns
returns c names w used known = at_same known (λ i h. c.loop-i.invariant i (omega arith))
