-- By whether the piece is used up, and whether a field waits.
use Rattle.places.specs.RestLaws.{passed_within, passed_alone, passed_later}
use Rattle.places.proofs.pieces.Ahead.pass.Goals as goal
use Rattle.places.proofs.pieces.Ahead.pass.Goals.{in-Some, in-None}

pub returns-then-k-self : goal.returns-then-k-self
returns-then-k-self g c = passed_within _ _ _ c.if-k-self.true

pub returns : goal.returns
returns g c =
    elim c.match-pop.branch [
      | in-Some w ↦ rw w.self-is (passed_later _ _ _ c.if-k-self.false (w.in-Some.ensures))
      | in-None w ↦ rw (w.self-is, w.in-None.ensures.1) (passed_alone _ _ _ c.if-k-self.false w.in-None.ensures.0)
    ]
