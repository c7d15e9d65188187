-- No run is held and nothing is made, or its Cons is made before the last node made.
use Rattle.std.proofs.Common.{arith}
use Rattle.from_runs.specs.BuildLaws.{head_low, close_none, close_room, close_made}
use Rattle.from_runs.proofs.close.Goals as goal

pub returns-in-None : goal.returns-in-None
returns-in-None c = close_none _ _ _ c.in-None.is

pub make_cons-requires-clause-fits : goal.make_cons-requires-clause-fits
make_cons-requires-clause-fits c =
    let p = c.requires in
    let small = p.small _ c.in-Some.is in
    (close_room _ _ _ c.in-Some.is p.room, small.0, small.1, omega (arith, c.tail.ensures, head_low _ _ p.some_nodes p.low))

pub returns-in-Some : goal.returns-in-Some
returns-in-Some c = close_made _ _ _ _ c.in-Some.is c.tail.ensures c.make_cons.ensures
