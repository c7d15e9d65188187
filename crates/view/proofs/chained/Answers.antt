-- No terms, 12, or the nodes that `from_runs_makes` counts and `from_runs_build` makes.
use Rattle.std.proofs.Common.{sym, ◌∙◌, arith}
use Rattle.words.specs.Refusals.{spec_number}
use Rattle.view.specs.Check.{answer_of}
use Rattle.view.specs.GrowLaws.{room_fits}
use Rattle.view.specs.ChainedLaws.{chained_none, chained_full, chained_done}
use Rattle.view.proofs.chained.Goals as goal

pub returns-then-len-eq0 : goal.returns-then-len-eq0
unfolding answer_of
returns-then-len-eq0 c = chained_none _ _ _ c.requires.store.store c.if-len-eq0.true c.requires.size

pub returns-then-not-node_room : goal.returns-then-not-node_room
unfolding answer_of spec_number
returns-then-not-node_room c = chained_full _ _ _ c.from_runs_makes-made.ensures (sym c.node_room.ensures ∙ c.if-not-node_room.true)

pub from_runs_build-node-requires : goal.from_runs_build-node-requires
from_runs_build-node-requires c =
    let fits = room_fits _ _ _ (sym c.node_room.ensures ∙ c.if-not-node_room.false) in
    record {
      over = c.requires.store;
      few = rw (← c.from_runs_makes-made.ensures) fits.0;
      room = rw (← c.from_runs_makes-made.ensures) fits.1;
    }

pub overflow_add-count : goal.overflow_add-count
overflow_add-count c =
    let fits = room_fits _ _ _ (sym c.node_room.ensures ∙ c.if-not-node_room.false) in
    omega (arith, fits.0)

pub returns : goal.returns
unfolding answer_of
returns c =
    chained_done _ _ _ c.from_runs_makes-made.ensures (sym c.node_room.ensures ∙ c.if-not-node_room.false) c.new.ensures c.from_runs_build-node.ensures.0
    c.requires.size c.from_runs_build-node.ensures.1
