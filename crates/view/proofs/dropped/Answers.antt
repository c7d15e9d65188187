-- The nodes that `drop_front_makes` counts are those that `drop_front_build` makes; 12 where they do not fit.
use Rattle.std.proofs.Common.{List, ℕ, ◌≤◌, sym, ◌∙◌, arith}
use Rattle.nodes.specs.NodeStore.{Reaches}
use Rattle.words.specs.Refusals.{spec_number}
use Rattle.view.specs.Check.{answer_of}
use Rattle.view.specs.GrowLaws.{room_fits, count-after, grown-full, rest-length, rest-grown}
use Rattle.view.proofs.dropped.Goals as goal

-- the terms to drop are there
reached : {nodes : List ℕ} {used node len k : ℕ} → Reaches nodes used node len → k ≤ len → Reaches nodes used node k
reached reaches h = record { low = reaches.low; fits = omega (arith, reaches.fits, h) }

pub returns-then-not-node_room : goal.returns-then-not-node_room
unfolding answer_of spec_number
returns-then-not-node_room c =
    let made = c.drop_front_makes-made.ensures _ c.requires.store (reached c.requires.reaches.0 c.requires.reaches.1) in
    grown-full _ _ _ _ (rest-length _ _ _ _ made) (sym c.node_room.ensures ∙ c.if-not-node_room.true)

pub overflow_add-used : goal.overflow_add-used
overflow_add-used c =
    let fits = room_fits _ _ _ (sym c.node_room.ensures ∙ c.if-not-node_room.false) in
    omega (arith, fits.0)

pub drop_front_build-node-requires-clause-room : goal.drop_front_build-node-requires-clause-room
drop_front_build-node-requires-clause-room c =
    let made = c.drop_front_makes-made.ensures _ c.requires.store (reached c.requires.reaches.0 c.requires.reaches.1) in
    let fits = room_fits _ _ _ (sym c.node_room.ensures ∙ c.if-not-node_room.false) in
    record { made = count-after _ made; few = fits.0; room = fits.1 }

pub overflow_add-count : goal.overflow_add-count
overflow_add-count c =
    let fits = room_fits _ _ _ (sym c.node_room.ensures ∙ c.if-not-node_room.false) in
    omega (arith, fits.0)

pub returns : goal.returns
unfolding answer_of
returns c =
    let made = c.drop_front_makes-made.ensures _ c.requires.store (reached c.requires.reaches.0 c.requires.reaches.1) in
    rest-grown _ _ _ _ made (sym c.node_room.ensures ∙ c.if-not-node_room.false) c.new.ensures c.drop_front_build-node.ensures.0
    c.drop_front_build-node.ensures.1
