-- An empty operand, 12, or the nodes that `join_makes` counts and `join_build` makes.
use Rattle.std.proofs.Common.{sym, ◌∙◌, arith}
use Rattle.words.specs.Refusals.{spec_number}
use Rattle.view.specs.Check.{answer_of}
use Rattle.view.specs.GrowLaws.{room_fits}
use Rattle.view.specs.JoinedLaws.{join_left_empty, join_right_empty, field_piece, right_piece, height_at, joins_fit, joined-full, joined_done}
use Rattle.view.proofs.joined.Goals as goal

pub returns-then-f-eq0 : goal.returns-then-f-eq0
unfolding answer_of
returns-then-f-eq0 c = join_left_empty _ _ c.requires.store.store _ _ c.if-f-eq0.true

pub returns-then-g-eq0 : goal.returns-then-g-eq0
unfolding answer_of
returns-then-g-eq0 c = join_right_empty _ _ c.requires.store.store _ _ c.if-f-eq0.false c.if-g-eq0.true

pub join_makes-made-requires : goal.join_makes-made-requires
join_makes-made-requires c =
    record { used = _; store = c.requires.store; piece = field_piece _ _ c.requires.store _ _ c.requires.left c.if-f-eq0.false }

pub returns-then-not-node_room : goal.returns-then-not-node_room
unfolding answer_of spec_number
returns-then-not-node_room c =
    let piece = field_piece _ _ c.requires.store _ _ c.requires.left c.if-f-eq0.false in
    let right = c.unclamp-right.ensures.1 _ c.requires.store c.requires.right.0.low in
    let made = c.join_makes-made.ensures _ c.requires.store piece in
    let height = height_at _ _ _ c.get-r.ensures (omega (arith, c.unclamp-right.ensures.0, c.requires.right.0.low)) in
    joined-full _ _ _ _ c.if-f-eq0.false c.if-g-eq0.false right height made (sym c.node_room.ensures ∙ c.if-not-node_room.true)

pub overflow_add-used : goal.overflow_add-used
overflow_add-used c =
    let fits = room_fits _ _ _ (sym c.node_room.ensures ∙ c.if-not-node_room.false) in
    omega (arith, fits.0)

pub join_build-requires-clause-piece : goal.join_build-requires-clause-piece
join_build-requires-clause-piece c = field_piece _ _ c.requires.store _ _ c.requires.left c.if-f-eq0.false

pub join_build-requires-clause-room : goal.join_build-requires-clause-room
join_build-requires-clause-room c =
    let piece = field_piece _ _ c.requires.store _ _ c.requires.left c.if-f-eq0.false in
    let right = c.unclamp-right.ensures.1 _ c.requires.store c.requires.right.0.low in
    let made = c.join_makes-made.ensures _ c.requires.store piece in
    let low = right_piece _ _ c.requires.store (field_piece _ _ c.requires.store _ _ c.requires.right.0 c.if-g-eq0.false) right in
    let fits = room_fits _ _ _ (sym c.node_room.ensures ∙ c.if-not-node_room.false) in
    joins_fit _ _ _ _ c.if-f-eq0.false c.if-g-eq0.false right (height_at _ _ _ c.get-r.ensures low.0) made low fits

pub overflow_add-count : goal.overflow_add-count
overflow_add-count c =
    let fits = room_fits _ _ _ (sym c.node_room.ensures ∙ c.if-not-node_room.false) in
    omega (arith, fits.0)

pub overflow_add-used-2 : goal.overflow_add-used-2
overflow_add-used-2 c =
    let fits = room_fits _ _ _ (sym c.node_room.ensures ∙ c.if-not-node_room.false) in
    omega (arith, fits.0)

pub returns : goal.returns
unfolding answer_of
returns c =
    let piece = field_piece _ _ c.requires.store _ _ c.requires.left c.if-f-eq0.false in
    let right = c.unclamp-right.ensures.1 _ c.requires.store c.requires.right.0.low in
    let made = c.join_makes-made.ensures _ c.requires.store piece in
    let height = height_at _ _ _ c.get-r.ensures (omega (arith, c.unclamp-right.ensures.0, c.requires.right.0.low)) in
    joined_done _ _ _ _ c.if-f-eq0.false c.if-g-eq0.false right height made (sym c.node_room.ensures ∙ c.if-not-node_room.false) c.new.ensures
    c.join_build.ensures
