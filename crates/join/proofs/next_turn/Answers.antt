-- At each exit the tests made so far are those of the plan at the unclamped node (TurnLaws).
use Rattle.std.proofs.Common.{arith, refl}
use Rattle.words.proofs.KindLaws.{of_kind, not_of_kind}
use Rattle.join.specs.TurnLaws.{there, at-concat, turn_leaf, turn_low, right_piece, turn_single, turn_inner_leaf, turn_double, piece_in}
use Rattle.join.proofs.next_turn.Goals as goal
use Rattle.join.proofs.next_turn.Goals.{then-not-is-via-then-not-is, then-not-is-via-else-not-is+then-n-h}

-- ---- the unclamped node ----

pub unclamp-left-requires : goal.unclamp-left-requires
unclamp-left-requires c = let asked = c.requires in record { used = _; store = asked.store; low = piece_in _ _ asked.piece }

pub get-n-requires : goal.get-n-requires
get-n-requires c =
    let asked = c.requires in
    let is = c.unclamp-left.ensures.1 _ asked.store (piece_in _ _ asked.piece) in
    omega (arith, there _ _ 0 _ _ asked.store asked.piece is refl, asked.store.store.fits)

pub returns-then-not-is : goal.returns-then-not-is
returns-then-not-is c used store piece =
    let is = c.unclamp-left.ensures.1 _ store (piece_in _ _ piece) in
    elim c.then-not-is.branch [
      | then-not-is-via-then-not-is w ↦ turn_leaf _ _ _ _ _ store piece is c.get-n.ensures (not_of_kind c.is.ensures w.if-not-is.true)
      | then-not-is-via-else-not-is+then-n-h w ↦ turn_low _ _ _ _ _ store piece is c.get-n.ensures (of_kind c.is.ensures w.if-not-is.false) w.if-n-h.true
    ]

-- ---- a Concat, and its children ----

pub overflow_sub-n : goal.overflow_sub-n
overflow_sub-n c =
    let asked = c.requires in
    let is = c.unclamp-left.ensures.1 _ asked.store (piece_in _ _ asked.piece) in
    (at-concat _ _ 0 _ _ asked.store asked.piece is c.get-n.ensures (of_kind c.is.ensures c.if-not-is.false)).tall

pub get-inner_left-requires : goal.get-inner_left-requires
get-inner_left-requires c =
    let asked = c.requires in
    let is = c.unclamp-left.ensures.1 _ asked.store (piece_in _ _ asked.piece) in
    let m = at-concat _ _ 0 _ _ asked.store asked.piece is c.get-n.ensures (of_kind c.is.ensures c.if-not-is.false) in
    omega (arith, m.left_low, there _ _ 0 _ _ asked.store asked.piece is refl, asked.store.store.fits)

pub get-inner_right-requires : goal.get-inner_right-requires
get-inner_right-requires c =
    let asked = c.requires in
    let is = c.unclamp-left.ensures.1 _ asked.store (piece_in _ _ asked.piece) in
    let m = at-concat _ _ 0 _ _ asked.store asked.piece is c.get-n.ensures (of_kind c.is.ensures c.if-not-is.false) in
    omega (arith, m.right_low, there _ _ 0 _ _ asked.store asked.piece is refl, asked.store.store.fits)

pub overflow_sub-inner : goal.overflow_sub-inner
overflow_sub-inner c =
    let asked = c.requires in
    let is = c.unclamp-left.ensures.1 _ asked.store (piece_in _ _ asked.piece) in
    let m = at-concat _ _ 0 _ _ asked.store asked.piece is c.get-n.ensures (of_kind c.is.ensures c.if-not-is.false) in
    omega (arith, m.over)

pub returns-then-inner_right-inner_left : goal.returns-then-inner_right-inner_left
returns-then-inner_right-inner_left c used store piece =
    let is = c.unclamp-left.ensures.1 _ store (piece_in _ _ piece) in
    turn_single _ _ _ _ _ store piece is c.get-n.ensures (of_kind c.is.ensures c.if-not-is.false) c.if-n-h.false c.get-inner_left.ensures c.get-inner_right.ensures
    c.if-inner_right-inner_left.true

-- ---- its right, unclamped ----

pub unclamp-middle-requires : goal.unclamp-middle-requires
unclamp-middle-requires c =
    let asked = c.requires in
    let is = c.unclamp-left.ensures.1 _ asked.store (piece_in _ _ asked.piece) in
    let inner = right_piece _ _ 0 _ _ asked.store asked.piece is c.get-n.ensures (of_kind c.is.ensures c.if-not-is.false) in
    record { used = _; store = asked.store; low = piece_in _ _ inner }

pub get-m-requires : goal.get-m-requires
get-m-requires c =
    let asked = c.requires in
    let is = c.unclamp-left.ensures.1 _ asked.store (piece_in _ _ asked.piece) in
    let inner = right_piece _ _ 0 _ _ asked.store asked.piece is c.get-n.ensures (of_kind c.is.ensures c.if-not-is.false) in
    let middle = c.unclamp-middle.ensures.1 _ asked.store (piece_in _ _ inner) in
    omega (arith, there _ _ 0 _ _ asked.store inner middle refl, asked.store.store.fits)

pub returns-then-not-is-2 : goal.returns-then-not-is-2
returns-then-not-is-2 c used store piece =
    let is = c.unclamp-left.ensures.1 _ store (piece_in _ _ piece) in
    let inner = right_piece _ _ 0 _ _ store piece is c.get-n.ensures (of_kind c.is.ensures c.if-not-is.false) in
    turn_inner_leaf _ _ _ _ _ store piece is c.get-n.ensures (of_kind c.is.ensures c.if-not-is.false) c.if-n-h.false c.get-inner_left.ensures c.get-inner_right.ensures
    c.if-inner_right-inner_left.false (c.unclamp-middle.ensures.1 _ store (piece_in _ _ inner)) c.get-m.ensures (not_of_kind c.is-2.ensures c.if-not-is-2.true)

pub overflow_sub-result : goal.overflow_sub-result
overflow_sub-result c =
    let asked = c.requires in
    let is = c.unclamp-left.ensures.1 _ asked.store (piece_in _ _ asked.piece) in
    let inner = right_piece _ _ 0 _ _ asked.store asked.piece is c.get-n.ensures (of_kind c.is.ensures c.if-not-is.false) in
    let middle = c.unclamp-middle.ensures.1 _ asked.store (piece_in _ _ inner) in
    omega (arith, (at-concat _ _ 0 _ _ asked.store inner middle c.get-m.ensures (of_kind c.is-2.ensures c.if-not-is-2.false)).over)

pub returns : goal.returns
returns c used store piece =
    let is = c.unclamp-left.ensures.1 _ store (piece_in _ _ piece) in
    let inner = right_piece _ _ 0 _ _ store piece is c.get-n.ensures (of_kind c.is.ensures c.if-not-is.false) in
    turn_double _ _ _ _ _ store piece is c.get-n.ensures (of_kind c.is.ensures c.if-not-is.false) c.if-n-h.false c.get-inner_left.ensures c.get-inner_right.ensures
    c.if-inner_right-inner_left.false (c.unclamp-middle.ensures.1 _ store (piece_in _ _ inner)) c.get-m.ensures (of_kind c.is-2.ensures c.if-not-is-2.false)
