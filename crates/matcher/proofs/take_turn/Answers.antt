-- `take_turn`: the turn of a record that is there, or a stop where a known e-variable ends its level with another number of terms.
use Rattle.std.proofs.Common.{arith}
use Rattle.term_spec.specs.Words.{count}
use Rattle.matcher.specs.WalkedLaws.{ready_stands, ready_item, ready_fine, apart-taken, turn-taken}
use Rattle.matcher.proofs.take_turn.Goals as goal

pub get-t-requires : goal.get-t-requires
unfolding count
get-t-requires c = omega (arith, c.requires.0.there)

pub ends_apart-requires : goal.ends_apart-requires
ends_apart-requires c = let y = c.requires.0.ready in ((ready_stands y).known.bound, y.entry-room)

pub returns-then-ends_apart : goal.returns-then-ends_apart
returns-then-ends_apart c =
    let start = c.requires.0 in (
      apart-taken _ _ _ start.there c.get-t.ensures c.word-x.ensures start.ready (c.ends_apart.ensures c.if-ends_apart.true) (c.ends_at-last.ensures _ _),
      c.requires.1,
    )

pub turn-requires-clause-stands : goal.turn-requires-clause-stands
turn-requires-clause-stands c = let y = c.requires.0.ready in (ready_stands y, c.requires.1)

pub turn-requires-clause-rule : goal.turn-requires-clause-rule
turn-requires-clause-rule c =
    let start = c.requires.0 in (
      ready_item _ _ _ start.there c.get-t.ensures c.word-x.ensures start.ready,
      ready_fine _ _ _ start.there c.get-t.ensures c.word-x.ensures start.ready,
    )

pub returns : goal.returns
returns c =
    let turned = c.turn.ensures in
    (turn-taken _ _ _ c.requires.0.there c.get-t.ensures c.word-x.ensures (c.ends_at-last.ensures _ _) _ _ _ turned.0 turned.1 turned.2, turned.3)
