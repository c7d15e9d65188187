-- `walk`: what is taken in of the events from a record on. A record takes its turn, and the walk goes on at the next; the loop over the splits
-- keeps that what is left comes to the whole. The words of the levels are put back, and the entries known stay.
use Rattle.std.proofs.Common.{◌≡◌, refl, ap, arith, rules, ◌∙◌, ◌∷◌, [], length}
use borrow.Author.Tests.{tests}
use Rattle.term_spec.specs.Words.{write}
use Rattle.term_spec.specs.Term.{run_layout}
use Rattle.matcher.specs.declared.Status.TheVariants.{Going}
use Rattle.matcher.specs.FoldLaws.{written_none, written_call, written_same}
use Rattle.matcher.specs.WalkedLaws.{small_read, depth_room, ready_more, ready_hit, turn_stop, turn_call, stop_same, call_same, ready_next, next_restored, there, not_there}
use Rattle.matcher.specs.SplitLaws.{splitting_found, split_inside, split_bound, split_known, split_slots, split_ready, splitting_done, given-kept}
use Rattle.matcher.specs.SplitLaws.{splitting_stops, splitting_on}
use Rattle.matcher.proofs.+walk.Goals as goal

-- ---- exits before a turn ----

pub returns-then-s-ne0 : goal.returns-then-s-ne0
returns-then-s-ne0 t c = (
  record {
    written = written_none _ _ _ c.requires.open_slots.most (ready_more c.requires.ready.0 (not_there _ _ c.if-given-p.true) c.if-s-ne0.true);
    levels-same = refl;
    entries_same = refl;
  },
  c.requires.ready.1,
)

pub returns-then-given-p : goal.returns-then-given-p
returns-then-given-p t c = (
  record {
    written = written_same (ready_hit c.requires.ready.0 (not_there _ _ c.if-given-p.true) c.if-s-ne0.false) c.emit.ensures;
    levels-same = refl;
    entries_same = refl;
  },
  c.requires.ready.1,
)

-- ---- the turn, and where nothing comes after it ----

pub get-around-requires : goal.get-around-requires
get-around-requires t c = omega (arith, depth_room c.requires.ready.0)

pub take_turn-requires : goal.take_turn-requires
take_turn-requires t c =
    (record { entries = c.args.g.entries; ready = c.requires.ready.0; there = there _ _ c.if-given-p.false }, c.requires.ready.1)

pub returns-in-Stop : goal.returns-in-Stop
returns-in-Stop t c =
    let turn = c.take_turn.ensures.0 in (
      record {
        written = written_none _ _ _ c.requires.open_slots.most (turn_stop turn c.in-Stop.is);
        levels-same = stop_same turn c.in-Stop.is;
        entries_same = turn.entries_same;
      },
      c.take_turn.ensures.1,
    )

pub returns-in-Call : goal.returns-in-Call
returns-in-Call t c =
    let turn = c.take_turn.ensures.0 in (
      record {
        written = written_call _ _ _ c.requires.open_slots.most c.requires.open_slots.goes (turn_call turn c.in-Call.is);
        levels-same = call_same turn c.in-Call.is;
        entries_same = turn.entries_same;
      },
      c.take_turn.ensures.1,
    )

-- ---- the walk goes on at the next record ----

pub walk-got-requires : goal.walk-got-requires
walk-got-requires t c =
    let y = c.requires.ready.0 in
    let kept = c.take_turn.auto in (
      omega (arith, c.decreases, c.if-given-p.false),
      (
        (
          ready_next c.take_turn.ensures.0 y c.in-Next.is (omega (arith, y.level-room, kept.levels)) (omega (arith, y.entry-room, kept.binds)),
          c.take_turn.ensures.1,
        ),
        c.requires.open_slots,
      ),
    )

pub put-requires : goal.put-requires
put-requires t c = (
  omega (arith, depth_room c.requires.ready.0, c.take_turn.auto.levels),
  small_read _ _ _ c.fits-levels c.get-around.ensures,
)

pub returns-in-Next : goal.returns-in-Next
returns-in-Next t c =
    let e = c.put.ensures ∙ ap (λ r. write run_layout c.walk-got.new.levels c.args.s.depth (r ∷ [])) c.get-around.ensures in (
      next_restored c.take_turn.ensures.0 c.in-Next.is (omega (arith, depth_room c.requires.ready.0, c.take_turn.auto.levels)) c.walk-got.ensures.0 e,
      c.walk-got.ensures.1,
    )

-- ---- the loop over the splits ----

pub next_split-next-requires-clause-ready : goal.next_split-next-requires-clause-ready
next_split-next-requires-clause-ready t c =
    let y = c.requires.ready.0 in
    let turn = c.take_turn.ensures.0 in
    let e = c.in-Split.is in (
      split_inside y turn e,
      split_known y turn e _ refl (omega (arith, y.entry-room, c.take_turn.auto.binds)),
      c.take_turn.ensures.1,
    )

pub loop-next-init : goal.loop-next-init
loop-next-init t c = record {
  splitting = splitting_found _ _ _ _ _ _ _ c.requires.open_slots.goes c.requires.open_slots.most c.next_split-next.ensures.0;
  memory = c.next_split-next.ensures.1;
}

pub give-after-requires : goal.give-after-requires
give-after-requires t c =
    let y = c.requires.ready.0 in
    let turn = c.take_turn.ensures.0 in
    let e = c.in-Split.is in
    let o = rw c.in-Some.is at c.loop-next.invariant.splitting in (
      o.1,
      omega (arith, split_inside y turn e, y.few),
      split_bound y turn e,
      omega (arith, y.entry-room, c.take_turn.auto.binds, o.0.binds_length),
    )

pub walk-got-requires-in-Some : goal.walk-got-requires-in-Some
walk-got-requires-in-Some t c =
    let y = c.requires.ready.0 in
    let kept = c.take_turn.auto in
    let o = rw c.in-Some.is at c.loop-next.invariant.splitting in (
      omega (arith, c.decreases, c.if-given-p.false),
      (
        (
          split_ready y c.take_turn.ensures.0 c.in-Split.is o.0 o.1 _ c.give-after.ensures.0 c.give-after.ensures.1
              (omega (arith, y.level-room, kept.levels, ap length o.0.levels-same))
              (omega (arith, y.entry-room, kept.binds, o.0.binds_length, c.give-after.auto.binds)),
          c.loop-next.invariant.memory,
        ),
        split_slots o.0 c.requires.open_slots,
      ),
    )

pub returns-then-ne : goal.returns-then-ne
returns-then-ne t c =
    let o = rw c.in-Some.is at c.loop-next.invariant.splitting in
    let stops : c.walk-got-in-Some.result.stop ≡ Going → ⊥ = search (rules, tests) in (
      splitting_stops c.requires.ready.0 c.take_turn.ensures.0 c.in-Split.is o.0 o.1 _ c.give-after.ensures.0 c.give-after.ensures.1
          c.walk-got-in-Some.ensures.0 stops,
      c.walk-got-in-Some.ensures.1,
    )

pub overflow_add-k : goal.overflow_add-k
overflow_add-k t c =
    let y = c.requires.ready.0 in
    let o = rw c.in-Some.is at c.loop-next.invariant.splitting in
    omega (arith, o.1, split_inside y c.take_turn.ensures.0 c.in-Split.is, y.few)

pub next_split-next-requires-in-Some-clause-ready : goal.next_split-next-requires-in-Some-clause-ready
next_split-next-requires-in-Some-clause-ready t c =
    let y = c.requires.ready.0 in
    let turn = c.take_turn.ensures.0 in
    let e = c.in-Split.is in
    let o = rw c.in-Some.is at c.loop-next.invariant.splitting in
    let same = given-kept y turn e o.0 o.1 _ c.give-after.ensures.0 c.give-after.ensures.1 c.walk-got-in-Some.ensures.0 in (
      split_inside y turn e,
      split_known y turn e _ same (omega (arith, y.entry-room, c.take_turn.auto.binds, o.0.binds_length, c.give-after.auto.binds)),
      c.walk-got-in-Some.ensures.1,
    )

pub loop-next-preserved : goal.loop-next-preserved
loop-next-preserved t c =
    let o = rw c.in-Some.is at c.loop-next.invariant.splitting in
    let goes : c.walk-got-in-Some.result.stop ≡ Going = search (rules, tests) in
    record {
      splitting = splitting_on c.requires.ready.0 c.take_turn.ensures.0 c.in-Split.is o.0 o.1 _ c.give-after.ensures.0 c.give-after.ensures.1
          c.walk-got-in-Some.ensures.0 _ goes (omega (arith, c.give-after.auto.binds)) c.walk-got-in-Some.auto.slots
          c.next_split-next-in-Some.ensures.0;
      memory = c.next_split-next-in-Some.ensures.1;
    }

pub returns-in_default : goal.returns-in_default
returns-in_default t c =
    let o = rw c.in_default.is at c.loop-next.invariant.splitting in
    (splitting_done c.requires.ready.0 c.take_turn.ensures.0 c.in-Split.is o (omega arith), c.loop-next.invariant.memory)
