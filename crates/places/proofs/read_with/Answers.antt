use Rattle.std.proofs.Common.{arith}
use Rattle.term_spec.proofs.WordsLaws.{decode-length}
use Rattle.nodes.specs.RuleLaws.{below_at}
use Rattle.words.proofs.KindLaws.{of_kind, not_of_kind}
use Rattle.places.specs.ReadLaws.{reading_start, read_less}
use Rattle.words.proofs.KindLaws.{of_kind, not_of_kind}
use Rattle.places.specs.ReadLaws.{turn-fits, turn_low, turn_on, run_inside, turn-run, turn-copy, turn-right, turn-left, turn_down}
use Rattle.places.proofs.read_with.Goals as goal

pub loop-done-init : goal.loop-done-init
loop-done-init c used terms store reaches = reading_start store reaches c.requires.room.1 c.requires.empty c.new-ahead.ensures

pub get-here-requires : goal.get-here-requires
get-here-requires c =
    let asked = c.requires.shows in
    let now = c.loop-done.invariant _ _ asked.store.store asked.reaches in
    omega (arith, asked.store.store.fits, rw decode-length at now.low)

-- ---- the part is used up: on to the tail or right ----

pub loop-done-smaller-then-here-at : goal.loop-done-smaller-then-here-at
loop-done-smaller-then-here-at c =
    let asked = c.requires.shows in
    let now = c.loop-done.invariant _ _ asked.store.store asked.reaches in
    let is = below_at _ asked.used _ c.get-here.ensures (rw decode-length at now.low) in
    omega (arith, turn_low now c.loop-done-test.true is c.if-here-at.true)

pub loop-done-preserved-then-here-at : goal.loop-done-preserved-then-here-at
loop-done-preserved-then-here-at c used terms store reaches =
    let now = c.loop-done.invariant used terms store reaches in
    turn_on now c.loop-done-test.true (below_at _ used _ c.get-here.ensures (rw decode-length at now.low)) c.if-here-at.true

-- ---- a run ----

pub overflow_add-here : goal.overflow_add-here
overflow_add-here c =
    let asked = c.requires.shows in
    let now = c.loop-done.invariant _ _ asked.store.store asked.reaches in
    let is = below_at _ asked.used _ c.get-here.ensures (rw decode-length at now.low) in
    let inside = run_inside now c.loop-done-test.true is (of_kind c.is.ensures c.if-is.true) c.if-here-at.false c.min-k.ensures in
    omega (arith, inside, asked.store.few_terms)

pub put_run-requires : goal.put_run-requires
put_run-requires c =
    let asked = c.requires.shows in
    let now = c.loop-done.invariant _ _ asked.store.store asked.reaches in
    let is = below_at _ asked.used _ c.get-here.ensures (rw decode-length at now.low) in
    let inside = run_inside now c.loop-done-test.true is (of_kind c.is.ensures c.if-is.true) c.if-here-at.false c.min-k.ensures in
    let fits = turn-fits now c.loop-done-test.true (rw decode-length asked.store.store.few) c.requires.room.0 in
    (omega (arith, fits, c.min-k.ensures), omega (arith, inside, asked.store.few_terms, c.min-k.ensures, c.if-here-at.false))

pub overflow_add-done : goal.overflow_add-done
overflow_add-done c =
    let asked = c.requires.shows in
    let now = c.loop-done.invariant _ _ asked.store.store asked.reaches in
    let fits = turn-fits now c.loop-done-test.true (rw decode-length asked.store.store.few) c.requires.room.0 in
    omega (arith, fits, c.min-k.ensures)

pub pass-requires : goal.pass-requires
pass-requires c =
    let asked = c.requires.shows in
    let now = c.loop-done.invariant _ _ asked.store.store asked.reaches in
    (omega arith, (turn-fits now c.loop-done-test.true (rw decode-length asked.store.store.few) c.requires.room.0).short)

pub loop-done-preserved-then-is : goal.loop-done-preserved-then-is
loop-done-preserved-then-is c used terms store reaches =
    let now = c.loop-done.invariant used terms store reaches in
    let is = below_at _ used _ c.get-here.ensures (rw decode-length at now.low) in
    turn-run now c.loop-done-test.true is (of_kind c.is.ensures c.if-is.true) c.if-here-at.false c.min-k.ensures c.pass.ensures c.put_run.ensures

pub loop-done-smaller-then-is : goal.loop-done-smaller-then-is
loop-done-smaller-then-is c =
    let asked = c.requires.shows in
    let now = c.loop-done.invariant _ _ asked.store.store asked.reaches in
    let fits = turn-fits now c.loop-done-test.true (rw decode-length asked.store.store.few) c.requires.room.0 in
    let after = loop-done-preserved-then-is c _ _ asked.store.store asked.reaches in
    let low = rw decode-length at after.low in
    read_less _ _ _ _ _ (omega (arith, fits, c.min-k.ensures, c.if-here-at.false)) (omega (arith, fits, c.min-k.ensures)) (omega (arith, low, asked.store.store.few))

-- ---- the piece was read before ----

pub read_before-requires : goal.read_before-requires
read_before-requires c =
    let asked = c.requires.shows in
    let now = c.loop-done.invariant _ _ asked.store.store asked.reaches in
    let fits = turn-fits now c.loop-done-test.true (rw decode-length asked.store.store.few) c.requires.room.0 in
    (fits.low, omega (arith, fits.short))

pub copy_up-requires : goal.copy_up-requires
copy_up-requires c =
    let asked = c.requires.shows in
    let now = c.loop-done.invariant _ _ asked.store.store asked.reaches in
    let fits = turn-fits now c.loop-done-test.true (rw decode-length asked.store.store.few) c.requires.room.0 in
    (c.in-Some.ensures.there, omega (arith, fits))

pub loop-done-preserved-in-Some : goal.loop-done-preserved-in-Some
loop-done-preserved-in-Some c used terms store reaches =
    turn-copy (c.loop-done.invariant used terms store reaches) c.loop-done-test.true c.in-Some.ensures c.pass-in-Some.ensures c.copy_up.ensures

pub loop-done-smaller-in-Some : goal.loop-done-smaller-in-Some
loop-done-smaller-in-Some c =
    let asked = c.requires.shows in
    let now = c.loop-done.invariant _ _ asked.store.store asked.reaches in
    let fits = turn-fits now c.loop-done-test.true (rw decode-length asked.store.store.few) c.requires.room.0 in
    let after = loop-done-preserved-in-Some c _ _ asked.store.store asked.reaches in
    let low = rw decode-length at after.low in
    read_less _ _ _ _ _ fits.some (omega (arith, fits)) (omega (arith, low, asked.store.store.few))

-- ---- a Concat that was not: into its left ----

pub note-requires : goal.note-requires
note-requires c =
    let asked = c.requires.shows in
    let now = c.loop-done.invariant _ _ asked.store.store asked.reaches in
    let fits = turn-fits now c.loop-done-test.true (rw decode-length asked.store.store.few) c.requires.room.0 in
    (fits.low, omega (arith, fits), omega (arith, fits))

pub enter-requires : goal.enter-requires
enter-requires c =
    let asked = c.requires.shows in
    let now = c.loop-done.invariant _ _ asked.store.store asked.reaches in
    let is = below_at _ asked.used _ c.get-here.ensures (rw decode-length at now.low) in
    let fits = turn-fits now c.loop-done-test.true (rw decode-length asked.store.store.few) c.requires.room.0 in
    let right = turn-right now c.loop-done-test.true is (not_of_kind c.is.ensures c.if-is.false) c.if-here-at.false in
    (omega arith, ((omega (arith, c.if-here-at.false), omega (arith, fits.short), omega (arith, right, fits.low)), omega (arith, fits)))

pub loop-done-smaller : goal.loop-done-smaller
loop-done-smaller c =
    let asked = c.requires.shows in
    let now = c.loop-done.invariant _ _ asked.store.store asked.reaches in
    let is = below_at _ asked.used _ c.get-here.ensures (rw decode-length at now.low) in
    omega (arith, turn-left now c.loop-done-test.true is (not_of_kind c.is.ensures c.if-is.false) c.if-here-at.false c.enter.ensures)

pub loop-done-preserved : goal.loop-done-preserved
loop-done-preserved c used terms store reaches =
    let asked = c.requires.shows in
    let here = c.loop-done.invariant _ _ asked.store.store asked.reaches in
    let fits = turn-fits here c.loop-done-test.true (rw decode-length asked.store.store.few) c.requires.room.0 in
    let now = c.loop-done.invariant used terms store reaches in
    let is = below_at _ used _ c.get-here.ensures (rw decode-length at now.low) in
    turn_down now c.loop-done-test.true is (not_of_kind c.is.ensures c.if-is.false) c.if-here-at.false (omega (arith, fits)) c.note.ensures c.enter.ensures
