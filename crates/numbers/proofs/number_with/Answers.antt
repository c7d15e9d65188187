-- A term gets its number, and a mark is written after every so many.
use Rattle.std.proofs.Common.{arith}
use Rattle.numbers.specs.NumberingLaws.{numbering_start, sum_below, next_below, numbering_next, numbering_marked}
use Rattle.numbers.proofs.number_with.Goals.{then-k-eq0, else-k-eq0}
use Rattle.numbers.proofs.number_with.Goals as goal

pub loop-k-init : goal.loop-k-init
loop-k-init c = record { numbered = numbering_start c.requires.tables c.requires.marks.1 c.requires.marks.0; paid = omega arith }

pub mix-sum-requires : goal.mix-sum-requires
mix-sum-requires c = (c.requires.room.1, sum_below c.loop-k.invariant.numbered)

pub set_word-requires : goal.set_word-requires
set_word-requires c =
    let was = c.loop-k.invariant.numbered in (
      omega (arith, c.loop-k-test.true, was.tables.few, was.marks_room),
      omega (arith, next_below was c.number_of-got.result.number c.loop-k-test.true c.mix-sum.ensures),
    )

pub loop-k-preserved : goal.loop-k-preserved
loop-k-preserved c =
    let was = c.loop-k.invariant.numbered in
    let inside = c.loop-k-test.true in
    let tables = c.number_of-got.ensures.2 in
    record {
      numbered = elim c.if-k-eq0.branch [
        | then-k-eq0 w ↦ rw (w.marks-is, w.set_word.ensures) (numbering_marked was _ inside c.mix-sum.ensures tables w.if-k-eq0.true)
        | else-k-eq0 w ↦ rw w.marks-is (numbering_next was _ inside c.mix-sum.ensures tables w.if-k-eq0.false)
      ];
      paid = omega (arith, c.number_of-got.ensures.1, c.loop-k.invariant.paid);
    }
