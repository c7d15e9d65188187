-- At a stay or a cut the way down is at the bottom, and completing what was reserved ends as promised.
use Rattle.drop_front.proofs.BuildLaws.{down_start, at_stay, at_cut, at_under}
use Rattle.std.proofs.Common.{rules, refl}
use Rattle.drop_front.proofs.drop_front_build.Goals as goal

pub loop-kept-init : goal.loop-kept-init
loop-kept-init c = let asked = c.requires in down_start _ _ _ _ _ asked.store asked.reaches asked.room

pub complete-requires : goal.complete-requires
complete-requires c =
    let asked = c.requires in
    (at_stay _ _ _ _ _ asked.store asked.reaches asked.room _ _ _ _ c.loop-kept.invariant _ refl c.in-Stay.ensures).asks

pub returns-in-Stay : goal.returns-in-Stay
returns-in-Stay c =
    let asked = c.requires in
    (at_stay _ _ _ _ _ asked.store asked.reaches asked.room _ _ _ _ c.loop-kept.invariant _ refl c.in-Stay.ensures).ends c.complete.ensures

pub make_cons-requires-clause-fits : goal.make_cons-requires-clause-fits
make_cons-requires-clause-fits c =
    let asked = c.requires in
    let k = at_cut _ _ _ _ _ asked.store asked.reaches asked.room _ _ _ _ c.loop-kept.invariant _ _ _ refl c.in-Cut.ensures in
    (k.room, k.start, k.some_terms, k.tail_low)

pub complete-requires-in-Cut : goal.complete-requires-in-Cut
complete-requires-in-Cut c =
    let asked = c.requires in
    let k = at_cut _ _ _ _ _ asked.store asked.reaches asked.room _ _ _ _ c.loop-kept.invariant _ _ _ refl c.in-Cut.ensures in
    (k.next c.make_cons.ensures).asks

pub returns-in-Cut : goal.returns-in-Cut
returns-in-Cut c =
    let asked = c.requires in
    let k = at_cut _ _ _ _ _ asked.store asked.reaches asked.room _ _ _ _ c.loop-kept.invariant _ _ _ refl c.in-Cut.ensures in
    (k.next c.make_cons.ensures).ends c.complete-in-Cut.ensures

pub reserve-requires : goal.reserve-requires
reserve-requires c =
    let asked = c.requires in
    let k = at_under _ _ _ _ _ asked.store asked.reaches asked.room _ _ _ _ c.loop-kept.invariant _ _ _ _ refl c.in-Under.ensures in
    (k.room, search rules, k.size, k.right)

pub loop-kept-preserved : goal.loop-kept-preserved
loop-kept-preserved c =
    let asked = c.requires in
    (at_under _ _ _ _ _ asked.store asked.reaches asked.room _ _ _ _ c.loop-kept.invariant _ _ _ _ refl c.in-Under.ensures).next c.reserve.ensures
