-- Each step is one law of the chain; after the loop the run that is held is closed.
use Rattle.std.proofs.Common.{arith, refl}
use Rattle.from_runs.specs.BuildLaws.{going_start, going_skip, going_fuse, going_low, going_closes, going_part, going_end, closed_low}
use Rattle.from_runs.proofs.from_runs_build.Goals as goal

pub loop-i-init : goal.loop-i-init
loop-i-init c = going_start _ _ _ c.requires

pub get-r-requires : goal.get-r-requires
get-r-requires c = omega (arith, c.loop-i.invariant.within)

pub loop-i-preserved-in-Skip : goal.loop-i-preserved-in-Skip
loop-i-preserved-in-Skip c = going_skip _ _ _ c.requires _ _ _ _ c.loop-i.invariant c.loop-i-test.true c.get-r.result c.get-r.ensures c.in-Skip.ensures

pub overflow_add-held : goal.overflow_add-held
overflow_add-held c =
    let fused = going_fuse _ _ _ c.requires _ _ _ _ c.loop-i.invariant c.loop-i-test.true c.get-r.result c.get-r.ensures _ c.in-Fuse.ensures in
    omega (arith, going_low _ _ _ c.requires _ _ _ _ fused _ refl, c.requires.over.inside.few_terms)

pub loop-i-preserved-in-Fuse : goal.loop-i-preserved-in-Fuse
loop-i-preserved-in-Fuse c = going_fuse _ _ _ c.requires _ _ _ _ c.loop-i.invariant c.loop-i-test.true c.get-r.result c.get-r.ensures _ c.in-Fuse.ensures

pub close-at-requires : goal.close-at-requires
close-at-requires c = going_closes _ _ _ c.requires _ _ _ _ c.loop-i.invariant

pub loop-i-preserved : goal.loop-i-preserved
loop-i-preserved c = going_part _ _ _ c.requires _ _ _ _ c.loop-i.invariant c.loop-i-test.true c.get-r.result c.get-r.ensures c.in-Part.ensures c.close-at.ensures

pub close-at-requires-2 : goal.close-at-requires-2
close-at-requires-2 c = going_closes _ _ _ c.requires _ _ _ _ c.loop-i.invariant

pub tail-requires : goal.tail-requires
tail-requires c = closed_low _ _ _ c.requires _ _ _ _ c.loop-i.invariant c.close-at-2.ensures

pub returns : goal.returns
returns c = going_end _ _ _ c.requires _ _ _ _ c.loop-i.invariant c.close-at-2.ensures (omega arith) c.tail.ensures
