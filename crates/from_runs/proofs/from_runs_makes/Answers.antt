-- Each step is one law of fusing.
use Rattle.std.proofs.Common.{arith}
use Rattle.from_runs.specs.FuseLaws.{count-start, count_skip, count-fuse, count-part, count_end}
use Rattle.from_runs.proofs.from_runs_makes.Goals as goal

pub loop-i-init : goal.loop-i-init
loop-i-init c = count-start _

pub get-r-requires : goal.get-r-requires
get-r-requires c = omega (arith, c.loop-i.invariant.within)

pub loop-i-preserved-in-Skip : goal.loop-i-preserved-in-Skip
loop-i-preserved-in-Skip c = count_skip _ _ _ _ c.loop-i.invariant c.loop-i-test.true c.get-r.result c.get-r.ensures c.in-Skip.ensures

pub loop-i-preserved-in-Fuse : goal.loop-i-preserved-in-Fuse
loop-i-preserved-in-Fuse c = count-fuse _ _ _ _ c.loop-i.invariant c.loop-i-test.true c.get-r.result c.get-r.ensures _ c.in-Fuse.ensures

pub overflow_add-made : goal.overflow_add-made
overflow_add-made c = omega (arith, c.loop-i.invariant.within)

pub loop-i-preserved : goal.loop-i-preserved
loop-i-preserved c = count-part _ _ _ _ c.loop-i.invariant c.loop-i-test.true c.get-r.result c.get-r.ensures c.in-Part.ensures

pub returns : goal.returns
returns c = count_end _ _ _ _ c.loop-i.invariant (omega arith)
