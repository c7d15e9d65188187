-- `start`: each turn copies the run of one binding.
use Rattle.std.proofs.Common.{ap, arith}
use Rattle.listing.specs.StartLaws.{copied_none, copied_next, copied_all, small_bound}
use Rattle.listing.proofs.walks.start.Goals as goal

pub loop-i-init : goal.loop-i-init
loop-i-init c = copied_none _ _ c.requires.1

pub put-requires : goal.put-requires
put-requires c =
    let small = small_bound c.args.bindings.now _ _ (λ k. omega (arith, c.type_inv.bindings k)) c.get-b.ensures in
    let run = c.run.ensures in (
      omega (arith, c.loop-i.invariant.room, c.loop-i-test.true, c.requires.0),
      record { start = omega (arith, ap (λ r. r.start) run, small.start); len = omega (arith, ap (λ r. r.len) run, small.len) },
    )

pub loop-i-preserved : goal.loop-i-preserved
loop-i-preserved c = rw (c.put.ensures, c.run.ensures) (copied_next _ _ _ c.loop-i.invariant c.loop-i-test.true c.requires.0 _ c.get-b.ensures)

pub returns : goal.returns
returns c = copied_all _ _ _ c.loop-i.invariant c.loop-i-test.false
