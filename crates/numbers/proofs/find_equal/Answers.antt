-- A place is the one that is looked for, or the search goes on with the one before it in its chain.
use Rattle.std.proofs.Common.{sym, arith}
use Rattle.numbers.specs.ChainLaws.{sought_less}
use Rattle.numbers.proofs.TablesLaws.{searched_next, placed_here, placed_nowhere}
use Rattle.numbers.proofs.find_equal.Goals as goal

pub returns-in-None : goal.returns-in-None
returns-in-None c =
    let (base, low, asked) = c.requires in
    let here = rw c.in-Some.is at c.loop-at.invariant.sought in (
      omega (arith, c.loop-at.invariant.paid, asked.tables.chains.heads_low c.args.b),
      placed_here here.1 (sym c.in-None.ensures.1),
    )

pub loop-at-preserved : goal.loop-at-preserved
loop-at-preserved c =
    let (base, here) = rw c.in-Some.is at c.loop-at.invariant.sought in
    let paid = rw c.in-Some.is at c.loop-at.invariant.paid in
    record {
      sought = (base, rw c.before-at.ensures (searched_next here (sym c.in-Some-apart_above.ensures.1)));
      paid = omega (arith, paid, sought_less here.sought, c.before-at.ensures, c.in-Some-apart_above.ensures.0);
    }

pub returns : goal.returns
returns c =
    let (base, low, asked) = c.requires in
    let here = rw c.in_default.is at c.loop-at.invariant.sought in
    (omega (arith, c.loop-at.invariant.paid, asked.tables.chains.heads_low c.args.b), placed_nowhere here.1 (omega arith))
