-- The splits before j are passed over.
use Rattle.std.proofs.Common.{◌+◌, ◌-◌}
use Rattle.equality.specs.Stores.{Remembers}
use Rattle.steps.specs.State.{left_of}
use Rattle.rigid.specs.Stores.{fits_split}
use Rattle.rigid.specs.SplitLaws.{Passed}
use Rattle.rigid.proofs.next_split.Given as goal

abbrev pub invariant-loop-j : goal.invariant-loop-j
invariant-loop-j l = record {
  passed : Passed (fits_split l.given l.p l.s.bound l.binds (left_of l.s)) l.k l.s.len l.j;
  memory : Remembers l.given.store l.known;
}

abbrev pub decreases-loop-j : goal.decreases-loop-j
decreases-loop-j l = l.s.len + 1 - l.j
