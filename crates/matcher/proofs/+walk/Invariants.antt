-- The records of the pattern that are left. In the loop over the splits what is left comes to the whole.
use Rattle.std.proofs.Common.{length, ◌/◌, ◌-◌}
use Rattle.equality.specs.Stores.{Remembers}
use Rattle.steps.specs.State.{spec_place_of}
use Rattle.matcher.specs.Given.{spec_given}
use Rattle.matcher.specs.SplitLaws.{SplittingAt, splits_left}
use Rattle.matcher.proofs.+walk.Given as goal

abbrev pub decreases-walk : goal.decreases-walk
decreases-walk l = length l.given.now.pattern.now / 4 - l.p

abbrev pub invariant-loop-next : goal.invariant-loop-next
invariant-loop-next l = record {
  splitting : SplittingAt (spec_given l.given) l.p l.g (spec_place_of l.at l.initial.levels l.initial.binds)
      l.initial.got l.initial.slots l.levels l.binds l.slots l.got l.next;
  memory : Remembers l.given.store l.known;
}

abbrev pub decreases-loop-next : goal.decreases-loop-next
decreases-loop-next l = splits_left l.at.len l.next
