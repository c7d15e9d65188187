-- Each answer is what the first base told; what is free to take any cost is never given up.
use Rattle.std.proofs.Common.{refl}
use Rattle.pattern.specs.Apart.{it_is, it_is_not}
use Rattle.pattern.specs.ApartLaws.{tells_none, tells-one, tells_free}
use Rattle.pattern.proofs.apart.first_told.Goals as goal

pub returns-in-NoneRepeats : goal.returns-in-NoneRepeats
returns-in-NoneRepeats c = it_is (tells_none (rw c.in-NoneRepeats.is at c.first_apart.ensures))

pub returns-in-OneRepeats : goal.returns-in-OneRepeats
returns-in-OneRepeats c = it_is_not (tells-one (rw c.in-OneRepeats.is at c.first_apart.ensures))

pub returns-in-NoneRepeats-matches : goal.returns-in-NoneRepeats-matches
returns-in-NoneRepeats-matches c = it_is (tells_none (rw c.in-NoneRepeats-matches.is at c.first_apart-2.ensures))

pub returns-in_default : goal.returns-in_default
returns-in_default c = it_is_not (tells_free _ c.first_apart-2.ensures refl c.in_default.not-NoneRepeats)
