-- The exponent falls.
use Rattle.numbers.proofs.digests.+power.Given as goal

abbrev pub decreases-power : goal.decreases-power
decreases-power l = l.n
