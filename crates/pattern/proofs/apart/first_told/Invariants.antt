-- Each base is below the prime.
use Rattle.std.proofs.Common.{◌<◌}
use Rattle.numbers.specs.Digest.{prime}
use Rattle.pattern.proofs.apart.first_told.Given as goal

abbrev pub invariant-loop : goal.invariant-loop
invariant-loop l = l.base < prime
