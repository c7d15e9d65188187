-- The loop starts at the last mark below i; at each turn h is the digest of the first j numbers.
use Rattle.std.proofs.Common.{◌≡◌, take}
use Rattle.numbers.specs.Digest.{digest}
use Rattle.numbers.proofs.digests.digest_front.Given as goal

abbrev pub invariant-loop-j : goal.invariant-loop-j
invariant-loop-j l = l.h ≡ digest l.base (take l.j l.numbers)
