-- h is the digest of the bytes so far.
use Rattle.std.proofs.Common.{◌≡◌, map, take}
use Rattle.numbers.specs.Digest.{digest, counts}
use Rattle.numbers.proofs.digests.digest_text.Given as goal

abbrev pub invariant-loop-b : goal.invariant-loop-b
invariant-loop-b l = l.h ≡ digest l.base (map (counts l.digits) (take l.b-index l.text))
