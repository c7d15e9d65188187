-- One number more goes into the digest.
use Rattle.std.proofs.Common.{sym, ap₂, ◌∙◌, arith}
use Rattle.numbers.specs.Digest.{more}
use Rattle.numbers.specs.DigestLaws.{below-prime, digest_next}
use Rattle.numbers.proofs.digests.digest_front.Goals as goal

pub mix-h-requires : goal.mix-h-requires
mix-h-requires c = (c.requires.0, below-prime _ _ c.loop-j.invariant)

pub loop-j-preserved : goal.loop-j-preserved
loop-j-preserved c =
    let mixed = c.mix-h.ensures ∙ ap₂ (more _) c.loop-j.invariant c.number.ensures in
    mixed ∙ sym (digest_next _ _ c.loop-j.j (omega arith))
