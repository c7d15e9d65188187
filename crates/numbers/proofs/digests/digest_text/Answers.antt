-- One byte more changes the digest by what it counts for.
use Rattle.std.proofs.Common.{refl, sym, ap₂, arith, ◌∙◌}
use Rattle.numbers.specs.Digest.{digest_from, more, counts}
use Rattle.numbers.specs.DigestLaws.{below-prime, bytes_next}
use Rattle.numbers.proofs.digests.digest_text.Goals as goal

pub loop-b-init : goal.loop-b-init
unfolding digest_from
loop-b-init c = refl

pub mix-h-requires : goal.mix-h-requires
mix-h-requires c = (c.requires, below-prime _ _ c.loop-b.invariant)

pub loop-b-preserved : goal.loop-b-preserved
loop-b-preserved c =
    c.mix-h.ensures ∙ ap₂ (more c.args.base) c.loop-b.invariant c.counted.ensures ∙ sym (bytes_next _ (counts c.args.digits) c.args.text.now c.loop-b.b-index (omega arith))
