-- The key is the digest with one number more, modulo the count of buckets.
use Rattle.numbers.specs.Numbers.{key_of}
use Rattle.numbers.specs.KeyLaws.{term-below}
use Rattle.numbers.proofs.bucket_of.Goals as goal

pub mix-requires : goal.mix-requires
mix-requires c = (c.requires.readable.0, rw c.term_digest.ensures (term-below _ _ _ _ _))

pub returns : goal.returns
unfolding key_of
returns c = rw (c.mix.ensures, c.term_digest.ensures)
