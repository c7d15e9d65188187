-- What the numbers before the part add to the digest of the whole is taken off again, modulo the prime.
use Rattle.std.proofs.Common.{arith}
use Rattle.numbers.specs.DigestLaws.{below-prime, product_fits, digest-rest}
use Rattle.numbers.proofs.digests.digest_part.Goals as goal

pub overflow_mul-moved : goal.overflow_mul-moved
overflow_mul-moved c =
    let front = c.digest_front-front.result in
    let power = c.power.result in
    omega (arith, product_fits front power (below-prime _ _ c.digest_front-front.ensures) (omega (arith, c.power.ensures)))

pub overflow_add-result : goal.overflow_add-result
overflow_add-result c = omega (arith, below-prime _ _ c.digest_front-whole.ensures)

pub returns : goal.returns
returns c =
    let given = c.args in
    let rest = digest-rest given.base given.numbers.now given.s given.n c.requires.1 in
    rw (c.digest_front-whole.ensures, c.digest_front-front.ensures, c.power.ensures) rest
