-- By squaring: each exit is one law of powers.
use Rattle.numbers.specs.DigestLaws.{power_even, power_odd}
use Rattle.numbers.proofs.digests.+power.Goals as goal

pub returns-then-n-eq0-2 : goal.returns-then-n-eq0-2
returns-then-n-eq0-2 t c = power_even _ _ _ c.power-half.ensures c.if-n-eq0-2.true

pub returns : goal.returns
returns t c = power_odd _ _ _ c.power-half.ensures c.if-n-eq0-2.false
