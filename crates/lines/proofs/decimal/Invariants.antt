-- What is left says the number after the digits that were read.
use Rattle.std.proofs.Common.{◌≡◌, drop, Some}
use Rattle.lines.specs.Decimal.{digits_after, decimal_of}
use Rattle.lines.proofs.decimal.Given as goal

abbrev pub invariant-loop-byte : goal.invariant-loop-byte
invariant-loop-byte l = decimal_of l.text ≡ digits_after (Some l.number) (drop l.byte-index l.text)
