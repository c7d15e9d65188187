-- What is past the used terms stays as it was.
use Rattle.std.proofs.Common.{◌≡◌, ◌<◌, length, drop}
use Rattle.numbers.specs.Digest.{prime}
use Rattle.numbers.proofs.number_terms.Given as goal

abbrev pub invariant-loop : goal.invariant-loop
invariant-loop l = record {
  small : l.base < prime;
  rest : drop l.store.used l.numbers ≡ drop l.store.used l.fn.numbers;
  size : length l.numbers ≡ length l.fn.numbers;
}
