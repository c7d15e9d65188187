-- The refusals' numbers are not 0, which is the number of an answer that refuses nothing.
use Rattle.std.proofs.Common.{◌≡◌, arith}
use Rattle.words.specs.declared.refusal.Refusal.{Refusal}
use Rattle.words.specs.declared.refusal.Refusal.TheVariants.{Uneven, BadTerm, BadNode, BadField, PastEnd, TooLong, BadPattern, BadBinding}
use Rattle.words.specs.declared.refusal.Refusal.TheVariants.{TooManyNames, NoMatch, CallsAreNotPatterns, NodesFull, TermsFull, WorkShort, MoreThanFit, BadSheet}
use Rattle.words.specs.Refusals.{spec_number}

pub number_some : (r : Refusal) → spec_number r ≡ 0 → ⊥
unfolding spec_number
number_some Uneven h = omega arith
number_some BadTerm h = omega arith
number_some BadNode h = omega arith
number_some BadField h = omega arith
number_some PastEnd h = omega arith
number_some TooLong h = omega arith
number_some BadPattern h = omega arith
number_some BadBinding h = omega arith
number_some TooManyNames h = omega arith
number_some NoMatch h = omega arith
number_some CallsAreNotPatterns h = omega arith
number_some NodesFull h = omega arith
number_some TermsFull h = omega arith
number_some WorkShort h = omega arith
number_some MoreThanFit h = omega arith
number_some BadSheet h = omega arith
