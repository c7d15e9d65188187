-- Each case's discriminant is 01's number.
use Rattle.std.proofs.Common.{◌≡◌, ◌+◌, refl}
use Rattle.words.specs.Refusals.{spec_number}
use Rattle.words.specs.declared.refusal.Refusal.{Refusal}
use Rattle.words.specs.declared.refusal.Refusal.TheVariants.{Uneven, BadTerm, BadNode, BadField, PastEnd, TooLong, BadPattern, BadBinding}
use Rattle.words.specs.declared.refusal.Refusal.TheVariants.{TooManyNames, NoMatch, CallsAreNotPatterns, NodesFull, TermsFull, WorkShort, MoreThanFit, BadSheet}
use Rattle.words.specs.contracts.refusal.Refusal.{the_type}
use Rattle.words.proofs.refusal.Refusal.number.Goals as goal

by_case : (r : Refusal) → denote.Enum.Declared.tag_of the_type r + 1 ≡ spec_number r
unfolding spec_number
by_case Uneven = refl
by_case BadTerm = refl
by_case BadNode = refl
by_case BadField = refl
by_case PastEnd = refl
by_case TooLong = refl
by_case BadPattern = refl
by_case BadBinding = refl
by_case TooManyNames = refl
by_case NoMatch = refl
by_case CallsAreNotPatterns = refl
by_case NodesFull = refl
by_case TermsFull = refl
by_case WorkShort = refl
by_case MoreThanFit = refl
by_case BadSheet = refl

pub returns : goal.returns
returns c = by_case c.args.self
