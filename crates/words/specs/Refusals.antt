-- The refusals of the code by 01's numbers, and what a call answers that may refuse.
use Rattle.std.specs.Prelude.{ℕ, Result, Ok, Err}
use Rattle.term_spec.specs.Refusal.{uneven, bad_term, bad_node, bad_field, past_end, too_long, bad_pattern, bad_binding}
use Rattle.term_spec.specs.Refusal.{too_many_names, no_match, calls_are_not_patterns, nodes_full, terms_full, work_short, more_than_fit, bad_sheet}
use Rattle.words.specs.declared.refusal.Refusal.{Refusal}
use Rattle.words.specs.declared.refusal.Refusal.TheVariants.{Uneven, BadTerm, BadNode, BadField, PastEnd, TooLong, BadPattern, BadBinding}
use Rattle.words.specs.declared.refusal.Refusal.TheVariants.{TooManyNames, NoMatch, CallsAreNotPatterns, NodesFull, TermsFull, WorkShort, MoreThanFit, BadSheet}

-- Each case of the enum has 01's number, and no two have the same one.
unfoldable pub spec_number : Refusal → ℕ
spec_number Uneven = uneven
spec_number BadTerm = bad_term
spec_number BadNode = bad_node
spec_number BadField = bad_field
spec_number PastEnd = past_end
spec_number TooLong = too_long
spec_number BadPattern = bad_pattern
spec_number BadBinding = bad_binding
spec_number TooManyNames = too_many_names
spec_number NoMatch = no_match
spec_number CallsAreNotPatterns = calls_are_not_patterns
spec_number NodesFull = nodes_full
spec_number TermsFull = terms_full
spec_number WorkShort = work_short
spec_number MoreThanFit = more_than_fit
spec_number BadSheet = bad_sheet

-- The number of an answer, 0 where it is no refusal.
unfoldable pub told_number : {A : Type 0} → Result A Refusal → ℕ
told_number (Ok a) = 0
told_number (Err r) = spec_number r

-- An answer as the specification has it: `accepts` gives that of a value, and `refuses` that of a number.
unfoldable pub told : {A B : Type 0} → (A → B) → (ℕ → B) → Result A Refusal → B
told accepts refuses (Ok a) = accepts a
told accepts refuses (Err r) = refuses (spec_number r)
