-- What the walk of the code reads, as the specification has it.
use Rattle.steps.specs.declared.given.Given.{Given as CodeGiven}
use Rattle.matcher.specs.Ready.{Given, given_of}

abbrev pub spec_given : CodeGiven → Given
spec_given v = given_of v.store.names.now v.store.terms.now v.store.used v.pattern.now v.numbers.now
