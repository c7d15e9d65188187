-- `answer`: one law of the walk's answer for each exit.
use Rattle.words.specs.Refusals.{spec_number}
use Rattle.listing.specs.Match.{matched_of, brought}
use Rattle.listing.specs.AnswerLaws.{answer-full, answer_called, answer_none, answer_some, answer_done}
use Rattle.listing.proofs.answer.Goals as goal

pub returns-in-Full : goal.returns-in-Full
unfolding matched_of brought spec_number
returns-in-Full c w l = answer-full w _ _ c.in-Full.is

pub returns-in-Called : goal.returns-in-Called
unfolding matched_of brought spec_number
returns-in-Called c w l = answer_called w _ _ c.in-Called.is

pub returns-in-Going : goal.returns-in-Going
unfolding matched_of brought spec_number
returns-in-Going c w l = answer_none w _ _ c.in-Going.is l c.if-t-eq0.true

pub returns-in-Going-2 : goal.returns-in-Going-2
unfolding matched_of brought spec_number
returns-in-Going-2 c w l = answer_some w _ _ c.in-Going.is l c.if-t-eq0.false

pub returns-in-Done : goal.returns-in-Done
unfolding matched_of brought spec_number
returns-in-Done c w l = answer_done w _ _ c.in-Done.is
