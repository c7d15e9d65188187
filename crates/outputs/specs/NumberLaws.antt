-- The refusals of the code are told by 01's numbers: so told, each answer is the one that the calls themselves speak of.
use Rattle.std.specs.Prelude.{◌≡◌, refl, Result, Ok, Err, Bool, ℕ}
use Rattle.words.specs.declared.refusal.Refusal.{Refusal}
use Rattle.words.specs.Refusals.{spec_number, told}
use Rattle.equality.specs.Compare.{answer_of as comparedOf}
use Rattle.view.specs.declared.Field.{Field}
use Rattle.view.specs.Check.{answer_of}
use Rattle.view_read.specs.Read.{verdict_of}
use Rattle.listing.specs.declared.Matched.{Matched}
use Rattle.listing.specs.Match.{matched_of}
use Rattle.sheet_write.specs.Write.{written_of}
use Rattle.outputs.specs.Numbers.{told_by}
use Rattle.outputs.specs.Outputs.{answer_by, verdict_by, matched_by, compared_by}
use Rattle.outputs.specs.SheetOutputs.{written_by}

pub answer_told : (a : Result Field Refusal) → answer_by spec_number a ≡ answer_of a
unfolding told_by answer_of
answer_told (Ok f) = refl
answer_told (Err r) = refl

pub verdict_told : (v : Result Bool Refusal) → verdict_by spec_number v ≡ verdict_of v
unfolding told_by verdict_of
verdict_told (Ok b) = refl
verdict_told (Err r) = refl

pub compared_told : (v : Result Bool Refusal) → compared_by spec_number v ≡ comparedOf v
unfolding told_by comparedOf
compared_told (Ok b) = refl
compared_told (Err r) = refl

pub matched_told : (m : Result Matched Refusal) → matched_by spec_number m ≡ matched_of m
unfolding told_by matched_of
matched_told (Ok l) = refl
matched_told (Err r) = refl

pub written_told : (w : Result ℕ Refusal) → written_by spec_number w ≡ written_of w
unfolding told_by written_of told
written_told (Ok n) = refl
written_told (Err r) = refl
