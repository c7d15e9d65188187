-- One law of the sheet for each exit.
use Rattle.std.proofs.Common.{refl, sym, ◌∙◌, arith}
use Rattle.term_spec.proofs.BoolLaws.{true-T}
use Rattle.sheet_spec.proofs.SheetLaws.{spec_counts_of}
use Rattle.words.specs.Refusals.{spec_number, told}
use Rattle.sheet_write.specs.Write.{written_of}
use Rattle.sheet_write.specs.SheetLaws.{uneven-refused, rule-limits, text_length, fitting, short-refused, sheet-written}
use Rattle.sheet_write.proofs.write_sheet.Goals as goal

pub returns-then-not-fits : goal.returns-then-not-fits
unfolding written_of told spec_number
returns-then-not-fits c = uneven-refused _ _ c.if-not-fits.ensures refl

pub end-all-requires : goal.end-all-requires
unfolding spec_counts_of
end-all-requires c = rule-limits _ (true-T _ (sym c.if-not-fits.ensures)) c.counts-c.ensures

pub returns-then-out-all : goal.returns-then-out-all
unfolding spec_counts_of written_of told spec_number
returns-then-out-all c =
    short-refused _ _ c.if-not-fits.ensures refl (text_length _ (true-T _ (sym c.if-not-fits.ensures)) c.counts-c.ensures ∙ sym c.end-all.ensures) c.if-out-all.true

pub write_to-requires-clause-limits : goal.write_to-requires-clause-limits
unfolding spec_counts_of
write_to-requires-clause-limits c = rule-limits _ (true-T _ (sym c.if-not-fits.ensures)) c.counts-c.ensures

pub write_to-requires-clause-room : goal.write_to-requires-clause-room
unfolding spec_counts_of
write_to-requires-clause-room c =
    fitting _ _ (true-T _ (sym c.if-not-fits.ensures)) c.counts-c.ensures
    (omega (arith, text_length _ (true-T _ (sym c.if-not-fits.ensures)) c.counts-c.ensures, c.end-all.ensures))

pub returns : goal.returns
unfolding spec_counts_of written_of told spec_number
returns c =
    sheet-written _ _ c.if-not-fits.ensures refl (text_length _ (true-T _ (sym c.if-not-fits.ensures)) c.counts-c.ensures ∙ sym c.end-all.ensures) c.if-out-all.false
    c.write_to.ensures
