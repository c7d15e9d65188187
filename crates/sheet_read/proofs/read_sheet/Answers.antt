-- Each return is the law of its case.
use Rattle.words.specs.Refusals.{spec_number, told}
use Rattle.sheet_read.specs.Read.{read_of}
use Rattle.sheet_read.specs.SheetLaws.{sheet-short, sheet_missing, sheet_unfit, slices_short, sheet_read_held, in_form_of, head_limits}
use Rattle.sheet_read.proofs.read_sheet.Goals as goal

pub returns-then-text-lt-LINE : goal.returns-then-text-lt-LINE
unfolding read_of told spec_number
returns-then-text-lt-LINE c = sheet-short _ _ _ _ c.if-text-lt-LINE.true

pub returns-in_default : goal.returns-in_default
unfolding read_of told spec_number
returns-in_default c = sheet_missing _ _ _ _ _ c.counts_of.ensures c.in_default.not-Some

pub returns-then-not-form_ok : goal.returns-then-not-form_ok
unfolding read_of told spec_number
returns-then-not-form_ok c = sheet_unfit _ _ _ _ c.in-Some.ensures c.if-not-form_ok.ensures

pub fits-requires : goal.fits-requires
fits-requires c = head_limits _ _ (in_form_of _ _ c.if-not-form_ok.ensures).head

pub returns-then-not-fits : goal.returns-then-not-fits
unfolding read_of told spec_number
returns-then-not-fits c = slices_short _ _ _ _ c.in-Some.ensures (in_form_of _ _ c.if-not-form_ok.ensures) c.if-not-fits.ensures

pub returns : goal.returns
unfolding read_of told spec_number
returns c = sheet_read_held _ _ _ _ c.in-Some.ensures (in_form_of _ _ c.if-not-form_ok.ensures) c.if-not-fits.ensures c.read_body.ensures
