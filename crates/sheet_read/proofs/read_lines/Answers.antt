use Rattle.std.proofs.Common.{◌+◌, ◌*◌, ap, refl}
use Rattle.sheet_form.specs.FormLaws.{part_at}
use Rattle.sheet_read.specs.LineLaws.{line_at, words_none, words_set_lem}
use Rattle.sheet_read.proofs.read_lines.Goals as goal

pub loop-i-init : goal.loop-i-init
loop-i-init c = words_none _ _ _ _ _

pub read_numbers-requires-clause-in_form : goal.read_numbers-requires-clause-in_form
read_numbers-requires-clause-in_form c =
    line_at _ _ _ _ _ _ _ c.requires.in_form c.loop-i-test.true (ap (λ w. c.args.p + w * c.loop-i.i) c.width-width.ensures)

pub loop-i-preserved : goal.loop-i-preserved
loop-i-preserved c =
    words_set_lem _ _ _ _ _ _ _ _ (part_at _ _ _ _ c.loop-i-test.true c.requires.fits.2) (ap (λ w. c.args.p + w * c.loop-i.i) c.width-width.ensures) refl
    c.loop-i.invariant c.read_numbers.ensures
