use Rattle.std.proofs.Common.{◌*◌, length, ap, ◌∙◌, arith}
use Rattle.sheet_spec.specs.Sheet.{line_width}
use Rattle.sheet_form.specs.FormLaws.{room_at}
use Rattle.sheet_write.specs.LineLaws.{record_size, lines_unwritten, lines_more, lines-whole}
use Rattle.sheet_write.proofs.write_lines.Goals as goal

pub loop-i-init : goal.loop-i-init
loop-i-init c = lines_unwritten _ _ _ _ _ _ _

pub write_record-requires : goal.write_record-requires
write_record-requires c = (
  omega (arith, ap (λ w. w * c.loop-i.i) c.width-width.ensures, room_at c.args.p (line_width c.args.form.kept c.args.form.zeros) _ _ (length c.args.out.now) c.loop-i-test.true c.requires.0),
  c.requires.2,
  record_size _ _ _ _ c.loop-i-test.true c.requires.1,
)

pub loop-i-preserved : goal.loop-i-preserved
loop-i-preserved c =
    lines_more c.loop-i.out _ _ _ _ _ _ _ _ c.width-width.ensures (omega arith) c.loop-i-test.true c.requires.1 (omega arith) c.write_record.ensures ∙ c.loop-i.invariant

pub returns : goal.returns
returns c = lines-whole _ _ _ _ _ _ _ _ _ _ (omega arith) c.loop-i.invariant
