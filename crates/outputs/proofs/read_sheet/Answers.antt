-- `read_sheet`: the answer of reading is told; the counts of a sheet that was read are small, which says where its name bytes start.
use mathlib.Core.Path.{refl, ap, sym, ◌∙◌}
use Rattle.sheet_spec.specs.Job.{refused_sheet}
use Rattle.words.specs.Refusals.{told}
use Rattle.sheet_read.specs.Read.{read_of}
use Rattle.outputs.specs.SheetOutputs.{counts_out}
use Rattle.outputs.specs.SheetOutputLaws.{counted_limited, counts_told, read_out}
use Rattle.outputs.proofs.read_sheet.Goals as goal

pub names_start-requires : goal.names_start-requires
unfolding read_of told
names_start-requires c =
    counted_limited _ _ _ _ _ _ _ _ c.read_sheet.ensures _ (ap read_of c.in-Ok.is)

pub returns-in-Ok : goal.returns-in-Ok
unfolding read_of told
returns-in-Ok c =
    read_out _ _ _ _ _ _ _ _ c.read_sheet.ensures _ _ (ap read_of c.in-Ok.is) (counts_told _ _ c.names_start.ensures)

pub returns-in-Err : goal.returns-in-Err
unfolding read_of told counts_out
returns-in-Err c =
    read_out _ _ _ _ _ _ _ _ c.read_sheet.ensures _ _ (ap read_of c.in-Err.is ∙ ap refused_sheet (sym c.number.ensures)) refl
