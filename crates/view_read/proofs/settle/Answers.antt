-- One law of settling for each exit; 13 where the copy exceeds the slice or the limit.
use Rattle.std.proofs.Common.{ap, sym, ◌∙◌, arith}
use Rattle.words.specs.Refusals.{spec_number}
use Rattle.view_read.specs.Read.{spec_place_of, settled_of}
use Rattle.view_read.specs.PlaceLaws.{settle_stored, settle_full, settle_done}
use Rattle.view_read.proofs.settle.Goals as goal
use Rattle.view_read.proofs.settle.Goals.{then-used-f-via-then-used-f, then-used-f-via-else-used-f+then-terms-used}

pub returns-in-Some : goal.returns-in-Some
unfolding settled_of spec_place_of
returns-in-Some c m store reaches =
    settle_stored _ _ _ _ _ c.requires.lies.0 c.requires.lies.1 (sym (ap spec_place_of c.in-Some.is) ∙ c.place_of.ensures _ reaches.low)

pub returns-then-used-f : goal.returns-then-used-f
unfolding settled_of spec_place_of spec_number
returns-then-used-f c m store reaches =
    let scattered = sym (ap spec_place_of c.in-None.is) ∙ c.place_of.ensures _ reaches.low in
    elim c.then-used-f.branch [
      | then-used-f-via-then-used-f w ↦ settle_full _ _ _ _ _ store reaches.low reaches.fits scattered (omega arith)
      | then-used-f-via-else-used-f+then-terms-used w ↦ settle_full _ _ _ _ _ store reaches.low reaches.fits scattered (omega arith)
    ]

pub returns-else-terms-used : goal.returns-else-terms-used
unfolding settled_of spec_place_of
returns-else-terms-used c m store reaches =
    settle_done _ _ _ _ _ store reaches.low reaches.fits (sym (ap spec_place_of c.in-None.is) ∙ c.place_of.ensures _ reaches.low) (omega arith)
    (c.copy_after.ensures _ store reaches)
