use Rattle.std.proofs.Common.{refl, arith}
use Rattle.sheet_spec.specs.Sheet.{scan}
use Rattle.sheet_read.specs.NumberLaws.{tens, tens-bound, tens-more, scan_byte, ten_bytes, columns_small, columns_large, show_none}
use Rattle.sheet_read.proofs.number_at.Goals as goal

pub loop-b-init : goal.loop-b-init
unfolding tens scan
loop-b-init c = (refl, omega arith)

pub next-c-requires : goal.next-c-requires
next-c-requires c = omega (arith, tens-bound c.loop-b.b-index (omega (arith, ten_bytes _ _ c.requires)))

pub loop-b-preserved : goal.loop-b-preserved
loop-b-preserved c =
    (scan_byte _ _ _ (omega (arith, ten_bytes _ _ c.requires)) c.loop-b.invariant.0 c.next-c.ensures.0, tens-more _ _ _ c.loop-b.invariant.1 c.next-c.ensures.1)

pub returns-in_default : goal.returns-in_default
returns-in_default c = show_none _ _ _ (omega (arith, ten_bytes _ _ c.requires)) _ c.loop-b.invariant.0 c.in_default.not-Number

pub returns-then-v-lt-BEYOND : goal.returns-then-v-lt-BEYOND
returns-then-v-lt-BEYOND c = columns_small _ _ _ (omega (arith, ten_bytes _ _ c.requires)) _ c.loop-b.invariant.0 c.in-Number.v c.in-Number.is c.if-v-lt-BEYOND.true

pub returns-else-v-lt-BEYOND : goal.returns-else-v-lt-BEYOND
returns-else-v-lt-BEYOND c = columns_large _ _ _ (omega (arith, ten_bytes _ _ c.requires)) _ c.loop-b.invariant.0 c.in-Number.v c.in-Number.is c.if-v-lt-BEYOND.false
