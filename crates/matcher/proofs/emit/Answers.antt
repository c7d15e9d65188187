-- `emit`: the next slot has the words of the entries, and all other words are as they were.
use Rattle.std.proofs.Common.{◌≡◌, ◌≤◌, length, arith}
use Rattle.match_spec.specs.Answer.{after_one}
use Rattle.matcher.specs.Ready.{status_of, wanted_of, slot_words}
use Rattle.matcher.specs.EmitLaws.{pasted_none, pasted_next, slot_within, stop_head, stop_all, emit_full, emit_written}
use Rattle.matcher.proofs.emit.Goals as goal
use Rattle.matcher.proofs.emit.Goals.{then-g, else-g}

pub returns-then-g-count : goal.returns-then-g-count
returns-then-g-count c = emit_full _ _ _ c.requires.open_slots.goes _ c.requires.open_slots.most c.if-g-count.true

pub loop-i-init : goal.loop-i-init
loop-i-init c = pasted_none _ _ _ _

pub loop-i-preserved : goal.loop-i-preserved
loop-i-preserved c =
    let a = c.args in
    let long : slot_words a.g.entries ≤ length a.binds.now = omega (arith, c.requires.room.0, c.requires.room.1) in
    pasted_next c.loop-i.invariant (slot_within _ _ _ a.slots.now c.requires.open_slots.room c.if-g-count.false) long c.loop-i-test.true

pub returns : goal.returns
returns c =
    let a = c.args in
    let ready = c.requires.open_slots in
    let long : slot_words a.g.entries ≤ length a.binds.now = omega (arith, c.requires.room.0, c.requires.room.1) in
    let stop : status_of c.if-g.stop ≡ after_one (wanted_of a.g.head) = elim c.if-g.branch [
      | then-g w ↦ stop_head w.stop-is w.if-g.true
      | else-g w ↦ stop_all w.stop-is w.if-g.false
    ] in
    emit_written _ _ _ ready.goes c.if-g.stop ready.room long c.if-g-count.false c.loop-i.invariant (omega arith) stop
