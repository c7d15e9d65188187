-- Each turn leaves less of the way down; the base is its end, and `complete` wraps it.
use Rattle.std.proofs.Common.{arith, rules, refl}
use Rattle.join.specs.DownLaws.{down_start, base_ready, base_next, single_asks, single_next, double_ready, double_asks, double_next}
use Rattle.join.proofs.join_build.Goals as goal

pub loop-l-init : goal.loop-l-init
loop-l-init c = let asked = c.requires in down_start _ _ _ _ _ _ c.get-h.ensures asked.store asked.piece asked.room

-- ---- the base ----

pub make_concat-requires-clause-store : goal.make_concat-requires-clause-store
make_concat-requires-clause-store c = (base_ready c.loop-l.invariant c.in-Base.ensures refl).store

pub make_concat-requires-clause-fits : goal.make_concat-requires-clause-fits
make_concat-requires-clause-fits c =
    let r = base_ready c.loop-l.invariant c.in-Base.ensures refl in
    (r.room, r.left, r.size, r.right)

pub complete-requires : goal.complete-requires
complete-requires c = (base_next c.loop-l.invariant c.in-Base.ensures refl c.make_concat.ensures).asks

pub returns-in-Base : goal.returns-in-Base
returns-in-Base c = (base_next c.loop-l.invariant c.in-Base.ensures refl c.make_concat.ensures).done _ c.complete.ensures.1

-- ---- a single turn ----

pub reserve-requires : goal.reserve-requires
reserve-requires c =
    let o = single_asks c.loop-l.invariant c.in-Single.ensures refl in
    (o.room, o.left, o.size, search rules)

pub loop-l-preserved-in-Single : goal.loop-l-preserved-in-Single
loop-l-preserved-in-Single c = single_next c.loop-l.invariant c.in-Single.ensures refl c.reserve.ensures

-- ---- a double turn ----

pub make_concat-requires-in-Double-clause-store : goal.make_concat-requires-in-Double-clause-store
make_concat-requires-in-Double-clause-store c = (double_ready c.loop-l.invariant c.in-Double.ensures refl).store

pub make_concat-requires-in-Double-clause-fits : goal.make_concat-requires-in-Double-clause-fits
make_concat-requires-in-Double-clause-fits c =
    let r = double_ready c.loop-l.invariant c.in-Double.ensures refl in
    (r.room, r.left, r.size, r.right)

pub overflow_add-size : goal.overflow_add-size
overflow_add-size c = omega (arith, (double_asks c.loop-l.invariant c.in-Double.ensures refl c.make_concat-in-Double.ensures).size)

pub reserve-requires-in-Double : goal.reserve-requires-in-Double
reserve-requires-in-Double c =
    let o = double_asks c.loop-l.invariant c.in-Double.ensures refl c.make_concat-in-Double.ensures in
    (o.room, o.left, o.size, search rules)

pub loop-l-preserved : goal.loop-l-preserved
loop-l-preserved c = double_next c.loop-l.invariant c.in-Double.ensures refl c.make_concat-in-Double.ensures c.reserve-in-Double.ensures
