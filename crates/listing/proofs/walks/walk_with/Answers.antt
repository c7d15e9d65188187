-- `walk_with`: the walk stands at the settled run, with no level around it and the start's entries.
use Rattle.std.proofs.Common.{refl, arith, List, ℕ, ◌/◌, length}
use Rattle.std.proofs.Math.ListN.{replicate, length-replicate}
use Rattle.matcher.specs.FoldLaws.{written_same}
use Rattle.listing.specs.StartLaws.{start-levels, start_entries, start_events}
use Rattle.steps.specs.State.{Place}
use Rattle.listing.proofs.walks.walk_with.Goals as goal

-- where the walk starts
abbrev place : ℕ → ℕ → ℕ → List ℕ → Place
place start len words binds = record { start = start; len = len; depth = 0; bound = words / 5; levels = replicate 66 0; binds = binds }

pub walk-requires : goal.walk-requires
walk-requires c =
    let asked = c.requires.0 in
    let a = c.args in
    let st = place a.run.start a.run.len (length a.bindings.now) c.start.new.binds in record {
      ready = (
        asked.ready st (start-levels st refl) (start_entries a.bindings.now st refl c.start.ensures) (omega (arith, length-replicate {A = ℕ} 66 0))
            (omega (arith, c.start.auto.binds, length-replicate {A = ℕ} 128 0)),
        c.requires.1,
      );
      open_slots = asked.open_slots;
    }

pub returns : goal.returns
returns c =
    let a = c.args in
    let st = place a.run.start a.run.len (length a.bindings.now) c.start.new.binds in
    written_same (start_events _ st (start-levels st refl) (start_entries a.bindings.now st refl c.start.ensures)) c.walk.ensures.0.written

pub start-requires : goal.start-requires
start-requires c = (c.requires.0.few, omega (arith, length-replicate {A = ℕ} 128 0))
