-- What is asked comes to whether the run from record i on fits at the terms that are left.
use Rattle.std.proofs.Common.{◌≡◌}
use Rattle.equality.specs.Stores.{Remembers}
use Rattle.steps.specs.State.{left_of}
use Rattle.rigid.specs.FitLaws.{Left}
use Rattle.rigid.proofs.rigid_run_matches.Given as goal

abbrev pub invariant-loop-i : goal.invariant-loop-i
invariant-loop-i l =
    let v = l.given in
    let s = l.fn.s in
    record {
      left : Left v.store.names.now v.store.terms.now v.store.used v.pattern.now v.numbers.now l.p s.bound l.binds (left_of s) l.i l.d l.here.start l.here.len;
      bound : l.here.bound ≡ s.bound;
      memory : Remembers v.store l.known;
    }
