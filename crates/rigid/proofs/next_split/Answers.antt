-- `rigid::next_split`: the splits passed over fail, those that `skip_apart` leaves out too, and the one found fits.
use Rattle.std.proofs.Common.{◌∙◌}
use Rattle.rigid.specs.SplitLaws.{passed_apart, at_split, passed-one, first_found}
use Rattle.rigid.proofs.next_split.Goals as goal

pub returns-then-rigid_run_matches : goal.returns-then-rigid_run_matches
returns-then-rigid_run_matches c =
    let v = c.args.given.now in
    let n = c.skip_apart-j.ensures in
    let told = at_split v.store.names.now v.store.terms.now v.store.used v.pattern.now v.numbers.now c.args.p c.args.binds.now c.args.s _ _ c.pass.ensures
    c.rigid_run_matches.ensures.0 in (
      (first_found (passed_apart _ _ _ _ _ _ _ _ _ c.requires.ready.0 c.loop-j.invariant.passed _ n) n.1 (told ∙ c.if-rigid_run_matches.true), n.1),
      c.rigid_run_matches.ensures.1,
    )

pub loop-j-preserved : goal.loop-j-preserved
loop-j-preserved c =
    let v = c.args.given.now in
    let n = c.skip_apart-j.ensures in
    let told = at_split v.store.names.now v.store.terms.now v.store.used v.pattern.now v.numbers.now c.args.p c.args.binds.now c.args.s _ _ c.pass.ensures
    c.rigid_run_matches.ensures.0 in
    record {
      passed = passed-one (passed_apart _ _ _ _ _ _ _ _ _ c.requires.ready.0 c.loop-j.invariant.passed _ n) n.1 (told ∙ c.if-rigid_run_matches.false);
      memory = c.rigid_run_matches.ensures.1;
    }
