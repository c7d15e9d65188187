use Rattle.std.proofs.Common.{◌<◌, arith}
use Rattle.rope.specs.AtLaws.{put_none, put_next, put_source, put_place}
use Rattle.rope.proofs.source.copy_places.Goals as goal

pub loop-i-init : goal.loop-i-init
loop-i-init g c = put_none _ _ _ _ _

pub copy_run-requires-clause-inside : goal.copy_run-requires-clause-inside
copy_run-requires-clause-inside g c =
    let few = c.requires.there.0 in
    let kept = put_source (g.S.Source.terms c.args.source) _ (g.S.Source.base c.args.source) (g.met.S.Source.kept c.args.source) c.loop-i.invariant few
    c.requires.room (omega arith) in
    (omega (arith, c.word-place.ensures, c.requires.there.1 c.loop-i.i (omega arith)), omega (arith, c.requires.source, kept.0))

pub loop-i-preserved : goal.loop-i-preserved
loop-i-preserved g c =
    let few = c.requires.there.0 in
    let low : c.word-place.result < g.S.Source.used c.args.source = rw c.word-place.ensures (c.requires.there.1 c.loop-i.i (omega arith)) in
    put_next c.loop-i.invariant few c.requires.room (omega arith) (g.S.Source.terms c.args.source c.loop-i.words) _ c.word-place.ensures
    (omega (arith, low, c.requires.source))
    (put_place (g.S.Source.terms c.args.source) _ (g.S.Source.base c.args.source) (g.met.S.Source.kept c.args.source) c.loop-i.invariant few c.requires.room
    (omega arith) _ low)
    _ (omega arith) c.copy_run.ensures
