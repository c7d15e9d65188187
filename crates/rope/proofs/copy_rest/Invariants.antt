-- After each turn the terms from `from` on and before `done` are there.
use Rattle.std.proofs.Common.{ℕ}
use Rattle.rope.specs.CopiedLaws.{Task}
use Rattle.rope.specs.AtLaws.{Filled}
use Rattle.rope.proofs.copy_rest.Given as goal

abbrev pub invariant-loop-done : goal.invariant-loop-done
invariant-loop-done g l = record {
  filled : (used : ℕ)
      → Task (g.S.Source.terms l.source l.initial.words) (g.S.Source.used l.source) l.nodes used l.whole.node l.whole.len (g.S.Source.base l.source) l.initial.words
      → Filled (g.S.Source.terms l.source l.initial.words) (g.S.Source.used l.source) l.nodes used l.whole.node l.whole.len (g.S.Source.base l.source) l.initial.words
      l.from l.words l.done;
}
