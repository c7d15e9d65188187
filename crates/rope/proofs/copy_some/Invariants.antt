-- After each turn the first `done` terms are there, and those that are to be read next come after them.
use Rattle.std.proofs.Common.{◌≡◌, ℕ, ◌-◌}
use Rattle.places.specs.Ahead.{rest_of}
use Rattle.rope.specs.CopiedLaws.{Task, Done}
use Rattle.rope.proofs.copy_some.Given as goal

abbrev pub invariant-loop-reader : goal.invariant-loop-reader
invariant-loop-reader g l = record {
  whole : l.reader.whole ≡ l.whole;
  copied : (used : ℕ)
      → Task (g.S.Source.terms l.source l.initial.words) (g.S.Source.used l.source) l.nodes used l.whole.node l.whole.len (g.S.Source.base l.source) l.initial.words
      → Done (g.S.Source.terms l.source l.initial.words) (g.S.Source.used l.source) l.nodes used l.whole.node l.whole.len (g.S.Source.base l.source) l.initial.words
      (rest_of l.reader.ahead) l.words l.reader.done;
}

abbrev pub decreases-loop-reader : goal.decreases-loop-reader
decreases-loop-reader g l = l.whole.len - l.reader.done
