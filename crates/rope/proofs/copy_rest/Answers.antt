-- Each part that is read is copied after the parts before it. The last part ends at the end of the node.
use Rattle.std.proofs.Common.{◌≡◌, List, ℕ, ◌+◌, ◌≤◌, take, arith, refl, subst}
use Rattle.term_spec.specs.Term.{term_layout}
use Rattle.term_spec.specs.Words.{Lies, write}
use Rattle.places.specs.Places.{part, PartRead}
use Rattle.rope.specs.Copies.{terms_at, Kept}
use Rattle.rope.specs.PartLaws.{part_low}
use Rattle.rope.specs.AtLaws.{Filled, task_store, task_reaches, terms_same, filled_none, filled_next, filled-all, filled_source}
use Rattle.rope.proofs.copy_rest.Goals as goal

-- a part more of the terms that a source T of the words gives
module _ (T : List ℕ → List ℕ) {used base : ℕ} (kept : Kept T used base) {nodes : List ℕ} {nodes-used node len : ℕ} {before : List ℕ} {from : ℕ}
    {after : List ℕ} {done : ℕ} (so_far : Filled (T before) used nodes nodes-used node len base before from after done) where
  source_there : Lies term_layout (T after) used
  source_there = let k = filled_source T _ _ kept so_far in omega (arith, so_far.task.there, k.0)

  part_filled : (k : ℕ) → done + k ≤ len → (old list : List ℕ) → PartRead nodes node done k old list
      → {final : List ℕ} → final ≡ write term_layout after (base + done) (terms_at (T after) (take k list))
      → Filled (T before) used nodes nodes-used node len base before from final (done + k)
  part_filled k inside old list read e =
      let same = filled_source T _ _ kept so_far in
      filled_next so_far k inside old list read (T after) (terms_same _ _ used source_there same.0 same.1) _ refl e

pub loop-done-init : goal.loop-done-init
loop-done-init g c = record { filled = λ used asked. filled_none asked c.requires.within }

pub copy_places-requires-clause-there : goal.copy_places-requires-clause-there
copy_places-requires-clause-there g c =
    let asked = c.requires.task.1 in
    let inside : c.loop-done.done + c.min-k.result ≤ c.args.whole.len = omega (arith, c.min-k.ensures) in (
      omega (arith, c.min-k.ensures, c.read_places.ensures.1, c.min-k.array_long),
      part_low _ _ (task_store asked) (task_reaches asked _ _ inside) _ _ c.read_places.ensures,
    )

pub copy_places-requires-clause-source : goal.copy_places-requires-clause-source
copy_places-requires-clause-source g c = source_there (g.S.Source.terms c.args.source) (g.met.S.Source.kept c.args.source) (c.loop-done.invariant.filled _ c.requires.task.1)

pub loop-done-preserved : goal.loop-done-preserved
loop-done-preserved g c =
    let inside : c.loop-done.done + c.min-k.result ≤ c.args.whole.len = omega (arith, c.min-k.ensures) in
    let full : c.min-k.result ≡ part = omega (arith, c.min-k.ensures) in
    let T = g.S.Source.terms c.args.source in
    record {
      filled = λ used asked.
          subst (λ k. Filled (T c.args.words.now) (g.S.Source.used c.args.source) c.args.nodes.now used c.args.whole.node c.args.whole.len
          (g.S.Source.base c.args.source) c.args.words.now c.args.from c.copy_places.new.words (c.loop-done.done + k)) full
          (part_filled T (g.met.S.Source.kept c.args.source) (c.loop-done.invariant.filled used asked) _ inside _ _ c.read_places.ensures c.copy_places.ensures);
    }

pub returns-2 : goal.returns-2
returns-2 g c used asked =
    filled-all (part_filled (g.S.Source.terms c.args.source) (g.met.S.Source.kept c.args.source) (c.loop-done.invariant.filled used asked) _
    (omega (arith, c.min-k.ensures)) _ _ c.read_places.ensures c.copy_places.ensures) (omega (arith, c.min-k.ensures))
