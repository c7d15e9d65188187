-- What the functions of this crate ask and answer: a step, and the Cons of the run that is held.
use Rattle.std.specs.Prelude.{◌≡◌, List, [], ◌∷◌, Option, None, Some, T, length, ℕ, ◌+◌, ◌-◌, ◌^◌, ◌≤◌, ◌<◌}
use Rattle.std.proofs.Common.{subst}
use Rattle.std.proofs.Math.Decide.{ℕ_discrete}
use Rattle.term_spec.specs.Words.{Lies, records, write}
use Rattle.term_spec.specs.Term.{Run as SpecRun, run_layout, runs_rule, limit}
use Rattle.view_spec.specs.Node.{node_layout, cons_node}
use Rattle.view_spec.specs.Build.{if_dec, fuse}
use Rattle.nodes.specs.NodeStore.{nodes_in, NodeStore, AnyStore}
use Rattle.words.specs.declared.Run.{Run}
use Rattle.from_runs.specs.declared.Step.{Step}
use Rattle.from_runs.specs.declared.Step.TheVariants.{Skip, Fuse, Part}

-- What `step_of` answers of a run r before the next one, if there is one.
abbrev pub Stepped : SpecRun → Option Run → Step → Type 0
Stepped r next Skip = r.len ≡ 0
Stepped r next (Fuse q) = (1 ≤ r.len) × (next ≡ Some q) × (r.start + r.len ≡ q.start)
Stepped r next Part = (1 ≤ r.len) × ((q : Run) → next ≡ Some q → r.start + r.len ≡ q.start → ⊥)

-- A step that was found to be t.
pub stepped_as : (r : SpecRun) (next : Option Run) {s t : Step} → s ≡ t → Stepped r next s → Stepped r next t
stepped_as r next e s = subst (Stepped r next) e s

-- The last node made from `used` on, `at` being free; 0 if none is made.
unfoldable pub head_at : ℕ → ℕ → ℕ
head_at used at = if_dec (ℕ_discrete at used) 0 (at - 1)

-- The words and the used count after the Cons of the run that is held, if there is one.
unfoldable pub closed : List ℕ → ℕ → ℕ → Option Run → List ℕ
closed v used at None = v
closed v used at (Some r) = write node_layout v at (cons_node (nodes_in v at) r.start r.len (head_at used at) ∷ [])

-- The used count after it.
unfoldable pub closed_at : ℕ → Option Run → ℕ
closed_at at None = at
closed_at at (Some r) = at + 1

-- The run that is held can be closed: there is room for its Cons, whose words fit.
pub record Closes (v : List ℕ) (used at : ℕ) (held : Option Run) : Type 0 where
  pub store : AnyStore v at
  pub some_nodes : 1 ≤ used
  pub low : used ≤ at
  pub room : Lies node_layout v (closed_at at held)
  pub small : (r : Run) → held ≡ Some r → (r.start < 2 ^ 32) × (r.len ≤ limit)

-- The runs of a list end within some number of terms, which is within the limit.
pub record Inside (runs : List ℕ) : Type 0 where
  pub terms : ℕ
  pub few_terms : terms ≤ limit
  pub rule : T (runs_rule terms (records run_layout runs))

-- The runs left of a list.
abbrev pub fused_in : List ℕ → List SpecRun
fused_in runs = fuse (records run_layout runs)

-- The runs of a list end within the terms that a store of nodes is over.
pub record RunStore (w : List ℕ) (used : ℕ) (runs : List ℕ) : Type 0 where
  pub inside : Inside runs
  pub store : NodeStore w inside.terms used

-- A list of runs can be made a chain: there is room for its nodes.
pub record Chains (w : List ℕ) (used : ℕ) (runs : List ℕ) : Type 0 where
  pub over : RunStore w used runs
  pub few : used + length (fused_in runs) ≤ limit
  pub room : Lies node_layout w (used + length (fused_in runs))
