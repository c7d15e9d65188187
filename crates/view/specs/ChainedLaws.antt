-- Laws of `chained`: what from_runs leaves, by the terms of its runs and the room there is.
use Rattle.std.specs.Prelude.{◌≡◌, List, [], ◌∷◌, true, false, leb, length, drop, ℕ, ◌+◌}
use Rattle.std.proofs.Math.Path.{refl, sym}
use Rattle.std.proofs.Common.{◌∙◌, arith}
use Rattle.std.proofs.Math.Decide.{ℕ_discrete}
use Rattle.term_spec.specs.Refusal.{nodes_full}
use Rattle.term_spec.specs.Words.{write}
use Rattle.term_spec.proofs.WordsLaws.{decode-length}
use Rattle.term_spec.specs.Term.{Run}
use Rattle.view_spec.specs.Node.{Field, node_layout, empty_field}
use Rattle.view_spec.specs.Build.{fuse, chain, chain_head, total, spec_from_runs}
use Rattle.view_spec.proofs.ChainLaws.{chain_length}
use Rattle.view_spec.proofs.PlanLaws.{if_yes}
use Rattle.calls_spec.specs.Store.{capacity}
use Rattle.calls_spec.specs.Step.{built, refused}
use Rattle.nodes.specs.NodeStore.{nodes_in, NodeStore}
use Rattle.view.specs.Check.{grown_by}
use Rattle.view.specs.GrowLaws.{grown-full, grown_done}
use Rattle.view.specs.JoinedLaws.{same_nodes}

-- Runs of no terms are all skipped.
none_left : (rs : List Run) → total rs ≡ 0 → fuse rs ≡ []
unfolding total fuse
none_left [] z = refl
none_left (r ∷ rs) z = if_yes (ℕ_discrete r.len 0) _ _ (omega arith) ∙ none_left rs (omega arith)

module _ (w : List ℕ) (used : ℕ) (rs : List Run) where
  pub chained_none : {terms : ℕ} → NodeStore w terms used → {n : ℕ} → n ≡ 0 → n ≡ total rs → (built empty_field, w, used) ≡ grown_by w used (spec_from_runs rs (nodes_in w used))
  unfolding spec_from_runs chain chain_head
  chained_none s z e = let t : total rs ≡ 0 = sym e ∙ z in rw (none_left rs t, t) (same_nodes w used s empty_field)

  module _ {m : ℕ} (e : m ≡ length (fuse rs)) where
    nodes-after : length (spec_from_runs rs (nodes_in w used)).nodes ≡ used + m
    unfolding spec_from_runs
    nodes-after = chain_length (fuse rs) (nodes_in w used) ∙ rw (decode-length, ← e) refl

    pub chained_full : leb (used + m) (capacity node_layout w) ≡ false → (refused nodes_full, w, used) ≡ grown_by w used (spec_from_runs rs (nodes_in w used))
    chained_full h = grown-full w used _ m nodes-after h

    pub chained_done : leb (used + m) (capacity node_layout w) ≡ true → {h : Field} {i n : ℕ} {v : List ℕ} → h ≡ record { node = i; len = n }
        → i ≡ chain_head (fuse rs) (chain (fuse rs) (nodes_in w used)) → n ≡ total rs
        → v ≡ write node_layout w used (drop used (chain (fuse rs) (nodes_in w used))) → (built h, v, used + m) ≡ grown_by w used (spec_from_runs rs (nodes_in w used))
    unfolding spec_from_runs
    chained_done h z p q r = grown_done w used (spec_from_runs rs (nodes_in w used)) m nodes-after h (z ∙ rw (p, q) refl) r
