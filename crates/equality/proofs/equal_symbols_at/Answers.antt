-- The two terms are those of the store, and of the kinds that are asked.
use Rattle.std.proofs.Common.{◌≡◌, List, ℕ, ap, sym, ◌∙◌}
use Rattle.term_spec.specs.Words.{record_at}
use Rattle.term_spec.specs.Term.{term_layout, bracket_kind}
use Rattle.words.specs.declared.Term.{Term}
use Rattle.words.specs.Records.{as_term}
use Rattle.equality.specs.Within.{TermsIn}
use Rattle.equality.specs.TwoLaws.{Two, two_texts, two_symbols}
use Rattle.equality.proofs.equal_symbols_at.Goals as goal

-- the two terms, once they are read
abbrev two : {names terms : List ℕ} {i j used : ℕ} {t u : Term} → TermsIn names terms i j used
    → as_term t ≡ record_at term_layout terms i → as_term u ≡ record_at term_layout terms j → Two names terms i j (as_term t) (as_term u) used
two lies left right = record { inside = lies; left = left; right = right }

pub equal_symbols-requires-clause-texts : goal.equal_symbols-requires-clause-texts
equal_symbols-requires-clause-texts c = two_texts (two c.requires.inside.1 c.get-t.ensures c.get-u.ensures)

-- the two are of one kind, and it is not a bracket's
kinds : (c : goal.After-get-u) → (c.get-t.result.kind ≡ c.get-u.result.kind) × (c.get-t.result.kind ≡ bracket_kind → ⊥)
kinds c = (
  ap (λ w. w.kind) c.get-t.ensures ∙ c.requires.kinds.0 ∙ ap (λ w. w.kind) (sym c.get-u.ensures),
  λ e. c.requires.kinds.1 (ap (λ w. w.kind) (sym c.get-t.ensures) ∙ e),
)

pub equal_symbols-requires-clause-kinds : goal.equal_symbols-requires-clause-kinds
equal_symbols-requires-clause-kinds c = kinds c

pub returns : goal.returns
returns c used lies =
    let e : c.get-t.result.kind ≡ c.get-u.result.kind = ap (λ w. w.kind) c.get-t.ensures ∙ c.requires.kinds.0 ∙ ap (λ w. w.kind) (sym c.get-u.ensures) in
    let n : c.get-t.result.kind ≡ bracket_kind → ⊥ = λ e. c.requires.kinds.1 (ap (λ w. w.kind) (sym c.get-t.ensures) ∙ e) in
    c.equal_symbols.ensures ∙ two_symbols (two lies c.get-t.ensures c.get-u.ensures) e n
