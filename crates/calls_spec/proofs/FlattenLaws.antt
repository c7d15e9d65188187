-- `flatten`: the records that it shows, in the store or in the work buffer, are the field's; and each word that it does not copy stays.
use Rattle.std.specs.Prelude.{◌≡◌, refl, List, [], T, length, ℕ, ◌+◌}
use Rattle.std.proofs.Common.{ap, sym, ◌∙◌, arith}
use Rattle.std.proofs.Math.Option.{Option, some, none}
use Rattle.term_spec.proofs.ValueLaws.{none_some}
use Rattle.term_spec.specs.Words.{decode, write}
use Rattle.term_spec.proofs.WordsLaws.{term_lays, decode-write}
use Rattle.term_spec.specs.Term.{Term, term_layout, part}
use Rattle.view_spec.specs.Node.{Field, field_rule, nodes_rule, holds}
use Rattle.view_spec.specs.Read.{Place, stored, scattered, place, copy_at}
use Rattle.view_spec.proofs.NodeLaws.{holds-length}
use Rattle.view_spec.proofs.ReadLaws.{place-shows}
use Rattle.calls_spec.specs.Store.{Store, terms, nodes, store_nodes}
use Rattle.calls_spec.specs.Step.{call_flatten, Answer, Shown, nothing, of_store, of_work, shown_by, deed, arguments, input, field_copy, flat_answer}
use Rattle.calls_spec.specs.Step.{flat_work, room, accept, decide, step}
use Rattle.calls_spec.proofs.StoreLaws.{Good, terms-length}
use Rattle.calls_spec.proofs.StepLaws.{ask_none, input_none}

-- The records that are shown, in the term store or in the work buffer as the call left it.
unfoldable pub records_of : Store → List ℕ → Shown → List Term
records_of s work nothing = []
records_of s work (of_store r) = part (terms s) r
records_of s work (of_work n) = decode term_layout n work

-- The records that an answer shows.
abbrev pub shown_records : Store → List ℕ → Answer → List Term
shown_records s work a = records_of s work (shown_by a)

nodes_over_terms : (s : Store) → Good s → T (nodes_rule (length (terms s)) (nodes s))
unfolding store_nodes
nodes_over_terms s g = rw (terms-length s) g.good-nodes

shown-at : (s : Store) (f : Field) (w : List ℕ) (p : Place) → place (nodes s) f ≡ p → Good s → T (field_rule (nodes s) f)
    → shown_records s (flat_work s f w p) (flat_answer f p) ≡ holds (terms s) (nodes s) f
unfolding flat_answer flat_work shown_by records_of copy_at decode
shown-at s f w (stored r) e g h = (place-shows (terms s) (nodes s) f r (nodes_over_terms s g) h e).0
shown-at s f w scattered e g h =
    let c : field_copy s f ≡ holds (terms s) (nodes s) f = ap (λ p. copy_at p (terms s) (nodes s) f) e in
    let l : f.len ≡ 0 + length (field_copy s f) = sym (ap length c ∙ holds-length (terms s) (nodes s) f (nodes_over_terms s g) h) ∙ omega arith in
    ap (λ n. decode term_layout n (write term_layout w 0 (field_copy s f))) l ∙ decode-write term_layout term_lays w 0 (field_copy s f) (omega arith) ∙ c

-- An accepted flatten shows the field's records.
pub flatten_shows : (s : Store) (f : Field) (w : List ℕ) → input s (call_flatten f w) ≡ none → room s (call_flatten f w) ≡ none
    → shown_records s (step s (call_flatten f w)).work (step s (call_flatten f w)).answer ≡ holds (terms s) (nodes s) f
unfolding step decide accept deed
flatten_shows s f w i r = go (input s (call_flatten f w)) (room s (call_flatten f w)) i r
  where
    facts : Good s × (arguments s (call_flatten f w) ≡ none)
    facts = input_none s (call_flatten f w) i

    go : (o p : Option ℕ) → o ≡ none → p ≡ none → shown_records s (decide o p s (call_flatten f w)).work (decide o p s (call_flatten f w)).answer
        ≡ holds (terms s) (nodes s) f
    go (some n) p e q = absurd (none_some (sym e))
    go none (some n) e q = absurd (none_some (sym q))
    go none none e q = shown-at s f w (place (nodes s) f) refl facts.0 (ask_none (field_rule (nodes s) f) 4 none facts.1).0
