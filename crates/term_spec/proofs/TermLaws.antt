-- Laws of runs and term stores: rules as facts; rules and values of terms survive terms added, below them and at the end.
use Rattle.std.specs.Prelude.{◌≡◌, refl, List, [], ◌∷◌, ◌++◌, ◌&&◌, T, leb, eqb, length, get_or, take, ℕ, suc, zero, ◌+◌, ◌≤◌, ◌<◌}
use Rattle.std.proofs.Common.{ap, sym, ◌∙◌, append-nil, leb→le, le→leb, eqb→eq, length-append, length-take, arith}
use Rattle.std.proofs.Math.Seq.{append_snoc}
use Rattle.term_spec.proofs.BoolLaws.{both_of, and_of, eq→eqb}
use Rattle.term_spec.proofs.ListLaws.{part-kept}
use Rattle.term_spec.proofs.TableLaws.{table-length, table_kept}
use Rattle.term_spec.specs.Text.{text_at}
use Rattle.term_spec.specs.Term.{Term, no_term, Run, part, bracket_kind, depth_limit, contents_run, deepest}
use Rattle.term_spec.specs.Term.{run_rule, bracket_rule, term_rule_k, upper_rule, term_rule, terms_rule}
use Rattle.term_spec.specs.Value.{Value, bracketed, value_k, value_of, values}

-- ---- rules ----

pub run_facts : (used : ℕ) (r : Run) → T (run_rule used r) → r.start + r.len ≤ used
unfolding run_rule
run_facts used r h = leb→le _ _ h

pub facts_run : (used : ℕ) (r : Run) → r.start + r.len ≤ used → T (run_rule used r)
unfolding run_rule
facts_run used r h = le→leb _ _ h

pub record BracketFacts (below : List Term) (t : Term) : Type 0 where
  pub inside : t.a + t.b ≤ length below
  pub depth : t.c ≡ suc (deepest (part below (contents_run t)))
  pub shallow : t.c ≤ depth_limit

pub bracket_facts : (below : List Term) (t : Term) → T (bracket_rule below t) → BracketFacts below t
unfolding bracket_rule
bracket_facts below t h =
    let (h1, z) = both_of (leb (t.a + t.b) (length below) && eqb t.c (suc (deepest (part below (contents_run t))))) (leb t.c depth_limit) h in
    let (x, y) = both_of (leb (t.a + t.b) (length below)) (eqb t.c (suc (deepest (part below (contents_run t))))) h1 in
    record { inside = leb→le _ _ x; depth = eqb→eq _ _ y; shallow = leb→le _ _ z }

bracket_rule_lem : (below : List Term) (t : Term) → BracketFacts below t → T (bracket_rule below t)
unfolding bracket_rule
bracket_rule_lem below t r =
    and_of (leb (t.a + t.b) (length below) && eqb t.c (suc (deepest (part below (contents_run t))))) (leb t.c depth_limit)
    (and_of (leb (t.a + t.b) (length below)) (eqb t.c (suc (deepest (part below (contents_run t))))) (le→leb _ _ r.inside) (eq→eqb _ _ r.depth))
    (le→leb _ _ r.shallow)

bracket_more : (below more : List Term) (t : Term) → BracketFacts below t → BracketFacts (below ++ more) t
bracket_more below more t r = record {
  inside = rw length-append (omega (arith, r.inside));
  shallow = r.shallow;
  depth = r.depth ∙ ap (λ z. suc (deepest z)) (sym (part-kept below more t.a t.b r.inside));
}

rule-more : (k : ℕ) (names : List ℕ) (below more : List Term) (t : Term) → T (term_rule_k k names below t) → T (term_rule_k k names (below ++ more) t)
unfolding term_rule_k
rule-more zero names below more t h = h
rule-more (suc zero) names below more t h = h
rule-more (suc (suc zero)) names below more t h = h
rule-more (suc (suc (suc zero))) names below more t h = bracket_rule_lem (below ++ more) t (bracket_more below more t (bracket_facts below t h))
rule-more (suc (suc (suc (suc zero)))) names below more t h = h
rule-more (suc (suc (suc (suc (suc k))))) names below more t h = absurd h

term_facts : (names : List ℕ) (below : List Term) (t : Term) → T (term_rule names below t) → T (upper_rule t) × T (term_rule_k t.kind names below t)
unfolding term_rule
term_facts names below t h = both_of (upper_rule t) (term_rule_k t.kind names below t) h

-- The rule of a valid term's first four words.
pub rule_by_kind : (names : List ℕ) (below : List Term) (t : Term) → T (term_rule names below t) → T (term_rule_k t.kind names below t)
rule_by_kind names below t h = (term_facts names below t h).1

-- A term stays valid when terms are added to those below it.
pub term-more : (names : List ℕ) (below more : List Term) (t : Term) → T (term_rule names below t) → T (term_rule names (below ++ more) t)
unfolding term_rule
term-more names below more t h =
    let (u, k) = term_facts names below t h in
    and_of (upper_rule t) (term_rule_k t.kind names (below ++ more) t) u (rule-more t.kind names below more t k)

terms_facts : (names : List ℕ) (below : List Term) (t : Term) (ts : List Term) → T (terms_rule names below (t ∷ ts))
    → T (term_rule names below t) × T (terms_rule names (below ++ (t ∷ [])) ts)
unfolding terms_rule
terms_facts names below t ts h = both_of (term_rule names below t) (terms_rule names (below ++ (t ∷ [])) ts) h

pub terms-cons : (names : List ℕ) (below : List Term) (t : Term) (ts : List Term) → T (term_rule names below t) → T (terms_rule names (below ++ (t ∷ [])) ts)
    → T (terms_rule names below (t ∷ ts))
unfolding terms_rule
terms-cons names below t ts h k = and_of (term_rule names below t) (terms_rule names (below ++ (t ∷ [])) ts) h k

pub term-at : (names : List ℕ) (below ts : List Term) (i : ℕ) → T (terms_rule names below ts) → i < length ts → T (term_rule names (below ++ take i ts) (get_or ts i no_term))
term-at names below [] i h lt = absurd (omega arith)
term-at names below (t ∷ ts) zero h lt = rw append-nil (terms_facts names below t ts h).0
term-at names below (t ∷ ts) (suc i) h lt =
    rw (← append_snoc below t (take i ts)) (term-at names (below ++ (t ∷ [])) ts i (terms_facts names below t ts h).1 (omega arith))

append_above : (names : List ℕ) (below ts us : List Term) → T (terms_rule names below ts) → T (terms_rule names (below ++ ts) us) → T (terms_rule names below (ts ++ us))
append_above names below [] us h k = rw append-nil at k
append_above names below (t ∷ ts) us h k =
    let (x, y) = terms_facts names below t ts h in
    terms-cons names below t (ts ++ us) x (append_above names (below ++ (t ∷ [])) ts us y (rw append_snoc k))

pub terms-append : (names : List ℕ) (ts us : List Term) → T (terms_rule names [] ts) → T (terms_rule names ts us) → T (terms_rule names [] (ts ++ us))
terms-append names ts us h k = append_above names [] ts us h k

-- A bracket's contents end at or below its own number: what the walk needs of a store.
unfoldable pub Valid : List Term → Type 0
Valid ts = (i : ℕ) → i < length ts → (get_or ts i no_term).kind ≡ bracket_kind → (get_or ts i no_term).a + (get_or ts i no_term).b ≤ i

pub bracket_of : (k : ℕ) (names : List ℕ) (below : List Term) (t : Term) → k ≡ bracket_kind → T (term_rule_k k names below t) → BracketFacts below t
unfolding term_rule_k
bracket_of k names below t e h = bracket_facts below t (rw e at h)

pub valid-terms : (names : List ℕ) (ts : List Term) → T (terms_rule names [] ts) → Valid ts
unfolding Valid
valid-terms names ts h i lt e =
    let t = get_or ts i no_term in
    let f = bracket_of t.kind names (take i ts) t e (rule_by_kind names (take i ts) t (term-at names [] ts i h lt)) in
    omega (arith, f.inside, length-take i ts)

-- ---- values ----

pub values_length : (names : List ℕ) (ts : List Term) → length (values names ts) ≡ length ts
unfolding values
values_length names ts = omega (arith, table-length (value_of names) ts [])

pub values-kept : (names : List ℕ) (ts us : List Term) → (new : List Value) × (values names (ts ++ us) ≡ values names ts ++ new)
unfolding values
values-kept names ts us = table_kept (value_of names) ts us

pub values-part : (names : List ℕ) (ts us : List Term) (r : Run) → r.start + r.len ≤ length ts → part (values names (ts ++ us)) r ≡ part (values names ts) r
values-part names ts us r h = let (new, e) = values-kept names ts us in
    ap (λ z. part z r) e ∙ part-kept (values names ts) new r.start r.len (omega (arith, values_length names ts))

value_k-more : (k : ℕ) (names text : List ℕ) (below : List Term) (t : Term) (vs more : List Value) → length below ≡ length vs → T (term_rule_k k names below t)
    → value_k k text t (vs ++ more) ≡ value_k k text t vs
unfolding term_rule_k value_k
value_k-more zero names text below t vs more e h = refl
value_k-more (suc zero) names text below t vs more e h = refl
value_k-more (suc (suc zero)) names text below t vs more e h = refl
value_k-more (suc (suc (suc zero))) names text below t vs more e h =
    let r = bracket_facts below t h in ap bracketed (part-kept vs more t.a t.b (omega (arith, r.inside)))
value_k-more (suc (suc (suc (suc zero)))) names text below t vs more e h = refl
value_k-more (suc (suc (suc (suc (suc k))))) names text below t vs more e h = absurd h

-- A valid term means the same when values are added to those below it.
pub value_more : (names : List ℕ) (below : List Term) (t : Term) (vs more : List Value) → length below ≡ length vs → T (term_rule names below t)
    → value_of names t (vs ++ more) ≡ value_of names t vs
unfolding value_of
value_more names below t vs more e h = value_k-more t.kind names (text_at names t.a t.b) below t vs more e (rule_by_kind names below t h)
