-- Laws of the lent stores: what is read after records were added, and what later states of the stores keep.
use Rattle.std.specs.Prelude.{◌≡◌, refl, List, ◌++◌, Bool, ◌&&◌, T, leb, length, ℕ, ◌+◌, ◌≤◌, min}
use Rattle.std.proofs.Common.{ap, ◌∙◌, leb→le, le→leb, arith}
use Rattle.term_spec.proofs.BoolLaws.{both_of, and_of}
use Rattle.term_spec.specs.Words.{Layout, decode, count, whole, write}
use Rattle.term_spec.proofs.WordsLaws.{Lays, term_lays, decode-length, decode-write, write-length, count_fits, count_same, whole_same}
use Rattle.term_spec.specs.Term.{Term, term_layout, Run, limit}
use Rattle.view_spec.proofs.NodeLaws.{node_lays}
use Rattle.view_spec.specs.Node.{Node, node_layout, Field, field_rule, nodes_rule}
use Rattle.calls_spec.specs.Store.{Store, terms, nodes, spelled, shows, field_terms, capacity, counts_rule, store_terms, store_nodes, add_terms, add_nodes}
use Rattle.term_spec.proofs.TermLaws.{values_length}
use Rattle.match_spec.proofs.RunLaws.{Inside}

-- None of 1, 2 and 3 applies to the stores.
pub record Good (s : Store) : Type 0 where
  pub counts : T (counts_rule s)
  pub good-terms : T (store_terms s)
  pub good-nodes : T (store_nodes s)

-- The counts, as facts.
pub record Counts (s : Store) : Type 0 where
  pub whole-terms : T (whole term_layout s.term_words)
  pub whole-nodes : T (whole node_layout s.node_words)
  pub few_names : T (leb (length s.names) limit)
  pub terms_fit : s.terms_used ≤ capacity term_layout s.term_words
  pub nodes_fit : s.nodes_used ≤ capacity node_layout s.node_words

-- the rule's five tests
five_of : (a b c d e : Bool) → T (a && b && c && d && e) → T a × T b × T c × T d × T e
five_of a b c d e h =
    let (h3, he) = both_of (a && b && c && d) e h in
    let (h2, hd) = both_of (a && b && c) d h3 in
    let (h1, hc) = both_of (a && b) c h2 in
    let (ha, hb) = both_of a b h1 in
    (ha, hb, hc, hd, he)

of_five : (a b c d e : Bool) → T a → T b → T c → T d → T e → T (a && b && c && d && e)
of_five a b c d e ha hb hc hd he = and_of (a && b && c && d) e (and_of (a && b && c) d (and_of (a && b) c (and_of a b ha hb) hc) hd) he

pub counts_of : (s : Store) → T (counts_rule s) → Counts s
unfolding counts_rule
counts_of s h =
    let (a, b, c, d, e) = five_of (whole term_layout s.term_words) (whole node_layout s.node_words) (leb (length s.names) limit)
    (leb s.terms_used (capacity term_layout s.term_words)) (leb s.nodes_used (capacity node_layout s.node_words)) h in
    record { whole-terms = a; whole-nodes = b; few_names = c; terms_fit = leb→le _ _ d; nodes_fit = leb→le _ _ e }

pub of_counts : (s : Store) → Counts s → T (counts_rule s)
unfolding counts_rule
of_counts s c = of_five (whole term_layout s.term_words) (whole node_layout s.node_words) (leb (length s.names) limit)
    (leb s.terms_used (capacity term_layout s.term_words)) (leb s.nodes_used (capacity node_layout s.node_words))
    c.whole-terms c.whole-nodes c.few_names (le→leb _ _ c.terms_fit) (le→leb _ _ c.nodes_fit)

within_count : {A : Type 0} (L : Layout A) (w : List ℕ) (n : ℕ) → n ≤ capacity L w → n ≤ count L w
unfolding capacity
within_count L w n h = omega arith

pub terms-length : (s : Store) → length (terms s) ≡ s.terms_used
unfolding terms
terms-length s = decode-length term_layout s.terms_used s.term_words

pub nodes-length : (s : Store) → length (nodes s) ≡ s.nodes_used
unfolding nodes
nodes-length s = decode-length node_layout s.nodes_used s.node_words

pub spelled-length : (s : Store) → length (spelled s) ≡ s.terms_used
unfolding spelled
spelled-length s = values_length s.names (terms s) ∙ terms-length s

-- the node rule, over the spelled terms
pub nodes-good : (s : Store) → Good s → T (nodes_rule (length (spelled s)) (nodes s))
unfolding store_nodes
nodes-good s g = rw (spelled-length s) g.good-nodes

-- the words of a record store keep their number, so counts and wholeness stay
capacity-same : {A : Type 0} (L : Layout A) → Lays L → (w x : List ℕ) → length w ≡ length x → capacity L w ≡ capacity L x
unfolding capacity
capacity-same L lays w x e = ap (λ n. min n limit) (count_same L lays w x e)

module _ {A : Type 0} (L : Layout A) (lays : Lays L) (w : List ℕ) (used : ℕ) (new : List A) (fits : used + length new ≤ capacity L w) where
  pub written-length : length (write L w used new) ≡ length w
  written-length = write-length L lays w used new (count_fits L lays w (used + length new) (within_count L w _ fits))

  written-capacity : capacity L (write L w used new) ≡ capacity L w
  written-capacity = capacity-same L lays _ _ written-length

  written-whole : T (whole L w) → T (whole L (write L w used new))
  written-whole h = rw (whole_same L lays (write L w used new) w written-length) h

  written-records : decode L (used + length new) (write L w used new) ≡ decode L used w ++ new
  written-records = decode-write L lays w used new (count_fits L lays w used (within_count L w used (omega arith)))

-- ---- after records were added ----

pub added_terms : (s : Store) (new : List Term) → s.terms_used + length new ≤ capacity term_layout s.term_words → terms (add_terms s new) ≡ terms s ++ new
unfolding terms add_terms
added_terms s new h = written-records term_layout term_lays s.term_words s.terms_used new h

pub added_nodes : (s : Store) (new : List Node) → s.nodes_used + length new ≤ capacity node_layout s.node_words → nodes (add_nodes s new) ≡ nodes s ++ new
unfolding nodes add_nodes
added_nodes s new h = written-records node_layout node_lays s.node_words s.nodes_used new h

pub added_terms_counts : (s : Store) (new : List Term) → T (counts_rule s) → s.terms_used + length new ≤ capacity term_layout s.term_words
    → T (counts_rule (add_terms s new))
unfolding add_terms
added_terms_counts s new g h =
    let c = counts_of s g in
    of_counts _ (record {
      whole-terms = written-whole term_layout term_lays s.term_words s.terms_used new h c.whole-terms;
      whole-nodes = c.whole-nodes;
      few_names = c.few_names;
      terms_fit = rw (written-capacity term_layout term_lays s.term_words s.terms_used new h) h;
      nodes_fit = c.nodes_fit;
    })

pub added_nodes_counts : (s : Store) (new : List Node) → T (counts_rule s) → s.nodes_used + length new ≤ capacity node_layout s.node_words
    → T (counts_rule (add_nodes s new))
unfolding add_nodes
added_nodes_counts s new g h =
    let c = counts_of s g in
    of_counts _ (record {
      whole-nodes = written-whole node_layout node_lays s.node_words s.nodes_used new h c.whole-nodes;
      whole-terms = c.whole-terms;
      few_names = c.few_names;
      nodes_fit = rw (written-capacity node_layout node_lays s.node_words s.nodes_used new h) h;
      terms_fit = c.terms_fit;
    })

-- ---- what a later state of the stores keeps ----

pub record Later (s t : Store) : Type 0 where
  pub same_names : t.names ≡ s.names
  pub good : Good t
  pub fields : (f : Field) → T (field_rule (nodes s) f) → T (field_rule (nodes t) f) × (field_terms t f ≡ field_terms s f)
  pub runs : (r : Run) → Inside s.terms_used r → Inside t.terms_used r × (shows t r ≡ shows s r)

pub later_refl : (s : Store) → Good s → Later s s
later_refl s g = record { same_names = refl; good = g; fields = λ f h. (h, refl); runs = λ r h. (h, refl) }

pub later_trans : {a b c : Store} → Later a b → Later b c → Later a c
later_trans p q = record {
  same_names = q.same_names ∙ p.same_names;
  good = q.good;
  fields = λ f h. let (h1, e1) = p.fields f h in let (h2, e2) = q.fields f h1 in (h2, e2 ∙ e1);
  runs = λ r h. let (h1, e1) = p.runs r h in let (h2, e2) = q.runs r h1 in (h2, e2 ∙ e1);
}
