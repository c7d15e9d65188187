-- One call: what it leaves is within the rules, keeps every field and run, and the field that it answers holds what the model enters.
use Rattle.std.specs.Prelude.{◌≡◌, refl, List, [], ◌++◌, Bool, true, false, ◌&&◌, ◌||◌, T, leb, eqb, length, take, drop, ℕ, ◌+◌, ◌≤◌}
use Rattle.std.proofs.Common.{ap, ap₂, sym, ◌∙◌, subst, leb→le, drop_at, arith}
use Rattle.std.proofs.Math.Option.{Option, some, none}
use Rattle.term_spec.proofs.BoolLaws.{both_of}
use Rattle.term_spec.specs.Words.{records}
use Rattle.term_spec.specs.Term.{Term, term_layout, run_layout, runs_rule, limit}
use Rattle.term_spec.specs.Refusal.{bad_field, nodes_full, terms_full}
use Rattle.term_spec.specs.Value.{Value}
use Rattle.view_spec.specs.Node.{Node, node_layout, Field, field_rule, nodes_rule, holds}
use Rattle.view_spec.specs.Build.{Built, take_field, total}
use Rattle.view_spec.specs.Read.{Place, stored, scattered, place}
use Rattle.calls_spec.specs.Store.{Store, terms, nodes, spelled, shows, field_terms, capacity, counts_rule, store_terms, store_nodes, add_terms, add_nodes}
use Rattle.calls_spec.specs.Step.{Request, Call, call_from_runs, call_join, call_take, call_rest, call_range, call_starts_with, call_equal, call_flatten}
use Rattle.calls_spec.specs.Step.{call_match, Answer, refused, built, listed, Effect, quiet, making, effect_of, After, ask, ask_request, even_rule, deed}
use Rattle.calls_spec.specs.Step.{arguments, input, new_nodes, field_copy, adds_nodes, adds_terms, fits, changed, room, match_answer, flat_answer, accept}
use Rattle.calls_spec.specs.Step.{refuse, decide, step}
use Rattle.calls_spec.specs.Demand3.{entered_by, entry, entered}
use Rattle.calls_spec.proofs.StoreLaws.{Good, nodes-length, terms-length, spelled-length, nodes-good, added_terms, added_nodes, added_terms_counts}
use Rattle.calls_spec.proofs.StoreLaws.{added_nodes_counts, Later, later_refl}
use Rattle.view_spec.proofs.NodeLaws.{field-kept, holds_kept, nodes-more, holds_more}
use Rattle.term_spec.proofs.TermLaws.{values-part}
use Rattle.view_spec.proofs.FieldLaws.{Builds, builds_runs, builds_join, builds_rest, builds_range, take-field}
use Rattle.view_spec.proofs.SettleLaws.{Settles, settles}

-- ---- the checks ----

pub ask_none : (b : Bool) (n : ℕ) (next : Option ℕ) → ask b n next ≡ none → T b × (next ≡ none)
unfolding ask
ask_none true n next e = (tt, e)
ask_none false n next e = absurd (let z : ◌≡◌ {A = ℕ} 0 1 = cc in omega arith)

pub input_none : (s : Store) (c : Call) → input s c ≡ none → Good s × (arguments s c ≡ none)
unfolding input
input_none s c e =
    let (a, e1) = ask_none (counts_rule s && even_rule c) 1 _ e in
    let (b, e2) = ask_none (store_terms s) 2 _ e1 in
    let (d, e3) = ask_none (store_nodes s) 3 _ e2 in
    (record { counts = (both_of (counts_rule s) (even_rule c) a).0; good-terms = b; good-nodes = d }, e3)

-- what the room for a change tells
pub room-nodes : (s : Store) (ns : List Node) (next : Option ℕ) → fits s (adds_nodes ns) next ≡ none
    → (s.nodes_used + length ns ≤ capacity node_layout s.node_words) × (next ≡ none)
unfolding fits
room-nodes s ns next e = let (a, b) = ask_none (leb (s.nodes_used + length ns) (capacity node_layout s.node_words)) nodes_full next e in (leb→le _ _ a, b)

pub room-terms : (s : Store) (ts : List Term) (next : Option ℕ) → fits s (adds_terms ts) next ≡ none
    → (s.terms_used + length ts ≤ capacity term_layout s.term_words) × (next ≡ none)
unfolding fits
room-terms s ts next e = let (a, b) = ask_none (leb (s.terms_used + length ts) (capacity term_layout s.term_words)) terms_full next e in (leb→le _ _ a, b)

-- what the checks of a request tell, whatever is asked after them
pub request-field : (s : Store) (m : Request) (next : Option ℕ) → ask_request s m next ≡ none → T (field_rule (nodes s) m.field)
unfolding ask_request
request-field s m next e = (ask_none (field_rule (nodes s) m.field) bad_field _ e).0

-- ---- nodes added ----

nodes_then_new : (s : Store) (ms new : List Node) → ms ≡ nodes s ++ new → nodes s ++ drop s.nodes_used ms ≡ ms
nodes_then_new s ms new e = ap (λ z. nodes s ++ drop s.nodes_used z) e ∙ ap (nodes s ++◌) (drop_at (nodes s) new s.nodes_used (nodes-length s)) ∙ sym e

same-spelled : (s : Store) (new : List Node) → spelled (add_nodes s new) ≡ spelled s
unfolding spelled terms add_nodes
same-spelled s new = refl

-- the stores after nodes were built, and the terms of the field over them
pub record Made (s : Store) (k : Built) (l : List Value) : Type 0 where
  pub later : Later s (add_nodes s (new_nodes s k))
  pub field : T (field_rule (nodes (add_nodes s (new_nodes s k))) k.field)
  pub shown : field_terms (add_nodes s (new_nodes s k)) k.field ≡ l

made : (s : Store) (k : Built) (l : List Value) → Good s → Builds (spelled s) (nodes s) k l
    → s.nodes_used + length (new_nodes s k) ≤ capacity node_layout s.node_words → Made s k l
unfolding store_terms store_nodes terms field_terms add_nodes shows
made s k l g b fit =
    let (new, q) = b.grown in
    let ns : nodes (add_nodes s (new_nodes s k)) ≡ k.nodes = added_nodes s (new_nodes s k) fit ∙ nodes_then_new s k.nodes new q in
    let sp = same-spelled s (new_nodes s k) in
    record {
      later = record {
        same_names = refl;
        good = record {
          counts = added_nodes_counts s (new_nodes s k) g.counts fit;
          good-terms = g.good-terms;
          good-nodes = rw ns (subst (λ n. T (nodes_rule n k.nodes)) (spelled-length s) b.good);
        };
        fields = λ f h. (rw (ns, q) (field-kept (nodes s) new f h), ap₂ (λ x y. holds x y f) sp (ns ∙ q) ∙ holds_kept (spelled s) (nodes s) new f h);
        runs = λ r h. (h, ap (λ z. take r.len (drop r.start z)) sp);
      };
      field = rw ns b.field;
      shown = ap₂ (λ x y. holds x y k.field) sp ns ∙ b.shows;
    }

-- ---- terms added ----

same_nodes : (s : Store) (new : List Term) → nodes (add_terms s new) ≡ nodes s
unfolding nodes add_terms
same_nodes s new = refl

-- what settling leaves, with the lent words
pub settled : (s : Store) (f : Field) → Good s → T (field_rule (nodes s) f) → Settles s.names (terms s) (nodes s) f
unfolding store_terms store_nodes
settled s f g h = settles s.names (terms s) (nodes s) f g.good-terms (rw (terms-length s) g.good-nodes) h

pub spelled-after : (s : Store) (f : Field) (fits : s.terms_used + length (field_copy s f) ≤ capacity term_layout s.term_words)
    (z : Settles s.names (terms s) (nodes s) f)
    → spelled (add_terms s (field_copy s f)) ≡ spelled s ++ z.more
unfolding spelled add_terms
spelled-after s f fits z = ap (λ ts. Rattle.term_spec.specs.Value.values s.names ts) (added_terms s (field_copy s f) fits) ∙ z.spelled

pub later_settled : (s : Store) (f : Field) → Good s → T (field_rule (nodes s) f) → s.terms_used + length (field_copy s f) ≤ capacity term_layout s.term_words
    → Later s (add_terms s (field_copy s f))
unfolding store_terms store_nodes field_terms add_terms shows spelled
later_settled s f g h fits =
    let z = settled s f g h in
    let ts = added_terms s (field_copy s f) fits in
    let ns = same_nodes s (field_copy s f) in
    let sp = spelled-after s f fits z in
    record {
      same_names = refl;
      good = record {
        counts = added_terms_counts s (field_copy s f) g.counts fits;
        good-terms = rw ts z.good;
        good-nodes = rw ns (nodes-more s.terms_used (s.terms_used + length (field_copy s f)) (nodes s) (omega arith) g.good-nodes);
      };
      fields = λ k q. (rw ns q, ap₂ (λ x y. holds x y k) sp ns ∙ holds_more (spelled s) z.more (nodes s) k (nodes-good s g));
      runs = λ r q. (
        omega (arith, q),
        ap (λ x. take r.len (drop r.start (Rattle.term_spec.specs.Value.values s.names x))) ts
            ∙ values-part s.names (terms s) (field_copy s f) r (rw (terms-length s) q),
      );
    }

-- ---- one call ----

pub record Stepped (s : Store) (c : Call) (a : After) : Type 0 where
  pub later : Later s a.store
  pub builds : (f : Field) → effect_of a.answer ≡ making f → T (field_rule (nodes a.store) f) × (field_terms a.store f ≡ entered (field_terms s) s c)

making_same : {f k : Field} → making f ≡ making k → f ≡ k
making_same e = cc

-- What a call that builds leaves.
unfoldable pub after_build : Store → Built → After
after_build s k = record { answer = built k.field; store = add_nodes s (new_nodes s k); slots = []; work = [] }

built_made : (s : Store) (c : Call) (k : Built) → Good s → Builds (spelled s) (nodes s) k (entered (field_terms s) s c)
    → fits s (adds_nodes (new_nodes s k)) none ≡ none → Stepped s c (after_build s k)
unfolding after_build effect_of
built_made s c k g b r = let m = made s k _ g b (room-nodes s (new_nodes s k) none r).0 in
    record {
      later = m.later;
      builds = λ f e. let q = making_same e in (
        subst (λ z. T (field_rule (nodes (add_nodes s (new_nodes s k))) z)) q m.field,
        subst
            (λ z. field_terms (add_nodes s (new_nodes s k)) z ≡ entered (field_terms s) s c) q m.shown,
      );
    }

-- an answer that is no field
unfoldable pub Silent : Effect → Type 0
Silent quiet = Unit {0}
Silent (making f) = ⊥

abbrev pub NoField : Answer → Type 0
NoField a = Silent (effect_of a)

no_field : {A : Type 0} (x : Effect) (f : Field) → Silent x → x ≡ making f → A
unfolding Silent
no_field quiet f h e = absurd (let z : ◌≡◌ {A = ℕ} 0 1 = cc in omega arith)
no_field (making k) f h e = absurd h

-- a call that answers no field
quietly : (s : Store) (c : Call) (a : After) → NoField a.answer → Later s a.store → Stepped s c a
quietly s c a n l = record { later = l; builds = λ f q. no_field (effect_of a.answer) f n q }

unchanged : (s : Store) (c : Call) (a : After) → Good s → a.store ≡ s → NoField a.answer → Stepped s c a
unchanged s c a g e n = quietly s c a n (rw e (later_refl s g))

match_no_field : (n c k : ℕ) → NoField (match_answer n c k)
unfolding match_answer Silent effect_of
match_no_field n c k = go (eqb n 10 || eqb n 11)
  where
    go : (b : Bool) → NoField (elim b as (λ z. Answer) [ true ↦ refused n | false ↦ listed n c k ])
    go true = tt
    go false = tt

flat_no_field : (f : Field) (p : Place) → NoField (flat_answer f p)
unfolding flat_answer Silent effect_of
flat_no_field f (stored r) = tt
flat_no_field f scattered = tt

taken : (s : Store) (f : Field) (n : ℕ) → Good s → T (field_rule (nodes s) f) → n ≤ f.len
    → Stepped s (call_take f n) (record { answer = built (take_field f n); store = s; slots = []; work = [] })
unfolding entered_by entry field_terms effect_of
taken s f n g h le = let t = take-field (spelled s) f n (nodes s) h le in
    record {
      later = later_refl s g;
      builds = λ k e. subst (λ z. T (field_rule (nodes s) z)
          × (holds (spelled s) (nodes s) z ≡ take n (holds (spelled s) (nodes s) f))) (making_same e) t;
    }

accepted : (s : Store) (c : Call) → Good s → arguments s c ≡ none → room s c ≡ none → Stepped s c (accept s c)
unfolding deed room ask accept changed entered_by entry field_terms after_build Silent effect_of
accepted s (call_from_runs w) g e r =
    let (a, e1) = ask_none (runs_rule s.terms_used (records run_layout w)) 5 _ e in
    let (t, e2) = ask_none (leb (total (records run_layout w)) limit) 6 _ e1 in
    built_made s (call_from_runs w) _ g (builds_runs (spelled s) (records run_layout w) (nodes s) (nodes-good s g) (rw (spelled-length s) a) (leb→le _ _ t)) r
accepted s (call_join f k) g e r =
    let (a, e1) = ask_none (field_rule (nodes s) f && field_rule (nodes s) k) 4 _ e in
    let (t, e2) = ask_none (leb (f.len + k.len) limit) 6 _ e1 in
    let (hf, hk) = both_of (field_rule (nodes s) f) (field_rule (nodes s) k) a in
    built_made s (call_join f k) _ g (builds_join (spelled s) f k (nodes s) (nodes-good s g) hf hk (leb→le _ _ t)) r
accepted s (call_take f n) g e r =
    let (a, e1) = ask_none (field_rule (nodes s) f) 4 _ e in
    let (t, e2) = ask_none (leb n f.len) 5 _ e1 in
    taken s f n g a (leb→le _ _ t)
accepted s (call_rest f k) g e r =
    let (a, e1) = ask_none (field_rule (nodes s) f) 4 _ e in
    let (t, e2) = ask_none (leb k f.len) 5 _ e1 in
    built_made s (call_rest f k) _ g (builds_rest (spelled s) f k (nodes s) (nodes-good s g) a (leb→le _ _ t)) r
accepted s (call_range f k n) g e r =
    let (a, e1) = ask_none (field_rule (nodes s) f) 4 _ e in
    let (t, e2) = ask_none (leb (k + n) f.len) 5 _ e1 in
    built_made s (call_range f k n) _ g (builds_range (spelled s) f k n (nodes s) (nodes-good s g) a (leb→le _ _ t)) r
accepted s (call_starts_with f k) g e r = unchanged s (call_starts_with f k) _ g refl tt
accepted s (call_equal f k) g e r = unchanged s (call_equal f k) _ g refl tt
accepted s (call_flatten f w) g e r = unchanged s (call_flatten f w) _ g refl (flat_no_field f (place (nodes s) f))
accepted s (call_match q m) g e r =
    quietly s (call_match q m) _ (match_no_field _ _ _) (later_settled s m.field g (request-field s m none e)
    (room-terms s (field_copy s m.field) none r).0)

pub stepped : (s : Store) (c : Call) → Good s → Stepped s c (step s c)
unfolding step decide refuse Silent effect_of
stepped s c g = go (input s c) (room s c) refl refl
  where
    go : (o q : Option ℕ) → input s c ≡ o → room s c ≡ q → Stepped s c (decide o q s c)
    go (some n) q e r = unchanged s c _ g refl tt
    go none (some n) e r = unchanged s c _ g refl tt
    go none none e r = accepted s c g (input_none s c e).1 r
