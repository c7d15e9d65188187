-- Laws of the calls that compare: what they leave by what the checks answer, and that the code's answer is the specification's.
use Rattle.std.specs.Prelude.{◌≡◌, refl, List, [], Bool, true, false, ◌&&◌, length, take, ℕ, ◌≤◌, ◌<◌}
use Rattle.std.proofs.Common.{ap, ap₂, sym, ◌∙◌, length-take, take-take, arith}
use Rattle.std.proofs.Math.Option.{none}
use Rattle.std.proofs.lemmas.List.{length-map}
use Rattle.term_spec.proofs.ListLaws.{map-take}
use Rattle.term_spec.specs.Value.{Value, canon, forms, sames?, is_yes}
use Rattle.term_spec.proofs.ValueLaws.{is_no}
use Rattle.view_spec.specs.Node.{Field, field_rule, meaning, holds}
use Rattle.view_spec.proofs.NodeLaws.{facts_field, holds-length}
use Rattle.view_spec.specs.Read.{equal_terms, starts_with}
use Rattle.calls_spec.specs.Store.{Store, nodes, terms, spelled, field_terms}
use Rattle.calls_spec.proofs.StoreLaws.{nodes-length, spelled-length}
use Rattle.calls_spec.specs.Step.{Call, refused, truth, call_starts_with, call_equal, ask, given, even_rule, slots_lent, work_lent, fits, changed, deed, arguments, room, accept, step}
use Rattle.nodes.specs.NodeStore.{nodes_in}
use Rattle.value.specs.Equal.{values_in}
use Rattle.view.specs.Check.{numbered, checked, leaves}
use Rattle.view.specs.StepLaws.{ordered, two_fields, left-refused, input-refused, input-passed, step_done, Usable, usable_both}
use Rattle.rope.specs.Pieces.{ShowBoth}

-- ---- what a call leaves that compares two fields ----

-- The call c compares the fields f and g, and b is its answer.
record Compares (s : Store) (f g : Field) (c : Call) (b : Bool) : Type 0 where
  even : even_rule c ≡ true
  asks : arguments s c ≡ ask (field_rule (nodes s) f && field_rule (nodes s) g) 4 none
  free : room s c ≡ none
  done : accept s c ≡ leaves (truth b) s
  no_slots : slots_lent c ≡ []
  no_work : work_lent c ≡ []

module _ {s : Store} {f g : Field} {c : Call} {b : Bool} (w : Compares s f g c b) {n : ℕ} (e : n ≡ numbered (checked s true f g)) where
  both : n ≡ numbered (ordered s true (field_rule (nodes s) f && field_rule (nodes s) g) none)
  both = e ∙ ap numbered (two_fields s true f g)

  compare_refused : (n ≡ 0 → ⊥) → leaves (refused n) s ≡ step s c
  compare_refused h = left-refused s c (input-refused s c true _ none w.even w.asks both h) w.no_slots w.no_work

  compare_done : n ≡ 0 → {a : Bool} → a ≡ b → leaves (truth a) s ≡ step s c
  compare_done z p = rw p (sym w.done) ∙ sym (step_done s c (input-passed s c true _ none w.even w.asks both z) w.free)

starts : (s : Store) (f g : Field) → Compares s f g (call_starts_with f g) (starts_with (field_terms s f) (field_terms s g))
unfolding deed given room fits ask accept changed leaves
starts s f g = record { even = refl; asks = refl; free = refl; done = refl; no_slots = refl; no_work = refl }

equals : (s : Store) (f g : Field) → Compares s f g (call_equal f g) (equal_terms (field_terms s f) (field_terms s g))
unfolding deed given room fits ask accept changed leaves
equals s f g = record { even = refl; asks = refl; free = refl; done = refl; no_slots = refl; no_work = refl }

-- ---- comparing lists of terms ----

lengths_differ : (x y : List Value) → (length x ≡ length y → ⊥) → false ≡ equal_terms x y
unfolding equal_terms
lengths_differ x y h = sym (is_no _ (λ q. h (sym (length-map x canon) ∙ ap length q ∙ length-map y canon)))

-- To start with y is to have equal terms up to its length.
starts-front : (x y : List Value) → starts_with x y ≡ equal_terms (take (length y) x) y
unfolding starts_with equal_terms
starts-front x y = ap (λ l. is_yes (sames? l (forms y))) (sym (map-take canon (length y) x))

starts_longer : (x y : List Value) → length x < length y → false ≡ starts_with x y
starts_longer x y h = lengths_differ (take (length y) x) y (λ q. omega (arith, sym (length-take (length y) x) ∙ q)) ∙ sym (starts-front x y)

-- ---- the terms of a field ----

field-length : (s : Store) (f : Field) → Usable s f → length (field_terms s f) ≡ f.len
unfolding field_terms nodes
field-length s f u =
    holds-length (spelled s) (nodes s) f (rw (spelled-length s) u.store.good) (facts_field (nodes s) f (rw (nodes-length s) u.low) u.within)

-- The first k terms of node i, as the code reads them.
abbrev front : Store → ℕ → ℕ → List Value
front s i k = holds (values_in s.names s.term_words s.terms_used) (nodes_in s.node_words s.nodes_used) (record { node = i; len = k })

field-front : (s : Store) (f : Field) (k : ℕ) → k ≤ f.len → front s f.node k ≡ take k (field_terms s f)
unfolding field_terms spelled nodes terms
field-front s f k h = sym (take-take k f.len (meaning (spelled s) (nodes s) f.node) h)

field-all : (s : Store) (f : Field) → front s f.node f.len ≡ field_terms s f
unfolding field_terms spelled nodes terms
field-all s f = refl

-- Both fields have as many terms as are compared.
pub both_show : {s : Store} {f g : Field} → Usable s f → Usable s g → g.len ≤ f.len
    → ShowBoth s.node_words s.terms_used s.nodes_used f.node g.node g.len
both_show u v h = record { store = u.store; left = record { low = u.low; fits = omega (arith, u.within) }; right = record { low = v.low; fits = v.within } }

-- ---- the exits of the code ----

module _ (s : Store) (f g : Field) {n : ℕ} (e : n ≡ numbered (checked s true f g)) where
  pub starts-refused : (n ≡ 0 → ⊥) → leaves (refused n) s ≡ step s (call_starts_with f g)
  starts-refused h = compare_refused (starts s f g) e h

  pub starts-short : n ≡ 0 → f.len < g.len → leaves (truth false) s ≡ step s (call_starts_with f g)
  starts-short z h =
      let (u, v) = usable_both s f g e z in
      compare_done (starts s f g) e z (starts_longer _ _ (rw (field-length s f u, field-length s g v) h))

  pub starts_by : n ≡ 0 → g.len ≤ f.len → {a : Bool} → a ≡ equal_terms (front s f.node g.len) (front s g.node g.len)
      → leaves (truth a) s ≡ step s (call_starts_with f g)
  starts_by z h p =
      let (u, v) = usable_both s f g e z in
      compare_done (starts s f g) e z
      (p ∙ ap₂ equal_terms (field-front s f g.len h ∙ ap (λ k. take k (field_terms s f)) (sym (field-length s g v))) (field-all s g) ∙ sym (starts-front _ _))

  pub equal-refused : (n ≡ 0 → ⊥) → leaves (refused n) s ≡ step s (call_equal f g)
  equal-refused h = compare_refused (equals s f g) e h

  pub equal-uneven : n ≡ 0 → (f.len ≡ g.len → ⊥) → leaves (truth false) s ≡ step s (call_equal f g)
  equal-uneven z h =
      let (u, v) = usable_both s f g e z in
      compare_done (equals s f g) e z (lengths_differ _ _ (rw (field-length s f u, field-length s g v) h))

  pub equal_by : n ≡ 0 → f.len ≡ g.len → {a : Bool} → a ≡ equal_terms (front s f.node g.len) (front s g.node g.len)
      → leaves (truth a) s ≡ step s (call_equal f g)
  equal_by z h p = compare_done (equals s f g) e z (p ∙ ap₂ equal_terms (ap (front s f.node) (sym h) ∙ field-all s f) (field-all s g))
