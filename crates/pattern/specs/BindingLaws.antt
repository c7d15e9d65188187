-- Laws of starting bindings: a binding's rule, where its text lies, and what is left of the bindings comes to the same as all of them.
use Rattle.std.specs.Prelude.{◌≡◌, List, [], ◌∷◌, ◌++◌, map, Bool, true, false, ◌&&◌, T, leb, get_or, drop, ℕ, suc, zero, ◌+◌, ◌<◌, ◌≤◌}
use Rattle.std.proofs.Math.Path.{refl, ap}
use Rattle.std.proofs.Common.{sym, add-one, arith}
use Rattle.std.proofs.lemmas.List.{map-append}
use borrow.Author.Tests.{le-leb, lt-leb}
use Rattle.std.proofs.Math.ListN.{length}
use Rattle.std.proofs.Math.Decide.{ℕ_discrete}
use Rattle.term_spec.proofs.BoolLaws.{both_of, true-T}
use Rattle.term_spec.specs.Words.{decode, record_at, records, count}
use Rattle.term_spec.proofs.WordsLaws.{decode-at, decode-snoc, decode-length, record_next, records_done}
use Rattle.term_spec.specs.Text.{text_rule}
use Rattle.term_spec.specs.Term.{run_rule, runs_rule}
use Rattle.text.specs.Texts.{name_text, spelling}
use Rattle.text.specs.TextLaws.{text_within}
use Rattle.match_spec.specs.Pattern.{Binding, binding_layout, bound_run, Name, find, name_at, binding_name, binding_names, binding_rule, bindings_rule}
use Rattle.pattern.specs.Records.{bindings_in, variable, BindingTexts}
use Rattle.pattern.specs.NameLaws.{bindings-length}

-- ---- a binding by itself ----

module _ (names : List ℕ) (b : Binding) where
  pub binding_rule_lem : {z : Bool} → variable b.kind ≡ z → binding_rule names b ≡ z && text_rule (spelling name_text) names b.offset b.size
  unfolding binding_rule text_rule spelling
  binding_rule_lem e = ap (◌&& text_rule (spelling name_text) names b.offset b.size) e

binding_within : (names : List ℕ) (b : Binding) → T (binding_rule names b) → b.offset + b.size ≤ length names
unfolding binding_rule
binding_within names b h = text_within _ names b.offset b.size (both_of (variable b.kind) _ h).1

pub named_text : (names : List ℕ) (b : Binding) → binding_rule names b ≡ true → b.offset + b.size ≤ length names
named_text names b h = binding_within names b (true-T _ h)

-- ---- every run inside ----

module _ (w : List ℕ) (terms : ℕ) where
  pub inside-all : (i : ℕ) → bindings_in w ≤ i → i ≤ bindings_in w → runs_rule terms (map bound_run (drop i (records binding_layout w))) ≡ runs_rule terms (map bound_run (records binding_layout w))
      → true ≡ runs_rule terms (map bound_run (records binding_layout w))
  unfolding runs_rule records count
  inside-all i g l h = rw (records_done binding_layout (bindings_in w) w i (omega arith)) at h

  module _ (i : ℕ) {b : Binding} (lt : i < bindings_in w) (e : b ≡ record_at binding_layout w i)
      (h : runs_rule terms (map bound_run (drop i (records binding_layout w))) ≡ runs_rule terms (map bound_run (records binding_layout w))) where
    pub inside_not : terms < b.start + b.len → false ≡ runs_rule terms (map bound_run (records binding_layout w))
    unfolding runs_rule run_rule records count
    inside_not k = rw (record_next binding_layout (bindings_in w) w i lt e, lt-leb (b.start + b.len) terms k) at h

    pub inside_next : b.start + b.len ≤ terms → runs_rule terms (map bound_run (drop (i + 1) (records binding_layout w))) ≡ runs_rule terms (map bound_run (records binding_layout w))
    unfolding runs_rule run_rule records count
    inside_next k = rw (record_next binding_layout (bindings_in w) w i lt e, le-leb (b.start + b.len) terms k) at h

-- ---- each binding's rule, and no name repeated ----

-- What the loop over the bindings holds: the texts of those passed lie in the names, and what is left comes to the same as all of them.
pub record Naming (names w : List ℕ) (i : ℕ) : Type 0 where
  pub past : i ≤ bindings_in w
  pub texts : BindingTexts names w i
  pub rest : bindings_rule names (drop i (records binding_layout w)) (binding_names names (decode binding_layout i w)) ≡ bindings_rule names (records binding_layout w) []

names_more : (names w : List ℕ) (i : ℕ) {b : Binding} → b ≡ record_at binding_layout w i
    → binding_names names (decode binding_layout i w) ++ (binding_name names b ∷ []) ≡ binding_names names (decode binding_layout (i + 1) w)
names_more names w i e = rw (add-one, decode-snoc binding_layout i w, ← e) (sym (map-append (binding_name names) (decode binding_layout i w) _))

module _ (names w : List ℕ) where
  pub naming_start : Naming names w 0
  unfolding BindingTexts decode
  naming_start = record { past = omega arith; texts = λ j h. absurd (omega arith); rest = refl }

  module _ (i : ℕ) (now : Naming names w i) where
    pub all_named : bindings_in w ≤ i → true ≡ bindings_rule names (records binding_layout w) []
    unfolding records count bindings_rule
    all_named h = rw (records_done binding_layout (bindings_in w) w i (omega (arith, now.past))) at now.rest

    -- binding i is b
    module _ {b : Binding} (lt : i < bindings_in w) (e : b ≡ record_at binding_layout w i) where
      step : binding_rule names b && leb i (find (binding_name names b) (binding_names names (decode binding_layout i w)))
          && bindings_rule names (drop (i + 1) (records binding_layout w)) (binding_names names (decode binding_layout (i + 1) w)) ≡ bindings_rule names (records binding_layout w) []
      unfolding records count bindings_rule
      step = rw (record_next binding_layout (bindings_in w) w i lt e, bindings-length names w i, names_more names w i e) at now.rest

      pub bad_binding_lem : binding_rule names b ≡ false → false ≡ bindings_rule names (records binding_layout w) []
      bad_binding_lem h = rw h at step

      module _ (ok : binding_rule names b ≡ true) {at : ℕ} (q : at ≡ find (name_at names b.kind b.offset b.size) (binding_names names (decode binding_layout i w))) where
        found_at : at ≡ find (binding_name names b) (binding_names names (decode binding_layout i w))
        unfolding binding_name
        found_at = q

        pub repeated : at < i → false ≡ bindings_rule names (records binding_layout w) []
        repeated h = rw (ok, ← found_at, lt-leb i at h) at step

        pub named : i ≤ at → Naming names w (i + 1)
        unfolding BindingTexts
        named h = record {
          past = omega arith;
          texts = λ j lj. go j lj (ℕ_discrete j i);
          rest = rw (ok, ← found_at, le-leb i at h) at step;
        }
          where
            go : (j : ℕ) → j < i + 1 → Dec (j ≡ i) → (record_at binding_layout w j).offset + (record_at binding_layout w j).size ≤ length names
            go j lj (yes z) = rw (z, ← e) (named_text names b ok)
            go j lj (no z) = now.texts j (omega arith)

-- The rule of all bindings, as a fact of each text.
rule-parts : (names : List ℕ) (b : Binding) (bs : List Binding) (t : List Name) → T (bindings_rule names (b ∷ bs) t)
    → T (binding_rule names b) × T (bindings_rule names bs (t ++ (binding_name names b ∷ [])))
unfolding bindings_rule
rule-parts names b bs t h =
    let new : Bool = leb (length t) (find (binding_name names b) t) in
    let (x, y) = both_of (binding_rule names b && new) (bindings_rule names bs (t ++ (binding_name names b ∷ []))) h in
    ((both_of (binding_rule names b) new x).0, y)

rule_texts : (names : List ℕ) (bs : List Binding) (t : List Name) → T (bindings_rule names bs t) → (j : ℕ) (d : Binding) → j < length bs
    → (get_or bs j d).offset + (get_or bs j d).size ≤ length names
rule_texts names [] t h j d lt = absurd (omega arith)
rule_texts names (b ∷ bs) t h zero d lt = binding_within names b (rule-parts names b bs t h).0
rule_texts names (b ∷ bs) t h (suc j) d lt = rule_texts names bs (t ++ (binding_name names b ∷ [])) (rule-parts names b bs t h).1 j d (omega arith)

pub texts_of : (names w : List ℕ) → T (bindings_rule names (records binding_layout w) []) → BindingTexts names w (count binding_layout w)
unfolding BindingTexts records
texts_of names w h j lt =
    rw (← decode-at binding_layout (count binding_layout w) j w (binding_layout.read []) lt)
    (rule_texts names (decode binding_layout (count binding_layout w) w) [] h j (binding_layout.read []) (rw decode-length lt))
