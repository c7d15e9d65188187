-- The checks 1 to 8 of a listing: the first that applies, and what holds where none does.
use Rattle.std.specs.Prelude.{◌≡◌, List, [], ◌∷◌, ◌++◌, map, Bool, true, false, ◌&&◌, T, eqb, ℕ, suc, ◌/◌, ◌%◌, ◌<◌, ◌≤◌}
use Rattle.std.proofs.Math.Path.{refl, ap, sym}
use Rattle.std.proofs.Common.{◌∙◌}
use Rattle.std.proofs.Math.Option.{Option, some, none}
use borrow.Author.Tests.{leb-true, le-leb, lt-leb, eq-eqb, ne_eqb}
use Rattle.std.proofs.Math.Dec.{leb}
use Rattle.std.proofs.Math.ListN.{length}
use native.Mathlib.Omega.{arith}
use Rattle.term_spec.proofs.BoolLaws.{true-T}
use Rattle.term_spec.specs.Words.{whole, count, records}
use Rattle.term_spec.specs.Term.{limit, runs_rule}
use Rattle.view_spec.specs.Node.{Field, empty_field, node_at, field_rule}
use Rattle.match_spec.specs.Pattern.{item_layout, binding_layout, bound_run, pattern_rule, bindings_rule, pattern_limit}
use Rattle.calls_spec.specs.Store.{Store, nodes, counts_rule, store_terms, store_nodes}
use Rattle.calls_spec.specs.Step.{ask}
use Rattle.nodes.specs.NodeStore.{nodes_in, NodeStore}
use Rattle.value.specs.Equal.{TermStore}
use Rattle.view.specs.Check.{numbered, checked}
use Rattle.view.specs.CheckLaws.{nonzero, and_left, and_right}
use Rattle.view.specs.StepLaws.{one_field, usable}
use Rattle.listing.specs.Match.{even_words, asks_to8, refused_to8}

-- ---- checks in a row ----

-- Tests, each with the number before its own, and what comes after them.
unfoldable asks : List (Bool × ℕ) → Option ℕ → Option ℕ
asks [] x = x
asks (t ∷ l) x = ask t.0 (suc t.1) (asks l x)

-- Every test holds.
unfoldable Hold : List (Bool × ℕ) → Type 0
Hold [] = Unit {0}
Hold (t ∷ l) = (t.0 ≡ true) × Hold l

-- a number that is not 0 stays, whatever comes after
asks-refused : (l : List (Bool × ℕ)) (x : Option ℕ) {n : ℕ} → n ≡ numbered (asks l none) → (n ≡ 0 → ⊥) → asks l x ≡ some n
unfolding asks ask numbered
asks-refused [] x e h = absurd (h e)
asks-refused ((true, d) ∷ l) x e h = asks-refused l x e h
asks-refused ((false, d) ∷ l) x e h = ap some (sym e)

asks-hold : (l : List (Bool × ℕ)) {n : ℕ} → n ≡ numbered (asks l none) → n ≡ 0 → Hold l
unfolding asks ask numbered Hold
asks-hold [] e z = tt
asks-hold ((true, d) ∷ l) e z = (refl, asks-hold l e z)
asks-hold ((false, d) ∷ l) e z = absurd (nonzero (sym e ∙ z))

asks-passed : (l : List (Bool × ℕ)) (x : Option ℕ) → Hold l → asks l x ≡ x
unfolding asks ask Hold
asks-passed [] x h = refl
asks-passed (t ∷ l) x h = rw h.0 (asks-passed l x h.1)

-- ---- 1, of pattern and bindings ----

module _ (p b : List ℕ) where
  pub even_uneven : (length p % 4 ≡ 0 → ⊥) → false ≡ even_words p b
  unfolding whole
  even_uneven h = simp (ne_eqb _ _ h)

  pub even_many : length p % 4 ≡ 0 → pattern_limit < length p / 4 → false ≡ even_words p b
  unfolding whole count
  even_many e h = simp (eq-eqb _ _ e, lt-leb _ _ h)

  pub even_rest : length p % 4 ≡ 0 → length p / 4 ≤ pattern_limit → eqb (length b % 5) 0 ≡ even_words p b
  unfolding whole count
  even_rest e h = simp (eq-eqb _ _ e, le-leb _ _ h)

  -- A pattern in even records is short.
  pub even_short : even_words p b ≡ true → length p ≤ 1027
  unfolding count
  even_short e =
      let even = and_left (whole item_layout p && leb (count item_layout p) 256) (whole binding_layout b) e in
      let h : length p / 4 ≤ pattern_limit = leb-true _ _ (and_right (whole item_layout p) _ even) in
      omega arith

-- ---- 1 to 8 ----

-- The tests 5, 7 and 8.
abbrev inside : Store → List ℕ → Bool
inside s b = runs_rule s.terms_used (map bound_run (records binding_layout b))

abbrev patterned : Store → List ℕ → Bool
patterned s p = pattern_rule s.names (records item_layout p)

abbrev bound : Store → List ℕ → Bool
bound s b = bindings_rule s.names (records binding_layout b) []

-- The tests 1 to 4, and all of them.
abbrev tests4 : Store → Field → List ℕ → List ℕ → List (Bool × ℕ)
tests4 s f p b = (counts_rule s && even_words p b, 0) ∷ (store_terms s, 1) ∷ (store_nodes s, 2) ∷ (field_rule (nodes s) f, 3) ∷ []

abbrev tests8 : Store → Field → List ℕ → List ℕ → List (Bool × ℕ)
tests8 s f p b = tests4 s f p b ++ ((inside s b, 4) ∷ (patterned s p, 6) ∷ (bound s b, 7) ∷ [])

-- What the checks 1 to 8 let pass.
pub record Within8 (s : Store) (f : Field) (p b : List ℕ) : Type 0 where
  pub store : NodeStore s.node_words s.terms_used s.nodes_used
  pub terms : s.terms_used ≤ limit
  pub values : TermStore s.names s.term_words s.terms_used
  pub low : f.node < s.nodes_used
  pub within : f.len ≤ (node_at (nodes_in s.node_words s.nodes_used) f.node).reach
  pub runs : T (runs_rule s.terms_used (map bound_run (records binding_layout b)))
  pub pattern : T (pattern_rule s.names (records item_layout p))
  pub bindings : T (bindings_rule s.names (records binding_layout b) [])
  pub short : length p ≤ 1027

module _ (s : Store) (f : Field) (p b : List ℕ) where
  in_a_row : (x : Option ℕ) → asks_to8 s f p b x ≡ asks (tests8 s f p b) x
  unfolding asks_to8 asks
  in_a_row x = refl

  -- by the number of the whole row
  row : {n : ℕ} → n ≡ numbered (refused_to8 s f p b) → n ≡ numbered (asks (tests8 s f p b) none)
  unfolding refused_to8
  row e = e ∙ ap numbered (in_a_row none)

  pub within_8 : {n : ℕ} → n ≡ numbered (refused_to8 s f p b) → n ≡ 0 → Within8 s f p b
  unfolding Hold asks numbered
  within_8 e z =
      let (h1, (h2, (h3, (h4, (h5, (h7, (h8, u))))))) = asks-hold (tests8 s f p b) (row e) z in
      let q : 0 ≡ numbered (checked s (even_words p b) f empty_field) =
      sym (ap numbered (one_field s (even_words p b) f ∙ asks-passed (tests4 s f p b) none (h1, (h2, (h3, (h4, tt)))))) in
      let m = usable s (even_words p b) f q refl in
      record {
        store = m.store;
        terms = m.terms;
        values = m.values;
        low = m.low;
        within = m.within;
        runs = true-T _ h5;
        pattern = true-T _ h7;
        bindings = true-T _ h8;
        short = even_short p b (and_right (counts_rule s) (even_words p b) h1);
      }

  module _ (x : Option ℕ) {n : ℕ} (e : n ≡ numbered (refused_to8 s f p b)) where
    pub to8_refused : (n ≡ 0 → ⊥) → asks_to8 s f p b x ≡ some n
    to8_refused h = in_a_row x ∙ asks-refused (tests8 s f p b) x (row e) h

    pub to8_passed : n ≡ 0 → asks_to8 s f p b x ≡ x
    to8_passed z = in_a_row x ∙ asks-passed (tests8 s f p b) x (asks-hold (tests8 s f p b) (row e) z)

  -- by the number of the first four, with the test of pattern and bindings as it was made
  module _ {even : Bool} (ev : even ≡ even_words p b) {n : ℕ} (e : n ≡ numbered (checked s even f empty_field)) where
    four : n ≡ numbered (asks (tests4 s f p b) none)
    unfolding asks
    four = e ∙ ap numbered (one_field s even f ∙ rw ev refl)

    pub refusal_first : (n ≡ 0 → ⊥) → n ≡ numbered (refused_to8 s f p b)
    unfolding asks asks_to8 refused_to8 numbered
    refusal_first h = sym (ap numbered (asks-refused (tests4 s f p b) _ four h))

    pub refusal_short : n ≡ 0 → length p ≤ 1027
    unfolding Hold
    refusal_short z = even_short p b (and_right (counts_rule s) (even_words p b) (asks-hold (tests4 s f p b) four z).0)

    pub refusal_later : n ≡ 0 → {r q t : Bool} → r ≡ inside s b → q ≡ patterned s p → t ≡ bound s b
        → numbered (ask r 5 (ask q 7 (ask t 8 none))) ≡ numbered (refused_to8 s f p b)
    unfolding asks asks_to8 refused_to8
    refusal_later z h5 h7 h8 = rw (h5, h7, h8) (sym (ap numbered (asks-passed (tests4 s f p b) _ (asks-hold (tests4 s f p b) four z))))
