-- Laws of the checks, one for each exit of the code that makes them.
use Rattle.std.specs.Prelude.{◌≡◌, List, Bool, ◌&&◌, leb, length}
use Rattle.std.proofs.Math.Path.{refl, ap}
use Rattle.std.proofs.Common.{sym, ◌∙◌}
use Rattle.std.proofs.Math.Option.{Option, none}
use Rattle.std.proofs.Math.Bool.{true, false}
use borrow.Author.Tests.{leb-true, le-leb, lt-leb, eq-eqb, ne_eqb}
use Prim.Native.Nat.{ℕ, suc, ◌/◌, ◌%◌, ◌<◌, ◌≤◌, min}
use Rattle.std.proofs.Math.Decide.{dec_le}
use native.Mathlib.Omega.{arith}
use Rattle.term_spec.proofs.BoolLaws.{both_of, true-T, T_true}
use Rattle.term_spec.specs.Words.{whole, count, Lies}
use Rattle.term_spec.specs.Term.{term_layout, limit}
use Rattle.view_spec.specs.Node.{Field, node_layout, field_rule}
use Rattle.calls_spec.specs.Store.{Store, terms, nodes, capacity, counts_rule, store_terms, store_nodes}
use Rattle.calls_spec.specs.Step.{ask}
use Rattle.value.specs.Check.{unless, terms_counts, terms_number}
use Rattle.view.specs.Check.{numbered, checked}

pub nonzero : {n : ℕ} → suc n ≡ 0 → ⊥
nonzero p = absurd (omega arith)

pub and_true : (b : Bool) → b && true ≡ b
and_true true = refl
and_true false = refl

pub and_left : (a b : Bool) → a && b ≡ true → a ≡ true
and_left a b h = T_true a (both_of a b (true-T _ h)).0

pub and_right : (a b : Bool) → a && b ≡ true → b ≡ true
and_right a b h = T_true b (both_of a b (true-T _ h)).1

-- ---- numbers in their order ----

ask_odd : (b : Bool) (x : Option ℕ) → numbered (ask (b && false) 1 x) ≡ 1
unfolding ask numbered
ask_odd true x = refl
ask_odd false x = refl

-- the counts of the nodes stand apart from those of names and terms
apart : (wt wn ln ut un : Bool) → wt && wn && ln && ut && un ≡ (wn && un) && (wt && ln && ut)
apart true true true true true = refl
apart true true true true false = refl
apart true true true false true = refl
apart true true true false false = refl
apart true true false ut true = refl
apart true true false ut false = refl
apart true false ln ut un = refl
apart false true ln ut true = refl
apart false true ln ut false = refl
apart false false ln ut un = refl

-- 1 and 2 of names and terms come before what follows
terms-first : (e t : Bool) (x : Option ℕ) {n : ℕ} → n ≡ unless e 1 (unless t 2 0) → (n ≡ 0 → ⊥) → n ≡ numbered (ask e 1 (ask t 2 x))
unfolding ask numbered unless
terms-first true true x p h = absurd (h p)
terms-first true false x p h = p
terms-first false t x p h = p

terms-passed : (e t : Bool) (x : Option ℕ) → unless e 1 (unless t 2 0) ≡ 0 → numbered (ask e 1 (ask t 2 x)) ≡ numbered x
unfolding ask numbered unless
terms-passed true true x p = refl
terms-passed true false x p = absurd (nonzero p)
terms-passed false t x p = absurd (nonzero p)

-- within a limit that a number does not pass, the other bound decides
leb_min : (u a m : ℕ) → u ≤ m → leb u (min a m) ≡ leb u a
leb_min u a m h = elim (dec_le u a) [
  | yes k ↦ le-leb u (min a m) (omega arith) ∙ sym (le-leb u a k)
  | no k ↦ lt-leb u (min a m) (omega arith) ∙ sym (lt-leb u a (omega arith))
]

-- Whether the nodes' words and their count are even.
abbrev pub nodes_even : Store → Bool
nodes_even s = whole node_layout s.node_words && leb s.nodes_used (capacity node_layout s.node_words)

module _ (w : List ℕ) (used : ℕ) where
  pub even_whole : (length w % node_layout.width ≡ 0 → ⊥) → false ≡ whole node_layout w && leb used (capacity node_layout w)
  unfolding whole
  even_whole n = simp (ne_eqb _ _ n)

  pub even_limit : length w % node_layout.width ≡ 0 → limit < used → false ≡ whole node_layout w && leb used (capacity node_layout w)
  unfolding whole capacity count
  even_limit e h = simp (eq-eqb _ _ e, lt-leb used (min (length w / node_layout.width) limit) (omega arith))

  pub even_slice : length w % node_layout.width ≡ 0 → used ≤ limit → leb used (length w / node_layout.width) ≡ whole node_layout w && leb used (capacity node_layout w)
  unfolding whole capacity count
  even_slice e h = rw (eq-eqb _ _ e, leb_min used (length w / node_layout.width) limit h) refl

  pub even_fits : whole node_layout w && leb used (capacity node_layout w) ≡ true → Lies node_layout w used
  unfolding whole capacity count
  even_fits e = let h : used ≤ min (length w / node_layout.width) limit = leb-true _ _ (and_right (whole node_layout w) _ e) in omega arith

pub counts-apart : (s : Store) → counts_rule s ≡ nodes_even s && terms_counts s.names s.term_words s.terms_used
unfolding counts_rule terms_counts capacity
counts-apart s =
    apart (whole term_layout s.term_words) (whole node_layout s.node_words) (leb (length s.names) limit)
    (leb s.terms_used (capacity term_layout s.term_words)) (leb s.nodes_used (capacity node_layout s.node_words))

-- The rules of the nodes and of two fields.
abbrev after : Store → Field → Field → Option ℕ
after s f g = ask (store_nodes s) 3 (ask (field_rule (nodes s) f && field_rule (nodes s) g) 4 none)

module _ (s : Store) (f g : Field) where
  pub number_odd : {b : Bool} → b ≡ false → 1 ≡ numbered (checked s b f g)
  unfolding checked
  number_odd e = rw e (sym (ask_odd (counts_rule s) _))

  pub number-nodes : (b : Bool) → nodes_even s ≡ false → 1 ≡ numbered (checked s b f g)
  unfolding checked ask numbered
  number-nodes b e = rw (counts-apart, e) refl

  -- the rest, where these are even
  module _ {b : Bool} (e : b ≡ true) (h : nodes_even s ≡ true) {n : ℕ} (q : n ≡ terms_number s.names s.term_words s.terms_used) where
    evenly : checked s b f g ≡ ask (terms_counts s.names s.term_words s.terms_used) 1 (ask (store_terms s) 2 (after s f g))
    unfolding checked
    evenly = ap (λ x. ask x 1 (ask (store_terms s) 2 (after s f g))) (rw (e, counts-apart, h) (and_true _))

    pub number-terms : (n ≡ 0 → ⊥) → n ≡ numbered (checked s b f g)
    unfolding terms_number store_terms terms
    number-terms k = rw evenly (terms-first _ _ _ q k)

    passed : n ≡ 0 → numbered (checked s b f g) ≡ numbered (after s f g)
    unfolding terms_number store_terms terms
    passed z = rw evenly (terms-passed _ _ _ (sym q ∙ z))

    pub number-bad-node : n ≡ 0 → store_nodes s ≡ false → 3 ≡ numbered (checked s b f g)
    unfolding ask numbered
    number-bad-node z k = rw (passed z, k) refl

    pub number_fields : n ≡ 0 → store_nodes s ≡ true → (x y : Bool) → field_rule (nodes s) f ≡ x → field_rule (nodes s) g ≡ y → unless (x && y) 4 0 ≡ numbered (checked s b f g)
    unfolding ask numbered unless
    number_fields z k true true i j = rw (passed z, k, i, j) refl
    number_fields z k true false i j = rw (passed z, k, i, j) refl
    number_fields z k false y i j = rw (passed z, k, i) refl
