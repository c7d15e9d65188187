-- What a run of a store shows to a turn: how many terms, the first of them, and whether one run begins another.
use Rattle.std.specs.Prelude.{◌≡◌, List, [], ◌∷◌, ◌++◌, Bool, true, false, length, get_or, take, drop, ℕ, suc, zero, ◌+◌, ◌-◌, ◌<◌, ◌≤◌}
use Rattle.std.proofs.Math.Path.{refl}
use Rattle.std.proofs.Common.{ap, sym, ◌∙◌, length-take, take-append-drop, add-zero, arith}
use Rattle.std.proofs.Math.Option.{Option, some, none}
use Rattle.std.proofs.Math.Seq.{take-append_seam}
use Rattle.std.proofs.Math.Nat.{sub-zero}
use Rattle.std.proofs.Math.Decide.{ℕ_discrete}
use Rattle.term_spec.specs.Words.{decode, record_at}
use Rattle.term_spec.specs.Term.{Term, Run, term_layout, part, contents_run}
use Rattle.term_spec.specs.Value.{Value, char, Single, row, value_k, value_of, canon, forms, contents, same?, sames?, takes, takes?, decided, is_yes}
use Rattle.term_spec.proofs.ValueLaws.{canon_bracketed, contents-bracketed, takes_canon, is_yes_lem, yes_of}
use Rattle.match_spec.specs.Element.{Level}
use Rattle.match_spec.specs.Walk.{cells_of, runs, strip}
use Rattle.match_spec.proofs.WalkLaws.{strip-at, strip-sound}
use Rattle.match_spec.proofs.RunLaws.{front-shows}
use Rattle.value.specs.Equal.{spec_equal_symbols, spec_equal_runs, values_in}
use Rattle.value.specs.EqualLaws.{values_differ, value_alone, value_at, run_size, first_of}
use Rattle.kinds.specs.Kinds.{takes_term}
use Rattle.kinds.specs.KindLaws.{takes_value}
use Rattle.steps.specs.Turn.{Turn, stop, turn_if, turn_enter, turn_head, turn_empty, turn_first}

-- ---- decisions ----

pub if_yes : {R P : Type 0} (d : Dec P) (t : Turn R) → is_yes d ≡ true → turn_if d t ≡ t
unfolding is_yes turn_if
if_yes (yes h) t e = refl
if_yes (no h) t e = cc

pub if_no : {R P : Type 0} (d : Dec P) (t : Turn R) → is_yes d ≡ false → turn_if d t ≡ stop
unfolding is_yes turn_if
if_no (yes h) t e = cc
if_no (no h) t e = refl

pub decided_is : (b : Bool) → is_yes (decided b) ≡ b
unfolding is_yes decided
decided_is true = refl
decided_is false = refl

-- ---- one term ----

value_whole : (names : List ℕ) (t : Term) (below : List Value) → (t.kind ≡ 3 → ⊥) → value_of names t below ≡ value_of names t []
unfolding value_of
value_whole names t below n = value_alone t.kind _ t below n

-- A literal against a term, whatever is below it.
pub literal_value : (names : List ℕ) (l t : Term) (below : List Value) → l.kind < 3
    → spec_equal_symbols names l t ≡ is_yes (same? (canon (value_of names l [])) (canon (value_of names t below)))
unfolding spec_equal_symbols
literal_value names l t below h = go (ℕ_discrete t.kind 3)
  where
    go : Dec (t.kind ≡ 3)
        → is_yes (same? (canon (value_of names l [])) (canon (value_of names t []))) ≡ is_yes (same? (canon (value_of names l [])) (canon (value_of names t below)))
    go (yes e) = values_differ names l t [] [] (λ q. omega arith) ∙ sym (values_differ names l t [] below (λ q. omega arith))
    go (no n) = ap (λ v. is_yes (same? (canon (value_of names l [])) (canon v))) (sym (value_whole names t below n))

pub contents_no : (k : ℕ) (text : List ℕ) (t : Term) (below : List Value) → (k ≡ 3 → ⊥) → contents (canon (value_k k text t below)) ≡ none
unfolding value_k canon contents
contents_no zero text t below h = refl
contents_no (suc zero) text t below h = refl
contents_no (suc (suc zero)) text t below h = refl
contents_no (suc (suc (suc zero))) text t below h = absurd (h refl)
contents_no (suc (suc (suc (suc k)))) text t below h = refl

pub contents_yes : (k : ℕ) (text : List ℕ) (t : Term) (below : List Value) → k ≡ 3
    → contents (canon (value_k k text t below)) ≡ some (forms (part below (contents_run t)))
unfolding value_k
contents_yes k text t below e = rw (e, canon_bracketed) (contents-bracketed _)

-- A value is entered where its term is a bracket.
module _ {R : Type 0} (names : List ℕ) (t : Term) (below : List Value) (x : Turn R) where
  pub enter_no : (t.kind ≡ 3 → ⊥) → turn_enter (contents (canon (value_of names t below))) x ≡ stop
  unfolding value_of turn_enter
  enter_no h = rw (contents_no t.kind _ t below h) refl

  pub enter_yes : t.kind ≡ 3 → turn_enter (contents (canon (value_of names t below))) x ≡ x
  unfolding value_of turn_enter
  enter_yes h = rw (contents_yes t.kind _ t below h) refl

-- What an s- or t-variable takes goes by the term's record.
pub takes-term : (k : Single) (names : List ℕ) (t : Term) (below : List Value) → takes k (canon (value_of names t below)) ≡ takes_term (row k) t
unfolding takes
takes-term k names t below = takes_canon k (value_of names t below) ∙ sym (takes_value (row k) names t below)

pub takes_record : (k : Single) (names : List ℕ) (t : Term) (below : List Value) → is_yes (takes? k (canon (value_of names t below))) ≡ takes_term (row k) t
unfolding takes?
takes_record k names t below = decided_is _ ∙ takes-term k names t below

-- ---- runs ----

module _ (names w : List ℕ) (used : ℕ) (r : Run) where
  pub cells_size : r.start + r.len ≤ used → length (cells_of names (decode term_layout used w) r) ≡ r.len
  unfolding cells_of
  cells_size h = run_size names w used r.start r.len h

  pub cells_none : r.len ≡ 0 → cells_of names (decode term_layout used w) r ≡ []
  unfolding cells_of
  cells_none e = rw e refl

  -- the term that the run starts with, and what follows
  pub cells_next : r.start + r.len ≤ used → (r.len ≡ 0 → ⊥)
      → cells_of names (decode term_layout used w) r
      ≡ canon (get_or (values_in names w used) r.start (char 0)) ∷ cells_of names (decode term_layout used w) (record { start = r.start + 1; len = r.len - 1 })
  unfolding cells_of
  cells_next h n =
      let q = first_of names w used r.start r.len 0 (omega arith) h in
      rw (add-zero r.start, sub-zero r.len) at q

  cells_first : (t : Term) → t ≡ record_at term_layout w r.start → r.start + r.len ≤ used → (r.len ≡ 0 → ⊥)
      → (c : Level) × (cells_of names (decode term_layout used w) r ≡ canon (value_of names t (take r.start (values_in names w used))) ∷ c)
  cells_first t e h n = (_, rw (value_at names w used r.start t (omega arith) e) at (cells_next h n))

  module _ (st : List Run) (f : Value → Run → List Run → Turn Run) where
    pub first_none : r.len ≡ 0 → turn_first (runs names (decode term_layout used w)) (r ∷ st) f ≡ stop
    unfolding turn_first turn_head
    first_none e = rw (cells_none e) refl

    pub first_some : (t : Term) → t ≡ record_at term_layout w r.start → r.start + r.len ≤ used → (r.len ≡ 0 → ⊥)
        → turn_first (runs names (decode term_layout used w)) (r ∷ st) f
        ≡ f (canon (value_of names t (take r.start (values_in names w used)))) r (record { start = r.start + 1; len = r.len - 1 } ∷ st)
    unfolding turn_first turn_head
    first_some t e h n = let (c, q) = cells_first t e h n in rw q refl

  pub empty_yes : (x : Turn Run) → r.len ≡ 0 → turn_empty (cells_of names (decode term_layout used w) r) x ≡ x
  unfolding turn_empty
  empty_yes x e = rw (cells_none e) refl

  pub empty_no : (x : Turn Run) → r.start + r.len ≤ used → (r.len ≡ 0 → ⊥) → turn_empty (cells_of names (decode term_layout used w) r) x ≡ stop
  unfolding turn_empty
  empty_no x h n = let (c, q) = cells_first _ refl h n in rw q refl

-- ---- a beginning ----

strip_some : (x c t : Level) → strip x c ≡ some t → x ≡ take (length x) c
strip_some x c t e = rw (strip-sound x c t e) (sym (take-append_seam x t))

module _ (x c : Level) where
  pub strip_yes : x ≡ take (length x) c → strip x c ≡ some (drop (length x) c)
  strip_yes e = strip-at x (drop (length x) c) (sym (take-append-drop (length x) c) ∙ ap (◌++ drop (length x) c) (sym e))

  pub strip_no : (x ≡ take (length x) c → ⊥) → strip x c ≡ none
  strip_no n = go (strip x c) refl
    where
      go : (o : Option Level) → strip x c ≡ o → o ≡ none
      go none e = refl
      go (some l) e = absurd (n (strip_some x c l e))

  pub strip_long : length c < length x → strip x c ≡ none
  strip_long h = strip_no (λ e. omega (arith, ap length e, length-take (length x) c))

-- A turn that goes on where x begins c.
module _ {R : Type 0} (x c : Level) (t : Turn R) where
  pub begins_yes : x ≡ take (length x) c → turn_enter (strip x c) t ≡ t
  unfolding turn_enter
  begins_yes e = rw (strip_yes x c e) refl

  pub begins_no : (x ≡ take (length x) c → ⊥) → turn_enter (strip x c) t ≡ stop
  unfolding turn_enter
  begins_no n = rw (strip_no x c n) refl

  pub begins_long : length c < length x → turn_enter (strip x c) t ≡ stop
  unfolding turn_enter
  begins_long h = rw (strip_long x c h) refl

no_so : {P : Type 0} (d : Dec P) → is_yes d ≡ false → P → ⊥
no_so d e h = let z : ◌≡◌ {A = ℕ} 0 1 = cc (is_yes_lem d h) in omega arith

-- Whether run v begins run r: what comparing v with as many terms of r says.
module _ (names w : List ℕ) (used : ℕ) (v r : Run) (within : v.start + v.len ≤ used) (inside : r.start + r.len ≤ used) (fits : v.len ≤ r.len) {b : Bool}
    (same : b ≡ spec_equal_runs names w used v.start v.len r.start v.len) where
  front_is : cells_of names (decode term_layout used w) (record { start = r.start; len = v.len })
      ≡ take (length (cells_of names (decode term_layout used w) v)) (cells_of names (decode term_layout used w) r)
  front_is =
      rw (cells_size names w used v within) (front-shows names (decode term_layout used w) v.len r (rw (cells_size names w used r inside) fits))

  same_is : b
      ≡ is_yes (sames? (cells_of names (decode term_layout used w) v) (cells_of names (decode term_layout used w) (record { start = r.start; len = v.len })))
  unfolding spec_equal_runs cells_of
  same_is = same

  pub run_begins : b ≡ true
      → cells_of names (decode term_layout used w) v ≡ take (length (cells_of names (decode term_layout used w) v)) (cells_of names (decode term_layout used w) r)
  run_begins d = yes_of _ (sym same_is ∙ d) ∙ front_is

  pub run_differs : b ≡ false
      → cells_of names (decode term_layout used w) v ≡ take (length (cells_of names (decode term_layout used w) v)) (cells_of names (decode term_layout used w) r)
      → ⊥
  run_differs d e = no_so _ (sym same_is ∙ d) (e ∙ sym front_is)
