-- Laws of the rigid run: what a record of it does at the terms ahead, exit by exit of the code, and what is left of the run after it.
use Rattle.std.specs.Prelude.{◌≡◌, List, [], ◌∷◌, map, Bool, true, false, ◌&&◌, T, eqb, length, get_or, take, drop}
use Rattle.std.proofs.Math.Path.{refl, ap, sym}
use Rattle.std.proofs.Common.{◌∙◌, eq-eqb, ne_eqb, add-one, arith, nat_eq}
use mir.Val.{bool_byte}
use Rattle.std.proofs.Math.Option.{Option, some, none}
use Rattle.std.proofs.lemmas.List.{length-map}
use Rattle.std.proofs.Math.ListN.{get_or-map}
use Prim.Native.Nat.{ℕ, suc, zero, ◌+◌, ◌-◌, ◌/◌, ◌<◌, ◌≤◌}
use Rattle.std.proofs.Math.Decide.{ℕ_discrete}
use Rattle.term_spec.specs.Words.{decode, record_at, records, count}
use Rattle.term_spec.proofs.WordsLaws.{decode-length}
use Rattle.term_spec.specs.Text.{text_at}
use Rattle.term_spec.specs.Term.{Term, Run, no_run, term_layout, run_layout}
use Rattle.term_spec.specs.Value.{Value, Single, symbol, term, value_k, value_of, canon, contents, row, same?, takes, takes?, decided, is_yes}
use Rattle.match_spec.specs.Element.{Element, canon_e, Level, Env}
use Rattle.match_spec.specs.Pattern.{Item, item_layout, element, element_k, item_rule_k, pattern_rule}
use Rattle.match_spec.specs.Walk.{strip, if_fits, at_head, through, if_known, rigid_fits}
use Rattle.match_spec.proofs.RunLaws.{back_shows}
use Rattle.value.specs.Equal.{spec_equal_symbols, spec_equal_runs, values_in}
use Rattle.value.specs.EqualLaws.{value_at}
use Rattle.kinds.specs.Kinds.{takes_term}
use Rattle.steps.specs.State.{cells_in, back_of, entries_in, Known, renamed, coded, pattern_in}
use Rattle.steps.specs.CellLaws.{decided_is, literal_value, contents_no, contents_yes, takes-term, cells_size, cells_none, cells_next, strip_yes, strip_no, strip_long, run_begins, run_differs}
use Rattle.items.specs.Records.{term_of_item}
use Rattle.steps.specs.StepLaws.{entry_in, coded_close, coded_many, coded_call}
use Rattle.steps.specs.PatternAtLaws.{pattern_at, pattern_end, pattern_item}
use Rattle.rigid.specs.declared.Fit.{Fit}
use Rattle.rigid.specs.declared.Fit.TheVariants.{No, Ends, Takes}
use Rattle.rigid.specs.Fit.{fits_at, run_fits, fit_goes, FitIn, opens_to, skips_to, is_some, head_fits, fits_term}

-- ---- brackets that are passed over ----

pub opens_yes : (k : ℕ) → k ≡ 3 → 1 ≡ opens_to k
unfolding opens_to
opens_yes k e = rw e refl

pub opens_no : (k : ℕ) → (k ≡ 3 → ⊥) → 0 ≡ opens_to k
unfolding opens_to
opens_no zero n = refl
opens_no (suc zero) n = refl
opens_no (suc (suc zero)) n = refl
opens_no (suc (suc (suc zero))) n = absurd (n refl)
opens_no (suc (suc (suc (suc k)))) n = refl

pub opens_is : (k : ℕ) → bool_byte (nat_eq k 3) ≡ opens_to k
opens_is k = go (ℕ_discrete k 3)
  where
    go : Dec (k ≡ 3) → bool_byte (nat_eq k 3) ≡ opens_to k
    go (yes e) = rw (eq-eqb k 3 e) (opens_yes k e)
    go (no n) = rw (ne_eqb k 3 n) (opens_no k n)

opens_few : (k : ℕ) → opens_to k ≤ 1
opens_few k = go (ℕ_discrete k 3)
  where
    go : Dec (k ≡ 3) → opens_to k ≤ 1
    go (yes e) = omega (arith, opens_yes k e)
    go (no n) = omega (arith, opens_no k n)

pub skips_open : (k d : ℕ) → k ≡ 3 → d + 1 ≡ skips_to k d
unfolding skips_to
skips_open k d e = rw (e, add-one) refl

pub skips_close : (k d : ℕ) → k ≡ 4 → d - 1 ≡ skips_to k d
unfolding skips_to
skips_close k zero e = rw e refl
skips_close k (suc d) e = rw e (omega arith)

pub skips_other : (k d : ℕ) → (k ≡ 3 → ⊥) → (k ≡ 4 → ⊥) → d ≡ skips_to k d
unfolding skips_to
skips_other zero d n m = refl
skips_other (suc zero) d n m = refl
skips_other (suc (suc zero)) d n m = refl
skips_other (suc (suc (suc zero))) d n m = absurd (n refl)
skips_other (suc (suc (suc (suc zero)))) d n m = absurd (m refl)
skips_other (suc (suc (suc (suc (suc k))))) d n m = refl

skips_few : (k d : ℕ) → skips_to k d ≤ d + 1
skips_few k d = go (ℕ_discrete k 3) (ℕ_discrete k 4)
  where
    go : Dec (k ≡ 3) → Dec (k ≡ 4) → skips_to k d ≤ d + 1
    go (yes e) m = omega (arith, skips_open k d e)
    go (no n) (yes e) = omega (arith, skips_close k d e)
    go (no n) (no m) = omega (arith, skips_other k d n m)

-- ---- a record at a term ----

literal_head : (k : ℕ) (names text : List ℕ) (t : Item) (v : Value) → k < 3 → text ≡ text_at names t.a t.b
    → head_fits (canon_e (element_k k names t)) v ≡ is_yes (same? (canon (value_k k text (term_of_item t) [])) v)
unfolding head_fits canon_e element_k value_k
literal_head zero names text t v h e = refl
literal_head (suc zero) names text t v h e = rw e refl
literal_head (suc (suc zero)) names text t v h e = rw e refl
literal_head (suc (suc (suc k))) names text t v h e = absurd (omega arith)

single_head : (k : ℕ) (names : List ℕ) (t : Item) (u : Term) (below : List Value) → 4 < k → k < 7
    → head_fits (canon_e (element_k k names t)) (canon (value_of names u below)) ≡ takes_term (k - 5) u
unfolding head_fits canon_e element_k row
single_head zero names t u below l h = absurd (omega arith)
single_head (suc zero) names t u below l h = absurd (omega arith)
single_head (suc (suc zero)) names t u below l h = absurd (omega arith)
single_head (suc (suc (suc zero))) names t u below l h = absurd (omega arith)
single_head (suc (suc (suc (suc zero)))) names t u below l h = absurd (omega arith)
single_head (suc (suc (suc (suc (suc zero))))) names t u below l h = takes-term symbol names u below
single_head (suc (suc (suc (suc (suc (suc zero)))))) names t u below l h = takes-term term names u below
single_head (suc (suc (suc (suc (suc (suc (suc k))))))) names t u below l h = absurd (omega arith)

open_head : (names : List ℕ) (t : Item) (v : Value) → t.kind ≡ 3 → head_fits (canon_e (element names t)) v ≡ is_some (contents v)
unfolding head_fits canon_e element element_k
open_head names t v e = rw e refl

bracket_head : (names : List ℕ) (u : Term) (below : List Value) → is_some (contents (canon (value_of names u below))) ≡ eqb u.kind 3
unfolding value_of is_some
bracket_head names u below = go (ℕ_discrete u.kind 3)
  where
    go : Dec (u.kind ≡ 3) → is_some (contents (canon (value_k u.kind (text_at names u.a u.b) u below))) ≡ eqb u.kind 3
    go (yes e) = rw (contents_yes u.kind (text_at names u.a u.b) u below e) (sym (eq-eqb u.kind 3 e))
    go (no n) = rw (contents_no u.kind (text_at names u.a u.b) u below n) (sym (ne_eqb u.kind 3 n))

-- The record t at term i, which is u.
module _ (names w : List ℕ) (used i : ℕ) (t : Item) (u : Term) (lt : i < used) (at : u ≡ record_at term_layout w i) where
  pub term_bracket : t.kind ≡ 3 → eqb u.kind 3 ≡ fits_term names (decode term_layout used w) t i
  unfolding fits_term
  term_bracket e = rw (value_at names w used i u lt at) (sym (open_head names t _ e ∙ bracket_head names u _))

  pub term_single : {b : Bool} → 4 < t.kind → t.kind < 7 → b ≡ takes_term (t.kind - 5) u → b ≡ fits_term names (decode term_layout used w) t i
  unfolding fits_term element
  term_single l h e = e ∙ rw (value_at names w used i u lt at) (sym (single_head t.kind names t u _ l h))

  pub term_literal : {b : Bool} → t.kind < 3 → b ≡ spec_equal_symbols names (term_of_item t) u → b ≡ fits_term names (decode term_layout used w) t i
  unfolding fits_term element value_of
  term_literal h e =
      e
      ∙ literal_value names (term_of_item t) u (take i (values_in names w used)) h
      ∙ rw (value_at names w used i u lt at) (sym (literal_head t.kind names _ t _ h refl))

-- ---- a record of the run at the terms ahead ----

fits_by : {P : Type 0} (d : Dec P) (b : Bool) → if_fits d b ≡ is_yes d && b
unfolding if_fits is_yes
fits_by (yes h) b = refl
fits_by (no h) b = refl

through_by : (o : Option Level) (b : Bool) → through o (λ l. b) ≡ is_some o && b
unfolding through is_some
through_by none b = refl
through_by (some l) b = refl

takes_by : (k : Single) (v : Value) (b : Bool) → if_fits (takes? k v) b ≡ takes k v && b
unfolding takes?
takes_by k v b = fits_by (decided (takes k v)) b ∙ ap (◌&& b) (decided_is (takes k v))

-- One term: it fits or not, and the run goes on after it.
record_one : (k : ℕ) (names : List ℕ) (t : Item) (x : ℕ) (p : List (Element ℕ)) (env : Env) (v : Value) (c : Level) → k < 7 → (k ≡ 4 → ⊥)
    → rigid_fits (renamed x (canon_e (element_k k names t)) ∷ p) zero env (v ∷ c) ≡ head_fits (canon_e (element_k k names t)) v && rigid_fits p (opens_to k) env c
unfolding rigid_fits at_head renamed canon_e element_k head_fits opens_to
record_one zero names t x p env v c h n = fits_by _ _
record_one (suc zero) names t x p env v c h n = fits_by _ _
record_one (suc (suc zero)) names t x p env v c h n = fits_by _ _
record_one (suc (suc (suc zero))) names t x p env v c h n = through_by (contents v) _
record_one (suc (suc (suc (suc zero)))) names t x p env v c h n = absurd (n refl)
record_one (suc (suc (suc (suc (suc zero))))) names t x p env v c h n = takes_by _ v _
record_one (suc (suc (suc (suc (suc (suc zero)))))) names t x p env v c h n = takes_by _ v _
record_one (suc (suc (suc (suc (suc (suc (suc k))))))) names t x p env v c h n = absurd (omega arith)

record_none : (k : ℕ) (names : List ℕ) (t : Item) (x : ℕ) (p : List (Element ℕ)) (env : Env) → k < 7 → (k ≡ 4 → ⊥)
    → rigid_fits (renamed x (canon_e (element_k k names t)) ∷ p) zero env [] ≡ false
unfolding rigid_fits at_head renamed canon_e element_k
record_none zero names t x p env h n = refl
record_none (suc zero) names t x p env h n = refl
record_none (suc (suc zero)) names t x p env h n = refl
record_none (suc (suc (suc zero))) names t x p env h n = refl
record_none (suc (suc (suc (suc zero)))) names t x p env h n = absurd (n refl)
record_none (suc (suc (suc (suc (suc zero))))) names t x p env h n = refl
record_none (suc (suc (suc (suc (suc (suc zero)))))) names t x p env h n = refl
record_none (suc (suc (suc (suc (suc (suc (suc k))))))) names t x p env h n = absurd (omega arith)

-- Inside brackets: only brackets count.
record_skipped : (k : ℕ) (names : List ℕ) (t : Item) (x : ℕ) (p : List (Element ℕ)) (d : ℕ) (env : Env) (c : Level)
    → rigid_fits (renamed x (canon_e (element_k k names t)) ∷ p) (suc d) env c ≡ rigid_fits p (skips_to k (suc d)) env c
unfolding rigid_fits renamed canon_e element_k skips_to
record_skipped zero names t x p d env c = refl
record_skipped (suc zero) names t x p d env c = refl
record_skipped (suc (suc zero)) names t x p d env c = refl
record_skipped (suc (suc (suc zero))) names t x p d env c = refl
record_skipped (suc (suc (suc (suc zero)))) names t x p d env c = refl
record_skipped (suc (suc (suc (suc (suc zero))))) names t x p d env c = refl
record_skipped (suc (suc (suc (suc (suc (suc zero)))))) names t x p d env c = refl
record_skipped (suc (suc (suc (suc (suc (suc (suc zero))))))) names t x p d env c = refl
record_skipped (suc (suc (suc (suc (suc (suc (suc (suc k)))))))) names t x p d env c = refl

fit_skipped : (names : List ℕ) (t : Item) (x : ℕ) (p : List (Element ℕ)) (d : ℕ) (env : Env) (c : Level) → 0 < d
    → rigid_fits (coded names t x ∷ p) d env c ≡ rigid_fits p (skips_to t.kind d) env c
unfolding coded element
fit_skipped names t x p zero env c h = absurd (omega arith)
fit_skipped names t x p (suc d) env c h = record_skipped t.kind names t x p d env c

-- An e-variable: known or not.
known_yes : {P : Type 0} (d : Dec P) (b : Bool) → P → if_known d b ≡ b
unfolding if_known
known_yes (yes h) b k = refl
known_yes (no h) b k = absurd (h k)

known_no : {P : Type 0} (d : Dec P) (b : Bool) → (P → ⊥) → if_known d b ≡ true
unfolding if_known
known_no (yes h) b k = absurd (k h)
known_no (no h) b k = refl

-- What the record t, whose name has number x, does at the run r.
module _ (names w : List ℕ) (used : ℕ) (t : Item) (x m : ℕ) (binds : List ℕ) (r : Run) (p : List (Element ℕ)) where
  pub fit_close : t.kind ≡ 4 → fits_at names w used m binds (coded names t x ∷ p) zero r ≡ true
  unfolding rigid_fits
  fit_close e = rw (coded_close names t x e) refl

  pub fit_call : 7 < t.kind → fits_at names w used m binds (coded names t x ∷ p) zero r ≡ true
  unfolding rigid_fits
  fit_call l = rw (coded_call names t x l) refl

  entries_count : length (map (cells_in names w used) (entries_in m binds)) ≡ m
  entries_count = length-map (entries_in m binds) (cells_in names w used) ∙ decode-length run_layout m binds

  pub fit_open : t.kind ≡ 7 → m ≤ x → fits_at names w used m binds (coded names t x ∷ p) zero r ≡ true
  unfolding rigid_fits
  fit_open e h = rw (coded_many names t x e) (known_no _ _ (λ q. omega (arith, entries_count)))

  -- an e-variable that was given the run v
  module _ (many : t.kind ≡ 7) (v : Run) (known : x < m) (entry : v ≡ get_or (entries_in m binds) x no_run) (stands : Known used m binds)
      (inside : r.start + r.len ≤ used) where
    within : v.start + v.len ≤ used
    within = entry_in used m binds x stands known entry

    entry_is : get_or (map (cells_in names w used) (entries_in m binds)) x [] ≡ cells_in names w used v
    entry_is =
        ap (get_or (map (cells_in names w used) (entries_in m binds)) x) (sym (cells_none names w used no_run refl))
        ∙ get_or-map (cells_in names w used) (entries_in m binds) x no_run
        ∙ ap (cells_in names w used) (sym entry)

    fit_known : fits_at names w used m binds (coded names t x ∷ p) zero r
        ≡ through (strip (cells_in names w used v) (cells_in names w used r)) (λ l. rigid_fits p zero (map (cells_in names w used) (entries_in m binds)) l)
    unfolding rigid_fits
    fit_known =
        rw (coded_many names t x many)
        (known_yes _ _ (omega (arith, entries_count))
        ∙ ap (λ z. through (strip z (cells_in names w used r)) (λ l. rigid_fits p zero (map (cells_in names w used) (entries_in m binds)) l)) entry_is)

    pub fit_long : r.len < v.len → fits_at names w used m binds (coded names t x ∷ p) zero r ≡ false
    unfolding through
    fit_long h =
        fit_known ∙ rw (strip_long (cells_in names w used v) (cells_in names w used r) (omega (arith, cells_size names w used v within, cells_size names w used r inside))) refl

    module _ (fits : v.len ≤ r.len) {b : Bool} (same : b ≡ spec_equal_runs names w used v.start v.len r.start v.len) where
      pub fit_differs : b ≡ false → fits_at names w used m binds (coded names t x ∷ p) zero r ≡ false
      unfolding through
      fit_differs d = fit_known ∙ rw (strip_no _ _ (run_differs names w used v r within inside fits same d)) refl

      pub fit_equals : b ≡ true → fits_at names w used m binds (coded names t x ∷ p) zero r
          ≡ fits_at names w used m binds p (opens_to t.kind) (back_of v.len r)
      unfolding through
      fit_equals d =
          let e : 0 ≡ opens_to t.kind = opens_no t.kind (λ q. omega arith) in
          fit_known
          ∙ rw (strip_yes _ _ (run_begins names w used v r within inside fits same d), cells_size names w used v within, ← back_shows names (decode term_layout used w) v.len r, ← e) refl

  -- a record that takes one term
  module _ (low : t.kind < 7) (other : t.kind ≡ 4 → ⊥) where
    pub fit_none : r.len ≡ 0 → fits_at names w used m binds (coded names t x ∷ p) zero r ≡ false
    unfolding coded element
    fit_none e = rw (cells_none names w used r e) (record_none t.kind names t x p _ low other)

    module _ (inside : r.start + r.len ≤ used) (some : r.len ≡ 0 → ⊥) {b : Bool} (head : b ≡ fits_term names (decode term_layout used w) t r.start) where
      fit_head : fits_at names w used m binds (coded names t x ∷ p) zero r
          ≡ b && fits_at names w used m binds p (opens_to t.kind) (back_of 1 r)
      unfolding coded element fits_term
      fit_head = rw (cells_next names w used r inside some, head) (record_one t.kind names t x p _ _ _ low other)

      pub fit_not : b ≡ false → fits_at names w used m binds (coded names t x ∷ p) zero r ≡ false
      fit_not e = fit_head ∙ rw e refl

      pub fit_one : b ≡ true → fits_at names w used m binds (coded names t x ∷ p) zero r
          ≡ fits_at names w used m binds p (opens_to t.kind) (back_of 1 r)
      fit_one e = fit_head ∙ rw e refl

-- ---- what is left of the run ----

-- What is asked comes to whether the run from record i on fits at the len terms from start on, d brackets of it being passed over.
pub record Left (names w : List ℕ) (used : ℕ) (pattern numbers : List ℕ) (p m : ℕ) (binds : List ℕ) (r : Run) (i d start len : ℕ) : Type 0 where
  pub inside : start + len ≤ used
  pub few : d ≤ i
  pub same : run_fits names w used pattern numbers p m binds r ≡ fits_at names w used m binds (drop i (pattern_in names pattern numbers)) d (record { start = start; len = len })

pub taken_in : (len : ℕ) (f : Fit) (k : ℕ) → FitIn len f → f ≡ Takes k → k ≤ len
taken_in len f k h e = rw e at h

module _ {names w : List ℕ} {used : ℕ} {pattern numbers : List ℕ} {p m : ℕ} {binds : List ℕ} {r : Run} where
  pub left-first : r.start + r.len ≤ used → Left names w used pattern numbers p m binds r p 0 r.start r.len
  left-first h = record { inside = h; few = omega arith; same = refl }

  module _ {i d start len : ℕ} (left : Left names w used pattern numbers p m binds r i d start len) where
    -- past the end of the pattern
    pub left_end : length pattern / 4 ≤ i → true ≡ run_fits names w used pattern numbers p m binds r
    unfolding count rigid_fits
    left_end h = sym (left.same ∙ rw (pattern_end names pattern numbers i h) refl)

    -- at record i
    module _ (lt : i < length pattern / 4) {t : Item} (at : t ≡ record_at item_layout pattern i) where
      here : {x : ℕ} → x ≡ get_or numbers i 0
          → run_fits names w used pattern numbers p m binds r
          ≡ fits_at names w used m binds (coded names t x ∷ drop (i + 1) (pattern_in names pattern numbers)) d (record { start = start; len = len })
      unfolding count
      here e = left.same ∙ ap (λ z. fits_at names w used m binds z d (record { start = start; len = len })) (pattern_at names pattern numbers i lt at e)

      pub left_item : T (pattern_rule names (records item_layout pattern)) → T (item_rule_k t.kind names t)
      unfolding count
      left_item h = pattern_item names pattern numbers i h lt at

      pub left_skipped : {e : ℕ} → 0 < d → e ≡ skips_to t.kind d → Left names w used pattern numbers p m binds r (i + 1) e start len
      left_skipped h q = record {
        inside = left.inside;
        few = omega (arith, left.few, skips_few t.kind d);
        same = here refl ∙ fit_skipped names t _ _ d _ _ h ∙ rw q refl;
      }

      -- what its record does
      module _ (f : Fit) {x : ℕ} (zero-d : d ≤ 0) (number : x ≡ get_or numbers i 0)
          (goes : (q : List (Element ℕ))
          → fits_at names w used m binds (coded names t x ∷ q) zero (record { start = start; len = len })
          ≡ fit_goes f (λ k. fits_at names w used m binds q (opens_to t.kind) (record { start = start + k; len = len - k }))) where
        left-goes : run_fits names w used pattern numbers p m binds r
            ≡ fit_goes f (λ k. fits_at names w used m binds (drop (i + 1) (pattern_in names pattern numbers)) (opens_to t.kind) (record { start = start + k; len = len - k }))
        left-goes = let z : d ≡ 0 = omega arith in rw z at (here number) ∙ goes (drop (i + 1) (pattern_in names pattern numbers))

        pub left_no : f ≡ No → false ≡ run_fits names w used pattern numbers p m binds r
        left_no e = sym (rw e at left-goes)

        pub left-ends : f ≡ Ends → true ≡ run_fits names w used pattern numbers p m binds r
        left-ends e = sym (rw e at left-goes)

        pub left-takes : {k e : ℕ} → FitIn len f → f ≡ Takes k → e ≡ opens_to t.kind → Left names w used pattern numbers p m binds r (i + 1) e (start + k) (len - k)
        left-takes {k} h g q = record {
          inside = omega (arith, left.inside, taken_in len f k h g);
          few = omega (arith, opens_few t.kind);
          same = rw q (rw g at left-goes);
        }
