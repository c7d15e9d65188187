-- What a record does at a place, exit by exit of the code: r is the innermost level, st the levels around it, env the entries.
use Rattle.std.specs.Prelude.{◌≡◌, List, [], ◌∷◌, ◌++◌, Bool, true, false, T, eqb, set, drop}
use Rattle.std.proofs.Math.Path.{refl, ap, sym}
use Rattle.std.proofs.Common.{ap₂, subst, ◌∙◌, eq-eqb, ne_eqb}
use Rattle.std.proofs.Math.ListN.{length, get_or, drop_of_length-le, take}
use Rattle.std.proofs.Math.Seq.{drop-cons}
use Rattle.std.proofs.lemmas.List.{set-get_or}
use Prim.Native.Nat.{ℕ, suc, zero, ◌+◌, ◌-◌, ◌*◌, ◌/◌, ◌<◌, ◌≤◌}
use native.Mathlib.Omega.{arith}
use Rattle.std.proofs.Math.Decide.{dec_lt}
use Rattle.term_spec.proofs.ListLaws.{All}
use Rattle.term_spec.specs.Text.{text_at}
use Rattle.term_spec.specs.Words.{Lies, decode, record_at, records, count, write}
use Rattle.term_spec.proofs.WordsLaws.{decode-at, decode-length, decode-write, run_lays}
use Rattle.term_spec.specs.Term.{Term, Run, no_run, term_layout, run_layout, no_term, contents_run, term_rule_k}
use Rattle.term_spec.specs.Value.{Single, symbol, term, row, value_k, value_of, canon, sames?, takes?, is_yes}
use Rattle.match_spec.specs.Element.{Element, lit, opening, closing, call, one, many, canon_e}
use Rattle.match_spec.specs.Pattern.{Item, no_item, item_layout, element, element_k, item_rule_k}
use Rattle.match_spec.specs.Pattern.{open_kind, close_kind, symbol_variable_kind, term_variable_kind, expression_variable_kind, nesting_limit, name_limit}
use Rattle.match_spec.specs.Walk.{Reading, cells_of, runs, strip, ends}
use Rattle.match_spec.proofs.RunLaws.{Inside}
use Rattle.value.specs.Equal.{InNames, Texts, TermStore, spec_equal_symbols, spec_equal_runs, values_in}
use Rattle.value.specs.EqualLaws.{in_names, texts_at}
use Rattle.kinds.specs.Kinds.{takes_term}
use Rattle.items.specs.Records.{term_of_item}
use Rattle.steps.specs.declared.State.{State}
use Rattle.steps.specs.declared.Turned.{Turned}
use Rattle.steps.specs.declared.Turned.TheVariants.{Stop, Next, Split}
use Rattle.steps.specs.Turn.{Turn, stop, next, split, called, turn_if, turn_enter, turn_leave, turn_bind, turn_spread, turn_top, turn}
use Rattle.steps.specs.State.{cells_in, back_of, stack_of, spec_place_of, levels_of, entries_of, entries_in, turn_as, turn_of, Known, Place, Stands, LevelsKept}
use Rattle.steps.specs.State.{EndsApart, renamed, coded, coded_all, Fine}
use Rattle.steps.specs.ArrayLaws.{run_written, stack_more, stack_less_run, restores-same, restores-two, entries_less}
use Rattle.steps.specs.CellLaws.{if_yes, if_no, literal_value, enter_no, enter_yes, takes_record, cells_size, first_none, first_some, empty_yes, empty_no}
use Rattle.steps.specs.CellLaws.{begins_yes, begins_no, begins_long, run_begins, run_differs}

-- A turn over the terms of a store.
abbrev turn_in : List ℕ → List ℕ → ℕ → Element ℕ → Bool → List Run → List Run → Turn Run
turn_in names w used = turn (runs names (decode term_layout used w))

-- ---- turns as the code takes them ----

pub stopped : (m : Turned) (lv bd : List ℕ) → m ≡ Stop → turn_of m lv bd ≡ stop
unfolding turn_of
stopped m lv bd e = rw e refl

pub stop_is : (lv bd : List ℕ) → turn_of Stop lv bd ≡ stop
stop_is lv bd = stopped Stop lv bd refl

-- A turn over words is the turn at the place that they and the state make.
pub went_as : (s : State) (lv bd : List ℕ) → turn_of (Next s) lv bd ≡ turn_as (Next s) (spec_place_of s lv bd)
unfolding turn_of turn_as
went_as s lv bd = refl

pub split_as : (s : State) (lv bd : List ℕ) → turn_of (Split s) lv bd ≡ turn_as (Split s) (spec_place_of s lv bd)
unfolding turn_of turn_as
split_as s lv bd = refl

pub went_next : (s : State) (lv bd : List ℕ) {ls env : List Run}
    → levels_of (spec_place_of s lv bd) ≡ ls → entries_of (spec_place_of s lv bd) ≡ env → turn_of (Next s) lv bd ≡ next ls env
unfolding turn_of
went_next s lv bd p q = ap₂ next p q

-- k terms are passed, or given to the next entry.
module _ (s g : State) (lv : List ℕ) (k : ℕ) where
  pub passed_next : (bd : List ℕ) → g ≡ record { start = s.start + k; len = s.len - k; depth = s.depth; bound = s.bound }
      → turn_of (Next g) lv bd ≡ next (back_of k (record { start = s.start; len = s.len }) ∷ stack_of s.depth lv) (entries_in s.bound bd)
  passed_next bd p = went_next g lv bd (ap (λ z. levels_of (spec_place_of z lv bd)) p) (ap (λ z. entries_of (spec_place_of z lv bd)) p)

  pub gave_next : (bd after : List ℕ) → g ≡ record { start = s.start + k; len = s.len - k; depth = s.depth; bound = s.bound + 1 }
      → entries_in (s.bound + 1) after ≡ entries_in s.bound bd ++ (record { start = s.start; len = k } ∷ [])
      → turn_of (Next g) lv after
      ≡ next (back_of k (record { start = s.start; len = s.len }) ∷ stack_of s.depth lv)
      (entries_in s.bound bd ++ (record { start = s.start; len = k } ∷ []))
  gave_next bd after p q = went_next g lv after (ap (λ z. levels_of (spec_place_of z lv after)) p) (ap (λ z. entries_of (spec_place_of z lv after)) p ∙ q)

-- The same for a turn that is told to go on.
pub went : (m : Turned) (s : State) (lv bd : List ℕ) {ls env : List Run} → m ≡ Next s
    → levels_of (spec_place_of s lv bd) ≡ ls → entries_of (spec_place_of s lv bd) ≡ env → turn_of m lv bd ≡ next ls env
went m s lv bd e p q = rw e (went_next s lv bd p q)

module _ (m : Turned) (s g : State) (lv : List ℕ) (k : ℕ) (e : m ≡ Next g) where
  pub passed : (bd : List ℕ) → g ≡ record { start = s.start + k; len = s.len - k; depth = s.depth; bound = s.bound }
      → turn_of m lv bd ≡ next (back_of k (record { start = s.start; len = s.len }) ∷ stack_of s.depth lv) (entries_in s.bound bd)
  passed bd p = rw e (passed_next s g lv k bd p)

  pub gave : (bd after : List ℕ) → g ≡ record { start = s.start + k; len = s.len - k; depth = s.depth; bound = s.bound + 1 }
      → entries_in (s.bound + 1) after ≡ entries_in s.bound bd ++ (record { start = s.start; len = k } ∷ [])
      → turn_of m lv after
      ≡ next (back_of k (record { start = s.start; len = s.len }) ∷ stack_of s.depth lv)
      (entries_in s.bound bd ++ (record { start = s.start; len = k } ∷ []))
  gave bd after p q = rw e (gave_next s g lv k bd after p q)

-- ---- entries ----

all_get_d : (l : List Run) (used n : ℕ) → All (Inside used) l → n < length l → Inside used (get_or l n no_run)
unfolding All
all_get_d [] used n a h = absurd (omega arith)
all_get_d (x ∷ l) used zero a h = a.0
all_get_d (x ∷ l) used (suc n) a h = all_get_d l used n a.1 (omega arith)

pub entry_in : (used n : ℕ) (w : List ℕ) (x : ℕ) {a b : ℕ} → Known used n w → x < n
    → record { start = a; len = b } ≡ get_or (entries_in n w) x no_run → a + b ≤ used
entry_in used n w x h lt e =
    subst (λ (z : Run). Inside used z) (sym e) (all_get_d (entries_in n w) used x h.entries_in_lem (rw decode-length lt))

pub known_in : (used n : ℕ) (w : List ℕ) (x : ℕ) → All (Inside used) (entries_in n w) → x < n
    → (get_or (entries_in n w) x no_run).start + (get_or (entries_in n w) x no_run).len ≤ used
known_in used n w x h lt = all_get_d (entries_in n w) used x h (rw decode-length lt)

pub entry_written : (w after : List ℕ) (n : ℕ) (r : Run) → Lies run_layout w n → after ≡ write run_layout w n (r ∷ [])
    → entries_in (n + 1) after ≡ entries_in n w ++ (r ∷ [])
entry_written w after n r h e = ap (entries_in (n + 1)) e ∙ decode-write run_layout run_lays w n (r ∷ []) h

pub ruleset entry_words = (decode-at, entry_written)

pub ruleset entry_turns = (stop_is, passed_next, gave_next, known_in, entries_less, decode-length)

-- ---- the place ----

pub top_in : (used : ℕ) (s : Place) → Stands used s → s.start + s.len ≤ used
unfolding All
top_in used s h = h.levels_in.0

pub left_in : (used a b : ℕ) (st : List Run) → All (Inside used) (record { start = a; len = b } ∷ st) → a + b ≤ used
unfolding All
left_in used a b st h = h.0

-- ---- words of levels ----

-- A turn that leaves the levels' words.
pub levels-same : (d : ℕ) (m : Turned) (lv : List ℕ) → LevelsKept d m lv lv
levels-same d m lv = record { back = restores-same d lv; same = λ n. refl }

-- A turn that goes on after it wrote level d.
pub wrote_next : (d : ℕ) (s : State) (lv after : List ℕ) (a b : ℕ) → after ≡ set (set lv (2 * d) a) (2 * d + 1) b → LevelsKept d (Next s) lv after
wrote_next d s lv after a b q = record { back = rw q (restores-two d lv a b); same = λ n. absurd (n s refl) }

pub levels_wrote : (d : ℕ) (m : Turned) (s : State) (lv after : List ℕ) (a b : ℕ) → m ≡ Next s
    → after ≡ set (set lv (2 * d) a) (2 * d + 1) b → LevelsKept d m lv after
levels_wrote d m s lv after a b e q = rw e (wrote_next d s lv after a b q)

-- ---- literals ----

literal_in : (k : ℕ) (names : List ℕ) (t : Item) → k < 3 → T (item_rule_k k names t) → T (term_rule_k k names [] (term_of_item t))
unfolding item_rule_k term_rule_k
literal_in zero names t h r = r
literal_in (suc zero) names t h r = r
literal_in (suc (suc zero)) names t h r = r
literal_in (suc (suc (suc k))) names t h r = absurd (omega arith)

-- The texts of a literal, as the term l, and of a term of the store lie in the names; l is a symbol.
pub literal_texts : (names w : List ℕ) (used i : ℕ) (t : Item) (l u : Term) → TermStore names w used → i < used → l ≡ term_of_item t
    → u ≡ record_at term_layout w i → t.kind < 3 → T (item_rule_k t.kind names t) → Texts names l u × (l.kind < 3)
literal_texts names w used i t l u store lt f e h r = rw f (
  record {
    left = in_names t.kind names [] (term_of_item t) (literal_in t.kind names t h r);
    right = (texts_at names w used store i i u u lt lt e e).right;
  },
  h,
)

-- one text by one
pub literal_named : (names : List ℕ) (l : Term) (t : Item) → l ≡ term_of_item t → t.kind < 3 → T (item_rule_k t.kind names t) → InNames l.kind names l
literal_named names l t f h r = rw f (in_names t.kind names [] (term_of_item t) (literal_in t.kind names t h r))

pub symbol_named : (names : List ℕ) (u : Term) (w : List ℕ) (used i : ℕ) → u ≡ record_at term_layout w i → i < used → TermStore names w used → InNames u.kind names u
symbol_named names u w used i e lt store = (texts_at names w used store i i u u lt lt e e).right

-- What is answered of the term l is answered of the literal.
pub literal_same : (names : List ℕ) (t : Item) (l u : Term) {b : Bool} → b ≡ spec_equal_symbols names l u → l ≡ term_of_item t
    → b ≡ spec_equal_symbols names (term_of_item t) u
literal_same names t l u q e = q ∙ ap (λ z. spec_equal_symbols names z u) e

literal_code : (k : ℕ) (names text : List ℕ) (t : Item) (x : ℕ) → k < 3 → text ≡ text_at names t.a t.b
    → renamed x (canon_e (element_k k names t)) ≡ lit (canon (value_k k text (term_of_item t) []))
unfolding renamed canon_e element_k value_k
literal_code zero names text t x h e = refl
literal_code (suc zero) names text t x h e = rw e refl
literal_code (suc (suc zero)) names text t x h e = rw e refl
literal_code (suc (suc (suc k))) names text t x h e = absurd (omega arith)

coded_literal : (names : List ℕ) (t : Item) (x : ℕ) → t.kind < 3 → coded names t x ≡ lit (canon (value_of names (term_of_item t) []))
unfolding coded element value_of
coded_literal names t x h = literal_code t.kind names _ t x h refl

module _ (names w : List ℕ) (used : ℕ) (t : Item) (x : ℕ) (last : Bool) (r : Run) (st env : List Run) (h : t.kind < 3) where
  pub literal_none : r.len ≡ 0 → stop ≡ turn_in names w used (coded names t x) last (r ∷ st) env
  unfolding turn
  literal_none e = rw (coded_literal names t x h) (sym (first_none names w used r st _ e))

  module _ (u : Term) (at : u ≡ record_at term_layout w r.start) (inside : r.start + r.len ≤ used) (some : r.len ≡ 0 → ⊥) {b : Bool}
      (q : b ≡ spec_equal_symbols names (term_of_item t) u) where
    pub literal_differs : b ≡ false → stop ≡ turn_in names w used (coded names t x) last (r ∷ st) env
    unfolding turn
    literal_differs e =
        rw (coded_literal names t x h) (sym (first_some names w used r st _ u at inside some ∙ if_no _ _ (sym (literal_value names _ u _ h) ∙ sym q ∙ e)))

    pub literal_equals : b ≡ true → next (back_of 1 r ∷ st) env ≡ turn_in names w used (coded names t x) last (r ∷ st) env
    unfolding turn
    literal_equals e =
        rw (coded_literal names t x h) (sym (first_some names w used r st _ u at inside some ∙ if_yes _ _ (sym (literal_value names _ u _ h) ∙ sym q ∙ e)))

    pub literal_passes : b ≡ true → turn_in names w used (coded names t x) last (r ∷ st) env ≡ next (back_of 1 r ∷ st) env
    literal_passes e = sym (literal_equals e)

pub ruleset literal_turns = (literal_named, symbol_named, stop_is, passed_next, literal_none, literal_differs, literal_passes, literal_same)

-- ---- brackets ----

module _ (names w : List ℕ) (used : ℕ) (last : Bool) (r : Run) (st env : List Run) where
  pub open_none : r.len ≡ 0 → stop ≡ turn_in names w used opening last (r ∷ st) env
  unfolding turn
  open_none e = sym (first_none names w used r st _ e)

  module _ (u : Term) (at : u ≡ record_at term_layout w r.start) (inside : r.start + r.len ≤ used) (some : r.len ≡ 0 → ⊥) where
    pub open_other : (u.kind ≡ 3 → ⊥) → stop ≡ turn_in names w used opening last (r ∷ st) env
    unfolding turn
    open_other n = sym (first_some names w used r st _ u at inside some ∙ enter_no names u _ _ n)

    pub open_bracket : u.kind ≡ 3
        → next (record { start = u.a; len = u.b } ∷ (back_of 1 r ∷ st)) env ≡ turn_in names w used opening last (r ∷ st) env
    unfolding turn
    open_bracket n =
        let e : u ≡ get_or (decode term_layout used w) r.start no_term = at ∙ sym (decode-at term_layout used r.start w no_term (omega arith)) in
        ap (λ z. next (contents_run z ∷ (back_of 1 r ∷ st)) env) e
        ∙ sym (first_some names w used r st _ u at inside some ∙ enter_yes names u _ _ n)

  module _ (q : Run) (more : List Run) (e : st ≡ q ∷ more) where
    pub close_left : r.start + r.len ≤ used → (r.len ≡ 0 → ⊥) → stop ≡ turn_in names w used closing last (r ∷ st) env
    unfolding turn turn_leave
    close_left inside n = rw e (sym (empty_no names w used r _ inside n))

    pub close_ended : r.len ≡ 0 → next (q ∷ more) env ≡ turn_in names w used closing last (r ∷ st) env
    unfolding turn turn_leave
    close_ended n = rw e (sym (empty_yes names w used r _ n))

-- the same with the turn first, over the words of the levels
pub next_is : (s : State) (lv bd : List ℕ)
    → turn_of (Next s) lv bd ≡ next (record { start = s.start; len = s.len } ∷ stack_of s.depth lv) (entries_in s.bound bd)
unfolding turn_of
next_is s lv bd = refl

module _ (names w : List ℕ) (used : ℕ) (last : Bool) (r : Run) (d : ℕ) (lv : List ℕ) (env : List Run) where
  pub open_enters : (u : Term) → u ≡ record_at term_layout w r.start → r.start + r.len ≤ used → (r.len ≡ 0 → ⊥) → u.kind ≡ 3
      → turn_in names w used opening last (r ∷ stack_of d lv) env ≡ next (record { start = u.a; len = u.b } ∷ (back_of 1 r ∷ stack_of d lv)) env
  open_enters u at inside some e = sym (open_bracket names w used last r (stack_of d lv) env u at inside some e)

  pub close_stops : 1 ≤ d → r.start + r.len ≤ used → (r.len ≡ 0 → ⊥) → turn_in names w used closing last (r ∷ stack_of d lv) env ≡ stop
  close_stops h inside n = sym (close_left names w used last r (stack_of d lv) env _ _ (stack_less_run lv d h refl) inside n)

  pub close_leaves : 1 ≤ d → r.len ≡ 0
      → turn_in names w used closing last (r ∷ stack_of d lv) env ≡ next (record_at run_layout lv (d - 1) ∷ stack_of (d - 1) lv) env
  close_leaves h n = sym (close_ended names w used last r (stack_of d lv) env _ _ (stack_less_run lv d h refl) n)

pub stack_written : (w after : List ℕ) (d : ℕ) (r : Run) → Lies run_layout w (d + 1) → after ≡ write run_layout w d (r ∷ []) → stack_of (d + 1) after ≡ r ∷ stack_of d w
stack_written w after d r h e = ap (stack_of (d + 1)) (e ∙ run_written w d r h) ∙ stack_more w d r.start r.len (omega (arith, h))

pub level_written : (w after : List ℕ) (d : ℕ) (r : Run) (s : State) → Lies run_layout w (d + 1) → after ≡ write run_layout w d (r ∷ [])
    → LevelsKept d (Next s) w after
level_written w after d r s h e = wrote_next d s w after r.start r.len (e ∙ run_written w d r h)

pub ruleset open_turns = (stop_is, next_is, open_none, open_other, open_enters, stack_written, set-get_or)

pub ruleset close_turns = (stop_is, next_is, close_stops, close_leaves)

-- ---- variables that take one term ----

single_code : (k : ℕ) (names : List ℕ) (t : Item) (x : ℕ) → 5 ≤ k → k ≤ 6 → (j : Single) × (row j ≡ k - 5) × (renamed x (canon_e (element_k k names t)) ≡ one j x)
unfolding renamed canon_e element_k row
single_code zero names t x h l = absurd (omega arith)
single_code (suc zero) names t x h l = absurd (omega arith)
single_code (suc (suc zero)) names t x h l = absurd (omega arith)
single_code (suc (suc (suc zero))) names t x h l = absurd (omega arith)
single_code (suc (suc (suc (suc zero)))) names t x h l = absurd (omega arith)
single_code (suc (suc (suc (suc (suc zero))))) names t x h l = (symbol, refl, refl)
single_code (suc (suc (suc (suc (suc (suc zero)))))) names t x h l = (term, refl, refl)
single_code (suc (suc (suc (suc (suc (suc (suc k))))))) names t x h l = absurd (omega arith)

coded_single : (names : List ℕ) (t : Item) (x : ℕ) → 5 ≤ t.kind → t.kind ≤ 6 → (j : Single) × (row j ≡ t.kind - 5) × (coded names t x ≡ one j x)
unfolding coded element
coded_single names t x h l = single_code t.kind names t x h l

bind_known : {R : Type 0} (rd : Reading R) (n : ℕ) (x : R) (st env : List R) (d : Dec (n < length env)) → n < length env
    → turn_bind rd n x st env d ≡ turn_if (sames? (rd.cells (get_or env n rd.nothing)) (rd.cells x)) (next st env)
unfolding turn_bind
bind_known rd n x st env (yes k) h = refl
bind_known rd n x st env (no k) h = absurd (k h)

bind-new : {R : Type 0} (rd : Reading R) (n : ℕ) (x : R) (st env : List R) (d : Dec (n < length env)) → length env ≤ n
    → turn_bind rd n x st env d ≡ next st (env ++ (x ∷ []))
unfolding turn_bind
bind-new rd n x st env (yes k) h = absurd (omega arith)
bind-new rd n x st env (no k) h = refl

-- what it takes goes by the row of its kind
module _ (names w : List ℕ) (used : ℕ) (j : Single) (x : ℕ) (last : Bool) (r : Run) (st env : List Run) where
  pub one_none : r.len ≡ 0 → stop ≡ turn_in names w used (one j x) last (r ∷ st) env
  unfolding turn
  one_none e = sym (first_none names w used r st _ e)

  module _ (u : Term) (at : u ≡ record_at term_layout w r.start) (inside : r.start + r.len ≤ used) (some : r.len ≡ 0 → ⊥) {k : ℕ} (is : row j ≡ k)
      {b : Bool} (takes : b ≡ takes_term k u) where
    one_takes : b ≡ is_yes (takes? j (canon (value_of names u (take r.start (values_in names w used)))))
    one_takes = takes ∙ ap (λ z. takes_term z u) (sym is) ∙ sym (takes_record j names u _)

    pub one_refused : b ≡ false → stop ≡ turn_in names w used (one j x) last (r ∷ st) env
    unfolding turn
    one_refused e = sym (first_some names w used r st _ u at inside some ∙ if_no _ _ (sym one_takes ∙ e))

    module _ (e : b ≡ true) where
      one_taken : turn_in names w used (one j x) last (r ∷ st) env
          ≡ turn_bind (runs names (decode term_layout used w)) x (record { start = r.start; len = 1 }) (back_of 1 r ∷ st) env (dec_lt x (length env))
      unfolding turn
      one_taken = first_some names w used r st _ u at inside some ∙ if_yes _ _ (sym one_takes ∙ e)

      pub one_new : length env ≤ x
          → next (back_of 1 r ∷ st) (env ++ (record { start = r.start; len = 1 } ∷ []))
          ≡ turn_in names w used (one j x) last (r ∷ st) env
      one_new n = sym (one_taken ∙ bind-new _ x _ _ env _ n)

      module _ (v : Run) (known : x < length env) (entry : v ≡ get_or env x no_run) {c : Bool}
          (same : c ≡ spec_equal_runs names w used v.start v.len r.start 1) where
        one_known : turn_in names w used (one j x) last (r ∷ st) env
            ≡ turn_if (sames? (cells_in names w used v) (cells_in names w used (record { start = r.start; len = 1 })))
            (next (back_of 1 r ∷ st) env)
        one_known = one_taken ∙ bind_known _ x _ _ env _ known ∙ rw (← entry) refl

        pub one_differs : c ≡ false → stop ≡ turn_in names w used (one j x) last (r ∷ st) env
        unfolding spec_equal_runs cells_of
        one_differs d = sym (one_known ∙ if_no _ _ (sym same ∙ d))

        pub one_equals : c ≡ true → next (back_of 1 r ∷ st) env ≡ turn_in names w used (one j x) last (r ∷ st) env
        unfolding spec_equal_runs cells_of
        one_equals d = sym (one_known ∙ if_yes _ _ (sym same ∙ d))

-- so does a record of such a kind
module _ (names w : List ℕ) (used : ℕ) (t : Item) (x : ℕ) (last : Bool) (r : Run) (st env : List Run) (low : 5 ≤ t.kind) (high : t.kind ≤ 6) where
  pub single_none : r.len ≡ 0 → stop ≡ turn_in names w used (coded names t x) last (r ∷ st) env
  single_none e = let (j, p, q) = coded_single names t x low high in rw q (one_none names w used j x last r st env e)

  module _ (u : Term) (at : u ≡ record_at term_layout w r.start) (inside : r.start + r.len ≤ used) (some : r.len ≡ 0 → ⊥) {b : Bool}
      (takes : b ≡ takes_term (t.kind - 5) u) where
    pub single_refused : b ≡ false → stop ≡ turn_in names w used (coded names t x) last (r ∷ st) env
    single_refused e =
        let (j, p, q) = coded_single names t x low high in
        rw q (one_refused names w used j x last r st env u at inside some p takes e)

    module _ (e : b ≡ true) where
      single_taken : turn_in names w used (coded names t x) last (r ∷ st) env
          ≡ turn_bind (runs names (decode term_layout used w)) x (record { start = r.start; len = 1 }) (back_of 1 r ∷ st) env (dec_lt x (length env))
      single_taken = let (j, p, q) = coded_single names t x low high in rw q (one_taken names w used j x last r st env u at inside some p takes e)

      pub single_new : length env ≤ x
          → next (back_of 1 r ∷ st) (env ++ (record { start = r.start; len = 1 } ∷ []))
          ≡ turn_in names w used (coded names t x) last (r ∷ st) env
      single_new n = let (j, p, q) = coded_single names t x low high in rw q (one_new names w used j x last r st env u at inside some p takes e n)

      module _ (v : Run) (known : x < length env) (entry : v ≡ get_or env x no_run) {c : Bool}
          (same : c ≡ spec_equal_runs names w used v.start v.len r.start 1) where
        single_known : turn_in names w used (coded names t x) last (r ∷ st) env
            ≡ turn_if (sames? (cells_in names w used v) (cells_in names w used (record { start = r.start; len = 1 })))
            (next (back_of 1 r ∷ st) env)
        single_known =
            let (j, p, q) = coded_single names t x low high in
            rw q (one_known names w used j x last r st env u at inside some p takes e v known entry same)

        pub single_differs : c ≡ false → stop ≡ turn_in names w used (coded names t x) last (r ∷ st) env
        single_differs d =
            let (j, p, q) = coded_single names t x low high in
            rw q (one_differs names w used j x last r st env u at inside some p takes e v known entry same d)

        pub single_equals : c ≡ true → next (back_of 1 r ∷ st) env ≡ turn_in names w used (coded names t x) last (r ∷ st) env
        single_equals d =
            let (j, p, q) = coded_single names t x low high in
            rw q (one_equals names w used j x last r st env u at inside some p takes e v known entry same d)

-- the same with the turn first
module _ (names w : List ℕ) (used : ℕ) (j : Single) (x : ℕ) (last : Bool) (r : Run) (st env : List Run) (u : Term) (at : u ≡ record_at term_layout w r.start)
    (inside : r.start + r.len ≤ used) (some : r.len ≡ 0 → ⊥) {k : ℕ} (is : row j ≡ k) {b : Bool} (takes : b ≡ takes_term k u) (e : b ≡ true) where
  pub one_gives : length env ≤ x
      → turn_in names w used (one j x) last (r ∷ st) env
      ≡ next (back_of 1 r ∷ st) (env ++ (record { start = r.start; len = 1 } ∷ []))
  one_gives n = sym (one_new names w used j x last r st env u at inside some is takes e n)

  pub one_passes : (v : Run) → x < length env → v ≡ get_or env x no_run → {c : Bool} → c ≡ spec_equal_runs names w used v.start v.len r.start 1 → c ≡ true
      → turn_in names w used (one j x) last (r ∷ st) env ≡ next (back_of 1 r ∷ st) env
  one_passes v known entry same d = sym (one_equals names w used j x last r st env u at inside some is takes e v known entry same d)

pub ruleset single_turns = (entry_turns, one_none, one_refused, one_differs, one_gives, one_passes)

-- ---- e-variables ----

module _ {R P : Type 0} (rd : Reading R) (x : R) (env : List R) (r : R) (st : List R) where
  spread_known : (d : Dec P) (last : Bool) → P
      → turn_spread rd d last x env r st ≡ turn_enter (strip (rd.cells x) (rd.cells r)) (next (rd.back (length (rd.cells x)) r ∷ st) env)
  unfolding turn_spread
  spread_known (yes k) last h = refl
  spread_known (no k) last h = absurd (k h)

  spread-last : (d : Dec P) → (P → ⊥) → turn_spread rd d true x env r st ≡ next (rd.back (length (rd.cells r)) r ∷ st) (env ++ (r ∷ []))
  unfolding turn_spread
  spread-last (yes k) h = absurd (h k)
  spread-last (no k) h = refl

  spread-open : (d : Dec P) → (P → ⊥) → turn_spread rd d false x env r st ≡ split r st env
  unfolding turn_spread
  spread-open (yes k) h = absurd (h k)
  spread-open (no k) h = refl

module _ (names w : List ℕ) (used x : ℕ) (r : Run) (st env : List Run) (inside : r.start + r.len ≤ used) where
  pub many_last : {last : Bool} → last ≡ true → length env ≤ x
      → next (back_of r.len r ∷ st) (env ++ (r ∷ [])) ≡ turn_in names w used (many x) last (r ∷ st) env
  unfolding turn turn_top
  many_last e n =
      let l : length (cells_in names w used r) ≡ r.len = cells_size names w used r inside in
      rw e (sym (spread-last _ _ env r st (dec_lt x (length env)) (λ h. omega arith) ∙ ap (λ k. next (back_of k r ∷ st) (env ++ (r ∷ []))) l))

  pub many_split : {last : Bool} → last ≡ false → length env ≤ x → split r st env ≡ turn_in names w used (many x) last (r ∷ st) env
  unfolding turn turn_top
  many_split e n = rw e (sym (spread-open _ _ env r st (dec_lt x (length env)) (λ h. omega arith)))

  module _ (last : Bool) (v : Run) (known : x < length env) (entry : v ≡ get_or env x no_run) (within : v.start + v.len ≤ used) where
    many_known : turn_in names w used (many x) last (r ∷ st) env
        ≡ turn_enter (strip (cells_in names w used v) (cells_in names w used r))
        (next (back_of v.len r ∷ st) env)
    unfolding turn turn_top
    many_known =
        spread_known _ _ env r st (dec_lt x (length env)) last known
        ∙ rw (← entry)
        (ap (λ k. turn_enter (strip (cells_in names w used v) (cells_in names w used r)) (next (back_of k r ∷ st) env))
        (cells_size names w used v within))

    pub many_long : r.len < v.len → stop ≡ turn_in names w used (many x) last (r ∷ st) env
    many_long h = sym (many_known ∙ begins_long _ _ _ (omega (arith, cells_size names w used v within, cells_size names w used r inside)))

    module _ (fits : v.len ≤ r.len) {c : Bool} (same : c ≡ spec_equal_runs names w used v.start v.len r.start v.len) where
      pub many_differs : c ≡ false → stop ≡ turn_in names w used (many x) last (r ∷ st) env
      many_differs d = sym (many_known ∙ begins_no _ _ _ (run_differs names w used v r within inside fits same d))

      pub many_equals : c ≡ true → next (back_of v.len r ∷ st) env ≡ turn_in names w used (many x) last (r ∷ st) env
      many_equals d = sym (many_known ∙ begins_yes _ _ _ (run_begins names w used v r within inside fits same d))

-- the same with the turn first
module _ (names w : List ℕ) (used x : ℕ) (last : Bool) (r : Run) (st env : List Run) (inside : r.start + r.len ≤ used) where
  pub many_gives : last ≡ true → length env ≤ x → turn_in names w used (many x) last (r ∷ st) env ≡ next (back_of r.len r ∷ st) (env ++ (r ∷ []))
  many_gives e n = sym (many_last names w used x r st env inside e n)

  pub many_splits : last ≡ false → length env ≤ x → turn_in names w used (many x) last (r ∷ st) env ≡ split r st env
  many_splits e n = sym (many_split names w used x r st env inside e n)

  pub many_passes : (v : Run) → x < length env → v ≡ get_or env x no_run → v.start + v.len ≤ used → v.len ≤ r.len
      → {c : Bool} → c ≡ spec_equal_runs names w used v.start v.len r.start v.len → c ≡ true
      → turn_in names w used (many x) last (r ∷ st) env ≡ next (back_of v.len r ∷ st) env
  many_passes v known entry within fits same d = sym (many_equals names w used x r st env inside last v known entry within fits same d)

pub split_is : (s : State) (lv bd : List ℕ) → turn_of (Split s) lv bd ≡ split (record { start = s.start; len = s.len }) (stack_of s.depth lv) (entries_in s.bound bd)
unfolding turn_of
split_is s lv bd = refl

pub ruleset expression_turns = (entry_turns, split_is, many_long, many_differs, many_gives, many_splits, many_passes)

-- ---- the record ----

-- What a record asks of the state, by its kind.
pub fine-open : (k x d b : ℕ) → k ≡ 3 → Fine k x d b → d < 32
unfolding Fine
fine-open k x d b e h = rw e at h

pub fine_close : (k x d b : ℕ) → k ≡ 4 → Fine k x d b → 1 ≤ d
unfolding Fine
fine_close k x d b e h = rw e at h

fine_kinds : (j x d b : ℕ) → j ≤ 2 → Fine (suc (suc (suc (suc (suc j))))) x d b → (x ≤ b) × (x < 64)
unfolding Fine
fine_kinds zero x d b l h = h
fine_kinds (suc zero) x d b l h = h
fine_kinds (suc (suc zero)) x d b l h = h
fine_kinds (suc (suc (suc j))) x d b l h = absurd (omega arith)

pub fine-name : (k x d b : ℕ) → 5 ≤ k → k ≤ 7 → Fine k x d b → (x ≤ b) × (x < 64)
fine-name k x d b l u h = let e : k ≡ suc (suc (suc (suc (suc (k - 5))))) = omega arith in fine_kinds (k - 5) x d b (omega arith) (rw e at h)

-- each kind by its name, as a test by cases has it
pub fine_is_open : (k x d b : ℕ) → Fine k x d b → open_kind ≡ k → d < nesting_limit
fine_is_open k x d b h e = fine-open k x d b (sym e) h

pub fine_is_close : (k x d b : ℕ) → Fine k x d b → close_kind ≡ k → 1 ≤ d
fine_is_close k x d b h e = fine_close k x d b (sym e) h

pub fine_is_known : (k x d b : ℕ) → Fine k x d b → symbol_variable_kind ≤ k → k ≤ expression_variable_kind → x ≤ b
fine_is_known k x d b h l u = (fine-name k x d b l u h).0

pub fine_is_small : (k x d b : ℕ) → Fine k x d b → symbol_variable_kind ≤ k → k ≤ expression_variable_kind → x < name_limit
fine_is_small k x d b h l u = (fine-name k x d b l u h).1

module _ (names : List ℕ) (t : Item) (x : ℕ) where
  coded-open : t.kind ≡ 3 → coded names t x ≡ opening
  unfolding coded element renamed canon_e element_k
  coded-open e = rw e refl

  pub coded_close : t.kind ≡ 4 → coded names t x ≡ closing
  unfolding coded element renamed canon_e element_k
  coded_close e = rw e refl

  pub coded_many : t.kind ≡ 7 → coded names t x ≡ many x
  unfolding coded element renamed canon_e element_k
  coded_many e = rw e refl

  pub coded_call : 8 ≤ t.kind → coded names t x ≡ call
  unfolding coded element renamed canon_e element_k
  coded_call l = let e : t.kind ≡ suc (suc (suc (suc (suc (suc (suc (suc (t.kind - 8)))))))) = omega arith in rw e refl

  -- each kind by its name, as a test by cases has it
  pub coded_is_open : open_kind ≡ t.kind → coded names t x ≡ opening
  coded_is_open e = coded-open (sym e)

  pub coded_is_close : close_kind ≡ t.kind → coded names t x ≡ closing
  coded_is_close e = coded_close (sym e)

  pub coded_is_symbol : symbol_variable_kind ≡ t.kind → coded names t x ≡ one symbol x
  unfolding coded element renamed canon_e element_k
  coded_is_symbol e = rw (sym e) refl

  pub coded_is_term : term_variable_kind ≡ t.kind → coded names t x ≡ one term x
  unfolding coded element renamed canon_e element_k
  coded_is_term e = rw (sym e) refl

  pub coded_is_many : expression_variable_kind ≡ t.kind → coded names t x ≡ many x
  coded_is_many e = coded_many (sym e)

  -- so the record does what its element does
  module _ (w : List ℕ) (used : ℕ) (last : Bool) (ls env : List Run) where
    pub turn-open : t.kind ≡ 3 → turn_in names w used opening last ls env ≡ turn_in names w used (coded names t x) last ls env
    turn-open e = rw (coded-open e) refl

    pub turn_close : t.kind ≡ 4 → turn_in names w used closing last ls env ≡ turn_in names w used (coded names t x) last ls env
    turn_close e = rw (coded_close e) refl

    pub turn_many : t.kind ≡ 7 → turn_in names w used (many x) last ls env ≡ turn_in names w used (coded names t x) last ls env
    turn_many e = rw (coded_many e) refl

    pub turn_call : 8 ≤ t.kind → called ≡ turn_in names w used (coded names t x) last ls env
    unfolding turn
    turn_call l = rw (coded_call l) refl

pub row_symbol : row symbol ≡ 0
unfolding row
row_symbol = refl

pub row_term : row term ≡ 1
unfolding row
row_term = refl

-- what a record asks, what it is, and the levels that it leaves
pub ruleset record_asks = (left_in, fine_is_open, fine_is_close, fine_is_known, fine_is_small)

pub ruleset record_turns = (record_asks, coded_is_open, coded_is_close, coded_is_symbol, coded_is_term, coded_is_many, row_symbol, row_term, turn_call, set-get_or)

-- ---- a known e-variable that ends its level ----

pub apart_never : {A : Type 0} → false ≡ true → A
apart_never e = let x : ◌≡◌ {A = ℕ} 0 1 = cc in absurd (omega arith)

pub ends-apart : (kind x : ℕ) (last : Bool) (bound len : ℕ) (w : List ℕ) (e : Run) → kind ≡ 7 → last ≡ true → x < bound → e ≡ get_or (entries_in bound w) x no_run
    → eqb e.len len ≡ false → EndsApart kind x last bound len w
ends-apart kind x last bound len w e m l k q n = record {
  many = m;
  ends = l;
  known = k;
  apart = λ z. let y : false ≡ true = sym n ∙ eq-eqb e.len len (ap (λ (r : Run). r.len) q ∙ z) in apart_never y;
}

-- ---- the end of a level ----

coded-drop : (p : ℕ) (names : List ℕ) (l : List Item) (xs : List ℕ) → (ys : List ℕ) × (drop p (coded_all names l xs) ≡ coded_all names (drop p l) ys)
unfolding coded_all
coded-drop zero names l xs = (xs, refl)
coded-drop (suc p) names [] xs = ([], refl)
coded-drop (suc p) names (t ∷ l) xs = coded-drop p names l (drop 1 xs)

ends_kind : (k : ℕ) (names : List ℕ) (t : Item) (x : ℕ) (p : List (Element ℕ)) → ends (renamed x (canon_e (element_k k names t)) ∷ p) ≡ eqb k 4
unfolding ends renamed canon_e element_k
ends_kind zero names t x p = refl
ends_kind (suc zero) names t x p = refl
ends_kind (suc (suc zero)) names t x p = refl
ends_kind (suc (suc (suc zero))) names t x p = refl
ends_kind (suc (suc (suc (suc zero)))) names t x p = refl
ends_kind (suc (suc (suc (suc (suc zero))))) names t x p = refl
ends_kind (suc (suc (suc (suc (suc (suc zero)))))) names t x p = refl
ends_kind (suc (suc (suc (suc (suc (suc (suc zero))))))) names t x p = refl
ends_kind (suc (suc (suc (suc (suc (suc (suc (suc k)))))))) names t x p =
    let n : suc (suc (suc (suc (suc (suc (suc (suc k))))))) ≡ 4 → ⊥ = λ q. omega arith in
    sym (ne_eqb (suc (suc (suc (suc (suc (suc (suc (suc k)))))))) 4 n)

ends-first : (names : List ℕ) (t : Item) (l : List Item) (xs : List ℕ) → ends (coded_all names (t ∷ l) xs) ≡ eqb t.kind 4
unfolding coded_all coded element
ends-first names t l xs = ends_kind t.kind names t _ _

module _ (w : List ℕ) (p : ℕ) (names numbers : List ℕ) where
  pub ends_past : length w / 4 ≤ p → true ≡ ends (drop p (coded_all names (records item_layout w) numbers))
  unfolding records count coded_all ends
  ends_past h =
      let (ys, e) = coded-drop p names (decode item_layout (length w / 4) w) numbers in
      rw (e, drop_of_length-le (decode item_layout (length w / 4) w) {i = p} (rw decode-length h)) refl

  pub ends_record : p < length w / 4 → (t : Item) → t ≡ record_at item_layout w p
      → eqb t.kind 4 ≡ ends (drop p (coded_all names (records item_layout w) numbers))
  unfolding records count
  ends_record h t e =
      let (ys, q) = coded-drop p names (decode item_layout (length w / 4) w) numbers in
      let d : p < length (decode item_layout (length w / 4) w) = rw decode-length h in
      rw (q, drop-cons (decode item_layout (length w / 4) w) p no_item d, decode-at item_layout (length w / 4) p w no_item h, ← e) (sym (ends-first names t _ ys))

  pub ends_at_record : p < length w / 4 → ends (drop p (coded_all names (records item_layout w) numbers)) ≡ eqb (record_at item_layout w p).kind close_kind
  ends_at_record h = sym (ends_record h _ refl)

pub ruleset level_ends = (ends_past, ends_at_record)
