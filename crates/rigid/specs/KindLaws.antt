-- What a record of the run does by its kind, one law for each case of the code's tests of kinds.
use Rattle.std.specs.Prelude.{◌≡◌, List, ◌∷◌, Bool, true, false, ℕ, zero, ◌+◌, ◌<◌, ◌≤◌, eqb, get_or}
use Rattle.std.proofs.Common.{sym, arith, refl}
use Rattle.term_spec.specs.Words.{decode, record_at}
use Rattle.term_spec.specs.Term.{Run, no_run, term_layout, bracket_kind}
use Rattle.match_spec.specs.Element.{Element, many, canon_e}
use Rattle.match_spec.specs.Pattern.{Item, element, element_k, open_kind, close_kind, symbol_variable_kind, term_variable_kind, expression_variable_kind}
use Rattle.value.specs.Equal.{spec_equal_symbols, spec_equal_runs}
use Rattle.kinds.specs.Kinds.{takes_term}
use Rattle.items.specs.Records.{term_of_item}
use Rattle.steps.specs.State.{back_of, entries_in, Known, renamed, coded}
use Rattle.rigid.specs.Fit.{opens_to, fits_at, fits_term}
use Rattle.rigid.specs.FitLaws.{term_bracket, term_single, term_literal, fit_open, fit_long, fit_differs, fit_equals}
use Rattle.rigid.specs.FitLaws.{fit_close, fit_call, fit_none, fit_not, fit_one, left_end, left_no, left-ends}

-- ---- a record at a term ----

module _ (names w : List ℕ) (used i : ℕ) (t : Item) where
  pub at_open : i < used → open_kind ≡ t.kind → fits_term names (decode term_layout used w) t i ≡ eqb (record_at term_layout w i).kind bracket_kind
  at_open h e = sym (term_bracket names w used i t _ h refl (sym e))

  pub at_symbol : i < used → symbol_variable_kind ≡ t.kind → fits_term names (decode term_layout used w) t i ≡ takes_term 0 (record_at term_layout w i)
  at_symbol h e = sym (term_single names w used i t _ h refl (omega arith) (omega arith) (rw (← e) refl))

  pub at_term : i < used → term_variable_kind ≡ t.kind → fits_term names (decode term_layout used w) t i ≡ takes_term 1 (record_at term_layout w i)
  at_term h e = sym (term_single names w used i t _ h refl (omega arith) (omega arith) (rw (← e) refl))

  pub at_literal : i < used → t.kind < open_kind
      → fits_term names (decode term_layout used w) t i ≡ spec_equal_symbols names (term_of_item t) (record_at term_layout w i)
  at_literal h e = sym (term_literal names w used i t _ h refl e refl)

pub ruleset at_kinds = (at_open, at_symbol, at_term, at_literal)

-- ---- an e-variable at the terms ahead ----

-- An e-variable's record; its name has number x.
abbrev many_item : Item
many_item = record { kind = expression_variable_kind; a = 0; b = 0; c = 0 }

module _ (names w : List ℕ) (used x m : ℕ) (binds : List ℕ) (r : Run) (p : List (Element ℕ)) where
  pub many_open : m ≤ x → fits_at names w used m binds (many x ∷ p) zero r ≡ true
  unfolding coded element renamed canon_e element_k
  many_open h = fit_open names w used many_item x m binds r p refl h

  -- the run v that it was given
  module _ (lt : x < m) (stands : Known used m binds) (inside : r.start + r.len ≤ used) {v : Run} (at : v ≡ get_or (entries_in m binds) x no_run) where
    pub many_long : r.len < v.len → fits_at names w used m binds (many x ∷ p) zero r ≡ false
    unfolding coded element renamed canon_e element_k
    many_long h = fit_long names w used many_item x m binds r p refl v lt at stands inside h

    module _ (fits : v.len ≤ r.len) {b : Bool} (same : b ≡ spec_equal_runs names w used v.start v.len r.start v.len) where
      pub many_differs : b ≡ false → fits_at names w used m binds (many x ∷ p) zero r ≡ false
      unfolding coded element renamed canon_e element_k
      many_differs e = fit_differs names w used many_item x m binds r p refl v lt at stands inside fits same e

      pub many_equals : b ≡ true → fits_at names w used m binds (many x ∷ p) zero r ≡ fits_at names w used m binds p 0 (back_of v.len r)
      unfolding coded element renamed canon_e element_k opens_to
      many_equals e = fit_equals names w used many_item x m binds r p refl v lt at stands inside fits same e

pub ruleset many_fits = (many_open, many_long, many_differs, many_equals)

-- ---- a record at the terms ahead ----

module _ (names w : List ℕ) (used : ℕ) (t : Item) (x m : ℕ) (binds : List ℕ) (r : Run) (p : List (Element ℕ)) where
  pub ends_by_close : close_kind ≡ t.kind → fits_at names w used m binds (coded names t x ∷ p) zero r ≡ true
  ends_by_close e = fit_close names w used t x m binds r p (sym e)

  pub ends_by_call : expression_variable_kind < t.kind → fits_at names w used m binds (coded names t x ∷ p) zero r ≡ true
  ends_by_call h = fit_call names w used t x m binds r p h

  module _ (low : t.kind < expression_variable_kind) (other : t.kind ≡ close_kind → ⊥) where
    pub one_none : r.len ≡ 0 → fits_at names w used m binds (coded names t x ∷ p) zero r ≡ false
    one_none e = fit_none names w used t x m binds r p low other e

    module _ (inside : r.start + r.len ≤ used) (some : r.len ≡ 0 → ⊥) where
      pub one_not : fits_term names (decode term_layout used w) t r.start ≡ false → fits_at names w used m binds (coded names t x ∷ p) zero r ≡ false
      one_not e = fit_not names w used t x m binds r p low other inside some refl e

      pub one_takes : fits_term names (decode term_layout used w) t r.start ≡ true
          → fits_at names w used m binds (coded names t x ∷ p) zero r ≡ fits_at names w used m binds p (opens_to t.kind) (back_of 1 r)
      one_takes e = fit_one names w used t x m binds r p low other inside some refl e

pub ruleset record_kinds = (ends_by_close, ends_by_call, one_none, one_not, one_takes)

-- the exits of a run
pub ruleset run_exits = (left_end, left_no, left-ends)
