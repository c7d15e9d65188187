-- Laws of the whole sheet: its counts, its names, the rules of its first line and of the lines after it test by test, and what reading leaves.
use Rattle.std.specs.Prelude.{◌≡◌, Option as CodeOption, Some, None, MatchOption, List, [], Bool}
use Rattle.std.specs.Prelude.{◌&&◌, T, eqb, length, take, drop, get_or, ℕ, ◌+◌, ◌-◌, ◌*◌, ◌<◌, ◌≤◌}
use Rattle.sheet_form.specs.declared.Counts.{Counts as CodeCounts}
use Rattle.std.proofs.Math.Path.{refl, ap, ap₂}
use Rattle.std.proofs.Common.{sym, ◌∙◌, arith, leb→le}
use Rattle.std.proofs.Math.Option.{Option, some, none}
use Rattle.std.proofs.Math.Bool.{true, false}
use borrow.Author.Tests.{le-leb, lt-leb, eq-eqb, ne_eqb}
use Rattle.std.proofs.Math.Dec.{leb}
use Rattle.term_spec.proofs.BoolLaws.{both_of, true-T, T_true, Test, holds, fails, test}
use Rattle.sheet_spec.specs.Sheet.{column_width, count_columns, beyond, number_at, words_at, term_columns}
use Rattle.sheet_spec.specs.Sheet.{item_columns, run_columns, run_zeros, Counts, spec_line_ok, spec_lines_ok, Sheet}
use Rattle.sheet_spec.specs.Sheet.{terms_start, spec_names_start, spec_pattern_start, spec_runs_start}
use Rattle.sheet_spec.specs.Sheet.{sheet_end, head_rule, body_rule, counts_at, sheet_at, spec_read_sheet}
use Rattle.sheet_spec.specs.Job.{spec_names_part, laid, refused_sheet, counted, unread, read_into}
use Rattle.sheet_spec.proofs.LineLaws.{words_length, line_facts}
use Rattle.sheet_spec.proofs.SheetLaws.{facts_limits, head_facts, body_facts, read_none}
use Rattle.sheet_form.specs.Form.{as_counts, in_limits}
use Rattle.sheet_read.specs.LineLaws.{number-below}
use Rattle.sheet_read.specs.Read.{Headless, InForm, Holds, held, filled, leaves_sheet, read_by}

-- ---- the counts ----

-- The four numbers of the first line.
pub counts_same :
    (text : List ℕ) {t n p r : ℕ} → t ≡ number_at text 0 → n ≡ number_at text column_width → p ≡ number_at text (2 * column_width)
    → r ≡ number_at text (3 * column_width)
    → ◌≡◌ {A = Counts} (record { terms = t; names = n; pattern = p; runs = r }) (counts_at text)
unfolding counts_at
counts_same text a b c d = cc

-- ---- the names ----

names_by :
    (text : List ℕ) (c : Counts) (t : Bool) → in_limits c && leb (spec_names_start c + c.names) (length text) ≡ t
    → spec_names_part text c ≡ elim t as (λ _. List ℕ) [ true ↦ take c.names (drop (spec_names_start c) text) | false ↦ [] ]
unfolding spec_names_part
names_by text c t e = ap (λ x. elim x as (λ _. List ℕ) [ true ↦ take c.names (drop (spec_names_start c) text) | false ↦ [] ]) e

module _ (text : List ℕ) (c : Counts) {b : Bool} (e : b ≡ in_limits c) where
  pub names_over : b ≡ false → [] ≡ spec_names_part text c
  names_over f = sym (names_by text c false (simp (← e, f)))

  pub names_short : b ≡ true → length text < spec_names_start c + c.names → [] ≡ spec_names_part text c
  names_short f h = sym (names_by text c false (simp (← e, f, lt-leb _ _ h)))

  pub names_there : {x y : ℕ} → x ≡ spec_names_start c → y ≡ spec_names_start c + c.names → b ≡ true → y ≤ length text
      → take (y - x) (drop x text) ≡ spec_names_part text c
  names_there {x} {y} i j f h =
      let z : y - x ≡ c.names = omega arith in
      ap₂ (λ m n. take m (drop n text)) z i ∙ sym (names_by text c true (simp (← e, f, le-leb (spec_names_start c + c.names) (length text) (omega arith))))

-- ---- the first line ----

module _ (text : List ℕ) (c : Counts) where
  -- What the rule of it says, test by test.
  module _ {a : Bool} (h : terms_start ≤ length text) (e : a ≡ spec_line_ok text 0 count_columns 0) where
    pub head_line_stop : a ≡ false → false ≡ head_rule text c
    unfolding head_rule
    head_line_stop f = simp (le-leb terms_start (length text) h, ← e, f)

    module _ {b : Bool} (g : b ≡ in_limits c) (t : a ≡ true) where
      pub head_limits_stop : b ≡ false → false ≡ head_rule text c
      unfolding head_rule
      head_limits_stop f = simp (le-leb terms_start (length text) h, ← e, ← g, t, f)

      pub head_end : {z : ℕ} → z ≡ sheet_end c → b ≡ true → eqb (length text) z ≡ head_rule text c
      unfolding head_rule
      head_end s f = simp (le-leb terms_start (length text) h, ← e, ← g, t, f, s)

  pub head_short : length text < terms_start → head_rule text c ≡ false
  unfolding head_rule
  head_short h = simp (lt-leb terms_start (length text) h)

  -- Its counts are within the limits.
  pub head_limits : T (head_rule text c) → T (in_limits c)
  head_limits h = facts_limits c.terms c.names c.pattern c.runs (head_facts text c h).limited

-- A number of the first line that is not in form.
pub headless : (text : List ℕ) (i : ℕ) → i < 4 → beyond ≡ number_at text (column_width * i) → Headless text
headless text i h e c = go (test (head_rule text c))
  where
    go : Test (head_rule text c) → head_rule text c ≡ false
    go (holds t) =
        let z : 0 + column_width * i ≡ column_width * i = omega arith in
        let n : number_at text (column_width * i) < beyond =
        rw z at (number-below text 0 4 i (line_facts text 0 4 0 (head_facts text c t).line).numbers h) in
        absurd (omega arith)
    go (fails f) = f

-- What the rule of the first line says.
pub ruleset head_rules = (head_limits, head_facts)

-- ---- the lines after it ----

module _ (text : List ℕ) (c : Counts) where
  -- What the rule of them says, test by test.
  module _ {a : Bool} (e : a ≡ spec_lines_ok text terms_start term_columns 0 c.terms) where
    pub body_terms_stop : a ≡ false → false ≡ body_rule text c
    unfolding body_rule
    body_terms_stop f = simp (← e, f)

    module _ {x y : ℕ} (at-end : y ≡ spec_names_start c + c.names) (n : x ≡ get_or text y 0) (t : a ≡ true) where
      pub body_names_stop : (x ≡ 10 → ⊥) → false ≡ body_rule text c
      unfolding body_rule
      body_names_stop f = simp (← e, t, ← at-end, ← n, ne_eqb x 10 f)

      module _ {b : Bool} {p : ℕ} (at-pattern : p ≡ spec_pattern_start c) (g : b ≡ spec_lines_ok text p item_columns 0 c.pattern) (u : x ≡ 10) where
        pattern_test : spec_lines_ok text (spec_pattern_start c) item_columns 0 c.pattern ≡ b
        pattern_test = sym (g ∙ ap (λ q. spec_lines_ok text q item_columns 0 c.pattern) at-pattern)

        pub body_pattern_stop : b ≡ false → false ≡ body_rule text c
        unfolding body_rule
        body_pattern_stop f = simp (← e, t, ← at-end, ← n, eq-eqb x 10 u, pattern_test, f)

        pub body_runs :
            {d : Bool} {r : ℕ} → r ≡ spec_runs_start c → d ≡ spec_lines_ok text r run_columns run_zeros c.runs → b ≡ true → d ≡ body_rule text c
        unfolding body_rule
        body_runs at-runs k f = k ∙ simp (← e, t, ← at-end, ← n, eq-eqb x 10 u, pattern_test, f, at-runs)

  -- The words of the three parts go to three slices.
  pub all-filled :
      (t p r : List ℕ) {t' p' r' : List ℕ} {x y : ℕ} → t' ≡ laid (words_at text terms_start term_columns 0 c.terms) t
      → x ≡ spec_pattern_start c → p' ≡ laid (words_at text x item_columns 0 c.pattern) p
      → y ≡ spec_runs_start c → r' ≡ laid (words_at text y run_columns run_zeros c.runs) r → (t', p', r') ≡ filled (sheet_at text c) t p r
  unfolding filled sheet_at
  all-filled t p r e at-pattern f at-runs g = rw (e, f, g, at-pattern, at-runs) refl

-- For reading the lines of a sheet in form.
pub ruleset body_rules = (head_limits, head_facts, body_facts, all-filled)

-- ---- the whole ----

sheet_by :
    (text : List ℕ) (b : Bool) → head_rule text (counts_at text) && body_rule text (counts_at text) ≡ b
    → spec_read_sheet text ≡ elim b as (λ _. Option Sheet) [ true ↦ some (sheet_at text (counts_at text)) | false ↦ none ]
unfolding spec_read_sheet
sheet_by text b e = ap (λ x. elim x as (λ _. Option Sheet) [ true ↦ some (sheet_at text (counts_at text)) | false ↦ none ]) e

-- What reading leaves where the answer is the number n.
abbrev pub LeftAs : ℕ → List ℕ → List ℕ → List ℕ → List ℕ → Type 0
LeftAs n text t p r = leaves_sheet (refused_sheet n) t p r ≡ read_into (spec_read_sheet text) (counts_at text) t p r

module _ (text t p r : List ℕ) where
  no_sheet : head_rule text (counts_at text) && body_rule text (counts_at text) ≡ false → LeftAs 16 text t p r
  unfolding read_into leaves_sheet unread
  no_sheet e = ap (λ s. read_into s (counts_at text) t p r) (sym (read_none text e))

  pub sheet-short : length text < terms_start → LeftAs 16 text t p r
  sheet-short h = no_sheet (simp (head_short text (counts_at text) h))

  -- The first line is not in form, or something after it, by the tests of their rules.
  module _ {c : Counts} {a : Bool} (e : c ≡ counts_at text) (g : a ≡ head_rule text c) where
    pub sheet_head : a ≡ false → LeftAs 16 text t p r
    sheet_head f = no_sheet (simp (← e, ← g, f))

    pub sheet_body : {b : Bool} → b ≡ body_rule text c → a ≡ true → b ≡ false → LeftAs 16 text t p r
    sheet_body h u f = no_sheet (simp (← e, ← g, u, ← h, f))

  -- The first line is not in form, or something after it.
  sheet_headless : Headless text → LeftAs 16 text t p r
  sheet_headless h = no_sheet (simp (h (counts_at text)))

  pub sheet_missing : (o : CodeOption CodeCounts) → MatchOption o (Headless text) (λ c. as_counts c ≡ counts_at text) → ((c : CodeCounts) → o ≡ Some c → ⊥)
      → LeftAs 16 text t p r
  sheet_missing None h n = sheet_headless h
  sheet_missing (Some c) h n = absurd (n c refl)

  pub sheet_unfit : {c : Counts} → c ≡ counts_at text → false ≡ (head_rule text c && body_rule text c) → LeftAs 16 text t p r
  sheet_unfit e f = no_sheet (rw e at (sym f))

  -- A text in form, with its own counts.
  module _ {c : Counts} (e : c ≡ counts_at text) (form : InForm text c) where
    in_form : spec_read_sheet text ≡ some (sheet_at text c)
    in_form = sheet_by text true (simp (← e, T_true (head_rule text c) form.head, T_true (body_rule text c) form.body)) ∙ rw e

    -- The slices, one after the other.
    terms-length : length (sheet_at text c).terms ≡ term_columns * c.terms
    unfolding sheet_at
    terms-length = omega (arith, words_length text terms_start term_columns 0 c.terms)

    pattern_length : length (sheet_at text c).pattern ≡ item_columns * c.pattern
    unfolding sheet_at
    pattern_length = omega (arith, words_length text (spec_pattern_start c) item_columns 0 c.pattern)

    runs-length : length (sheet_at text c).runs ≡ run_columns * c.runs
    unfolding sheet_at
    runs-length = omega (arith, words_length text (spec_runs_start c) run_columns run_zeros c.runs)

    left_by :
        (d : Bool) → leb (term_columns * c.terms) (length t) && leb (item_columns * c.pattern) (length p) && leb (run_columns * c.runs) (length r) ≡ d
        → read_by c (sheet_at text c) t p r d ≡ read_into (spec_read_sheet text) (counts_at text) t p r
    unfolding read_into
    left_by d f =
        let same : leb (term_columns * c.terms) (length t) && leb (item_columns * c.pattern) (length p) && leb (run_columns * c.runs) (length r)
        ≡ leb (length (sheet_at text c).terms) (length t) && leb (length (sheet_at text c).pattern) (length p)
        && leb (length (sheet_at text c).runs) (length r) =
        rw (terms-length, pattern_length, runs-length) in
        ap (read_by c (sheet_at text c) t p r) (sym f ∙ same) ∙ ap₂ (λ s c. read_into s c t p r) (sym in_form) e

    pub terms-short : length t < term_columns * c.terms → LeftAs 14 text t p r
    unfolding leaves_sheet unread
    terms-short i = left_by false (simp (lt-leb _ _ i))

    pub pattern_short : term_columns * c.terms ≤ length t → length p < item_columns * c.pattern → LeftAs 14 text t p r
    unfolding leaves_sheet unread
    pattern_short i j = left_by false (simp (le-leb _ _ i, lt-leb _ _ j))

    pub runs-short : term_columns * c.terms ≤ length t → item_columns * c.pattern ≤ length p → length r < run_columns * c.runs → LeftAs 14 text t p r
    unfolding leaves_sheet unread
    runs-short i j k = left_by false (simp (le-leb _ _ i, le-leb _ _ j, lt-leb _ _ k))

    -- The same by the test of all three.
    pub slices_short : false ≡ held c t p r → LeftAs 14 text t p r
    unfolding leaves_sheet unread
    slices_short h = left_by false (sym h)

    pub sheet_read_lem :
        {t' p' r' : List ℕ} → Holds c t p r → (t', p', r') ≡ filled (sheet_at text c) t p r
        → leaves_sheet (counted c) t' p' r' ≡ read_into (spec_read_sheet text) (counts_at text) t p r
    unfolding leaves_sheet filled
    sheet_read_lem h same =
        ap (λ x. leaves_sheet (counted c) x.0 x.1 x.2) same ∙ left_by true (simp (le-leb _ _ h.terms, le-leb _ _ h.pattern, le-leb _ _ h.runs))

    pub sheet_read_held :
        {t' p' r' : List ℕ} → true ≡ held c t p r → (t', p', r') ≡ filled (sheet_at text c) t p r
        → leaves_sheet (counted c) t' p' r' ≡ read_into (spec_read_sheet text) (counts_at text) t p r
    unfolding leaves_sheet filled
    sheet_read_held h same = ap (λ x. leaves_sheet (counted c) x.0 x.1 x.2) same ∙ left_by true (sym h)

-- What form and room say.
pub in_form_of : (text : List ℕ) (c : Counts) → true ≡ (head_rule text c && body_rule text c) → InForm text c
in_form_of text c e = let (h, b) = both_of (head_rule text c) (body_rule text c) (true-T _ (sym e)) in record { head = h; body = b }

pub holds_of : (c : Counts) (t p r : List ℕ) → true ≡ held c t p r → Holds c t p r
holds_of c t p r e =
    let (x, k) = both_of (leb (term_columns * c.terms) (length t) && leb (item_columns * c.pattern) (length p)) (leb (run_columns * c.runs) (length r))
    (true-T _ (sym e)) in
    let (i, j) = both_of (leb (term_columns * c.terms) (length t)) (leb (item_columns * c.pattern) (length p)) x in
    record { terms = leb→le _ _ i; pattern = leb→le _ _ j; runs = leb→le _ _ k }
