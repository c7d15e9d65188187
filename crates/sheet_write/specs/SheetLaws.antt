-- Laws of a whole sheet written part by part, of the refusals, and of the rule test by test.
use Rattle.std.specs.Prelude.{◌≡◌, refl, List, [], ◌∷◌, ◌++◌, Bool, true, false, T, length, ℕ, ◌+◌, ◌%◌, ◌≤◌, ◌<◌}
use Rattle.std.proofs.Math.Path.{ap}
use Rattle.std.proofs.Common.{ap₂, sym, ◌∙◌, length-append, arith}
use Rattle.std.proofs.Math.Seq.{append_snoc}
use borrow.Author.Tests.{le-leb, lt-leb, eq-eqb, ne_eqb}
use Rattle.term_spec.specs.Words.{count, whole}
use Rattle.term_spec.specs.Term.{term_layout, run_layout}
use Rattle.match_spec.specs.Pattern.{item_layout}
use Rattle.sheet_spec.specs.Sheet.{Sheet, line, lines, term_columns, item_columns, run_columns, run_zeros, sheet_text, sheet_rule}
use Rattle.sheet_spec.specs.Sheet.{Counts, terms_start, spec_names_start, spec_pattern_start, spec_runs_start, sheet_end}
use Rattle.sheet_spec.specs.Job.{refused_sheet, wrote, laid_at, laid, written, written_sheet}
use Rattle.sheet_spec.proofs.LineLaws.{line-length, lines-length}
use Rattle.sheet_spec.proofs.SheetLaws.{spec_counts_of, rule_facts, facts_limits, sheet-length}
use Rattle.sheet_spec.proofs.LaidLaws.{laid_at-start, laid_at_then}
use Rattle.sheet_form.specs.Form.{in_limits}
use Rattle.sheet_write.specs.Write.{Fitting}

-- ---- the parts ----

-- What is known of a sheet that is written: its counts, and that they fit the slice.
module _ (s : Sheet) (rule : T (sheet_rule s)) {c : Counts} (counts : c ≡ spec_counts_of s) where
  -- They are within the limits.
  pub rule-limits : T (in_limits c)
  unfolding spec_counts_of
  rule-limits = rw counts (facts_limits _ _ _ _ (rule_facts s rule).limited)

  -- The text is as long as they say.
  pub text_length : length (sheet_text s) ≡ sheet_end c
  text_length = sheet-length s rule ∙ ap sheet_end (sym counts)

-- They fit, where the text does.
pub fitting : (s : Sheet) (out : List ℕ) (rule : T (sheet_rule s)) {c : Counts} (counts : c ≡ spec_counts_of s) → length (sheet_text s) ≤ length out
    → Fitting s c out
unfolding spec_counts_of count
fitting s out rule counts h =
    let l = text_length s rule counts in
    let t = ap (λ k. k.terms) counts in
    let n = ap (λ k. k.names) counts in
    let p = ap (λ k. k.pattern) counts in
    let r = ap (λ k. k.runs) counts in
    record { end = omega arith; terms = omega arith; names = sym n; pattern = omega arith; runs = omega arith }

-- The head, the term lines, the names, a newline, the pattern lines and the run lines, laid one after another on `out`.
pub record Laid (s : Sheet) (c : Counts) (out o1 o2 o3 o4 o5 o6 : List ℕ) : Type 0 where
  pub head : o1 ≡ laid_at out 0 (line (c.terms ∷ c.names ∷ c.pattern ∷ c.runs ∷ []))
  pub terms : o2 ≡ laid_at o1 terms_start (lines term_columns 0 c.terms s.terms)
  pub names : o3 ≡ laid_at o2 (spec_names_start c) s.names
  pub newline : o4 ≡ laid_at o3 (spec_names_start c + c.names) (10 ∷ [])
  pub pattern : o5 ≡ laid_at o4 (spec_pattern_start c) (lines item_columns 0 c.pattern s.pattern)
  pub runs : o6 ≡ laid_at o5 (spec_runs_start c) (lines run_columns run_zeros c.runs s.runs)

-- They come to the sheet's text.
parts_all : (s : Sheet) (out : List ℕ) {o1 o2 o3 o4 o5 o6 : List ℕ} → sheet_end (spec_counts_of s) ≤ length out
    → Laid s (spec_counts_of s) out o1 o2 o3 o4 o5 o6 → o6 ≡ laid (sheet_text s) out
unfolding sheet_text spec_counts_of count
parts_all s out {o1} {o2} {o3} {o4} {o5} {o6} h f =
    let c = spec_counts_of s in
    let head = line (c.terms ∷ c.names ∷ c.pattern ∷ c.runs ∷ []) in
    let (ts, ns) : List ℕ × List ℕ = (lines term_columns 0 c.terms s.terms, s.names) in
    let (ps, rs) : List ℕ × List ℕ = (lines item_columns 0 c.pattern s.pattern, lines run_columns run_zeros c.runs s.runs) in
    let lh = line-length (c.terms ∷ c.names ∷ c.pattern ∷ c.runs ∷ []) in
    let lt = lines-length term_columns 0 c.terms s.terms (omega arith) in
    let lp = lines-length item_columns 0 c.pattern s.pattern (omega arith) in
    let l2 = length-append head ts in
    let l3 = length-append (head ++ ts) ns in
    let l4 = length-append (head ++ ts ++ ns) (10 ∷ []) in
    let l5 = length-append (head ++ ts ++ ns ++ (10 ∷ [])) ps in
    let f2 = laid_at_then out o1 o2 0 terms_start head ts (omega arith) (omega arith) f.head f.terms in
    let f3 = laid_at_then out o2 o3 0 (spec_names_start c) (head ++ ts) ns (omega arith) (omega arith) f2 f.names in
    let f4 = laid_at_then out o3 o4 0 (spec_names_start c + c.names) (head ++ ts ++ ns) (10 ∷ []) (omega arith) (omega arith) f3 f.newline in
    let f5 = laid_at_then out o4 o5 0 (spec_pattern_start c) (head ++ ts ++ ns ++ (10 ∷ [])) ps (omega arith) (omega arith) f4 f.pattern in
    laid_at_then out o5 o6 0 (spec_runs_start c) (head ++ ts ++ ns ++ (10 ∷ []) ++ ps) rs (omega arith) (omega arith) f5 f.runs
    ∙ laid_at-start out (head ++ ts ++ ns ++ (10 ∷ []) ++ ps ++ rs)
    ∙ ap (λ x. laid (x ++ rs) out) (append_snoc (head ++ ts ++ ns) 10 ps)

pub parts-laid : (s : Sheet) {c : Counts} (out : List ℕ) {o1 o2 o3 o4 o5 o6 : List ℕ} → c ≡ spec_counts_of s → sheet_end c ≤ length out
    → Laid s c out o1 o2 o3 o4 o5 o6 → o6 ≡ laid (sheet_text s) out
parts-laid s out counts h f = parts_all s out (rw counts at h) (rw counts at f)

-- ---- the answers ----

rule_fails : (s : Sheet) (out : List ℕ) → sheet_rule s ≡ false → written_sheet s out ≡ (refused_sheet 1, out)
unfolding written_sheet
rule_fails s out h = rw (h, written_sheet) refl

rule-holds : (s : Sheet) (out : List ℕ) → sheet_rule s ≡ true → written_sheet s out ≡ written (sheet_text s) out
unfolding written_sheet
rule-holds s out h = rw (h, written_sheet) refl

text_short : (text out : List ℕ) → length out < length text → written text out ≡ (refused_sheet 14, out)
unfolding written
text_short text out h = rw (lt-leb (length text) (length out) h, written) refl

text_fits : (text out : List ℕ) → length text ≤ length out → written text out ≡ (wrote (length text), laid text out)
unfolding written
text_fits text out h = rw (le-leb (length text) (length out) h, written) refl

module _ (s : Sheet) (out : List ℕ) {ok : Bool} (is : ok ≡ sheet_rule s) where
  -- Records that are not whole, or too many.
  pub uneven-refused : ok ≡ false → (refused_sheet 1, out) ≡ written_sheet s out
  uneven-refused failed = sym (rule_fails s out (sym is ∙ failed))

  module _ {all : ℕ} (held : ok ≡ true) (e : length (sheet_text s) ≡ all) where
    -- A slice that is short.
    pub short-refused : length out < all → (refused_sheet 14, out) ≡ written_sheet s out
    short-refused lt = sym (rule-holds s out (sym is ∙ held) ∙ text_short (sheet_text s) out (omega arith))

    -- A slice that is not.
    pub sheet-written : {new : List ℕ} → all ≤ length out → new ≡ laid (sheet_text s) out → (wrote all, new) ≡ written_sheet s out
    sheet-written le g =
        ap₂ (λ a x. (wrote a, x)) (sym e) g ∙ sym (rule-holds s out (sym is ∙ held) ∙ text_fits (sheet_text s) out (omega arith))

-- ---- the rule ----

-- The first test that fails decides, and the limits where no other does.
module _ (s : Sheet) where
  pub terms-uneven : (length s.terms % term_layout.width ≡ 0 → ⊥) → false ≡ sheet_rule s
  unfolding sheet_rule whole
  terms-uneven h = simp (ne_eqb (length s.terms % term_layout.width) 0 h)

  module _ (t : length s.terms % term_layout.width ≡ 0) where
    pub pattern_uneven : (length s.pattern % item_layout.width ≡ 0 → ⊥) → false ≡ sheet_rule s
    unfolding sheet_rule whole
    pattern_uneven h = simp (eq-eqb (length s.terms % term_layout.width) 0 t, ne_eqb (length s.pattern % item_layout.width) 0 h)

    module _ (p : length s.pattern % item_layout.width ≡ 0) where
      pub runs-uneven : (length s.runs % run_layout.width ≡ 0 → ⊥) → false ≡ sheet_rule s
      unfolding sheet_rule whole
      runs-uneven h =
          simp (
            eq-eqb (length s.terms % term_layout.width) 0 t,
            eq-eqb (length s.pattern % item_layout.width) 0 p,
            ne_eqb (length s.runs % run_layout.width) 0 h,
          )

      pub whole-limits : {c : Counts} {b : Bool} → length s.runs % run_layout.width ≡ 0 → c ≡ spec_counts_of s → b ≡ in_limits c → b ≡ sheet_rule s
      unfolding sheet_rule whole spec_counts_of
      whole-limits r counts h =
          h ∙ ap in_limits counts
          ∙ simp (
            eq-eqb (length s.terms % term_layout.width) 0 t,
            eq-eqb (length s.pattern % item_layout.width) 0 p,
            eq-eqb (length s.runs % run_layout.width) 0 r,
          )
