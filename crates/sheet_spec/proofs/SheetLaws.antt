-- Laws of sheets: spec_read_sheet is exactly the inverse of sheet_text.
use Rattle.std.specs.Prelude.{◌≡◌, refl, List, [], ◌∷◌, ◌++◌, true, false, ◌&&◌, T, leb, ltb, eqb, length, take, drop, get_or, ℕ, ◌+◌, ◌-◌, ◌*◌, ◌/◌, ◌%◌, ◌≤◌}
use Rattle.std.proofs.Common.{ap, sym, ◌∙◌, append_assoc, leb→le, le→leb, lt→ltb, eqb→eq, length-append, take_all, arith}
use Rattle.std.proofs.Math.Option.{Option, some, none}
use Rattle.term_spec.proofs.BoolLaws.{both_of, and_of, eq→eqb, T_true, Test, holds, fails, test}
use Rattle.term_spec.proofs.ListLaws.{part_length}
use Rattle.term_spec.specs.Words.{count, whole}
use Rattle.term_spec.specs.Term.{term_layout, run_layout, run_list_limit}
use Rattle.match_spec.specs.Pattern.{item_layout, pattern_limit}
use Rattle.sheet_spec.proofs.LineLaws.{line-length, lines-length, words_length, parts_join, parts-left, parts-right, part-byte, byte-part, line_read}
use Rattle.sheet_spec.proofs.LineLaws.{read_line, lines_read, read_lines, words_below_lem}
use Rattle.sheet_spec.specs.Sheet.{line, lines, Sheet, limits, sheet_text, sheet_rule, beyond, words_below, line_width, number_at, spec_line_ok, spec_lines_ok}
use Rattle.sheet_spec.specs.Sheet.{numbers_at, words_at, Counts, counts_at, terms_start, spec_names_start}
use Rattle.sheet_spec.specs.Sheet.{spec_pattern_start, spec_runs_start, sheet_end, head_rule}
use Rattle.sheet_spec.specs.Sheet.{body_rule, sheet_at, spec_read_sheet, sheet_terms, sheet_names}
use Rattle.sheet_spec.specs.Sheet.{count_columns, term_columns, item_columns, run_columns, run_zeros}

-- ---- rules as facts ----

-- The counts of a sheet.
unfoldable pub spec_counts_of : Sheet → Counts
spec_counts_of s = record {
  terms = count term_layout s.terms;
  names = length s.names;
  pattern = count item_layout s.pattern;
  runs = count run_layout
      s.runs;
}

-- Counts within the limits.
pub record Limited (t n p r : ℕ) : Type 0 where
  pub terms : t ≤ sheet_terms
  pub names : n ≤ sheet_names
  pub pattern : p ≤ pattern_limit
  pub runs : r ≤ run_list_limit

-- They follow from the test.
pub limits_facts : (t n p r : ℕ) → T (limits t n p r) → Limited t n p r
unfolding limits
limits_facts t n p r h =
    let (x, d) = both_of (leb t sheet_terms && leb n sheet_names && leb p pattern_limit) (leb r run_list_limit) h in
    let (y, c) = both_of (leb t sheet_terms && leb n sheet_names) (leb p pattern_limit) x in
    let (a, b) = both_of (leb t sheet_terms) (leb n sheet_names) y in
    record { terms = leb→le t sheet_terms a; names = leb→le n sheet_names b; pattern = leb→le p pattern_limit c; runs = leb→le r run_list_limit d }

-- And the test from them.
pub facts_limits : (t n p r : ℕ) → Limited t n p r → T (limits t n p r)
unfolding limits
facts_limits t n p r h =
    and_of (leb t sheet_terms && leb n sheet_names && leb p pattern_limit) (leb r run_list_limit)
    (and_of (leb t sheet_terms && leb n sheet_names) (leb p pattern_limit)
    (and_of (leb t sheet_terms) (leb n sheet_names) (le→leb t sheet_terms h.terms) (le→leb n sheet_names h.names))
    (le→leb p pattern_limit h.pattern))
    (le→leb r run_list_limit h.runs)

-- What makes a sheet writable: whole records, counts within the limits.
pub record Writable (s : Sheet) : Type 0 where
  pub terms : length s.terms % term_layout.width ≡ 0
  pub pattern : length s.pattern % item_layout.width ≡ 0
  pub runs : length s.runs % run_layout.width ≡ 0
  pub limited : Limited (count term_layout s.terms) (length s.names) (count item_layout s.pattern) (count run_layout s.runs)

-- It follows from the test.
pub rule_facts : (s : Sheet) → T (sheet_rule s) → Writable s
unfolding sheet_rule whole
rule_facts s h =
    let lim = limits (count term_layout s.terms) (length s.names) (count item_layout s.pattern) (count run_layout s.runs) in
    let (x, d) = both_of (whole term_layout s.terms && whole item_layout s.pattern && whole run_layout s.runs) lim h in
    let (y, c) = both_of (whole term_layout s.terms && whole item_layout s.pattern) (whole run_layout s.runs) x in
    let (a, b) = both_of (whole term_layout s.terms) (whole item_layout s.pattern) y in
    record { terms = eqb→eq _ _ a; pattern = eqb→eq _ _ b; runs = eqb→eq _ _ c; limited = limits_facts _ _ _ _ d }

-- And the test from it.
pub facts_rule : (s : Sheet) → Writable s → T (sheet_rule s)
unfolding sheet_rule whole
facts_rule s f =
    let lim = limits (count term_layout s.terms) (length s.names) (count item_layout s.pattern) (count run_layout s.runs) in
    and_of (whole term_layout s.terms && whole item_layout s.pattern && whole run_layout s.runs) lim
    (and_of (whole term_layout s.terms && whole item_layout s.pattern) (whole run_layout s.runs)
    (and_of (whole term_layout s.terms) (whole item_layout s.pattern) (eq→eqb _ _ f.terms) (eq→eqb _ _ f.pattern)) (eq→eqb _ _ f.runs))
    (facts_limits _ _ _ _ f.limited)

-- ---- the parts of a text ----

-- A text's parts by their places: the first line, b bytes, n bytes, a newline, p bytes, r bytes.
pub record Parts (t A B N P R : List ℕ) (b n p r : ℕ) : Type 0 where
  pub size : length t ≡ terms_start + b + n + 1 + p + r
  pub head : take terms_start (drop 0 t) ≡ A
  pub terms : take b (drop terms_start t) ≡ B
  pub names : take n (drop (terms_start + b) t) ≡ N
  pub newline : take 1 (drop (terms_start + b + n) t) ≡ 10 ∷ []
  pub pattern : take p (drop (terms_start + b + n + 1) t) ≡ P
  pub runs : take r (drop (terms_start + b + n + 1 + p) t) ≡ R

-- The length of parts put together.
parts-length : (A B N P R : List ℕ) (b n p r : ℕ) → length A ≡ terms_start → length B ≡ b → length N ≡ n → length P ≡ p → length R ≡ r
    → length (A ++ (B ++ (N ++ ((10 ∷ []) ++ (P ++ R))))) ≡ terms_start + b + n + 1 + p + r
parts-length A B N P R b n p r ha hb hn hp hr = simp length-append (omega arith)

-- The parts of a text that was put together of them.
parts_of : (t A B N P R : List ℕ) (b n p r : ℕ) → length A ≡ terms_start → length B ≡ b → length N ≡ n → length P ≡ p → length R ≡ r
    → t ≡ A ++ (B ++ (N ++ ((10 ∷ []) ++ (P ++ R)))) → Parts t A B N P R b n p r
parts_of t A B N P R b n p r ha hb hn hp hr e =
    let z : length t ≡ terms_start + b + n + 1 + p + r = ap length e ∙ parts-length A B N P R b n p r ha hb hn hp hr in
    let e0 : take (terms_start + (b + (n + (1 + (p + r))))) (drop 0 t) ≡ A ++ (B ++ (N ++ ((10 ∷ []) ++ (P ++ R)))) =
    take_all (terms_start + (b + (n + (1 + (p + r))))) t (omega arith) ∙ e in
    let e1 = parts-right t A (B ++ (N ++ ((10 ∷ []) ++ (P ++ R)))) 0 terms_start (b + (n + (1 + (p + r)))) ha e0 in
    let e2 = parts-right t B (N ++ ((10 ∷ []) ++ (P ++ R))) terms_start b (n + (1 + (p + r))) hb e1 in
    let e3 = parts-right t N ((10 ∷ []) ++ (P ++ R)) (terms_start + b) n (1 + (p + r)) hn e2 in
    let e4 = parts-right t (10 ∷ []) (P ++ R) (terms_start + b + n) 1 (p + r) refl e3 in
    record {
      size = z;
      head = parts-left t A (B ++ (N ++ ((10 ∷ []) ++ (P ++ R)))) 0 terms_start (b + (n + (1 + (p + r)))) ha e0;
      terms = parts-left t B (N ++ ((10 ∷ []) ++ (P ++ R))) terms_start b (n + (1 + (p + r))) hb e1;
      names = parts-left t N ((10 ∷ []) ++ (P ++ R)) (terms_start + b) n (1 + (p + r)) hn e2;
      newline = parts-left t (10 ∷ []) (P ++ R) (terms_start + b + n) 1 (p + r) refl e3;
      pattern = parts-left t P R (terms_start + b + n + 1) p r hp e4;
      runs = parts-right t P R (terms_start + b + n + 1) p r hp e4;
    }

-- A text is put together of its parts.
of_parts : (t A B N P R : List ℕ) (b n p r : ℕ) → Parts t A B N P R b n p r → t ≡ A ++ (B ++ (N ++ ((10 ∷ []) ++ (P ++ R))))
of_parts t A B N P R b n p r f =
    sym (take_all (terms_start + (b + (n + (1 + (p + r))))) t (omega (arith, f.size)))
    ∙ parts_join t A (B ++ (N ++ ((10 ∷ []) ++ (P ++ R)))) 0 terms_start (b + (n + (1 + (p + r)))) f.head
    (parts_join t B (N ++ ((10 ∷ []) ++ (P ++ R))) terms_start b (n + (1 + (p + r))) f.terms
    (parts_join t N ((10 ∷ []) ++ (P ++ R)) (terms_start + b) n (1 + (p + r)) f.names
    (parts_join t (10 ∷ []) (P ++ R) (terms_start + b + n) 1 (p + r) f.newline
    (parts_join t P R (terms_start + b + n + 1) p r f.pattern f.runs))))

regroup : (A B N P R : List ℕ) → A ++ B ++ N ++ 10 ∷ P ++ R ≡ A ++ (B ++ (N ++ ((10 ∷ []) ++ (P ++ R))))
regroup A B N P R = simp append_assoc

-- ---- a sheet that was written ----

-- The numbers of a sheet's first line.
abbrev head_numbers : Counts → List ℕ
head_numbers c = c.terms ∷ c.names ∷ c.pattern ∷ c.runs ∷ []

-- The parts of a text that are those of a sheet with these counts.
abbrev SheetParts : List ℕ → Counts → Sheet → Type 0
SheetParts t c s =
    Parts t (line (head_numbers c)) (lines term_columns 0 c.terms s.terms) s.names (lines item_columns 0 c.pattern s.pattern)
    (lines run_columns run_zeros c.runs s.runs)
    (line_width term_columns 0 * c.terms) c.names (line_width item_columns 0 * c.pattern) (line_width run_columns run_zeros * c.runs)

-- The text of a sheet with these counts, part by part.
unfoldable text_of : Counts → Sheet → List ℕ
text_of c s =
    line (head_numbers c)
    ++ (lines term_columns 0 c.terms s.terms
    ++ (s.names ++ ((10 ∷ []) ++ (lines item_columns 0 c.pattern s.pattern ++ lines run_columns run_zeros c.runs s.runs))))

text_parts : (s : Sheet) → sheet_text s ≡ text_of (spec_counts_of s) s
unfolding sheet_text spec_counts_of text_of
text_parts s =
    regroup (line (head_numbers (spec_counts_of s))) (lines term_columns 0 (spec_counts_of s).terms s.terms) s.names
    (lines item_columns 0 (spec_counts_of s).pattern s.pattern) (lines run_columns run_zeros (spec_counts_of s).runs s.runs)

-- The lengths of the lines of a sheet that can be written.
record Lengths (s : Sheet) (c : Counts) : Type 0 where
  head : length (line (head_numbers c)) ≡ terms_start
  terms : length (lines term_columns 0 c.terms s.terms) ≡ line_width term_columns 0 * c.terms
  names : length s.names ≡ c.names
  pattern : length (lines item_columns 0 c.pattern s.pattern) ≡ line_width item_columns 0 * c.pattern
  runs : length (lines run_columns run_zeros c.runs s.runs) ≡ line_width run_columns run_zeros * c.runs

lengths : (s : Sheet) → T (sheet_rule s) → Lengths s (spec_counts_of s)
unfolding spec_counts_of count
lengths s h =
    let f = rule_facts s h in
    record {
      head = line-length (head_numbers (spec_counts_of s));
      terms = lines-length term_columns 0 (count term_layout s.terms) s.terms (omega arith);
      names = refl;
      pattern = lines-length item_columns 0 (count item_layout s.pattern) s.pattern (omega arith);
      runs = lines-length run_columns run_zeros (count run_layout s.runs) s.runs (omega arith);
    }

parts-written : (s : Sheet) → T (sheet_rule s) → SheetParts (sheet_text s) (spec_counts_of s) s
unfolding text_of
parts-written s h =
    let l = lengths s h in
    parts_of (sheet_text s) _ _ _ _ _ _ _ _ _ l.head l.terms l.names l.pattern l.runs (text_parts s)

-- A sheet's text is as long as its counts say.
pub sheet-length : (s : Sheet) → T (sheet_rule s) → length (sheet_text s) ≡ sheet_end (spec_counts_of s)
sheet-length s h = (parts-written s h).size

-- Lines of all of the words.
all_read : (text : List ℕ) (p kept fill n : ℕ) (w : List ℕ) → length w ≡ n * kept → T (words_below w)
    → take (line_width kept fill * n) (drop p text) ≡ lines kept fill n w → (words_at text p kept fill n ≡ w) × T (spec_lines_ok text p kept fill n)
all_read text p kept fill n w h b e =
    let (x, y) = lines_read text p kept fill n w (omega arith) b e in
    (x ∙ take_all (n * kept) w (omega arith), y)

below_head : (c : Counts) → Limited c.terms c.names c.pattern c.runs → T (words_below (head_numbers c))
unfolding words_below
below_head c l = and_of (ltb c.terms beyond) _ (lt→ltb c.terms beyond (omega arith))
    (and_of (ltb c.names beyond) _ (lt→ltb c.names beyond (omega arith))
    (and_of (ltb c.pattern beyond) _ (lt→ltb c.pattern beyond (omega arith))
    (and_of (ltb c.runs beyond) true (lt→ltb c.runs beyond (omega arith)) tt)))

-- The counts in the first line, where it was written.
counts_read : (text : List ℕ) (c : Counts) → numbers_at text 0 count_columns ≡ head_numbers c → counts_at text ≡ c
unfolding numbers_at counts_at
counts_read text c e =
    let a : number_at text 0 ≡ c.terms = cc in
    let b : number_at text 10 ≡ c.names = cc in
    let d : number_at text 20 ≡ c.pattern = cc in
    let r : number_at text 30 ≡ c.runs = cc in
    rw (a, b, d, r) refl

-- The reading of a text by given counts.
unfoldable read_by : List ℕ → Counts → Option Sheet
read_by text c = elim (head_rule text c && body_rule text c) [ true ↦ some (sheet_at text c) | false ↦ none ]

read_by_lem : (text : List ℕ) → spec_read_sheet text ≡ read_by text (counts_at text)
unfolding spec_read_sheet read_by
read_by_lem text = refl

by_rules : (text : List ℕ) (c : Counts) → T (head_rule text c) → T (body_rule text c) → read_by text c ≡ some (sheet_at text c)
unfolding read_by
by_rules text c h b =
    let e : (head_rule text c && body_rule text c) ≡ true = T_true _ (and_of (head_rule text c) (body_rule text c) h b) in rw (e, read_by) refl

by_none : (text : List ℕ) (c : Counts) → (head_rule text c && body_rule text c) ≡ false → read_by text c ≡ none
unfolding read_by
by_none text c e = rw (e, read_by) refl

-- Where both tests hold, the sheet is read by the counts of the first line.
pub read_some : (text : List ℕ) → T (head_rule text (counts_at text)) → T (body_rule text (counts_at text))
    → spec_read_sheet text ≡ some (sheet_at text (counts_at text))
read_some text h b = read_by_lem text ∙ by_rules text (counts_at text) h b

-- Where one of them fails, there is no sheet.
pub read_none : (text : List ℕ) → (head_rule text (counts_at text) && body_rule text (counts_at text)) ≡ false → spec_read_sheet text ≡ none
read_none text e = read_by_lem text ∙ by_none text (counts_at text) e

-- The tests of the first line as facts.
pub record HeadFacts (text : List ℕ) (c : Counts) : Type 0 where
  pub line : T (spec_line_ok text 0 count_columns 0)
  pub limited : Limited c.terms c.names c.pattern c.runs
  pub size : length text ≡ sheet_end c

-- They follow from the tests.
pub head_facts : (text : List ℕ) (c : Counts) → T (head_rule text c) → HeadFacts text c
unfolding head_rule
head_facts text c h =
    let lim = limits c.terms c.names c.pattern c.runs in
    let (x, d) = both_of (leb terms_start (length text) && spec_line_ok text 0 count_columns 0 && lim) (eqb (length text) (sheet_end c)) h in
    let (y, l) = both_of (leb terms_start (length text) && spec_line_ok text 0 count_columns 0) lim x in
    let (a, b) = both_of (leb terms_start (length text)) (spec_line_ok text 0 count_columns 0) y in
    record { line = b; limited = limits_facts _ _ _ _ l; size = eqb→eq _ _ d }

-- And the tests from them.
pub facts_head : (text : List ℕ) (c : Counts) → HeadFacts text c → T (head_rule text c)
unfolding head_rule
facts_head text c f =
    let lim = limits c.terms c.names c.pattern c.runs in
    and_of (leb terms_start (length text) && spec_line_ok text 0 count_columns 0 && lim) (eqb (length text) (sheet_end c))
    (and_of (leb terms_start (length text) && spec_line_ok text 0 count_columns 0) lim
    (and_of (leb terms_start (length text)) (spec_line_ok text 0 count_columns 0)
    (le→leb terms_start (length text) (omega (arith, f.size))) f.line) (facts_limits _ _ _ _ f.limited))
    (eq→eqb _ _ f.size)

-- The tests of what follows the first line as facts.
pub record BodyFacts (text : List ℕ) (c : Counts) : Type 0 where
  pub terms : T (spec_lines_ok text terms_start term_columns 0 c.terms)
  pub newline : get_or text (spec_names_start c + c.names) 0 ≡ 10
  pub pattern : T (spec_lines_ok text (spec_pattern_start c) item_columns 0 c.pattern)
  pub runs : T (spec_lines_ok text (spec_runs_start c) run_columns run_zeros c.runs)

-- They follow from the tests.
pub body_facts : (text : List ℕ) (c : Counts) → T (body_rule text c) → BodyFacts text c
unfolding body_rule
body_facts text c h =
    let a = spec_lines_ok text terms_start term_columns 0 c.terms in
    let b = eqb (get_or text (spec_names_start c + c.names) 0) 10 in
    let d = spec_lines_ok text (spec_pattern_start c) item_columns 0 c.pattern in
    let r = spec_lines_ok text (spec_runs_start c) run_columns run_zeros c.runs in
    let (x, w) = both_of (a && b && d) r h in
    let (y, v) = both_of (a && b) d x in
    let (t, u) = both_of a b y in
    record { terms = t; newline = eqb→eq _ _ u; pattern = v; runs = w }

-- And the tests from them.
pub facts_body : (text : List ℕ) (c : Counts) → BodyFacts text c → T (body_rule text c)
unfolding body_rule
facts_body text c f =
    let a = spec_lines_ok text terms_start term_columns 0 c.terms in
    let b = eqb (get_or text (spec_names_start c + c.names) 0) 10 in
    let d = spec_lines_ok text (spec_pattern_start c) item_columns 0 c.pattern in
    let r = spec_lines_ok text (spec_runs_start c) run_columns run_zeros c.runs in
    and_of (a && b && d) r (and_of (a && b) d (and_of a b f.terms (eq→eqb _ _ f.newline)) f.pattern) f.runs

sheet-same : (text : List ℕ) (c : Counts) (s : Sheet) → words_at text terms_start term_columns 0 c.terms ≡ s.terms
    → take c.names (drop (spec_names_start c) text) ≡ s.names
    → words_at text (spec_pattern_start c) item_columns 0 c.pattern ≡ s.pattern
    → words_at text (spec_runs_start c) run_columns run_zeros c.runs ≡ s.runs → sheet_at text c ≡ s
unfolding sheet_at
sheet-same text c s t n p r = rw (t, n, p, r) refl

-- What was written reads back as the same.
pub sheet-written : (s : Sheet) → T (sheet_rule s) → T (words_below s.terms) → T (words_below s.pattern) → T (words_below s.runs)
    → spec_read_sheet (sheet_text s) ≡ some s
unfolding spec_counts_of count
sheet-written s h bt bp br =
    let t = sheet_text s in
    let c = spec_counts_of s in
    let f = rule_facts s h in
    let q = parts-written s h in
    let (hn, ho) = line_read t (head_numbers c) 0 count_columns 0 refl (below_head c f.limited) q.head in
    let (tn, to) = all_read t terms_start term_columns 0 c.terms s.terms (omega arith) bt q.terms in
    let (pn, po) = all_read t (spec_pattern_start c) item_columns 0 c.pattern s.pattern (omega arith) bp q.pattern in
    let (rn, ro) = all_read t (spec_runs_start c) run_columns run_zeros c.runs s.runs (omega arith) br q.runs in
    let hr = facts_head t c (record { line = ho; limited = f.limited; size = sheet-length s h }) in
    let br = facts_body t c (record { terms = to; newline = part-byte t _ 10 q.newline; pattern = po; runs = ro }) in
    let same = sheet-same t c s tn q.names pn rn in
    read_by_lem t ∙ ap (read_by t) (counts_read t c hn) ∙ by_rules t c hr br ∙ ap some same

-- ---- a sheet that is read ----

by_true : (text : List ℕ) (c : Counts) (s : Sheet) → read_by text c ≡ some s → T (head_rule text c) × T (body_rule text c) × (sheet_at text c ≡ s)
by_true text c s e = go (test (head_rule text c && body_rule text c))
  where
    go : Test (head_rule text c && body_rule text c) → T (head_rule text c) × T (body_rule text c) × (sheet_at text c ≡ s)
    go (holds t) = let (h, b) = both_of (head_rule text c) (body_rule text c) t in let k = by_rules text c h b in (h, b, cc)
    go (fails f) = let k = by_none text c f in let z : ◌≡◌ {A = ℕ} 0 1 = cc in absurd (omega arith)

read_parts : (text : List ℕ) → T (head_rule text (counts_at text)) → T (body_rule text (counts_at text))
    → SheetParts text (counts_at text) (sheet_at text (counts_at text))
unfolding sheet_at counts_at numbers_at
read_parts text h b =
    let c = counts_at text in
    let f = head_facts text c h in
    let g = body_facts text c b in
    let z = f.size in
    record {
      size = z;
      head = read_line text 0 count_columns 0 (omega arith) f.line;
      terms = read_lines text terms_start term_columns 0 c.terms (omega arith) g.terms;
      names = refl;
      newline = byte-part text (spec_names_start c + c.names) (omega arith) ∙ ap (λ x. x ∷ []) g.newline;
      pattern = read_lines text (spec_pattern_start c) item_columns 0 c.pattern (omega arith) g.pattern;
      runs = read_lines text (spec_runs_start c) run_columns run_zeros c.runs (omega arith) g.runs;
    }

-- The counts of the sheet in a text are those of its first line.
pub counts_same : (text : List ℕ) (c : Counts) → length text ≡ sheet_end c → spec_counts_of (sheet_at text c) ≡ c
unfolding spec_counts_of sheet_at count
counts_same text c h =
    let a : length (words_at text terms_start term_columns 0 c.terms) / term_layout.width ≡ c.terms =
    omega (arith, words_length text terms_start term_columns 0 c.terms) in
    let b : length (take c.names (drop (spec_names_start c) text)) ≡ c.names = part_length text (spec_names_start c) c.names (omega arith) in
    let d : length (words_at text (spec_pattern_start c) item_columns 0 c.pattern) / item_layout.width ≡ c.pattern =
    omega (arith, words_length text (spec_pattern_start c) item_columns 0 c.pattern) in
    let r : length (words_at text (spec_runs_start c) run_columns run_zeros c.runs) / run_layout.width ≡ c.runs =
    omega (arith, words_length text (spec_runs_start c) run_columns run_zeros c.runs) in
    rw (a, b, d, r) refl

read_writable : (text : List ℕ) (c : Counts) → HeadFacts text c → T (sheet_rule (sheet_at text c))
unfolding sheet_at count
read_writable text c f =
    let z = f.size in
    facts_rule (sheet_at text c) (record {
      terms = omega (arith, words_length text terms_start term_columns 0 c.terms);
      pattern = omega (arith, words_length text (spec_pattern_start c) item_columns 0 c.pattern);
      runs = omega (arith, words_length text (spec_runs_start c) run_columns run_zeros c.runs);
      limited = record {
        terms = omega (arith, words_length text terms_start term_columns 0 c.terms);
        names = omega (arith, part_length text (spec_names_start c) c.names (omega arith));
        pattern = omega (arith, words_length text (spec_pattern_start c) item_columns 0 c.pattern);
        runs = omega (arith, words_length text (spec_runs_start c) run_columns run_zeros c.runs);
      };
    })

read_text : (text : List ℕ) → T (head_rule text (counts_at text)) → T (body_rule text (counts_at text)) → sheet_text (sheet_at text (counts_at text)) ≡ text
unfolding text_of
read_text text h b =
    let c = counts_at text in
    let s = sheet_at text c in
    let e = counts_same text c (head_facts text c h).size in
    text_parts s ∙ ap (λ d. text_of d s) e ∙ sym (of_parts text _ _ _ _ _ _ _ _ _ (read_parts text h b))

read_below : (text : List ℕ) (c : Counts) → BodyFacts text c → T (words_below (sheet_at text c).terms) × T (words_below (sheet_at text c).pattern)
    × T (words_below (sheet_at text c).runs)
unfolding sheet_at
read_below text c f = (
  words_below_lem text terms_start term_columns 0 c.terms f.terms,
  words_below_lem text (spec_pattern_start c) item_columns 0 c.pattern f.pattern,
  words_below_lem text
      (spec_runs_start c) run_columns run_zeros c.runs f.runs,
)

-- Only what would be written is read.
pub sheet_read_lem : (text : List ℕ) (s : Sheet) → spec_read_sheet text ≡ some s
    → T (sheet_rule s) × T (words_below s.terms) × T (words_below s.pattern) × T (words_below s.runs) × (sheet_text s ≡ text)
sheet_read_lem text s e =
    let c = counts_at text in
    let (h, b, same) = by_true text c s (sym (read_by_lem text) ∙ e) in
    let (x, y, z) = read_below text c (body_facts text c b) in
    rw (← same) (read_writable text c (head_facts text c h), x, y, z, read_text text h b)
