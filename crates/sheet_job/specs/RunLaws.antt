-- From the sheet that was read to what is printed: the two exits of the whole job.
use Rattle.std.specs.Prelude.{◌≡◌, List, [], ◌++◌, Bool, ◌&&◌, leb, drop}
use Rattle.std.proofs.Math.Path.{refl, ap}
use Rattle.std.proofs.Common.{ap₂, sym, ◌∙◌, take_all, le-leb, arith}
use Rattle.std.proofs.Math.Option.{Option, some, none}
use Rattle.std.proofs.Math.Bool.{true, false}
use Rattle.std.proofs.Math.ListN.{length, take}
use Rattle.std.proofs.lemmas.List.{length-replicate, take-append-le}
use Prim.Native.Nat.{ℕ, suc, zero, ◌+◌, ◌-◌, ◌*◌, ◌≤◌}
use Rattle.term_spec.proofs.BoolLaws.{both_of, true-T, T_true}
use Rattle.term_spec.specs.Words.{count}
use Rattle.term_spec.specs.Term.{term_layout}
use Rattle.calls_spec.specs.Store.{Store}
use Rattle.calls_spec.specs.Step.{call_from_runs, Effect, quiet, making, step}
use Rattle.sheet_spec.specs.Sheet.{Sheet, term_columns, item_columns, run_columns, run_zeros, Counts, limits}
use Rattle.sheet_spec.specs.Sheet.{counts_at, spec_names_start, head_rule, body_rule, sheet_at, spec_read_sheet}
use Rattle.sheet_spec.specs.Job.{padded, lent_store, lent_request, match_on, match_text, job_text, answer_text, refusal_text}
use Rattle.sheet_spec.specs.Job.{laid, spec_names_part, SheetAnswer, refused_sheet, wrote, counted, AfterSheet, unread, read_into}
use Rattle.sheet_spec.proofs.LineLaws.{words_length}
use Rattle.sheet_spec.proofs.SheetLaws.{HeadFacts, head_facts, facts_limits, read_some, read_none}
use Rattle.sheet_form.specs.Form.{zeros}
use Rattle.sheet_read.specs.Read.{leaves_sheet, read_by}
use Rattle.view.specs.Check.{store_of}
use Rattle.sheet_job.specs.Parts.{node_words, term_words, pattern_words, run_words, listed_text, built_by, built_text}

-- ---- the specification's job, in the code's parts ----

match_built : (s : Sheet) (x : Effect) (n : ℕ) (t : Store) → built_by s.names s.pattern x n t ≡ match_on s x n t
unfolding built_by match_on listed_text lent_request
match_built s quiet n t = refl
match_built s (making f) n t = refl

job_built : (text : List ℕ) (s : Sheet) → spec_read_sheet text ≡ some s
    → built_text s.names s.pattern (step (lent_store s) (call_from_runs s.runs)) ≡ answer_text text
unfolding built_text answer_text job_text match_text
job_built text s e = match_built s _ _ _ ∙ ap job_text (sym e)

-- ---- what was read ----

drop-zeros : (k n : ℕ) → drop k (zeros n) ≡ zeros (n - k)
drop-zeros zero n = let z : n ≡ n - 0 = omega arith in ap zeros z
drop-zeros (suc k) zero = let z : 0 ≡ 0 - suc k = omega arith in ap zeros z
drop-zeros (suc k) (suc n) = let z : n - k ≡ suc n - suc k = omega arith in drop-zeros k n ∙ ap zeros z

laid-padded : (w : List ℕ) (n : ℕ) → laid w (zeros n) ≡ padded n w
unfolding laid padded
laid-padded w n = ap (w ++◌) (drop-zeros (length w) n)

take-laid : (w old : List ℕ) (n : ℕ) → length w ≡ n → take n (laid w old) ≡ w
unfolding laid
take-laid w old n e = take-append-le n w (drop (length w) old) (omega arith) ∙ take_all n w (omega arith)

-- What is known of a sheet that was read, c its counts.
record SheetRead (text : List ℕ) (c : Counts) (s : Sheet) : Type 0 where
  is : spec_read_sheet text ≡ some s
  size_terms : length s.terms ≡ c.terms * term_columns
  size_pattern : length s.pattern ≡ c.pattern * item_columns
  size_runs : length s.runs ≡ c.runs * run_columns
  names : spec_names_part text c ≡ s.names
  few_terms : c.terms ≤ 512
  few_pattern : c.pattern ≤ 256
  few_runs : c.runs ≤ 64

names_there : (text : List ℕ) (c : Counts) → HeadFacts text c → spec_names_part text c ≡ take c.names (drop (spec_names_start c) text)
unfolding spec_names_part
names_there text c f =
    let l : limits c.terms c.names c.pattern c.runs ≡ true = T_true (limits c.terms c.names c.pattern c.runs) (facts_limits _ _ _ _ f.limited) in
    let n : leb (spec_names_start c + c.names) (length text) ≡ true = le-leb (spec_names_start c + c.names) (length text) (omega (arith, f.size)) in
    ap₂ (λ (x y : Bool). elim (x && y) [ true ↦ take c.names (drop (spec_names_start c) text) | false ↦ [] ]) l n

sheet_facts : (text : List ℕ) → head_rule text (counts_at text) && body_rule text (counts_at text) ≡ true
    → SheetRead text (counts_at text) (sheet_at text (counts_at text))
unfolding sheet_at
sheet_facts text e =
    let c = counts_at text in
    let (h, b) = both_of (head_rule text c) (body_rule text c) (true-T (head_rule text c && body_rule text c) e) in
    let f = head_facts text c h in
    record {
      is = read_some text h b;
      size_terms = words_length text _ term_columns 0 c.terms;
      size_pattern = words_length text _ item_columns 0 c.pattern;
      size_runs = words_length text _ run_columns run_zeros c.runs;
      names = names_there text c f;
      few_terms = f.limited.terms;
      few_pattern = f.limited.pattern;
      few_runs = f.limited.runs;
    }

-- What reading leaves in the lent arrays.
abbrev into_zeros : Option Sheet → Counts → AfterSheet
into_zeros o c = read_into o c (zeros term_words) (zeros pattern_words) (zeros run_words)

-- the lent arrays are long enough
read_all : (text : List ℕ) (c : Counts) (s : Sheet) → SheetRead text c s → into_zeros (spec_read_sheet text) c
    ≡ record {
      answer = counted c;
      terms = laid s.terms (zeros term_words);
      pattern = laid s.pattern (zeros pattern_words);
      runs = laid s.runs (zeros run_words);
    }
unfolding read_into
read_all text c s k =
    let a = le-leb (length s.terms) (length (zeros term_words)) (omega (arith, k.size_terms, k.few_terms, length-replicate {A = ℕ} term_words 0)) in
    let b = le-leb (length s.pattern) (length (zeros pattern_words)) (omega (arith, k.size_pattern, k.few_pattern, length-replicate {A = ℕ} pattern_words 0)) in
    let d = le-leb (length s.runs) (length (zeros run_words)) (omega (arith, k.size_runs, k.few_runs, length-replicate {A = ℕ} run_words 0)) in
    let fit : leb (length s.terms) (length (zeros term_words)) && leb (length s.pattern) (length (zeros pattern_words))
    && leb (length s.runs) (length (zeros run_words)) ≡ true =
    simp (a, b, d) in
    ap (λ o. into_zeros o c) k.is ∙ ap (read_by c s (zeros term_words) (zeros pattern_words) (zeros run_words)) fit

-- ---- the exits ----

-- The counts in an answer, if it has any.
counts_in : SheetAnswer → Counts → Counts
counts_in (refused_sheet n) d = d
counts_in (wrote n) d = d
counts_in (counted c) d = c

-- 0 for counts, else the number and 1 more.
refusal_in : SheetAnswer → ℕ
refusal_in (refused_sheet n) = suc n
refusal_in (wrote n) = suc n
refusal_in (counted c) = 0

-- What is printed for parts of a sheet.
abbrev parts_text : List ℕ → List ℕ → List ℕ → ℕ → List ℕ → List ℕ
parts_text names p t n r = built_text names p (step (store_of names t n (zeros node_words) 1) (call_from_runs r))

-- What is lent of a sheet that was read, c its counts, in the words of terms, pattern and runs; and what is printed for that.
pub record SheetLent (text t p r : List ℕ) (c : Counts) : Type 0 where
  pub few_pattern : c.pattern ≤ 256
  pub few_runs : c.runs ≤ 64
  pub size_pattern : item_columns * c.pattern ≡ length (take (item_columns * c.pattern) p)
  pub size_runs : run_columns * c.runs ≡ length (take (run_columns * c.runs) r)
  pub printed : parts_text (spec_names_part text c) (take (item_columns * c.pattern) p) t c.terms (take (run_columns * c.runs) r) ≡ answer_text text

parts_job : (s : Sheet) → parts_text s.names s.pattern (padded term_words s.terms) (count term_layout s.terms) s.runs
    ≡ built_text s.names s.pattern (step (lent_store s) (call_from_runs s.runs))
unfolding lent_store
parts_job s = refl

parts_same : {names names' p p' t t' r r' : List ℕ} {n n' : ℕ} → names ≡ names' → p ≡ p' → t ≡ t' → n ≡ n' → r ≡ r'
    → parts_text names p t n r ≡ parts_text names' p' t' n' r'
parts_same {names} {names'} {p} {p'} {t} {t'} {r} {r'} {n} {n'} a b c d e =
    ap (λ x. parts_text x p t n r) a ∙ ap (λ x. parts_text names' x t n r) b ∙ ap (λ x. parts_text names' p' x n r) c ∙ ap (λ x. parts_text names' p' t' x r) d
    ∙ ap (parts_text names' p' t' n') e

counted_terms : (w : List ℕ) (n : ℕ) → length w ≡ n * term_columns → n ≡ count term_layout w
unfolding count
counted_terms w n e = omega (arith, e)

module _ (text : List ℕ) (a : SheetAnswer) (t p r : List ℕ) (left : leaves_sheet a t p r ≡ into_zeros (spec_read_sheet text) (counts_at text)) where
  -- The text was refused: 16, for the arrays are long enough.
  pub run-refused : (n : ℕ) → a ≡ refused_sheet n → refusal_text n ≡ answer_text text
  unfolding leaves_sheet answer_text job_text read_into unread refusal_in
  run-refused n e = go (head_rule text (counts_at text) && body_rule text (counts_at text)) refl
    where
      go : (x : Bool) → head_rule text (counts_at text) && body_rule text (counts_at text) ≡ x → refusal_text n ≡ answer_text text
      go true h = absurd
          (let z : suc n ≡ 0 = ap refusal_in (sym e)
          ∙ ap (λ (q : AfterSheet). refusal_in q.answer) (left ∙ read_all text (counts_at text) _ (sheet_facts text h)) in omega (arith, z))
      go false h =
          let i : spec_read_sheet text ≡ none = read_none text h in
          let z : suc n ≡ 17 = ap refusal_in (sym e) ∙ ap (λ (q : AfterSheet). refusal_in q.answer) (left ∙ ap (λ o. into_zeros o (counts_at text)) i) in
          let y : n ≡ 16 = omega (arith, z) in
          ap refusal_text y ∙ ap job_text (sym i)

  module _ (c : Counts) (e : a ≡ counted c) where
    -- the text was read
    facts : (c ≡ counts_at text) × SheetRead text (counts_at text) (sheet_at text (counts_at text))
    unfolding leaves_sheet read_into unread counts_in refusal_in
    facts = go (head_rule text (counts_at text) && body_rule text (counts_at text)) refl
      where
        go : (x : Bool) → head_rule text (counts_at text) && body_rule text (counts_at text) ≡ x
            → (c ≡ counts_at text) × SheetRead text (counts_at text) (sheet_at text (counts_at text))
        go true h =
            let k = sheet_facts text h in
            (ap (λ q. counts_in q c) (sym e) ∙ ap (λ (q : AfterSheet). counts_in q.answer c) (left ∙ read_all text (counts_at text) _ k), k)
        go false h =
            let y = left ∙ ap (λ o. into_zeros o (counts_at text)) (read_none text h) in
            absurd (let z : 0 ≡ 17 = ap refusal_in (sym e) ∙ ap (λ (q : AfterSheet). refusal_in q.answer) y in omega (arith, z))

    -- those parts are the sheet's
    pattern_part : take (item_columns * c.pattern) p ≡ (sheet_at text (counts_at text)).pattern
    unfolding leaves_sheet
    pattern_part =
        let (q, k) = facts in
        let s = sheet_at text (counts_at text) in
        ap (λ (x : AfterSheet). take (item_columns * c.pattern) x.pattern) (left ∙ read_all text (counts_at text) s k)
        ∙ take-laid s.pattern (zeros pattern_words) (item_columns * c.pattern) (omega (arith, k.size_pattern, ap (λ (x : Counts). x.pattern) q))

    runs-part : take (run_columns * c.runs) r ≡ (sheet_at text (counts_at text)).runs
    unfolding leaves_sheet
    runs-part =
        let (q, k) = facts in
        let s = sheet_at text (counts_at text) in
        ap (λ (x : AfterSheet). take (run_columns * c.runs) x.runs) (left ∙ read_all text (counts_at text) s k)
        ∙ take-laid s.runs (zeros run_words) (run_columns * c.runs) (omega (arith, k.size_runs, ap (λ (x : Counts). x.runs) q))

    -- What is lent of it, and what is printed for that.
    pub sheet_lent : SheetLent text t p r c
    unfolding leaves_sheet
    sheet_lent =
        let (q, k) = facts in
        let s = sheet_at text (counts_at text) in
        let x = ap (λ (d : Counts). d.pattern) q in
        let y = ap (λ (d : Counts). d.runs) q in
        let n1 : spec_names_part text c ≡ s.names = ap (spec_names_part text) q ∙ k.names in
        let n3 : t ≡ padded term_words s.terms =
        ap (λ (z : AfterSheet). z.terms) (left ∙ read_all text (counts_at text) s k) ∙ laid-padded s.terms term_words in
        let n4 : c.terms ≡ count term_layout s.terms = counted_terms s.terms c.terms (omega (arith, k.size_terms, ap (λ (d : Counts). d.terms) q)) in
        record {
          few_pattern = omega (arith, x, k.few_pattern);
          few_runs = omega (arith, y, k.few_runs);
          size_pattern = omega (arith, ap length pattern_part, k.size_pattern, x);
          size_runs = omega (arith, ap length runs-part, k.size_runs, y);
          printed = parts_same n1 pattern_part n3 n4 runs-part ∙ parts_job s ∙ job_built text s k.is;
        }
