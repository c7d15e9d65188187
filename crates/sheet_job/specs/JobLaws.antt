-- The lines of an answer laid into a slice, one law for each exit of the code.
use Rattle.std.specs.Prelude.{◌≡◌, refl, List, [], ◌∷◌, ◌++◌, Bool, true, false, ◌&&◌, leb, length, get_or, take, ℕ, suc, zero, ◌+◌, ◌*◌, ◌/◌, ◌%◌, ◌≤◌, ◌<◌}
use Rattle.std.proofs.Common.{ap, ap₂, sym, subst, ◌∙◌, append_assoc, append-nil, leb→le, length-append, le-leb, mul-le-mul_right, arith}
use Rattle.std.proofs.lemmas.List.{length-replicate}
use Rattle.std.proofs.lemmas.Bool.{lt-leb}
use Rattle.term_spec.proofs.BoolLaws.{both_of, true-T}
use Rattle.term_spec.specs.Words.{whole, count, records}
use Rattle.view_spec.specs.Node.{Field}
use Rattle.match_spec.specs.Pattern.{item_layout, binding_layout, name_limit, elements, binding_names, names_after, pattern_rule, bindings_rule}
use Rattle.match_spec.specs.Answer.{allOfThem}
use Rattle.calls_spec.specs.Store.{Store}
use Rattle.calls_spec.specs.Step.{Request, Call, call_match, Answer, refused, built, listed, answer_number}
use Rattle.calls_spec.specs.Step.{effect_of, slots_of, After, step, names_rule, spec_name_count}
use Rattle.sheet_spec.specs.Sheet.{line}
use Rattle.sheet_spec.specs.Job.{listing_slots, laid, laid_at, SheetAnswer, refused_sheet, wrote, written, refusal_text, entry_lines, listing_text, Fits}
use Rattle.sheet_spec.proofs.LineLaws.{line-length}
use Rattle.sheet_spec.proofs.LaidLaws.{laid_at-start, laid_at_next, laid_at-length}
use Rattle.sheet_spec.proofs.ShownLaws.{listing-fits}
use Rattle.sheet_form.specs.Form.{line_bytes, zeros}
use Rattle.sheet_form.specs.FormLaws.{first-zeros}
use Rattle.view.specs.Check.{leaves}
use Rattle.listing.specs.Match.{leaves_slots, request_of}
use Rattle.sheet_job.specs.Parts.{name_words, blank_slots, Candidates, listed_text, built_by, built_text}

-- ---- a text into a slice ----

-- The answer by whether it fits.
abbrev written_by : List ℕ → List ℕ → Bool → SheetAnswer × List ℕ
written_by text out x = elim x [ true ↦ (wrote (length text), laid text out) | false ↦ (refused_sheet 14, out) ]

-- It does not fit.
pub short-written : (text out : List ℕ) → length out < length text → (refused_sheet 14, out) ≡ written text out
unfolding written
short-written text out h =
    ap (written_by text out) (sym (lt-leb (length text) (length out) h))

-- It fits, and was laid at the start.
pub fit_written : (text out new : List ℕ) (n : ℕ) → n ≡ length text → n ≤ length out → new ≡ laid_at out 0 text → (wrote n, new) ≡ written text out
unfolding written
fit_written text out new n e h l =
    let t : leb (length text) (length out) ≡ true = le-leb (length text) (length out) (omega arith) in
    ap₂ (λ x y. (wrote x, y)) e (l ∙ laid_at-start out text) ∙ ap (written_by text out) (sym t)

-- ---- entries ----

-- A line of an entry.
abbrev entry_line : ℕ → List ℕ → ℕ → List ℕ
entry_line k slots i = line ((i / k + 1) ∷ (i % k + 1) ∷ get_or slots (2 * i) 0 ∷ get_or slots (2 * i + 1) 0 ∷ [])

-- So many bytes to a line.
pub entries_length : (k : ℕ) (slots : List ℕ) (i n : ℕ) → length (entry_lines k slots i n) ≡ line_bytes * n
unfolding entry_lines
entries_length k slots i zero = refl
entries_length k slots i (suc n) =
    length-append (entry_line k slots i) (entry_lines k slots (suc i) n)
    ∙ omega (arith, line-length ((i / k + 1) ∷ (i % k + 1) ∷ get_or slots (2 * i) 0 ∷ get_or slots (2 * i + 1) 0 ∷ []), entries_length k slots (suc i) n)

-- One line more at the end.
entries_snoc : (k : ℕ) (slots : List ℕ) (i n : ℕ) → entry_lines k slots i (suc n) ≡ entry_lines k slots i n ++ entry_line k slots (i + n)
unfolding entry_lines
entries_snoc k slots i zero = let z : i ≡ i + zero = omega arith in append-nil (entry_line k slots i) ∙ ap (entry_line k slots) z
entries_snoc k slots i (suc n) =
    let z : suc i + n ≡ i + suc n = omega arith in
    ap (entry_line k slots i ++◌) (entries_snoc k slots (suc i) n ∙ ap (λ x. entry_lines k slots (suc i) n ++ entry_line k slots x) z)
    ∙ sym (append_assoc (entry_line k slots i) (entry_lines k slots (suc i) n) (entry_line k slots (i + suc n)))

-- A turn of the loop: the next line is laid after those that are there.
pub entries_step : (k : ℕ) (slots old mid new : List ℕ) (i : ℕ) → line_bytes + line_bytes * i + line_bytes ≤ length old
    → mid ≡ laid_at old line_bytes (entry_lines k slots 0 i)
    → new ≡ laid_at mid (line_bytes + line_bytes * i) (entry_line k slots i) → new ≡ laid_at old line_bytes (entry_lines k slots 0 (i + 1))
entries_step k slots old mid new i h e f =
    let z : 0 + i ≡ i = omega arith in
    let n : suc i ≡ i + 1 = omega arith in
    f ∙ ap (λ x. laid_at x (line_bytes + line_bytes * i) (entry_line k slots i)) e
    ∙ laid_at_next old line_bytes (line_bytes + line_bytes * i) (entry_lines k slots 0 i) (entry_line k slots i) (omega (arith, entries_length k slots 0 i))
    (omega arith)
    ∙ ap (laid_at old line_bytes)
    (ap (λ x. entry_lines k slots 0 i ++ entry_line k slots x) (sym z) ∙ sym (entries_snoc k slots 0 i) ∙ ap (entry_lines k slots 0) n)

-- The length stays.
pub entries_kept : (k : ℕ) (slots old mid : List ℕ) (i : ℕ) → line_bytes + line_bytes * i ≤ length old → mid ≡ laid_at old line_bytes (entry_lines k slots 0 i)
    → length mid ≡ length old
entries_kept k slots old mid i h e = ap length e ∙ laid_at-length old line_bytes (entry_lines k slots 0 i) (omega (arith, entries_length k slots 0 i))

-- ---- what is printed ----

-- A refusal is one line.
pub refusal_length : (n : ℕ) → length (refusal_text n) ≡ line_bytes
unfolding refusal_text
refusal_length n = line-length (n ∷ 0 ∷ 0 ∷ 0 ∷ [])

-- A listing's line and its entries.
abbrev pub listing_lines : ℕ → ℕ → ℕ → List ℕ → List ℕ
listing_lines n c k slots = line (n ∷ c ∷ k ∷ 0 ∷ []) ++ entry_lines k slots 0 (c * k)

pub listing-length : (n c k : ℕ) (slots : List ℕ) → length (listing_lines n c k slots) ≡ line_bytes + line_bytes * (c * k)
listing-length n c k slots =
    length-append (line (n ∷ c ∷ k ∷ 0 ∷ [])) (entry_lines k slots 0 (c * k))
    ∙ omega (arith, line-length (n ∷ c ∷ k ∷ 0 ∷ []), entries_length k slots 0 (c * k))

-- The first line, then the entries.
pub listing-written : (n c k : ℕ) (slots old mid new : List ℕ) → line_bytes + line_bytes * (c * k) ≤ length old
    → mid ≡ laid_at old 0 (line (n ∷ c ∷ k ∷ 0 ∷ []))
    → new ≡ laid_at mid line_bytes (entry_lines k slots 0 (c * k)) → (wrote (line_bytes + line_bytes * (c * k)), new) ≡ written (listing_lines n c k slots) old
listing-written n c k slots old mid new h e f =
    fit_written (listing_lines n c k slots) old new (line_bytes + line_bytes * (c * k)) (sym (listing-length n c k slots)) h
    (f ∙ ap (λ x. laid_at x line_bytes (entry_lines k slots 0 (c * k))) e
    ∙ laid_at_next old 0 line_bytes (line (n ∷ c ∷ k ∷ 0 ∷ [])) (entry_lines k slots 0 (c * k)) (omega (arith, line-length (n ∷ c ∷ k ∷ 0 ∷ []))) (omega arith))

-- As many entries as the slots have, or fewer.
pub entries_few : (c k : ℕ) → c ≤ listing_slots → c * k ≤ listing_slots * k
entries_few c k h = mul-le-mul_right k h

-- ---- what the calls leave ----

-- A listing's answer and slots, of what it left: they fit, and are what is printed.
pub record Shown (a : Answer) (w : List ℕ) (left : After) : Type 0 where
  pub fits : Fits a (length w)
  pub text : listing_text a w ≡ listed_text left

pub listing-left : (s t : Store) (m : Request) (a : Answer) (w : List ℕ) → leaves_slots a t w ≡ step s (call_match allOfThem m)
    → length m.slots ≡ name_words * spec_name_count s.names m.pattern m.bindings → Shown a w (step s (call_match allOfThem m))
unfolding leaves_slots listed_text
listing-left s t m a w e l = record {
  fits = subst (λ (x : After). Fits x.answer (length x.slots)) (sym e) (listing-fits s m l);
  text = ap (λ (x : After). listing_text x.answer x.slots) e;
}

-- The candidates of a listing's answer, from what holds of it.
pub fits_listed : (a : Answer) (n c k words : ℕ) → a ≡ listed n c k → Fits a words → Candidates c k words
unfolding slots_of
fits_listed a n c k words e f =
    let g : Fits (listed n c k) words = subst (λ (x : Answer). Fits x words) e f in record { few = g.few; short = g.short; inside = g.inside }

-- At most 64 names are counted.
pub count_few : (names p b : List ℕ) → spec_name_count names p b ≤ 64
unfolding spec_name_count names_rule
count_few names p b = go (names_rule names p b) refl
  where
    n : ℕ
    n = length (names_after (elements names (records item_layout p)) (binding_names names (records binding_layout b)))

    go : (x : Bool) → names_rule names p b ≡ x → elim x [ true ↦ n | false ↦ 0 ] ≤ 64
    go true e =
        let even : Bool = whole item_layout p && leb (count item_layout p) 256 && whole binding_layout b in
        let others : Bool = even && pattern_rule names (records item_layout p) && bindings_rule names (records binding_layout b) [] in
        leb→le _ _ (both_of others (leb n 64) (true-T (names_rule names p b) e)).1
    go false e = omega arith

-- The zeros lent as 16 slots.
pub sixteen_slots : (names p : List ℕ) (n : ℕ) → n ≡ spec_name_count names p [] → take (name_words * n) (zeros (name_words * name_limit)) ≡ blank_slots names p
sixteen_slots names p n e =
    let z : name_words * n ≡ listing_slots * (2 * spec_name_count names p []) = omega arith in
    first-zeros (name_words * n) (name_words * name_limit) (omega (arith, count_few names p [])) ∙ ap zeros z

-- As many words of slots are lent as there are entries.
pub sixteen_words : (names p : List ℕ) (n : ℕ) → n ≡ spec_name_count names p []
    → length (take (name_words * n) (zeros (name_words * name_limit))) ≡ name_words * spec_name_count names p []
sixteen_words names p n e = ap length (sixteen_slots names p n e) ∙ length-replicate {A = ℕ} (listing_slots * (2 * spec_name_count names p [])) 0 ∙ omega arith

-- For lending those.
pub ruleset slot_rules = (count_few, sixteen_words)

-- `from_runs` was refused.
pub runs-refused : (names p : List ℕ) (s t : Store) (c : Call) (a : Answer) (n : ℕ) → leaves a t ≡ step s c → a ≡ refused n
    → refusal_text n ≡ built_text names p (step s c)
unfolding leaves built_text built_by effect_of answer_number
runs-refused names p s t c a n e f = sym (ap (λ (x : Answer). built_text names p (leaves x t)) f) ∙ ap (built_text names p) e

-- `from_runs` answered a field.
pub runs_built : (names p : List ℕ) (s t : Store) (c : Call) (a : Answer) (f : Field) → leaves a t ≡ step s c → a ≡ built f
    → listed_text (step t (call_match allOfThem (request_of f p [] (blank_slots names p)))) ≡ built_text names p (step s c)
unfolding leaves built_text built_by effect_of answer_number
runs_built names p s t c a f e g = sym (ap (λ (x : Answer). built_text names p (leaves x t)) g) ∙ ap (built_text names p) e
