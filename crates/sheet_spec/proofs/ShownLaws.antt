-- What a listing with 16 slots answers fits the slots: the words that are printed are there.
use Rattle.std.specs.Prelude.{◌≡◌, refl, List, [], ◌∷◌, Bool, true, false, ◌&&◌, ◌||◌, leb, eqb, length, ℕ, suc, zero, ◌*◌, ◌/◌, ◌≤◌, ◌<◌}
use Rattle.std.proofs.Common.{ap, sym, subst, ◌∙◌, append-nil, leb→le, length-take, mul_comm, le-div_iff_mul-le, arith}
use Rattle.std.proofs.Math.Option.{Option, some, none}
use Rattle.std.proofs.Math.Decide.{dec_lt}
use Rattle.term_spec.proofs.BoolLaws.{both_of, T_true}
use Rattle.term_spec.specs.Term.{runs_rule}
use Rattle.view_spec.specs.Node.{field_rule}
use Rattle.match_spec.specs.Pattern.{pattern_rule, bindings_rule}
use Rattle.match_spec.specs.Answer.{allOfThem, spec_slots_in, number_of}
use Rattle.calls_spec.specs.Store.{Store, nodes, counts_rule, store_terms, store_nodes}
use Rattle.calls_spec.specs.Step.{Request, call_match, Answer, refused, listed, answer_number, items, bindings, all_names, slot_count, start_runs, slots_of}
use Rattle.calls_spec.specs.Step.{slots_filled, slot_names, even_request, ask_request, given, deed, input, room, match_progress, match_answer, accept, refuse}
use Rattle.calls_spec.specs.Step.{decide, step, names_rule, spec_name_count}
use Rattle.calls_spec.proofs.StepLaws.{ask_none, input_none}
use Rattle.calls_spec.proofs.ListingLaws.{checked, wanted, written_is}
use Rattle.calls_spec.proofs.LengthLaws.{slots_fit, step_lengths}
use Rattle.sheet_spec.specs.Sheet.{line}
use Rattle.sheet_spec.specs.Job.{refusal_text, entry_lines, listing_text, Fits}

-- a request that passes has as many names as are counted for the slots, at most 64
names_counted : (s : Store) (m : Request) → input s (call_match allOfThem m) ≡ none
    → (length (all_names s m) ≤ 64) × (spec_name_count s.names m.pattern m.bindings ≡ length (all_names s m))
unfolding input deed ask_request given even_request spec_name_count names_rule
names_counted s m e =
    let (a, e1) = ask_none (counts_rule s && even_request m) 1 _ e in
    let (b, e2) = ask_none (store_terms s) 2 _ e1 in
    let (d, e3) = ask_none (store_nodes s) 3 _ e2 in
    let (f, e4) = ask_none (field_rule (nodes s) m.field) 4 _ e3 in
    let (g, e5) = ask_none (runs_rule s.terms_used (start_runs m)) 5 _ e4 in
    let (h, e6) = ask_none (pattern_rule s.names (items m)) 7 _ e5 in
    let (i, e7) = ask_none (bindings_rule s.names (bindings m) []) 8 _ e6 in
    let (j, e8) = ask_none (leb (length (all_names s m)) 64) 9 none e7 in
    let t1 : even_request m ≡ true = T_true (even_request m) (both_of (counts_rule s) (even_request m) a).1 in
    let t2 : pattern_rule s.names (items m) ≡ true = T_true (pattern_rule s.names (items m)) h in
    let t3 : bindings_rule s.names (bindings m) [] ≡ true = T_true (bindings_rule s.names (bindings m) []) i in
    let t4 : leb (length (all_names s m)) 64 ≡ true = T_true (leb (length (all_names s m)) 64) j in
    let r : names_rule s.names m.pattern m.bindings ≡ true = simp (t1, t2, t3, t4) in
    (leb→le _ _ j, ap (λ (x : Bool). elim x [ true ↦ length (all_names s m) | false ↦ 0 ]) r)

-- 16 slots of k names
sixteen : (k : ℕ) → spec_slots_in (32 * k) k ≤ 16
unfolding spec_slots_in
sixteen zero = omega arith
sixteen (suc k) = go (dec_lt 16 (32 * suc k / (2 * suc k)))
  where
    go : Dec (16 < 32 * suc k / (2 * suc k)) → 32 * suc k / (2 * suc k) ≤ 16
    go (yes h) = let m : 17 * (2 * suc k) ≤ 32 * suc k = (le-div_iff_mul-le {k = 2 * suc k} (omega arith)).0 h in absurd (omega (arith, m))
    go (no h) = omega (arith, h)

-- as many are written as there are slots, at most
written_few : (s : Store) (m : Request) → input s (call_match allOfThem m) ≡ none → length (match_progress s allOfThem m).written ≤ slot_count s m
unfolding wanted
written_few s m e =
    let (g, a) = input_none s (call_match allOfThem m) e in
    let w = written_is s m g (checked s allOfThem m a) allOfThem in
    rw (w, length-take) (omega arith)

-- a refusal prints one line
pub refusal_listed : (n : ℕ) (slots : List ℕ) → refusal_text n ≡ listing_text (refused n) slots
unfolding answer_number slots_of refusal_text listing_text entry_lines
refusal_listed n slots = sym (append-nil (line (n ∷ 0 ∷ 0 ∷ 0 ∷ [])))

-- a refusal has no candidates
refused-fits : (n words : ℕ) → Fits (refused n) words
unfolding slots_of
refused-fits n words = record { few = omega arith; short = omega arith; inside = omega arith }

matched_fits : (n c k words : ℕ) → c ≤ 16 → k ≤ 64 → 2 * (c * k) ≤ words → Fits (match_answer n c k) words
unfolding match_answer slots_of
matched_fits n c k words f h i = go (eqb n 10 || eqb n 11)
  where
    go : (b : Bool) → Fits (elim b [ true ↦ refused n | false ↦ listed n c k ]) words
    go true = refused-fits n words
    go false = record { few = f; short = h; inside = i }

-- an accepted listing
accepted_fits : (s : Store) (m : Request) → length m.slots ≡ 32 * spec_name_count s.names m.pattern m.bindings → input s (call_match allOfThem m) ≡ none
    → Fits (match_answer (number_of (match_progress s allOfThem m).status (match_progress s allOfThem m).written)
    (length (match_progress s allOfThem m).written) (length (all_names s m))) (length m.slots)
accepted_fits s m l e =
    let c = length (match_progress s allOfThem m).written in
    let k = length (all_names s m) in
    let (h, n) = names_counted s m e in
    let w : length m.slots ≡ 32 * k = l ∙ ap (32 *◌) n in
    let f : c ≤ spec_slots_in (length m.slots) k = written_few s m e in
    let g : spec_slots_in (length m.slots) k ≤ 16 = rw w (sixteen k) in
    matched_fits _ c k (length m.slots) (omega arith) h (omega (arith, slots_fit (length m.slots) k c f, mul_comm 2 (c * k)))

-- What a listing with 16 slots answers fits what it leaves in the slots.
pub listing-fits : (s : Store) (m : Request) → length m.slots ≡ 32 * spec_name_count s.names m.pattern m.bindings
    → Fits (step s (call_match allOfThem m)).answer (length (step s (call_match allOfThem m)).slots)
unfolding step given decide refuse accept deed
listing-fits s m l = subst (Fits (step s (call_match allOfThem m)).answer) (sym (step_lengths s (call_match allOfThem m)).slot_words_lem)
    (go (input s (call_match allOfThem m)) (room s (call_match allOfThem m)) refl)
  where
    go : (o q : Option ℕ) → input s (call_match allOfThem m) ≡ o → Fits (decide o q s (call_match allOfThem m)).answer (length m.slots)
    go (some n) q e = refused-fits n _
    go none (some n) e = refused-fits n _
    go none none e = accepted_fits s m l e
