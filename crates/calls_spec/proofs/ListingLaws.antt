-- One listing: what its slots show, against the consistent extensions of its start.
use Rattle.std.specs.Prelude.{◌≡◌, refl, ◌⊎◌, ◌↔◌, T, leb, ℕ, suc, zero, ◌+◌, ◌≤◌}
use Rattle.std.proofs.Math.Path.{ap, ap₂, sym, subst}
use Rattle.std.proofs.Common.{◌∙◌, inl, inr, leb→le, arith}
use mathlib.Core.List.{List, [], ◌∷◌, ◌++◌, map, Memᴰ}
use Rattle.std.proofs.Math.Option.{Option, some, none}
use Rattle.std.proofs.Math.ListN.{length, take, length-append}
use Rattle.std.proofs.lemmas.List.{length-map}
use Rattle.std.proofs.Math.Seq.{take-nil}
use Rattle.std.proofs.Math.Decide.{dec_le}
use Rattle.term_spec.proofs.BoolLaws.{both_of}
use Rattle.term_spec.proofs.ListLaws.{map-take, map-map, mem_map, All, all_take, all_weaken, all_one, maps_same}
use Rattle.term_spec.specs.Term.{Term, term_layout, Run, part, run_rule, runs_rule}
use Rattle.term_spec.specs.Value.{values, forms}
use Rattle.term_spec.proofs.ValueLaws.{none_some}
use Rattle.view_spec.specs.Node.{field_rule}
use Rattle.view_spec.specs.Read.{settled_run}
use Rattle.match_spec.specs.Element.{Env, canon_e}
use Rattle.match_spec.specs.Pattern.{binding_name, bound_run}
use Rattle.match_spec.specs.Consistent.{Consistent, set_form}
use Rattle.match_spec.specs.Listing.{candidates}
use Rattle.match_spec.specs.Walk.{Event, cells_of, hits}
use Rattle.match_spec.specs.Answer.{Wanted, allOfThem, headOnly, called, started, absorb, number_of}
use Rattle.match_spec.proofs.SoundLaws.{Numbered}
use Rattle.match_spec.proofs.NameLaws.{numbered}
use Rattle.match_spec.proofs.ConsistentLaws.{listed}
use Rattle.match_spec.proofs.RunLaws.{Inside, runs_read, walk_inside}
use Rattle.match_spec.proofs.AnswerLaws.{Reached, Quiet, written_all, written_none, no_room, head_only, fitting, due, answered, number-due, number_head}
use Rattle.match_spec.proofs.AnswerLaws.{called_number, Calm, calm_or_call, calls_same, calm-same, quiet_walk, no_candidate}
use Rattle.match_spec.proofs.KeepLaws.{HasCall}
use Rattle.match_spec.proofs.MatchLaws.{listing-shows}
use Rattle.calls_spec.specs.Store.{Store, terms, nodes, spelled, shows, field_terms, capacity, add_terms}
use Rattle.calls_spec.specs.Step.{Request, call_match, slots_of, slots_filled, slot_names, After, bindings, pattern_of, start_names, all_names}
use Rattle.calls_spec.specs.Step.{numbered_pattern, start_runs, slot_count, ask_request, deed, arguments, ask, changed, input, field_copy, room}
use Rattle.calls_spec.specs.Step.{match_events, match_progress, accept, decide, refuse, step}
use Rattle.calls_spec.specs.Demand3.{read_slots}
use Rattle.calls_spec.proofs.StoreLaws.{Good, terms-length, added_terms}
use Rattle.calls_spec.proofs.StepLaws.{ask_none, room-terms, settled}
use Rattle.calls_spec.proofs.SlotLaws.{Sized, refusal_empty, answered_slots}
use Rattle.view_spec.proofs.SettleLaws.{Settles}
use Rattle.term_spec.proofs.TermLaws.{Valid, valid-terms, values-part}

-- ---- what the checks of a listing tell ----

pub record Checked (s : Store) (r : Request) : Type 0 where
  pub field : T (field_rule (nodes s) r.field)
  pub inside : All (Inside s.terms_used) (start_runs r)

runs-inside : (used : ℕ) (rs : List Run) → T (runs_rule used rs) → All (Inside used) rs
unfolding runs_rule run_rule All
runs-inside used [] h = tt
runs-inside used (r ∷ rs) h = let (a, b) = both_of (leb (r.start + r.len) used) (runs_rule used rs) h in (leb→le _ _ a, runs-inside used rs b)

pub checked : (s : Store) (q : Wanted) (r : Request) → arguments s (call_match q r) ≡ none → Checked s r
unfolding deed ask_request
checked s q r e =
    let (a, e1) = ask_none (field_rule (nodes s) r.field) 4 _ e in
    let (b, e2) = ask_none (runs_rule s.terms_used (start_runs r)) 5 _ e1 in
    record { field = a; inside = runs-inside s.terms_used (start_runs r) b }

-- ---- all consistent extensions, by their canonical forms ----

abbrev pub start_terms : Store → Request → Env
start_terms s r = map (shows s) (start_runs r)

abbrev pub every_one : Store → Request → List Env
every_one s r = candidates (numbered_pattern s r) (forms (field_terms s r.field) ∷ []) (set_form (start_terms s r))

pub runs_names : (s : Store) (r : Request) → length (start_runs r) ≡ length (start_names s r)
runs_names s r = length-map (bindings r) bound_run ∙ sym (length-map (bindings r) (binding_name s.names))

pub terms_names : (s : Store) (r : Request) → length (start_terms s r) ≡ length (start_names s r)
terms_names s r = length-map (start_runs r) (shows s) ∙ runs_names s r

pub counted : (s : Store) (r : Request) → Numbered (numbered_pattern s r) (length (start_runs r))
counted s r = rw (runs_names s r) (numbered (map canon_e (pattern_of s r)) (start_names s r))

pub consistent_listed : (s : Store) (r : Request) (B : Env)
    → Memᴰ (set_form B) (every_one s r) ↔ Consistent (pattern_of s r) (start_names s r) (start_terms s r) (field_terms s r.field) B
consistent_listed s r B = listed (pattern_of s r) (start_names s r) (start_terms s r) (field_terms s r.field) B (terms_names s r)

-- ---- the walk's candidates, in the terms with the settled copy ----

all_of : {A : Type 0} (P : A → Type 0) (l : List A) → ((x : A) → Memᴰ x l → P x) → All P l
unfolding All
all_of P [] h = tt
all_of P (x ∷ l) h = (h x (Memᴰ.head refl), all_of P l (λ y m. h y (Memᴰ.tail m)))

mem_mapped : {A B : Type 0} (f : A → B) (l : List A) (x : A) → Memᴰ x l → Memᴰ (f x) (map f l)
mem_mapped f [] x m = absurd (mathlib.Core.List.Memᴰ.not-nil m)
mem_mapped {A} f (y ∷ l) x m = go (λ k. mem_mapped f l x k) (mathlib.Core.List.Memᴰ.cases_cons m)
  where
    go : (Memᴰ x l → Memᴰ (f x) (map f l)) → (x ≡ y) ⊎ Memᴰ x l → Memᴰ (f x) (f y ∷ map f l)
    go rec (inl e) = Memᴰ.head (ap f e)
    go rec (inr k) = Memᴰ.tail (rec k)

map_both : {A B C : Type 0} (f : B → C) (g : A → B) (h : A → C) → ((x : A) → f (g x) ≡ h x) → (l : List A) → map f (map g l) ≡ map h l
map_both f g h e [] = refl
map_both f g h e (x ∷ l) = ap₂ ◌∷◌ (e x) (map_both f g h e l)

due_not_11 : (n slots : ℕ) → due n slots ≡ 11 → ⊥
unfolding due fitting
due_not_11 zero slots e = omega arith
due_not_11 (suc n) slots e = go (dec_le (suc n) slots) e
  where
    go : (d : Dec (suc n ≤ slots)) → fitting d ≡ 11 → ⊥
    go (yes h) q = omega arith
    go (no h) q = omega arith

-- How many candidates a call writes of those that n slots hold, and which it asks after.
unfoldable pub wanted : Wanted → ℕ → ℕ
wanted allOfThem n = n
wanted headOnly zero = zero
wanted headOnly (suc n) = 1

unfoldable pub asked : {A : Type 0} → Wanted → List A → List A
asked allOfThem l = l
asked headOnly l = take 1 l

asked-map : {A B : Type 0} (q : Wanted) (f : A → B) (l : List A) → map f (asked q l) ≡ asked q (map f l)
unfolding asked
asked-map allOfThem f l = refl
asked-map headOnly f l = map-take f 1 l

written-wanted : {E : Type 0} (q : Wanted) (n : ℕ) (l : List (Event E)) → Quiet l → (absorb q n l started).written ≡ take (wanted q n) (hits l)
unfolding wanted
written-wanted allOfThem n l h = written_all n l h
written-wanted headOnly zero l h = no_room headOnly l
written-wanted headOnly (suc n) l h = head_only n l h

number-asked : {E : Type 0} (q : Wanted) (n : ℕ) (l : List (Event E)) → Quiet l → answered q n l ≡ due (length (asked q (hits l))) n
unfolding asked
number-asked allOfThem n l h = number-due n l h
number-asked headOnly n l h = number_head n l h

quiet_not_11 : {E : Type 0} (q : Wanted) (n : ℕ) (l : List (Event E)) → Quiet l → answered q n l ≡ 11 → ⊥
quiet_not_11 q n l h e = due_not_11 (length (asked q (hits l))) n (sym (number-asked q n l h) ∙ e)

module _ (s : Store) (r : Request) (g : Good s) (c : Checked s r) where
  -- the terms with the settled copy
  abbrev grown : List Term
  grown = terms s ++ field_copy s r.field

  settles_field : Settles s.names (terms s) (nodes s) r.field
  settles_field = settled s r.field g c.field

  valid : Valid grown
  valid = valid-terms s.names grown settles_field.good

  run_cells : cells_of s.names grown (settled_run (terms s) (nodes s) r.field) ≡ forms (field_terms s r.field)
  unfolding cells_of field_terms spelled
  run_cells = ap forms settles_field.shows

  start_cells : map (cells_of s.names grown) (start_runs r) ≡ set_form (start_terms s r)
  unfolding cells_of shows spelled
  start_cells =
      maps_same (Inside s.terms_used) _ (λ q. forms (shows s q)) (start_runs r) c.inside
      (λ q h. ap forms (values-part s.names (terms s) (field_copy s r.field) q (rw (terms-length s) h)))
      ∙ sym (map-map forms (shows s) (start_runs r))

  hits_show : map (map (cells_of s.names grown)) (hits (match_events s r)) ≡ every_one s r
  unfolding match_events
  hits_show = listing-shows s.names grown (numbered_pattern s r) (settled_run (terms s) (nodes s) r.field)
      (start_runs r) valid (counted s r)
      ∙ ap₂ (λ x y. candidates (numbered_pattern s r) (x ∷ []) y) run_cells start_cells

  form_cells : (e : List Run) → set_form (map (part (values s.names grown)) e)
      ≡ map (cells_of s.names grown) e
  unfolding cells_of
  form_cells e = map-map forms (part (values s.names grown)) e

  -- every entry of the list is a consistent extension's canonical form
  pub every-sound : (A : Env) → Memᴰ A (every_one s r)
      → (B : Env) × Consistent (pattern_of s r) (start_names s r) (start_terms s r) (field_terms s r.field) B × (set_form B ≡ A)
  every-sound A m =
      let (e, i, q) = mem_map (map (cells_of s.names grown)) (hits (match_events s r)) {y = A} (rw hits_show m) in
      let z = form_cells e ∙ q in
      (map (part (values s.names grown)) e, (consistent_listed s r _).0 (rw z m), z)

  pub hits-sized : Sized (length (all_names s r)) (hits (match_events s r))
  hits-sized = all_of _ (hits (match_events s r)) (λ e m. one e (rw (form_cells e, ← hits_show)
      (mem_mapped (map (cells_of s.names grown)) (hits (match_events s r)) e m)))
    where
      one : (e : List Run) → Memᴰ (set_form (map (part (values s.names grown)) e)) (every_one s r)
          → length e ≡ length (all_names s r)
      one e m = sym (length-map e (part (values s.names grown)))
          ∙ ((consistent_listed s r (map (part (values s.names grown)) e)).0 m).binds

  hits-inside : All (All (Inside (length grown))) (hits (match_events s r))
  unfolding match_events run_rule
  hits-inside = walk_inside s.names grown valid (numbered_pattern s r) _ (start_runs r)
      (all_one _ _ (leb→le _ _ settles_field.inside))
      (all_weaken _ _ (start_runs r) (λ q h. omega (arith, terms-length s, length-append (terms s) (field_copy s r.field))) c.inside)

  -- ---- the candidates written ----

  no_hits : HasCall (pattern_of s r) → hits (match_events s r) ≡ []
  unfolding match_events
  no_hits h = no_candidate _ (runs_read s.names grown valid) (numbered_pattern s r) _ (start_runs r) (counted s r)
      ((calls_same (pattern_of s r) (start_names s r)).1 h)

  quiet_events : Calm (pattern_of s r) → Quiet (match_events s r)
  unfolding match_events
  quiet_events h = quiet_walk _ (numbered_pattern s r) _ (start_runs r) (calm-same (pattern_of s r) (start_names s r) h)

  -- how many candidates are wanted of those that there are slots for
  pub written_is : (q : Wanted) → (match_progress s q r).written ≡ take (wanted q (slot_count s r)) (hits (match_events s r))
  unfolding match_progress
  written_is q = go (calm_or_call (pattern_of s r))
    where
      go : Calm (pattern_of s r) ⊎ HasCall (pattern_of s r) → (absorb q (slot_count s r) (match_events s r) started).written
          ≡ take (wanted q (slot_count s r)) (hits (match_events s r))
      go (inl h) = written-wanted q (slot_count s r) (match_events s r) (quiet_events h)
      go (inr h) = written_none q (slot_count s r) (match_events s r) (no_hits h)
          ∙ sym (ap (take (wanted q (slot_count s r))) (no_hits h) ∙ take-nil (wanted q (slot_count s r)))

  called_empty : (q : Wanted) → (match_progress s q r).status ≡ called → (match_progress s q r).written ≡ []
  unfolding match_progress number_of
  called_empty q e = go (calm_or_call (pattern_of s r))
    where
      go : Calm (pattern_of s r) ⊎ HasCall (pattern_of s r) → (absorb q (slot_count s r) (match_events s r) started).written ≡ []
      go (inl h) = absurd (quiet_not_11 q (slot_count s r) (match_events s r) (quiet_events h)
          (ap (λ st. number_of st (absorb q (slot_count s r) (match_events s r) started).written) e))
      go (inr h) = written_none q (slot_count s r) (match_events s r) (no_hits h)

  -- the number of an accepted call on a pattern without Call or Block: 10, 0 or 15, by the number of consistent extensions
  pub match-number : (q : Wanted) → Calm (pattern_of s r) → number_of (match_progress s q r).status (match_progress s q r).written
      ≡ due (length (asked q (every_one s r))) (slot_count s r)
  unfolding match_progress
  match-number q h = number-asked q (slot_count s r) (match_events s r) (quiet_events h)
      ∙ ap (λ n. due n (slot_count s r)) (sym (length-map (asked q (hits (match_events s r))) (map (cells_of s.names grown)))
      ∙ ap length (asked-map q (map (cells_of s.names grown)) (hits (match_events s r)) ∙ ap (asked q) hits_show))

  -- with a Call or Block there is no candidate, and the number is 10 or 11, 11 exactly if the walk reaches one
  pub call_number : (q : Wanted) → HasCall (pattern_of s r) → ((match_progress s q r).written ≡ [])
      × (((number_of (match_progress s q r).status (match_progress s q r).written ≡ 10) ⊎
      (number_of (match_progress s q r).status (match_progress s q r).written ≡ 11))
      × ((number_of (match_progress s q r).status (match_progress s q r).written ≡ 11) ↔ Reached (match_events s r)))
  unfolding match_progress
  call_number q h = (written_none q (slot_count s r) (match_events s r) (no_hits h), called_number q (slot_count s r) (match_events s r) (no_hits h))

  -- ---- read back from the slots that the call leaves ----

  slots_read : (q : Wanted) → read_slots (slots_filled (accept s (call_match q r)).answer) (slot_names (accept s (call_match q r)).answer)
      (accept s (call_match q r)).slots ≡ (match_progress s q r).written
  unfolding accept deed
  slots_read q = answered_slots r.slots _ (length (all_names s r)) (match_progress s q r).written
      (subst (Sized (length (all_names s r))) (sym (written_is q)) (all_take _ (wanted q (slot_count s r)) (hits (match_events s r)) hits-sized))
      (λ t. refusal_empty (match_progress s q r).status (match_progress s q r).written (called_empty q) t)

  module _ (fits : s.terms_used + length (field_copy s r.field) ≤ capacity term_layout s.term_words) where
    end_cells : (e : List Run) → set_form (map (shows (add_terms s (field_copy s r.field))) e) ≡ map (cells_of s.names grown) e
    unfolding shows spelled cells_of add_terms
    end_cells e = map-map forms (shows (add_terms s (field_copy s r.field))) e
        ∙ ap (λ ts. map (λ q. forms (part (values s.names ts) q)) e) (added_terms s (field_copy s r.field) fits)

    written-forms : (q : Wanted) → map set_form (map (map (shows (add_terms s (field_copy s r.field)))) (match_progress s q r).written)
        ≡ take (wanted q (slot_count s r)) (every_one s r)
    written-forms q = map_both set_form (map (shows (add_terms s (field_copy s r.field))))
        (map (cells_of s.names grown)) end_cells (match_progress s q r).written
        ∙ ap (map (map (cells_of s.names grown))) (written_is q)
        ∙ map-take (map (cells_of s.names grown)) (wanted q (slot_count s r)) (hits (match_events s r))
        ∙ ap (take (wanted q (slot_count s r))) hits_show

    written-inside : (q : Wanted) → All (All (Inside (add_terms s (field_copy s r.field)).terms_used)) (match_progress s q r).written
    unfolding add_terms
    written-inside q = subst (All (All (Inside (s.terms_used + length (field_copy s r.field))))) (sym (written_is q))
        (all_take _ (wanted q (slot_count s r)) (hits (match_events s r)) (subst (λ n. All (All (Inside n)) (hits (match_events s r)))
        (length-append (terms s) (field_copy s r.field) ∙ ap (◌+ length (field_copy s r.field)) (terms-length s)) hits-inside))

-- ---- the call as a whole ----

-- The runs in the slots that a call leaves.
abbrev pub runs_left : After → List (List Run)
runs_left a = read_slots (slots_filled a.answer) (slot_names a.answer) a.slots

pub record Lists (s : Store) (q : Wanted) (r : Request) (a : After) : Type 0 where
  pub some_first : (n : ℕ) × (map set_form (map (map (shows a.store)) (runs_left a)) ≡ take n (every_one s r))
  pub inside : All (All (Inside a.store.terms_used)) (runs_left a)
  pub filled : room s (call_match q r) ≡ none → map set_form (map (map (shows a.store)) (runs_left a)) ≡ take (wanted q (slot_count s r)) (every_one s r)

accepted_lists : (s : Store) (q : Wanted) (r : Request) → Good s → Checked s r
    → s.terms_used + length (field_copy s r.field) ≤ capacity term_layout s.term_words
    → Lists s q r (accept s (call_match q r))
unfolding accept deed changed
accepted_lists s q r g c fits =
    let w = slots_read s r g c q in
    let f = ap (λ l. map set_form (map (map (shows (add_terms s (field_copy s r.field)))) l)) w ∙ written-forms s r g c fits q in
    record {
      some_first = (wanted q (slot_count s r), f);
      inside = subst (All (All (Inside (add_terms s (field_copy s r.field)).terms_used))) (sym w)
          (written-inside s r g c fits q);
      filled = λ h. f;
    }

pub lists : (s : Store) (q : Wanted) (r : Request) → Good s → arguments s (call_match q r) ≡ none → input s (call_match q r) ≡ none
    → Lists s q r (step s (call_match q r))
unfolding step decide refuse slots_of read_slots All room deed ask
lists s q r g e i = go (input s (call_match q r)) (room s (call_match q r)) i refl
  where
    go : (o p : Option ℕ) → o ≡ none → room s (call_match q r) ≡ p → Lists s q r (decide o p s (call_match q r))
    go (some n) p z k = absurd (none_some (sym z))
    go none (some n) z k = record { some_first = (0, refl); inside = tt; filled = λ h. absurd (none_some (sym h ∙ k)) }
    go none none z k = accepted_lists s q r g (checked s q r e)
        (room-terms s (field_copy s r.field) none k).0
