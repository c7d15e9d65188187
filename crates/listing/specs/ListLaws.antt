-- From the walk to the step: what a listing leaves, by how far it gets.
use Rattle.std.specs.Prelude.{◌≡◌, Bool, T, leb, take}
use Rattle.std.proofs.Math.Path.{refl, ap, sym}
use Rattle.std.proofs.Common.{◌∙◌, subst, length-append, mul-le-mul_right, arith}
use mathlib.Core.List.{List, [], ◌∷◌, ◌++◌}
use Rattle.std.proofs.Math.Option.{Option, some, none}
use Rattle.std.proofs.Math.Bool.{true, false}
use borrow.Author.Tests.{leb-true, le-leb, lt-leb}
use Rattle.std.proofs.Math.ListN.{length}
use Rattle.std.proofs.lemmas.List.{length-map}
use Prim.Native.Nat.{ℕ, ◌+◌, ◌*◌, ◌/◌, ◌<◌, ◌≤◌, min}
use Rattle.term_spec.proofs.BoolLaws.{both_of}
use Rattle.term_spec.proofs.ListLaws.{All}
use Rattle.term_spec.specs.Words.{Lies, decode, count, records, write}
use Rattle.term_spec.proofs.WordsLaws.{term_lays, decode-length, decode-write, write-length}
use Rattle.term_spec.specs.Term.{Term, Run, limit, term_layout, run_rule, runs_rule}
use Rattle.term_spec.specs.Refusal.{too_many_names, terms_full}
use Rattle.term_spec.proofs.TermLaws.{run_facts}
use Rattle.view_spec.specs.Node.{node_at}
use Rattle.view_spec.specs.Read.{copy, settled_run}
use Rattle.view_spec.proofs.SettleLaws.{Settles, settles}
use Rattle.match_spec.specs.Pattern.{item_layout, binding_layout, bound_run, binding_name, pattern_rule, pattern_limit, name_limit}
use Rattle.match_spec.proofs.NameLaws.{names_grow}
use Rattle.match_spec.specs.Answer.{Wanted, Progress, spec_slots_in, absorb, number_of}
use Rattle.match_spec.proofs.RunLaws.{Inside}
use Rattle.calls_spec.specs.Store.{Store, terms, nodes, capacity, add_terms}
use Rattle.calls_spec.specs.Step.{Request, Answer, refused, in_store, answer_number, call_match, ask}
use Rattle.calls_spec.specs.Step.{even_request, ask_request, given, fits, changed, deed, input}
use Rattle.calls_spec.specs.Step.{room, accept, refuse, step, items, bindings, pattern_of, start_names, all_names, numbered_pattern, start_runs, field_copy}
use Rattle.calls_spec.specs.Step.{match_events, match_progress, match_answer, fill_slots}
use Rattle.view_spec.proofs.NodeLaws.{facts_field}
use Rattle.calls_spec.specs.Demand3.{read_slots}
use Rattle.view.specs.Check.{store_of, numbered}
use Rattle.view.specs.StepLaws.{step-refused, step-full, step_done}
use Rattle.view_read.specs.Read.{settled_if, settled_by}
use Rattle.value.specs.Equal.{TermStore}
use Rattle.nodes.specs.NodeStore.{nodes_in, NodeStore}
use Rattle.pattern.specs.Records.{numbers_of}
use Rattle.steps.specs.State.{stack_of, level_of, levels_of, entries_of, pattern_in, PatternReady}
use Rattle.steps.specs.Stays.{Stays}
use Rattle.matcher.specs.declared.Tally.{Tally}
use Rattle.matcher.specs.Ready.{given_of, candidates_in, status_of, progress_of, wanted_of, SlotsReady, Filled, Written}
use Rattle.listing.specs.Match.{leaves_slots, asks_to8, refused_to8, no_tally, ReadyToStart, events_at}
use Rattle.listing.specs.RefusalLaws.{to8_refused, to8_passed, Within8}
use Rattle.listing.specs.NumberLaws.{number-coded, pattern_sound}
use Rattle.listing.specs.SlotLaws.{candidates-length, slots_filled, room_for}

-- ---- refusals ----

module _ (s : Store) (q : Wanted) (m : Request) where
  -- the input's number: 1 to 8, then 9
  pub input_is : input s (call_match q m) ≡ asks_to8 s m.field m.pattern m.bindings (ask (leb (length (all_names s m)) name_limit) too_many_names none)
  unfolding input deed ask_request given even_request asks_to8
  input_is = refl

  left-refused : (n : ℕ) → step s (call_match q m) ≡ refuse s (call_match q m) n → leaves_slots (refused n) s m.slots ≡ step s (call_match q m)
  unfolding leaves_slots refuse given
  left-refused n e = sym e

  pub list-refused : {n : ℕ} → asks_to8 s m.field m.pattern m.bindings (ask (leb (length (all_names s m)) name_limit) too_many_names none) ≡ some n
      → leaves_slots (refused n) s m.slots ≡ step s (call_match q m)
  list-refused {n} e = left-refused n (step-refused s (call_match q m) (input_is ∙ e))

  module _ (pass : (x : Option ℕ) → asks_to8 s m.field m.pattern m.bindings x ≡ x) where
    pub list_names : name_limit < length (all_names s m) → leaves_slots (refused too_many_names) s m.slots ≡ step s (call_match q m)
    unfolding ask
    list_names h = list-refused (pass _ ∙ rw (lt-leb (length (all_names s m)) name_limit h) refl)

    input_none : length (all_names s m) ≤ name_limit → input s (call_match q m) ≡ none
    unfolding ask
    input_none h = input_is ∙ pass _ ∙ rw (le-leb (length (all_names s m)) name_limit h) refl

    -- whether there is room for the settled copy
    abbrev copy_fits : Bool
    copy_fits = leb (s.terms_used + length (field_copy s m.field)) (capacity term_layout s.term_words)

    room_is : room s (call_match q m) ≡ ask copy_fits terms_full none
    unfolding room fits deed ask
    room_is = refl

    pub list_full : length (all_names s m) ≤ name_limit → copy_fits ≡ false → leaves_slots (refused terms_full) s m.slots ≡ step s (call_match q m)
    unfolding ask
    list_full h e = left-refused terms_full (step-full s (call_match q m) (input_none h) (room_is ∙ rw e refl))

    pub list_done : length (all_names s m) ≤ name_limit → copy_fits ≡ true → {o : Progress (List Run)} → o ≡ match_progress s q m → {a : Answer} {w : List ℕ}
        → a ≡ match_answer (number_of o.status o.written) (length o.written) (length (all_names s m)) → w ≡ fill_slots m.slots o.written
        → leaves_slots a (add_terms s (field_copy s m.field)) w ≡ step s (call_match q m)
    unfolding ask leaves_slots accept deed changed
    list_done h e p x y = rw (x, y, p) (sym (step_done s (call_match q m) (input_none h) (room_is ∙ rw e refl)))

-- ---- names ----

-- Over 64 starting bindings are over 64 names.
pub start_many : (s : Store) (m : Request) → name_limit < length m.bindings / 5 → name_limit < length (all_names s m)
unfolding records count
start_many s m h =
    let (u, e) = names_grow (pattern_of s m) (start_names s m) in
    let n : length (start_names s m) ≡ length m.bindings / 5 =
    length-map (bindings m) (binding_name s.names) ∙ decode-length binding_layout (length m.bindings / 5) m.bindings in
    omega (arith, ap length e, length-append (start_names s m) u)

-- ---- settling ----

no_run : {n : ℕ} {r : Run} → refused n ≡ in_store r → ⊥
no_run p = let z : ◌≡◌ {A = ℕ} 0 1 = cc in omega arith

same-run : {x r : Run} → in_store x ≡ in_store r → x ≡ r
same-run p = cc

module _ (w : List ℕ) (used : ℕ) (new : List Term) (r : Run) where
  full_by : (b : Bool) {n : ℕ} {v : List ℕ} {u : ℕ} → (refused n, v, u) ≡ settled_if b w used new r → (b ≡ false) × (n ≡ terms_full) × (v ≡ w) × (u ≡ used)
  unfolding settled_if answer_number
  full_by true e = absurd (no_run (ap (λ t. t.0) e))
  full_by false e = (refl, ap (λ t. answer_number t.0) e, ap (λ t. t.1) e, ap (λ t. t.2) e)

  pub settled-full : {n : ℕ} {v : List ℕ} {u : ℕ} → (refused n, v, u) ≡ settled_by w used new r
      → (leb (used + length new) (capacity term_layout w) ≡ false) × (n ≡ terms_full) × (v ≡ w) × (u ≡ used)
  unfolding settled_by
  settled-full e = full_by (leb (used + length new) (capacity term_layout w)) e

  done_by : (b : Bool) {x : Run} {v : List ℕ} {u : ℕ} → (in_store x, v, u) ≡ settled_if b w used new r
      → (b ≡ true) × (x ≡ r) × (v ≡ write term_layout w used new) × (u ≡ used + length new)
  unfolding settled_if
  done_by true e = (refl, same-run (ap (λ t. t.0) e), ap (λ t. t.1) e, ap (λ t. t.2) e)
  done_by false e = absurd (no_run (ap (λ t. t.0) (sym e)))

  pub settled_done : {x : Run} {v : List ℕ} {u : ℕ} → (in_store x, v, u) ≡ settled_by w used new r
      → (leb (used + length new) (capacity term_layout w) ≡ true) × (x ≡ r) × (v ≡ write term_layout w used new) × (u ≡ used + length new)
  unfolding settled_by
  settled_done e = done_by (leb (used + length new) (capacity term_layout w)) e

-- ---- the walk's start ----

records_size : (w : List ℕ) → length (records item_layout w) ≡ count item_layout w
unfolding records
records_size w = decode-length item_layout (count item_layout w) w

-- every binding's run ends within the terms
runs_in : (used more : ℕ) (rs : List Run) → used ≤ more → T (runs_rule used rs) → All (Inside more) rs
unfolding All runs_rule
runs_in used more [] h t = tt
runs_in used more (r ∷ rs) h t =
    let (x, y) = both_of (run_rule used r) (runs_rule used rs) t in
    (omega (arith, run_facts used r x), runs_in used more rs h y)

-- What the checks 1 to 9 let pass, and what settling left.
pub record Settled (s : Store) (m : Request) (entries : ℕ) (numbers : List ℕ) (run : Run) (words : List ℕ) (used : ℕ) : Type 0 where
  pub values : TermStore s.names s.term_words s.terms_used
  pub store : NodeStore s.node_words s.terms_used s.nodes_used
  pub low : m.field.node < s.nodes_used
  pub within : m.field.len ≤ (node_at (nodes_in s.node_words s.nodes_used) m.field.node).reach
  pub runs_ok : T (runs_rule s.terms_used (start_runs m))
  pub pattern_ok : T (pattern_rule s.names (items m))
  pub short : length m.pattern ≤ 1027
  pub counted : entries ≡ length (all_names s m)
  pub few : entries ≤ name_limit
  pub numbered : take (count item_layout m.pattern) numbers ≡ numbers_of (pattern_of s m) (start_names s m)
  pub many : pattern_limit ≤ length numbers
  pub fits : leb (s.terms_used + length (field_copy s m.field)) (capacity term_layout s.term_words) ≡ true
  pub run_is : run ≡ settled_run (terms s) (nodes s) m.field
  pub words_are : words ≡ write term_layout s.term_words s.terms_used (field_copy s m.field)
  pub used_is : used ≡ s.terms_used + length (field_copy s m.field)

module _ (s : Store) (m : Request) (entries : ℕ) (numbers : List ℕ) (run : Run) (words : List ℕ) (used : ℕ)
    (o : Settled s m entries numbers run words used) where
  size_terms : length (terms s) ≡ s.terms_used
  unfolding terms
  size_terms = decode-length term_layout s.terms_used s.term_words

  -- the settled copy is valid and shows the field
  settles_here : Settles s.names (terms s) (nodes s) m.field
  unfolding nodes terms
  settles_here =
      settles s.names (terms s) (nodes s) m.field o.values.good (rw size_terms o.store.good)
      (facts_field (nodes s) m.field (rw decode-length o.low) o.within)

  -- the used terms after it
  terms-after : decode term_layout used words ≡ terms s ++ field_copy s m.field
  unfolding terms
  terms-after = rw (o.words_are, o.used_is) (decode-write term_layout term_lays s.term_words s.terms_used (field_copy s m.field) o.values.fits)

  used_size : length (terms s ++ field_copy s m.field) ≡ used
  used_size = length-append (terms s) (field_copy s m.field) ∙ omega (arith, size_terms, o.used_is)

  room-terms : (used ≤ limit) × Lies term_layout s.term_words used
  unfolding capacity count
  room-terms =
      let h : s.terms_used + length (field_copy s m.field) ≤ min (length s.term_words / term_layout.width) limit = leb-true _ _ o.fits in
      (omega (arith, o.used_is), omega (arith, o.used_is))

  words_size : length words ≡ length s.term_words
  words_size =
      ap length o.words_are
      ∙ write-length term_layout term_lays s.term_words s.terms_used (field_copy s m.field) (omega (arith, room-terms.1, o.used_is))

  pub store-after : TermStore s.names words used
  store-after = record { fits = omega (arith, room-terms.1, words_size); good = rw terms-after settles_here.good }

  pub few_after : used ≤ limit
  few_after = room-terms.0

  -- the pattern is within its rules, with a number for each record
  pub pattern_after : PatternReady s.names m.pattern numbers
  unfolding count
  pattern_after = record { rule = o.pattern_ok; short = omega (arith, o.short); numbered = omega (arith, o.short, o.many) }

  -- the run is among the used terms
  pub start-inside : Inside used run
  start-inside = rw o.run_is (omega (arith, run_facts _ _ settles_here.inside, used_size))

  -- the pattern by words and numbers is the numbered one
  pattern_is : pattern_in s.names m.pattern numbers ≡ numbered_pattern s m
  pattern_is = number-coded s.names (items m) numbers (start_names s m) (ap (λ n. take n numbers) items_size ∙ o.numbered)
    where
      items_size : length (items m) ≡ count item_layout m.pattern
      items_size = records_size m.pattern

  start_size : length (start_runs m) ≡ length (start_names s m)
  start_size = length-map (bindings m) bound_run ∙ sym (length-map (bindings m) (binding_name s.names))

  module _ (slots : List ℕ) where
    start_stays : Stays used (pattern_in s.names m.pattern numbers) entries run [] (start_runs m)
    unfolding All
    start_stays = record {
      level_in = start-inside;
      around_in = tt;
      entries_in_lem = runs_in s.terms_used used (start_runs m) (omega (arith, o.used_is)) o.runs_ok;
      shallow = omega arith;
      sound = rw (pattern_is, o.counted, start_size) (pattern_sound s.names (items m) (start_names s m) o.pattern_ok);
    }

    pub ready_start : ReadyToStart (given_of s.names words used m.pattern numbers) entries run (start_runs m)
    unfolding count
    ready_start st el ee rl rb = record {
      store = store-after;
      few = few_after;
      pattern = pattern_after;
      here = omega arith;
      stays = stays_at;
      names_few = o.few;
      level-room = rl;
      entry-room = rb;
    }
      where
        at : List Run → List Run → Type 0
        at [] env = ⊥
        at (r ∷ rs) env = Stays used (pattern_in s.names m.pattern numbers) entries r rs env

        stays_at : Stays used (pattern_in s.names m.pattern numbers) entries (level_of st) (stack_of st.depth st.levels) (entries_of st)
        stays_at = subst (λ env. at (levels_of st) env) (sym ee) (subst (λ ls. at ls (start_runs m)) (sym el) start_stays)

    -- as many slots as fit whole
    pub slots_start : (head : Bool) → SlotsReady (record { entries = entries; cap = spec_slots_in (length slots) entries; head = head }) no_tally slots
    slots_start head = record { room = room_for (length slots) entries; most = omega arith; goes = refl }

    -- ---- the walk's end ----

    module _ (q : Wanted) (f : Tally) (after : List ℕ)
        (walked : progress_of entries f after
        ≡ absorb q (spec_slots_in (length slots) entries) (events_at (given_of s.names words used m.pattern numbers) run (start_runs m))
        (progress_of entries no_tally slots))
        (lent : slots ≡ m.slots) where
      pub walked_is : progress_of entries f after ≡ match_progress s q m
      unfolding match_progress match_events read_slots status_of
      walked_is = walked ∙ rw (terms-after, pattern_is, o.run_is, o.counted, lent) refl

      pub filled_is : Filled entries (spec_slots_in (length slots) entries) no_tally f slots after → length after ≡ length slots
          → after ≡ fill_slots m.slots (progress_of entries f after).written
      filled_is k e =
          slots_filled entries f.count slots after (omega (arith, e, room_for (length slots) entries, mul-le-mul_right (entries * 2) k.most)) k.rest
          ∙ ap (λ w. fill_slots w (candidates_in entries f.count after)) lent

-- ---- from the code's answers ----

-- what the numbering of names, and settling, say
pub settled_from : (s : Store) (m : Request) (entries : ℕ) (numbers : List ℕ) (run : Run) (words : List ℕ) (used : ℕ) (z : Answer)
    → Within8 s m.field m.pattern m.bindings → entries ≡ min 65 (length (all_names s m))
    → (entries ≤ name_limit → take (count item_layout m.pattern) numbers ≡ numbers_of (pattern_of s m) (start_names s m))
    → entries ≤ name_limit → pattern_limit ≤ length numbers
    → (z, words, used)
    ≡ settled_by s.term_words s.terms_used (copy (decode term_layout s.terms_used s.term_words) (nodes_in s.node_words s.nodes_used) m.field)
    (settled_run (decode term_layout s.terms_used s.term_words) (nodes_in s.node_words s.nodes_used) m.field)
    → z ≡ in_store run → Settled s m entries numbers run words used
unfolding terms nodes
settled_from s m entries numbers run words used z y c n few many e q =
    let d = settled_done s.term_words s.terms_used _ _ (ap (λ a. (a, words, used)) (sym q) ∙ e) in
    record {
      values = y.values;
      store = y.store;
      low = y.low;
      within = y.within;
      runs_ok = y.runs;
      pattern_ok = y.pattern;
      short = y.short;
      counted = omega arith;
      few = few;
      numbered = n few;
      many = many;
      fits = d.0;
      run_is = d.1;
      words_are = d.2;
      used_is = d.3;
    }

-- the exits of `list`
module _ (s : Store) (q : Wanted) (m : Request) {n : ℕ} (e : n ≡ numbered (refused_to8 s m.field m.pattern m.bindings)) where
  pub exit_refused : (n ≡ 0 → ⊥) → leaves_slots (refused n) s m.slots ≡ step s (call_match q m)
  exit_refused h = list-refused s q m (to8_refused s m.field m.pattern m.bindings _ e h)

  module _ (z : n ≡ 0) where
    pass : (x : Option ℕ) → asks_to8 s m.field m.pattern m.bindings x ≡ x
    pass x = to8_passed s m.field m.pattern m.bindings x e z

    pub exit_start : name_limit < length m.bindings / 5 → leaves_slots (refused too_many_names) s m.slots ≡ step s (call_match q m)
    exit_start h = list_names s q m pass (start_many s m h)

    pub exit_names : {k : ℕ} → k ≡ min 65 (length (all_names s m)) → name_limit < k → leaves_slots (refused too_many_names) s m.slots ≡ step s (call_match q m)
    exit_names c h = list_names s q m pass (omega arith)

    pub exit_full : {k : ℕ} → k ≡ min 65 (length (all_names s m)) → k ≤ name_limit → (a : Answer) (x : ℕ) (words : List ℕ) (used : ℕ)
        → (a, words, used)
        ≡ settled_by s.term_words s.terms_used (copy (decode term_layout s.terms_used s.term_words) (nodes_in s.node_words s.nodes_used) m.field)
        (settled_run (decode term_layout s.terms_used s.term_words) (nodes_in s.node_words s.nodes_used) m.field)
        → a ≡ refused x → leaves_slots (refused x) (store_of s.names words used s.node_words s.nodes_used) m.slots ≡ step s (call_match q m)
    unfolding terms nodes
    exit_full c h a x words used p y =
        let d = settled-full s.term_words s.terms_used _ _ (ap (λ b. (b, words, used)) (sym y) ∙ p) in
        rw (d.1, d.2, d.3) (list_full s q m pass (omega arith) d.0)

    module _ (entries : ℕ) (numbers : List ℕ) (run : Run) (words : List ℕ) (used : ℕ) (o : Settled s m entries numbers run words used) (slots : List ℕ)
        (lent : slots ≡ m.slots) where
      pub exit_done : (f : Tally) (after : List ℕ) {cap : ℕ} {head : Bool} → cap ≡ spec_slots_in (length slots) entries → q ≡ wanted_of head
          → Written (record { entries = entries; cap = cap; head = head }) (events_at (given_of s.names words used m.pattern numbers) run (start_runs m))
          no_tally f slots after
          → length after ≡ length slots → {a : Answer}
          → ((w : List (List Run)) → length w ≡ f.count → a ≡ match_answer (number_of (status_of f.stop) w) f.count entries)
          → leaves_slots a (store_of s.names words used s.node_words s.nodes_used) after ≡ step s (call_match q m)
      unfolding add_terms
      exit_done f after ec eq h len ans =
          let g = rw (ec, ← eq) at h.taken in
          let w = walked_is s m entries numbers run words used o slots q f after g lent in
          let c = candidates-length entries f.count after in
          rw (o.words_are, o.used_is)
          (list_done s q m pass (omega (arith, o.counted, o.few)) o.fits w
          (ans (candidates_in entries f.count after) c ∙ rw (c, o.counted) refl)
          (filled_is s m entries numbers run words used o slots q f after g lent (rw ec at h.filled) len))
