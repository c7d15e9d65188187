-- Every lent slice keeps its length: what a call writes lies inside it.
use Rattle.std.specs.Prelude.{◌≡◌, refl, List, [], ◌∷◌, T, length, ℕ, suc, zero, ◌+◌, ◌*◌, ◌≤◌}
use Rattle.std.proofs.Common.{ap, sym, ◌∙◌, leb→le, length-append, length-take, suc-mul, le-div_iff_mul-le, mul_comm, mul_assoc, arith}
use Rattle.std.proofs.Math.Option.{Option, some, none}
use Rattle.term_spec.proofs.ListLaws.{All, all_take}
use Rattle.term_spec.specs.Words.{count}
use Rattle.term_spec.proofs.WordsLaws.{term_lays, run_lays, write-length, count_fits}
use Rattle.term_spec.specs.Term.{term_layout, Run, run_layout}
use Rattle.term_spec.specs.Refusal.{work_short}
use Rattle.view_spec.proofs.NodeLaws.{node_lays}
use Rattle.view_spec.specs.Node.{Field, node_layout}
use Rattle.view_spec.specs.Read.{Place, stored, scattered, place}
use Rattle.match_spec.specs.Answer.{Wanted, allOfThem, headOnly, spec_slots_in}
use Rattle.match_spec.specs.Walk.{hits}
use Rattle.calls_spec.specs.Store.{Store, nodes, add_terms, add_nodes}
use Rattle.calls_spec.specs.Step.{Request, Call, call_from_runs, call_join, call_take, call_rest, call_range, call_starts_with, call_equal, call_flatten}
use Rattle.calls_spec.specs.Step.{call_match, After, given, slots_lent, work_lent, all_names, slot_count, Change, keeps, adds_nodes, adds_terms, fits}
use Rattle.calls_spec.specs.Step.{changed, deed, arguments, ask, input, field_copy, flat_work, room, match_events, match_progress, concat, fill_slots}
use Rattle.calls_spec.specs.Step.{accept, refuse, decide, step}
use Rattle.calls_spec.proofs.StoreLaws.{Good, written-length}
use Rattle.calls_spec.proofs.StepLaws.{ask_none, input_none, room-nodes, room-terms}
use Rattle.calls_spec.proofs.SlotLaws.{Sized}
use Rattle.calls_spec.proofs.ListingLaws.{Checked, checked, wanted, hits-sized, written_is}

pub record SameLengths (s : Store) (c : Call) (a : After) : Type 0 where
  pub term_words_lem : length a.store.term_words ≡ length s.term_words
  pub node_words_lem : length a.store.node_words ≡ length s.node_words
  pub slot_words_lem : length a.slots ≡ length (slots_lent c)
  pub work_words : length a.work ≡ length (work_lent c)

-- candidates of k runs each
sized-length : (k : ℕ) (cs : List (List Run)) → Sized k cs → length (concat cs) ≡ length cs * k
unfolding concat All
sized-length k [] a = omega arith
sized-length k (c ∷ cs) a = length-append c (concat cs) ∙ omega (arith, a.0, sized-length k cs a.1, suc-mul (length cs) k)

wanted_few : (q : Wanted) (n : ℕ) → wanted q n ≤ n
unfolding wanted
wanted_few allOfThem n = omega arith
wanted_few headOnly zero = omega arith
wanted_few headOnly (suc n) = omega arith

-- as many slots as fit whole
pub slots_fit : (words k n : ℕ) → n ≤ spec_slots_in words k → n * k * 2 ≤ words
unfolding spec_slots_in
slots_fit words zero n h = let z : n * zero ≡ 0 = mul_comm n zero ∙ omega arith in omega (arith, z)
slots_fit words (suc k) n h =
    let m : n * (2 * suc k) ≤ words = (le-div_iff_mul-le {k = 2 * suc k} (omega arith)).0 h in
    let e : n * (2 * suc k) ≡ n * suc k * 2 = ap (n *◌) (mul_comm 2 (suc k)) ∙ sym (mul_assoc n (suc k) 2) in
    omega (arith, m, e)

filled-length : (w : List ℕ) (k : ℕ) (cs : List (List Run)) → Sized k cs → length cs ≤ spec_slots_in (length w) k → length (fill_slots w cs) ≡ length w
unfolding fill_slots
filled-length w k cs a h =
    let l = sized-length k cs a in
    let f = slots_fit (length w) k (length cs) h in
    let e : (0 + length (concat cs)) * 2 ≡ length cs * k * 2 = ap (◌* 2) (let z : 0 + length (concat cs) ≡ length (concat cs) = omega arith in z ∙ l) in
    write-length run_layout run_lays w 0 (concat cs) (omega (arith, e, f))

-- the stores keep their lengths, whatever the change
pub record StoreLengths (s t : Store) : Type 0 where
  pub term_words_lem : length t.term_words ≡ length s.term_words
  pub node_words_lem : length t.node_words ≡ length s.node_words

changed_lengths : (s : Store) (x : Change) (next : Option ℕ) → fits s x next ≡ none → StoreLengths s (changed s x)
unfolding fits changed add_terms add_nodes
changed_lengths s keeps next e = record { term_words_lem = refl; node_words_lem = refl }
changed_lengths s (adds_nodes ns) next e =
    record { term_words_lem = refl; node_words_lem = written-length node_layout node_lays s.node_words s.nodes_used ns (room-nodes s ns next e).0 }
changed_lengths s (adds_terms ts) next e =
    record { term_words_lem = written-length term_layout term_lays s.term_words s.terms_used ts (room-terms s ts next e).0; node_words_lem = refl }

match_slots : (s : Store) (q : Wanted) (r : Request) → Good s → Checked s r → length (fill_slots r.slots (match_progress s q r).written) ≡ length r.slots
match_slots s q r g c =
    let w = written_is s r g c q in
    filled-length r.slots (length (all_names s r)) (match_progress s q r).written
    (rw w (all_take _ (wanted q (slot_count s r)) (hits (match_events s r)) (hits-sized s r g c)))
    (rw (w, length-take) (omega (arith, wanted_few q (slot_count s r))))

flat_work_lem : (s : Store) (f : Field) (w : List ℕ) (p : Place) → length (field_copy s f) ≤ count term_layout w → length (flat_work s f w p) ≡ length w
unfolding flat_work
flat_work_lem s f w (stored r) h = refl
flat_work_lem s f w scattered h = write-length term_layout term_lays w 0 (field_copy s f)
    (count_fits term_layout term_lays w (0 + length (field_copy s f)) (omega arith))

-- slots and work buffer, call by call
record LentLengths (s : Store) (c : Call) : Type 0 where
  slot_words_lem : length (deed s c).slots ≡ length (slots_lent c)
  work_words : length (deed s c).work ≡ length (work_lent c)

lent_lengths : (s : Store) (c : Call) → Good s → arguments s c ≡ none → T (deed s c).enough → LentLengths s c
unfolding deed given
lent_lengths s (call_from_runs w) g e h = record { slot_words_lem = refl; work_words = refl }
lent_lengths s (call_join f k) g e h = record { slot_words_lem = refl; work_words = refl }
lent_lengths s (call_take f n) g e h = record { slot_words_lem = refl; work_words = refl }
lent_lengths s (call_rest f k) g e h = record { slot_words_lem = refl; work_words = refl }
lent_lengths s (call_range f k n) g e h = record { slot_words_lem = refl; work_words = refl }
lent_lengths s (call_starts_with f k) g e h = record { slot_words_lem = refl; work_words = refl }
lent_lengths s (call_equal f k) g e h = record { slot_words_lem = refl; work_words = refl }
lent_lengths s (call_flatten f w) g e h = record { slot_words_lem = refl; work_words = flat_work_lem s f w (place (nodes s) f) (leb→le _ _ h) }
lent_lengths s (call_match q m) g e h = record { slot_words_lem = match_slots s q m g (checked s q m e); work_words = refl }

-- the work buffer is long enough where there is room
room_enough : (s : Store) (x : Change) (next : Option ℕ) → fits s x next ≡ none → next ≡ none
unfolding fits
room_enough s keeps next e = e
room_enough s (adds_nodes ns) next e = (room-nodes s ns next e).1
room_enough s (adds_terms ts) next e = (room-terms s ts next e).1

accept_lengths : (s : Store) (c : Call) → Good s → arguments s c ≡ none → room s c ≡ none → SameLengths s c (accept s c)
unfolding accept room
accept_lengths s c g e r =
    let next = ask (deed s c).enough work_short none in
    let t = changed_lengths s (deed s c).change next r in
    let l = lent_lengths s c g e (ask_none (deed s c).enough work_short none (room_enough s (deed s c).change next r)).0 in
    record { term_words_lem = t.term_words_lem; node_words_lem = t.node_words_lem; slot_words_lem = l.slot_words_lem; work_words = l.work_words }

pub step_lengths : (s : Store) (c : Call) → SameLengths s c (step s c)
unfolding step decide refuse
step_lengths s c = go (input s c) (room s c) refl refl
  where
    go : (o q : Option ℕ) → input s c ≡ o → room s c ≡ q → SameLengths s c (decide o q s c)
    go (some n) q e r = record { term_words_lem = refl; node_words_lem = refl; slot_words_lem = refl; work_words = refl }
    go none (some n) e r = record { term_words_lem = refl; node_words_lem = refl; slot_words_lem = refl; work_words = refl }
    go none none e r = let (g, a) = input_none s c e in accept_lengths s c g a r
