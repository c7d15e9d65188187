-- Demand 3, proved: the theorem `demand3` at the end holds of every list of calls.
use Rattle.std.specs.Prelude.{◌≡◌, refl, ◌⊎◌, T, length, take, drop, ℕ, suc, zero}
use Rattle.std.proofs.Common.{ap, ap₂, sym, ◌∙◌, subst, inl, inr, take_all, arith}
use mathlib.Core.List.Memᴰ
use mathlib.Core.List.{List, [], ◌∷◌, ◌++◌, map, Memᴰ}
use Rattle.std.proofs.Math.Option.{some, none}
use Rattle.std.proofs.Math.ListN.{get_elem?}
use Rattle.std.proofs.lemmas.List.{length-map}
use Rattle.term_spec.proofs.ListLaws.{All, all-at, maps_same, take-at?, prefix_take}
use Rattle.term_spec.specs.Value.{Value, forms}
use Rattle.view_spec.specs.Node.{Field, field_rule, holds}
use Rattle.view_spec.specs.Build.{if_dec}
use Rattle.match_spec.specs.Element.{Env, canon_e}
use Rattle.match_spec.specs.Pattern.{elements, binding_names, number}
use Rattle.match_spec.specs.Consistent.{set_form, Before, Sorted, open_lengths}
use Rattle.match_spec.specs.Listing.{candidates}
use Rattle.match_spec.specs.Answer.{allOfThem}
use Rattle.match_spec.proofs.SoundLaws.{Numbered}
use Rattle.match_spec.proofs.OrderLaws.{sorted, lex_irrefl, sorted_once, same_place}
use Rattle.match_spec.proofs.RunLaws.{Inside}
use Rattle.calls_spec.specs.Store.{Store, nodes, spelled, shows, field_terms}
use Rattle.calls_spec.specs.Step.{Request, Call, call_match, built, Effect, quiet, making, effect_of, items, bindings, numbered_pattern, start_runs}
use Rattle.calls_spec.specs.Step.{arguments, input, room, step}
use Rattle.calls_spec.specs.Demand3.{Moment, trace, final, Start, Model, same_field?, model_terms, Entry, says, joins, takes, drops, slices, entered_by}
use Rattle.calls_spec.specs.Demand3.{entry, entered, enter_by, enter_model, model, Listing, listed_runs, candidates_of, Firsts, Demand3}
use Rattle.calls_spec.proofs.StoreLaws.{Good, Later, later_refl, later_trans}
use Rattle.calls_spec.proofs.StepLaws.{input_none, Stepped, stepped}
use Rattle.calls_spec.proofs.ListingLaws.{Checked, checked, every_one, start_terms, counted, consistent_listed, every-sound, wanted, Lists, lists}

-- ---- moments of a list ----

-- What is known of one call of a list: its stores are within the rules, and everything of them stays to the list's end.
pub record Fact (s : Store) (calls : List Call) (m : Moment) : Type 0 where
  pub good : Good m.before
  pub after_is : m.after ≡ step m.before m.call
  pub toward : Later m.before m.after.store
  pub onward : Later m.after.store (final s calls)

final_later : (s : Store) (calls : List Call) → Good s → Later s (final s calls)
unfolding final
final_later s [] g = later_refl s g
final_later s (c ∷ cs) g = let z = stepped s c g in later_trans z.later (final_later (step s c).store cs z.later.good)

pub fact : (s : Store) (calls : List Call) (m : Moment) → Good s → Memᴰ m (trace s calls) → Fact s calls m
unfolding trace final
fact s [] m g i = absurd (Memᴰ.not-nil i)
fact s (c ∷ cs) m g i = go (stepped s c g) (λ h k. fact (step s c).store cs m h k) (Memᴰ.cases_cons i)
  where
    go : Stepped s c (step s c) → (Good (step s c).store → Memᴰ m (trace (step s c).store cs) → Fact (step s c).store cs m)
        → (m ≡ record { before = s; call = c; after = step s c }) ⊎ Memᴰ m (trace (step s c).store cs) → Fact s (c ∷ cs) m
    go z rec (inl e) = subst (Fact s (c ∷ cs)) (sym e) (record {
      good = g;
      after_is = refl;
      toward = z.later;
      onward = final_later (step s c).store cs
          z.later.good;
    })
    go z rec (inr k) = let f = rec z.later.good k in record { good = f.good; after_is = f.after_is; toward = f.toward; onward = f.onward }

-- ---- the model ----

-- Every entry is what its field holds.
abbrev True : Model → Store → Type 0
True b s = All (λ e. T (field_rule (nodes s) e.0) × (field_terms s e.0 ≡ e.1)) b

same-holds : (s : Store) (f k : Field) → (f.node ≡ k.node) × (f.len ≡ k.len) → field_terms s f ≡ field_terms s k
unfolding field_terms
same-holds s f k (p, q) = ap₂ (λ n l. holds (spelled s) (nodes s) (record { node = n; len = l })) p q

model-true : (b : Model) (s : Store) (f : Field) → True b s → model_terms b s f ≡ field_terms s f
unfolding model_terms All if_dec
model-true [] s f t = refl
model-true (e ∷ b) s f t = go (same_field? f e.0) (model-true b s f t.1)
  where
    go : (d : Dec ((f.node ≡ e.0.node) × (f.len ≡ e.0.len))) → model_terms b s f ≡ field_terms s f → if_dec d e.1 (model_terms b s f) ≡ field_terms s f
    go (yes h) ih = sym t.0.1 ∙ sym (same-holds s f e.0 h)
    go (no h) ih = ih

entry-same : (h k : Field → List Value) (x : Entry) → ((f : Field) → h f ≡ k f) → entered_by h x ≡ entered_by k x
unfolding entered_by
entry-same h k (says vs) e = refl
entry-same h k (joins f g) e = ap₂ ◌++◌ (e f) (e g)
entry-same h k (takes f n) e = ap (take n) (e f)
entry-same h k (drops f n) e = ap (drop n) (e f)
entry-same h k (slices f a n) e = ap (λ z. take n (drop a z)) (e f)

true_later : (b : Model) (s t : Store) → Later s t → True b s → True b t
unfolding All
true_later [] s t l h = tt
true_later (e ∷ b) s t l h = let (i, q) = l.fields e.0 h.0.0 in ((i, q ∙ h.0.1), true_later b s t l h.1)

enter-true : (x : Effect) (b : Model) (s t : Store) (c : Call) → True b s → Later s t
    → ((f : Field) → x ≡ making f → T (field_rule (nodes t) f) × (field_terms t f ≡ entered (field_terms s) s c))
    → True (enter_by x b (entered (model_terms b s) s c)) t
unfolding enter_by All
enter-true quiet b s t c h l k = true_later b s t l h
enter-true (making f) b s t c h l k =
    let (g, q) = k f refl in
    ((g, q ∙ sym (entry-same (model_terms b s) (field_terms s) (entry s c) (λ z. model-true b s z h))), true_later b s t l h)

all_true : (b : Model) (s : Store) (calls : List Call) → Good s → True b s → True (model b (trace s calls)) (final s calls)
unfolding model trace final
all_true b s [] g t = t
all_true b s (c ∷ cs) g t =
    let z = stepped s c g in
    all_true (enter_model (step s c).answer b s c) (step s c).store cs z.later.good
    (enter-true (effect_of (step s c).answer) b s (step s c).store c t z.later z.builds)

enter-more : (x : Effect) (b : Model) (vs : List Value) (e : Field × List Value) → Memᴰ e b → Memᴰ e (enter_by x b vs)
unfolding enter_by
enter-more quiet b vs e i = i
enter-more (making f) b vs e i = Memᴰ.tail i

entered_at : (x : Effect) (b : Model) (vs : List Value) (f : Field) → x ≡ making f → Memᴰ (f, vs) (enter_by x b vs)
unfolding enter_by
entered_at quiet b vs f e = absurd (let z : ◌≡◌ {A = ℕ} 0 1 = cc in omega arith)
entered_at (making k) b vs f e = let q : f ≡ k = cc in Memᴰ.head (ap (λ z. (z, vs)) q)

model-keeps : (b : Model) (ms : List Moment) (e : Field × List Value) → Memᴰ e b → Memᴰ e (model b ms)
unfolding model
model-keeps b [] e i = i
model-keeps b (m ∷ ms) e i = model-keeps (enter_by (effect_of m.after.answer) b _) ms e (enter-more (effect_of m.after.answer) b _ e i)

model_has : (b : Model) (ms : List Moment) (m : Moment) (f : Field) → Memᴰ m ms → m.after.answer ≡ built f
    → (ts : List Value) × Memᴰ (f, ts) (model b ms)
unfolding model effect_of
model_has b [] m f i e = absurd (Memᴰ.not-nil i)
model_has b (k ∷ ms) m f i e = go (λ j. model_has (enter_model k.after.answer b k.before k.call) ms m f j e) (Memᴰ.cases_cons i)
  where
    go : (Memᴰ m ms → (ts : List Value) × Memᴰ (f, ts) (model (enter_model k.after.answer b k.before k.call) ms)) → (m ≡ k) ⊎ Memᴰ m ms
        → (ts : List Value) × Memᴰ (f, ts) (model (enter_model k.after.answer b k.before k.call) ms)
    go rec (inr j) = rec j
    go rec (inl q) = (
      entered (model_terms b k.before) k.before k.call,
      model-keeps _ ms _ (entered_at (effect_of k.after.answer) b _ f (ap (λ z. effect_of z.after.answer) (sym q) ∙ ap effect_of e)),
    )

model-entry : (b : Model) (s other : Store) (f : Field) (ts : List Value) → True b s → Memᴰ (f, ts) b → field_terms s f ≡ model_terms b other f
unfolding model_terms All if_dec
model-entry [] s other f ts t m = absurd (Memᴰ.not-nil m)
model-entry (e ∷ b) s other f ts t m = go (same_field? f e.0) (λ k. model-entry b s other f ts t.1 k) (Memᴰ.cases_cons m)
  where
    go : (d : Dec ((f.node ≡ e.0.node) × (f.len ≡ e.0.len))) → (Memᴰ (f, ts) b → field_terms s f ≡ model_terms b other f)
        → ((f, ts) ≡ e) ⊎ Memᴰ (f, ts) b
        → field_terms s f ≡ if_dec d e.1 (model_terms b other f)
    go (yes h) rec i = same-holds s f e.0 h ∙ t.0.1
    go (no h) rec (inr k) = rec k
    go (no h) rec (inl q) = absurd (h (ap (λ z. z.0.node) q, ap (λ z. z.0.len) q))

-- ---- the listings ----

moment_args : (m : Moment) (r : Request) → Listing r m → arguments m.before (call_match allOfThem r) ≡ none
moment_args m r l = (input_none m.before (call_match allOfThem r) (subst (λ z. input m.before z ≡ none) l.called l.within)).1

moment-lists : (s : Store) (calls : List Call) (m : Moment) (r : Request) → Fact s calls m → Listing r m → Lists m.before allOfThem r m.after
moment-lists s calls m r f l = subst (Lists m.before allOfThem r) (sym (f.after_is ∙ ap (step m.before) l.called))
    (lists m.before allOfThem r f.good (moment_args m r l) (subst (λ z. input m.before z ≡ none) l.called l.within))

forms-length : (s : Store) (r : Request) → length (set_form (start_terms s r)) ≡ length (start_runs r)
forms-length s r = length-map (start_terms s r) forms ∙ length-map (start_runs r) (shows s)

counted_terms : (s : Store) (r : Request) → Numbered (numbered_pattern s r) (length (set_form (start_terms s r)))
counted_terms s r = subst (Numbered (numbered_pattern s r)) (sym (forms-length s r)) (counted s r)

every-sorted : (s : Store) (r : Request) → Sorted (Before (numbered_pattern s r) (length (set_form (start_terms s r)))) (every_one s r)
every-sorted s r = sorted (numbered_pattern s r) (forms (field_terms s r.field) ∷ []) (set_form (start_terms s r)) (counted_terms s r)

firsts_of : (s : Store) (calls : List Call) (m : Moment) (r : Request) → Fact s calls m → Listing r m → Firsts r m
unfolding candidates_of listed_runs Before wanted
firsts_of s calls m r f l =
    let k = moment-lists s calls m r f l in
    let (n, e) = k.some_first in
    let so = every-sorted m.before r in
    record {
      all = every_one m.before r;
      complete = λ B h. (consistent_listed m.before r B).1 h;
      sound = every-sound m.before r f.good (checked m.before allOfThem r (moment_args m r l));
      order = subst (λ z. Sorted (Before (numbered_pattern m.before r) z) (every_one m.before r)) (forms-length m.before r) so;
      once = λ i j B a b. sorted_once (Before (numbered_pattern m.before r) (length (set_form (start_terms m.before r))))
          (λ x. lex_irrefl (open_lengths (numbered_pattern m.before r) (length (set_form (start_terms m.before r))) x)) (every_one m.before r) i j so a b;
      first = e ∙ prefix_take n (every_one m.before r) ∙ ap (λ z. take (length z) (every_one m.before r)) (sym e)
          ∙ ap (λ z. take z (every_one m.before r)) (length-map (map (map (shows m.after.store)) (listed_runs m)) set_form);
      fill = λ q. k.filled (subst (λ z. room m.before z ≡ none) l.called q);
      suffice = λ q le. k.filled (subst (λ z. room m.before z ≡ none) l.called q) ∙ take_all _ (every_one m.before r) le;
    }

at_map : {A B : Type 0} (f : A → B) (l : List A) (i : ℕ) {x : A} → get_elem? l i ≡ some x → get_elem? (map f l) i ≡ some (f x)
at_map f [] i e = cc
at_map f (y ∷ l) zero e = cc
at_map f (y ∷ l) (suc i) e = at_map f l i e

start-kept : (s t : Store) (r : Request) → Later s t → Checked s r → start_terms t r ≡ start_terms s r
start-kept s t r l c = maps_same (Inside s.terms_used) (shows t) (shows s) (start_runs r) c.inside (λ q h. (l.runs q h).1)

-- a listed candidate stands at the same place among the extensions that the list's end has
from_end : (s : Store) (calls : List Call) (m : Moment) (r : Request) (i : ℕ) (A : Env) → Fact s calls m → Listing r m
    → get_elem? (candidates_of m) i ≡ some A → get_elem? (every_one (final s calls) r) i ≡ some (set_form A)
unfolding candidates_of listed_runs
from_end s calls m r i A f l a =
    let k = moment-lists s calls m r f l in
    let (n, e) = k.some_first in
    let c = checked m.before allOfThem r (moment_args m r l) in
    let way = later_trans f.toward f.onward in
    let b = take-at? n (every_one m.before r) i (ap (λ z. get_elem? z i) (sym e) ∙ at_map set_form (candidates_of m) i a) in
    ap (λ z. get_elem? (candidates (number (map canon_e (elements z (items r))) (binding_names z (bindings r)))
    (forms (field_terms (final s calls) r.field) ∷ []) (set_form (start_terms (final s calls) r))) i) way.same_names
    ∙ ap₂ (λ x y. get_elem? (candidates (numbered_pattern m.before r) (forms x ∷ []) (set_form y)) i) (way.fields r.field c.field).1
    (start-kept m.before (final s calls) r way c) ∙ b

stay_of : (s : Store) (calls : List Call) (m : Moment) (r : Request) → Fact s calls m → Listing r m
    → candidates_of m ≡ map (map (shows (final s calls))) (listed_runs m)
unfolding candidates_of listed_runs
stay_of s calls m r f l =
    maps_same (All (Inside m.after.store.terms_used)) (map (shows m.after.store)) (map (shows (final s calls))) (listed_runs m)
    (moment-lists s calls m r f l).inside
    (λ A a. maps_same (Inside m.after.store.terms_used) (shows m.after.store) (shows (final s calls)) A a (λ q h. sym (f.onward.runs q h).1))

-- ---- demand 3, whole ----

pub demand3 : (s : Store) (calls : List Call) → Start s → Demand3 s calls
unfolding All
demand3 s calls z = record {
  entries = λ f ts i. (all-at _ (model [] (trace s calls)) (f, ts) holds-all i).1;
  entry_made = λ m f i e. model_has [] (trace s calls) m f i e;
  fields = λ m f other i e. let (ts, j) = model_has [] (trace s calls) m f i e in model-entry (model [] (trace s calls)) (final s calls) other f ts holds-all j;
  agree = λ m m' F G pattern bindings slots slots' i i' l l' k j A B a b.
      same_place (numbered_pattern (final s calls) (ask F pattern bindings)) (forms (field_terms (final s calls) F)) (forms (field_terms (final s calls) G))
      (set_form (start_terms (final s calls) (ask F pattern bindings))) k j (set_form A) (set_form B) (counted_terms (final s calls) (ask F pattern bindings))
      (from_end s calls m _ k A (fact s calls m good i) l a) (from_end s calls m' _ j B (fact s calls m' good i') l' b);
  stay = λ m r i l. stay_of s calls m r (fact s calls m good i) l;
  firsts = λ m r i l. firsts_of s calls m r (fact s calls m good i) l;
}
  where
    good : Good s
    good = record { counts = z.counts; good-terms = z.good-terms; good-nodes = z.good-nodes }

    holds-all : True (model [] (trace s calls)) (final s calls)
    holds-all = all_true [] s calls good tt

    ask : Field → List ℕ → List ℕ → Request
    ask F pattern bindings = record { field = F; pattern = pattern; bindings = bindings; slots = [] }
