-- The entries of the start, as the loop that copies them leaves them.
use Rattle.std.specs.Prelude.{◌≡◌, refl, List, [], ◌∷◌, ◌++◌, map, get_or, set, ℕ, ◌+◌, ◌*◌, ◌/◌, ◌<◌, ◌≤◌}
use Rattle.std.proofs.Common.{ap, ap₂, sym, ◌∙◌, length-set, add-one, arith}
use Rattle.std.proofs.lemmas.List.{map-append}
use Rattle.std.proofs.Math.ListN.{length}
use Rattle.term_spec.specs.Words.{Lies, decode, record_at, write, count, records}
use Rattle.term_spec.proofs.WordsLaws.{run_lays, decode-snoc, decode-write, write-length}
use Rattle.term_spec.specs.Term.{Run, run_layout}
use Rattle.match_spec.specs.Pattern.{Binding, binding_layout, bound_run, name_limit}
use Rattle.match_spec.specs.Walk.{walk}
use Rattle.items.specs.ItemLaws.{binding_read}
use Rattle.items.specs.declared.Binding.{Binding as CodeBinding}
use Rattle.items.specs.Records.{as_binding}
use Rattle.words.specs.Records.{SmallRun}
use Rattle.steps.specs.State.{Place, stack_of, level_of, levels_of, entries_of, EntryRoom}
use Rattle.steps.specs.ArrayLaws.{entries_more}
use Rattle.matcher.specs.Ready.{Given, reading_of, pattern_from, events_from}
use Rattle.listing.specs.Match.{events_at}

-- The runs of the first i bindings are the first i entries.
pub record Copied (bindings binds : List ℕ) (i : ℕ) : Type 0 where
  pub below : i ≤ length bindings / 5
  pub room : EntryRoom binds
  pub same : decode run_layout i binds ≡ map bound_run (decode binding_layout i bindings)

pub copied_none : (bindings binds : List ℕ) → EntryRoom binds → Copied bindings binds 0
unfolding decode
copied_none bindings binds h = record { below = omega arith; room = h; same = refl }

-- a binding's run is its last two words
bound_read : (w : List ℕ) (i : ℕ)
    → ◌≡◌ {A = Run} (record { start = get_or w (5 * i + 3) 0; len = get_or w (5 * i + 4) 0 }) (bound_run (record_at binding_layout w i))
bound_read w i =
    let e : 5 * i ≡ i * 5 = omega arith in
    rw e (ap bound_run (binding_read w i refl refl refl refl refl))

-- A binding that is read has a run that fits.
pub small_bound : (w : List ℕ) (i : ℕ) (b : CodeBinding) → ((k : ℕ) → get_or w k 0 < 4294967296) → as_binding b ≡ record_at binding_layout w i
    → SmallRun (record { start = b.start; len = b.len })
small_bound w i b fits h =
    let p = i * binding_layout.width in
    let e = h ∙ sym (binding_read w i refl refl refl refl refl) in
    let s : b.start ≡ get_or w (p + 3) 0 = ap (λ (z : Binding). z.start) e in
    let l : b.len ≡ get_or w (p + 4) 0 = ap (λ (z : Binding). z.len) e in
    record { start = omega (arith, s, fits (p + 3)); len = omega (arith, l, fits (p + 4)) }

module _ (bindings binds : List ℕ) (i : ℕ) (c : Copied bindings binds i) where
  pub copied_next : i < length bindings / 5 → length bindings < (name_limit + 1) * binding_layout.width → (b : CodeBinding)
      → as_binding b ≡ record_at binding_layout bindings i
      → Copied bindings (write run_layout binds i (record { start = b.start; len = b.len } ∷ [])) (i + 1)
  copied_next h few b e =
      let room : Lies run_layout binds (i + 1) = omega (arith, c.room) in record {
        below = omega arith;
        room = rw (write-length run_layout run_lays binds i _ room) c.room;
        same =
            decode-write run_layout run_lays binds i _ (omega (arith, c.room))
            ∙ ap₂ (λ x y. x ++ (y ∷ [])) c.same (ap bound_run e)
            ∙ sym (map-append bound_run (decode binding_layout i bindings) (record_at binding_layout bindings i ∷ []))
            ∙ ap (map bound_run) (sym (decode-snoc binding_layout i bindings) ∙ ap (λ k. decode binding_layout k bindings) (sym (add-one i)));
      }

  -- the same where the two words are written
  pub copied_more : i < length bindings / 5 → length bindings < (name_limit + 1) * binding_layout.width
      → Copied bindings (set (set binds (2 * i) (get_or bindings (5 * i + 3) 0)) (2 * i + 1) (get_or bindings (5 * i + 4) 0)) (i + 1)
  copied_more h few = record {
    below = omega arith;
    room = simp length-set c.room;
    same =
        entries_more binds i _ _ (omega (arith, c.room))
        ∙ ap₂ (λ x y. x ++ (y ∷ [])) c.same (bound_read bindings i)
        ∙ sym (map-append bound_run (decode binding_layout i bindings) (record_at binding_layout bindings i ∷ []))
        ∙ ap (map bound_run) (sym (decode-snoc binding_layout i bindings) ∙ ap (λ k. decode binding_layout k bindings) (sym (add-one i)));
  }

  pub copied_all : length bindings / 5 ≤ i → decode run_layout (count binding_layout bindings) binds ≡ map bound_run (records binding_layout bindings)
  unfolding records count
  copied_all h = let e : length bindings / 5 ≡ i = omega (arith, c.below) in rw e c.same

-- Where the walk starts: there is no level around, and the entries are the start's.
pub start-levels : (st : Place) → st.depth ≡ 0 → levels_of st ≡ level_of st ∷ []
unfolding stack_of
start-levels st e = ap (λ n. level_of st ∷ stack_of n st.levels) e

pub start_entries : (bindings : List ℕ) (st : Place) → st.bound ≡ length bindings / 5
    → decode run_layout (count binding_layout bindings) st.binds ≡ map bound_run (records binding_layout bindings)
    → entries_of st ≡ map bound_run (records binding_layout bindings)
unfolding count
start_entries bindings st e h = ap (λ n. decode run_layout n st.binds) e ∙ h

-- The events of the walk from there.
pub start_events : (v : Given) (st : Place) {r : Run} {start : List Run} → levels_of st ≡ r ∷ [] → entries_of st ≡ start
    → events_at v r start ≡ events_from v 0 st
start_events v st el ee = ap₂ (walk (reading_of v) (pattern_from v 0)) (sym el) (sym ee)
