-- Laws of `flat_part`, and that it shows after flatten what the field holds.
use Rattle.std.specs.Prelude.{◌≡◌, Result, Ok, Err, List, [], take, drop, ℕ, ◌+◌, ◌*◌, ◌-◌, ◌/◌, ◌<◌, ◌≤◌}
use Rattle.std.proofs.Math.Path.{refl, ap, sym}
use Rattle.std.proofs.Common.{◌∙◌, le-leb, length-drop}
use Rattle.std.proofs.lemmas.Bool.{lt-leb}
use Rattle.std.proofs.Math.ListN.{length}
use native.Mathlib.Omega.{arith}
use Rattle.term_spec.specs.Words.{decode, count, write, Lies}
use Rattle.term_spec.proofs.WordsLaws.{term_lays, decode-length, decode-take, decode-part, decode-write, write-length}
use Rattle.term_spec.proofs.ListLaws.{part_length}
use Rattle.term_spec.proofs.TermLaws.{run_facts}
use Rattle.term_spec.specs.Term.{Term, term_layout, Run}
use Rattle.view_spec.specs.Node.{Field, holds}
use Rattle.view_spec.proofs.NodeLaws.{facts_field}
use Rattle.view_spec.specs.Read.{Place, stored, scattered, place, copy_at}
use Rattle.view_spec.proofs.ReadLaws.{place-shows}
use Rattle.calls_spec.specs.Store.{Store, terms, nodes}
use Rattle.calls_spec.specs.Step.{Answer, refused, in_store, in_work, shown_by, flat_answer, flat_work}
use Rattle.view.specs.StepLaws.{Usable}
use Rattle.words.specs.declared.refusal.Refusal.{Refusal}
use Rattle.words.specs.Refusals.{spec_number}
use Rattle.view_read.specs.declared.Flat.{Flat}
use Rattle.view_read.specs.Read.{flat_of, flat_by, part_of, run_words, shown_words, flat_words}
use Rattle.view_read.specs.PlaceLaws.{copy-length}

-- ---- the words of a run ----

module _ (w : List ℕ) (r : Run) where
  run_past : length w / term_layout.width < r.start + r.len → [] ≡ run_words w r
  unfolding run_words part_of count
  run_past h = rw (lt-leb (r.start + r.len) (length w / term_layout.width) h) refl

  run_inside : r.start + r.len ≤ length w / term_layout.width → take (r.len * term_layout.width) (drop (r.start * term_layout.width) w) ≡ run_words w r
  unfolding run_words part_of count
  run_inside h = rw (le-leb (r.start + r.len) (length w / term_layout.width) h) refl

  -- the records of a run's words
  run-records : r.start + r.len ≤ length w / term_layout.width → decode term_layout r.len (run_words w r) ≡ decode term_layout r.len (drop (r.start * term_layout.width) w)
  run-records h =
      ap (decode term_layout r.len) (sym (run_inside h)) ∙ decode-take term_layout r.len (drop (r.start * term_layout.width) w) (rw length-drop (omega arith))

-- ---- what `flat_part` shows, by the answer ----

module _ (terms work : List ℕ) {a : Answer} where
  module _ (r : Run) (e : a ≡ in_store r) where
    pub stored_past : length terms / term_layout.width < r.start + r.len → [] ≡ flat_words a terms work
    unfolding flat_words shown_by shown_words
    stored_past h = rw e (run_past terms r h)

    pub stored_inside : r.start + r.len ≤ length terms / term_layout.width
        → take (r.start * term_layout.width + r.len * term_layout.width - r.start * term_layout.width) (drop (r.start * term_layout.width) terms) ≡ flat_words a terms work
    unfolding flat_words shown_by shown_words
    stored_inside h =
        let z : r.start * term_layout.width + r.len * term_layout.width - r.start * term_layout.width ≡ r.len * term_layout.width = omega arith in
        rw (e, z) (run_inside terms r h)

  module _ (n : ℕ) (e : a ≡ in_work n) where
    pub work_past : length work / term_layout.width < n → [] ≡ flat_words a terms work
    unfolding flat_words shown_by shown_words
    work_past h = rw e (run_past work (record { start = 0; len = n }) (omega arith))

    pub work_inside : n ≤ length work / term_layout.width → take (n * term_layout.width - 0) work ≡ flat_words a terms work
    unfolding flat_words shown_by shown_words
    work_inside h =
        let z : n * term_layout.width - 0 ≡ n * term_layout.width = omega arith in
        rw (e, z) (run_inside work (record { start = 0; len = n }) (omega arith))

  pub refused_none : (n : ℕ) → a ≡ refused n → [] ≡ flat_words a terms work
  unfolding flat_words shown_by shown_words
  refused_none n e = rw e refl

-- The refusals of the code are told by 01's numbers.
pub flat_told : (f : Result Flat Refusal) → flat_by spec_number f ≡ flat_of f
unfolding flat_by flat_of
flat_told (Ok f) = refl
flat_told (Err r) = refl

-- ---- `flat_part` after flatten ----

module _ (s : Store) (f : Field) (w : List ℕ) (u : Usable s f) where
  -- What the field holds, so many terms.
  abbrev held : List Term
  held = holds (terms s) (nodes s) f

  held-length : length held ≡ f.len
  unfolding terms nodes
  held-length = copy-length s.term_words s.terms_used s.node_words s.nodes_used f u.store u.low u.within

  stored_shows : (r : Run) → place (nodes s) f ≡ stored r → decode term_layout f.len (run_words s.term_words r) ≡ held
  unfolding terms nodes
  stored_shows r p =
      let (x, y) = place-shows (terms s) (nodes s) f r (rw decode-length u.store.good) (facts_field (nodes s) f (rw decode-length u.low) u.within) p in
      let inside : r.start + r.len ≤ length (terms s) = run_facts (length (terms s)) r y in
      let used : length (terms s) ≡ s.terms_used = decode-length term_layout s.terms_used s.term_words in
      let fits : Lies term_layout s.term_words s.terms_used = u.values.fits in
      let n : f.len ≡ r.len = sym held-length ∙ ap length (sym x) ∙ part_length (terms s) r.start r.len inside in
      ap (λ k. decode term_layout k (run_words s.term_words r)) n ∙ run-records s.term_words r (omega arith)
      ∙ sym (decode-part term_layout s.terms_used r.start r.len s.term_words (omega arith)) ∙ x

  copy_shows : f.len ≤ count term_layout w → decode term_layout f.len (run_words (write term_layout w 0 held) (record { start = 0; len = f.len })) ≡ held
  unfolding count decode
  copy_shows h =
      let z : f.len ≡ 0 + length held = omega (arith, held-length) in
      let l : length (write term_layout w 0 held) ≡ length w = write-length term_layout term_lays w 0 held (omega (arith, held-length)) in
      run-records (write term_layout w 0 held) (record { start = 0; len = f.len }) (omega arith)
      ∙ ap (λ k. decode term_layout k (write term_layout w 0 held)) z ∙ decode-write term_layout term_lays w 0 held (omega arith)

  -- The words that `flat_part` shows after an accepted flatten are those of the field's terms.
  pub flat_shows : (place (nodes s) f ≡ scattered → f.len ≤ count term_layout w)
      → decode term_layout f.len (flat_words (flat_answer f (place (nodes s) f)) s.term_words (flat_work s f w (place (nodes s) f)))
      ≡ holds (terms s) (nodes s) f
  unfolding flat_answer flat_work flat_words shown_by shown_words copy_at
  flat_shows room = by_place (place (nodes s) f) refl
    where
      by_place : (p : Place) → place (nodes s) f ≡ p → decode term_layout f.len (flat_words (flat_answer f p) s.term_words (flat_work s f w p)) ≡ held
      by_place (stored r) e = stored_shows r e
      by_place scattered e = rw e (copy_shows (room e))
