-- Runs of a term store as levels of the walk: they read as the walk wants, keep what they show, and stay within the store.
use Rattle.std.specs.Prelude.{◌≡◌, get_or, take, drop, ℕ, suc, zero, ◌+◌, ◌-◌, ◌≤◌, ◌<◌}
use Rattle.std.proofs.Math.Path.{refl, ap}
use Rattle.std.proofs.Common.{sym, ◌∙◌, drop-drop, arith}
use mathlib.Core.List.{List, [], ◌∷◌, ◌++◌, head-eq_of_cons-eq, nil≢cons}
use Rattle.std.proofs.Math.Option.{some}
use Rattle.std.proofs.Math.ListN.{length, length-map, length-take}
use Rattle.term_spec.specs.Term.{Term, Run, no_run, no_term, part, contents_run}
use Rattle.term_spec.specs.Value.{Value, char, bracketed, contents, canon, forms, value_k, value_of, values}
use Rattle.term_spec.proofs.ListLaws.{map-take, map-drop, take_within, drop-take, part-below, All}
use Rattle.term_spec.proofs.TableLaws.{table_at, table-length}
use Rattle.term_spec.proofs.TermLaws.{Valid, values-part}
use Rattle.term_spec.proofs.ValueLaws.{contents-bracketed, none_some, contents_canon}
use Rattle.match_spec.specs.Element.{Element, Level}
use Rattle.match_spec.specs.Walk.{cells_of, runs, walk, hits}
use Rattle.match_spec.proofs.WalkLaws.{Reads}
use Rattle.match_spec.proofs.KeepLaws.{walk-keeps}

-- ---- how runs read ----

-- A value that is a bracket is a term of kind 3, and its contents are the run of it.
contents_of : (k : ℕ) (text : List ℕ) (t : Term) (below l : List Value) → contents (value_k k text t below) ≡ some l
    → (k ≡ 3) × (l ≡ part below (contents_run t))
unfolding value_k contents
contents_of zero text t below l e = absurd (none_some e)
contents_of (suc zero) text t below l e = absurd (none_some e)
contents_of (suc (suc zero)) text t below l e = absurd (none_some e)
contents_of (suc (suc (suc zero))) text t below l e = (refl, cc (contents-bracketed (part below (contents_run t))))
contents_of (suc (suc (suc (suc n)))) text t below l e = absurd (none_some e)

first_of : (X : List Value) (s n : ℕ) (w : Value) (c : List Value) (d : Value) → forms (take n (drop s X)) ≡ w ∷ c → (s < length X) × (canon (get_or X s d) ≡ w)
first_of [] zero zero w c d e = absurd (nil≢cons e)
first_of [] zero (suc n) w c d e = absurd (nil≢cons e)
first_of (x ∷ X) zero zero w c d e = absurd (nil≢cons e)
first_of (x ∷ X) zero (suc n) w c d e = (omega arith, head-eq_of_cons-eq e)
first_of [] (suc s) zero w c d e = absurd (nil≢cons e)
first_of [] (suc s) (suc n) w c d e = absurd (nil≢cons e)
first_of (x ∷ X) (suc s) n w c d e = let (h, q) = first_of X s n w c d e in (omega arith, q)

module _ (names : List ℕ) (ts : List Term) where
  -- A run that shows a bracket first starts at a term of kind 3.
  bracket_at : (r : Run) (l c : Level) → cells_of names ts r ≡ bracketed l ∷ c
      → (r.start < length ts) × ((get_or ts r.start no_term).kind ≡ 3)
      × (forms (part (take r.start (values names ts)) (contents_run (get_or ts r.start no_term))) ≡ l)
  unfolding cells_of values value_of
  bracket_at r l c e =
      let (h, q) = first_of (values names ts) r.start r.len (bracketed l) c (char 0) e in
      let (m, i, z) = contents_canon (get_or (values names ts) r.start (char 0)) l (rw q (contents-bracketed l)) in
      let lt : r.start < length ts = omega (arith, table-length (value_of names) ts []) in
      let at = table_at (value_of names) ts [] r.start r.start no_term (char 0) lt (omega arith) in
      let (k, y) = contents_of _ _ (get_or ts r.start no_term) _ m (ap contents (sym at) ∙ i) in
      (lt, k, ap forms (sym y) ∙ z)

  inner_shows : Valid ts → (r : Run) (l c : Level) → cells_of names ts r ≡ bracketed l ∷ c → cells_of names ts (contents_run (get_or ts r.start no_term)) ≡ l
  unfolding cells_of Valid
  inner_shows valid r l c e = let (lt, k, z) = bracket_at r l c e in ap forms (sym (part-below (values names ts) _ _ r.start (valid r.start lt k))) ∙ z

  pub front-shows : (k : ℕ) (r : Run) → k ≤ length (cells_of names ts r)
      → cells_of names ts (record { start = r.start; len = k }) ≡ take k (cells_of names ts r)
  unfolding cells_of
  front-shows k r h =
      ap forms (take_within k r.len (drop r.start (values names ts)) (rw length-map at h)) ∙ map-take canon k (take r.len (drop r.start (values names ts)))

  pub back_shows : (k : ℕ) (r : Run) → cells_of names ts (record { start = r.start + k; len = r.len - k }) ≡ drop k (cells_of names ts r)
  unfolding cells_of
  back_shows k r =
      ap (λ z. forms (take (r.len - k) z)) (sym (drop-drop k r.start (values names ts)))
      ∙ ap forms (sym (drop-take k r.len (drop r.start (values names ts)))) ∙ map-drop canon k (take r.len (drop r.start (values names ts)))

  nothing_shows : cells_of names ts no_run ≡ []
  unfolding cells_of
  nothing_shows = refl

  pub runs_read : Valid ts → Reads (runs names ts)
  runs_read valid = record { front_law = front-shows; back_law = λ k r h. back_shows k r; inner_law = inner_shows valid; nothing_law = nothing_shows }

  pub cells_few : (r : Run) → length (cells_of names ts r) ≤ r.len
  unfolding cells_of
  cells_few r = omega (arith, length-map (part (values names ts) r) canon, length-take r.len (drop r.start (values names ts)))

-- A run of the used terms shows the same after terms are added.
pub cells_kept : (names : List ℕ) (ts more : List Term) (r : Run) → r.start + r.len ≤ length ts → cells_of names (ts ++ more) r ≡ cells_of names ts r
unfolding cells_of
cells_kept names ts more r h = ap forms (values-part names ts more r h)

-- ---- runs within the used terms ----

abbrev pub Inside : ℕ → Run → Type 0
Inside used r = r.start + r.len ≤ used

pub inner_inside : (names : List ℕ) (ts : List Term) → Valid ts → (r : Run) (l c : Level) → cells_of names ts r ≡ bracketed l ∷ c
    → Inside (length ts) (contents_run (get_or ts r.start no_term))
unfolding Valid
inner_inside names ts valid r l c e = let (lt, k, z) = bracket_at names ts r l c e in omega (arith, valid r.start lt k)

pub walk_inside : (names : List ℕ) (ts : List Term) → Valid ts → (p : List (Element ℕ)) (ls env : List Run) → All (Inside (length ts)) ls
    → All (Inside (length ts)) env
    → All (All (Inside (length ts))) (hits (walk (runs names ts) p ls env))
walk_inside names ts valid = walk-keeps (runs names ts) (Inside (length ts)) (record {
  front_kept = λ k r le h. omega (arith, cells_few names ts r);
  back_kept = λ k r le h. omega (arith, cells_few names ts r);
  inner_kept = λ r l c e h. inner_inside names ts valid r l c e;
})
