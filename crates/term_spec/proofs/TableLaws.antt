-- A table has an entry for each record, made from the entries below it; records added at the end change none of them.
use Rattle.std.specs.Prelude.{◌≡◌, length, get_or, take}
use Rattle.std.proofs.Math.Path.{refl, ap, sym}
use Rattle.std.proofs.Common.{◌∙◌, take_at, length-take-le, arith, add-zero}
use mathlib.Core.List.{List, [], ◌∷◌, ◌++◌, append-nil}
use Rattle.std.proofs.Math.ListN.{length-append}
use Rattle.std.proofs.Math.Seq.{append_snoc}
use Rattle.std.proofs.lemmas.List.{get_or_at}
use Prim.Native.Nat.{ℕ, suc, zero, ◌+◌, ◌≤◌, ◌<◌}
use Rattle.term_spec.specs.Table.{table}

seam_at : {B : Type 0} {X : List B} (below : List B) (y : B) (new : List B) (j : ℕ) (d : B) → X ≡ (below ++ (y ∷ [])) ++ new → length below ≡ j → get_or X j d ≡ y
seam_at below y new j d e q = rw (e, append_snoc) (get_or_at below y new d j q)

seam_take : {B : Type 0} {X : List B} (below : List B) (y : B) (new : List B) (j : ℕ) → X ≡ (below ++ (y ∷ [])) ++ new → length below ≡ j → take j X ≡ below
seam_take below y new j e q = rw (e, append_snoc) (take_at below (y ∷ new) j q)

module _ {A B : Type 0} (f : A → List B → B) where
  pub table-append : (rs qs : List A) (below : List B) → table f (rs ++ qs) below ≡ table f qs (table f rs below)
  unfolding table
  table-append [] qs below = refl
  table-append (r ∷ rs) qs below = table-append rs qs (below ++ (f r below ∷ []))

  pub table-grows : (rs : List A) (below : List B) → (new : List B) × (table f rs below ≡ below ++ new)
  unfolding table
  table-grows [] below = ([], sym (append-nil below))
  table-grows (r ∷ rs) below = let (new, e) = table-grows rs (below ++ (f r below ∷ [])) in (f r below ∷ new, e ∙ append_snoc below (f r below) new)

  pub table-length : (rs : List A) (below : List B) → length (table f rs below) ≡ length below + length rs
  unfolding table
  table-length [] below = sym (add-zero (length below))
  table-length (r ∷ rs) below = table-length rs (below ++ (f r below ∷ [])) ∙ simp length-append (omega arith)

  pub table_at : (rs : List A) (below : List B) (i j : ℕ) (r₀ : A) (d : B) → i < length rs → j ≡ length below + i
      → get_or (table f rs below) j d ≡ f (get_or rs i r₀) (take j (table f rs below))
  unfolding table
  table_at [] below i j r₀ d h e = absurd (omega arith)
  table_at (r ∷ rs) below zero j r₀ d h e = let (new, q) = table-grows rs (below ++ (f r below ∷ [])) in
      seam_at below (f r below) new j d q (omega arith) ∙ ap (f r) (sym (seam_take below (f r below) new j q (omega arith)))
  table_at (r ∷ rs) below (suc i) j r₀ d h e = table_at rs (below ++ (f r below ∷ [])) i j r₀ d (omega arith) (simp length-append (omega arith))

  -- a longer store means the same below
  pub table_kept : (rs qs : List A) → (new : List B) × (table f (rs ++ qs) [] ≡ table f rs [] ++ new)
  table_kept rs qs = let (new, e) = table-grows qs (table f rs []) in (new, table-append rs qs [] ∙ e)

  pub table_below : (rs : List A) (i : ℕ) → i ≤ length rs → length (take i (table f rs [])) ≡ i
  table_below rs i le = length-take-le i (table f rs []) (omega (arith, table-length rs []))
