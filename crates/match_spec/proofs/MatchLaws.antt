-- What a listing over runs of a term store lists: the laws of the walk, of runs and of consistent extensions put together.
use Rattle.std.specs.Prelude.{◌≡◌, ◌↔◌, length, ℕ, suc, zero}
use Rattle.std.proofs.Common.{ap, sym, ◌∙◌, subst}
use mathlib.Core.List.{List, [], ◌∷◌, map, Memᴰ}
use Rattle.std.proofs.Math.Option.{some}
use Rattle.std.proofs.Math.ListN.{get_elem?}
use Rattle.std.proofs.lemmas.List.{length-map}
use Rattle.term_spec.specs.Term.{Term, Run, part}
use Rattle.term_spec.specs.Value.{forms, values}
use Rattle.term_spec.proofs.ListLaws.{map-map}
use Rattle.match_spec.specs.Element.{Element, Env, canon_e}
use Rattle.match_spec.specs.Pattern.{Name, number}
use Rattle.match_spec.specs.Consistent.{set_form, Consistent, Before, Sorted}
use Rattle.match_spec.specs.Listing.{candidates}
use Rattle.match_spec.specs.Walk.{cells_of, runs, walk, hits}
use Rattle.match_spec.proofs.SoundLaws.{Numbered}
use Rattle.match_spec.proofs.OrderLaws.{sorted, same_place}
use Rattle.match_spec.proofs.WalkLaws.{walk-lists}
use Rattle.match_spec.proofs.NameLaws.{numbered}
use Rattle.match_spec.proofs.ConsistentLaws.{listed}
use Rattle.match_spec.proofs.RunLaws.{runs_read}
use Rattle.term_spec.proofs.TermLaws.{Valid}

-- ---- the listing of one field ----

-- What the candidates' runs show is the plain listing of what the field's run shows.
pub listing-shows : (names : List ℕ) (ts : List Term) (p : List (Element ℕ)) (r : Run) (env : List Run) → Valid ts → Numbered p (length env)
    → map (map (cells_of names ts)) (hits (walk (runs names ts) p (r ∷ []) env)) ≡ candidates p (cells_of names ts r ∷ []) (map (cells_of names ts) env)
listing-shows names ts p r env valid counted = walk-lists (runs names ts) (runs_read names ts valid) p (r ∷ []) env counted

-- It is in 01's order, and so shows no candidate twice.
pub listing-sorted : (names : List ℕ) (ts : List Term) (p : List (Element ℕ)) (r : Run) (env : List Run) → Valid ts → Numbered p (length env)
    → Sorted (Before p (length env)) (map (map (cells_of names ts)) (hits (walk (runs names ts) p (r ∷ []) env)))
listing-sorted names ts p r env valid counted =
    rw (listing-shows names ts p r env valid counted) (subst (λ n. Sorted (Before p n) (candidates p (cells_of names ts r ∷ []) (map (cells_of names ts) env)))
    (length-map env (cells_of names ts)) (sorted p (cells_of names ts r ∷ []) (map (cells_of names ts) env) (rw length-map counted)))

-- The terms of runs, as spelled.
abbrev pub spelled : List ℕ → List Term → List Run → Env
spelled names ts env = map (part (values names ts)) env

forms-spelled : (names : List ℕ) (ts : List Term) (env : List Run) → set_form (spelled names ts env) ≡ map (cells_of names ts) env
unfolding cells_of
forms-spelled names ts env = map-map forms (part (values names ts)) env

-- It lists the consistent extensions, up to equality of terms.
pub listing_consistent : (names : List ℕ) (ts : List Term) (p : List (Element Name)) (t : List Name) (r : Run) (env : List Run) (B : Env) → Valid ts
    → length env ≡ length t
    → Memᴰ (set_form B) (map (map (cells_of names ts)) (hits (walk (runs names ts) (number (map canon_e p) t) (r ∷ []) env)))
    ↔ Consistent p t (spelled names ts env) (part (values names ts) r) B
unfolding cells_of
listing_consistent names ts p t r env B valid e =
    rw (listing-shows names ts (number (map canon_e p) t) r env valid (rw e (numbered (map canon_e p) t)), ← forms-spelled names ts env)
    (listed p t (spelled names ts env) (part (values names ts) r) B (length-map env (part (values names ts)) ∙ e))

-- ---- two fields under one pattern, in two states of the store ----

at_map : {A B : Type 0} (f : A → B) (l : List A) (i : ℕ) {x : A} → get_elem? l i ≡ some x → get_elem? (map f l) i ≡ some (f x)
at_map f [] i e = cc
at_map f (y ∷ l) zero e = cc
at_map f (y ∷ l) (suc i) e = at_map f l i e

shown-at : (names : List ℕ) (ts : List Term) (p : List (Element ℕ)) (F : Run) (env : List Run) (i : ℕ) (A : List Run) → Valid ts → Numbered p (length env)
    → get_elem? (hits (walk (runs names ts) p (F ∷ []) env)) i ≡ some A
    → get_elem? (candidates p (cells_of names ts F ∷ []) (map (cells_of names ts) env)) i ≡ some (map (cells_of names ts) A)
shown-at names ts p F env i A valid counted a =
    ap (λ z. get_elem? z i) (sym (listing-shows names ts p F env valid counted))
    ∙ at_map (map (cells_of names ts)) (hits (walk (runs names ts) p (F ∷ []) env)) i a

same_length : {A B C : Type 0} (f : A → C) (g : B → C) (l : List A) (m : List B) → map f l ≡ map g m → length l ≡ length m
same_length f g l m e = sym (length-map l f) ∙ ap length e ∙ length-map m g

-- Two candidates are the same exactly when their fields are and they stand at the same place.
pub same-candidates : (names names' : List ℕ) (ts ts' : List Term) (p : List (Element ℕ)) (F G : Run) (env env' : List Run) (i j : ℕ) (A B : List Run)
    → Valid ts → Valid ts' → Numbered p (length env) → map (cells_of names ts) env ≡ map (cells_of names' ts') env'
    → get_elem? (hits (walk (runs names ts) p (F ∷ []) env)) i ≡ some A → get_elem? (hits (walk (runs names' ts') p (G ∷ []) env')) j ≡ some B
    → (map (cells_of names ts) A ≡ map (cells_of names' ts') B) ↔ ((cells_of names ts F ≡ cells_of names' ts' G) × (i ≡ j))
same-candidates names names' ts ts' p F G env env' i j A B valid valid' counted e a b =
    same_place p (cells_of names ts F) (cells_of names' ts' G) (map (cells_of names ts) env) i j _ _ (rw length-map counted)
    (shown-at names ts p F env i A valid counted a)
    (rw e (shown-at names' ts' p G env' j B valid' (rw (← same_length (cells_of names ts) (cells_of names' ts') env env' e) counted) b))
