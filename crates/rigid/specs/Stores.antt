-- Where a run fits, over what the walk reads.
use Rattle.std.specs.Prelude.{◌≡◌, List, ◌∷◌, Bool, ℕ, zero}
use Rattle.term_spec.specs.Words.{decode}
use Rattle.term_spec.specs.Term.{Run, term_layout}
use Rattle.match_spec.specs.Element.{Element}
use Rattle.match_spec.specs.Pattern.{Item}
use Rattle.value.specs.declared.store.Store.{Store}
use Rattle.steps.specs.State.{back_of}
use Rattle.steps.specs.declared.given.Given.{Given}
use Rattle.rigid.specs.Fit.{fits_at, fits_term, fit_goes, FitIn, run_fits, split_fits}
use Rattle.rigid.specs.declared.Fit.{Fit}

-- Whether a record of one term fits term i of a store.
abbrev pub fits_at_term : Store → Item → ℕ → Bool
fits_at_term s t i = fits_term s.names.now (decode term_layout s.used s.terms.now) t i

-- What the element e does at the terms of r, the first m entries of `binds` being known and d brackets being passed over after it.
abbrev pub Fits : Store → Element ℕ → ℕ → ℕ → List ℕ → Run → Fit → Type 0
Fits s e d m binds r f =
    let fits = fits_at s.names.now s.terms.now s.used m binds in
    FitIn r.len f × ((p : List (Element ℕ)) → fits (e ∷ p) zero r ≡ fit_goes f (λ k. fits p d (back_of k r)))

-- Whether the run from record p on fits at the terms of r.
abbrev pub fits_run : Given → ℕ → ℕ → List ℕ → Run → Bool
fits_run v p m binds r = run_fits v.store.names.now v.store.terms.now v.store.used v.pattern.now v.numbers.now p m binds r

-- Whether it fits after j terms of r.
abbrev pub fits_split : Given → ℕ → ℕ → List ℕ → Run → ℕ → Bool
fits_split v p m binds r j = split_fits v.store.names.now v.store.terms.now v.store.used v.pattern.now v.numbers.now p m binds r j
