-- The listing of a pattern's canonical form lists the consistent extensions, all terms as spelled.
use Rattle.std.specs.Prelude.{◌≡◌, ◌↔◌, T, length, ℕ, suc, zero}
use Rattle.std.proofs.Math.Path.{refl, ap, ap₂}
use Rattle.std.proofs.Common.{sym, ◌∙◌, subst}
use mathlib.Core.List.{List, [], ◌∷◌, ◌++◌, map, head-eq_of_cons-eq, tail-eq_of_cons-eq, nil≢cons, cons≢nil, Memᴰ}
use Rattle.std.proofs.lemmas.List.{length-map}
use Rattle.term_spec.specs.Value.{Value, canon, forms, Single, takes}
use Rattle.term_spec.proofs.ValueLaws.{canon_bracketed, takes_canon}
use Rattle.match_spec.specs.Element.{Element, lit, opening, closing, call, one, many, Level, Levels, Env, on_top, wrap, push, put, Ones, entry, canon_e}
use Rattle.match_spec.specs.Pattern.{Name, find, add, names_after, number}
use Rattle.match_spec.specs.Consistent.{value_of_name, set_form, Consistent}
use Rattle.match_spec.specs.Listing.{candidates}
use Rattle.match_spec.proofs.SoundLaws.{after, Numbered, sound}
use Rattle.match_spec.proofs.CompleteLaws.{complete}
use Rattle.match_spec.proofs.NameLaws.{numbered, put_names, names_length, ones_names}

-- ---- canonical forms of what is put into a pattern ----

entry-forms : (B : Env) (n : ℕ) → entry (set_form B) n ≡ forms (entry B n)
entry-forms [] n = refl
entry-forms (x ∷ B) zero = refl
entry-forms (x ∷ B) (suc n) = entry-forms B n

forms-append : (a b : Level) → forms (a ++ b) ≡ forms a ++ forms b
forms-append [] b = refl
forms-append (v ∷ a) b = ap (canon v ∷◌) (forms-append a b)

on_top-forms : (f g : Level → Level) (X : Levels) → ((t : Level) → forms (f t) ≡ g (forms t)) → on_top g (map forms X) ≡ map forms (on_top f X)
unfolding on_top
on_top-forms f g [] h = refl
on_top-forms f g (t ∷ r) h = ap (◌∷ map forms r) (sym (h t))

wrap-forms : (X : Levels) → wrap (map forms X) ≡ map forms (wrap X)
unfolding wrap
wrap-forms [] = refl
wrap-forms (t ∷ []) = refl
wrap-forms (t ∷ (n ∷ r)) = ap (λ z. (z ∷ forms n) ∷ map forms r) (sym (canon_bracketed t))

push-forms : (X : Levels) → push (map forms X) ≡ map forms (push X)
unfolding push
push-forms [] = refl
push-forms (t ∷ r) = refl

-- One term whose canonical form is u.
only : (l : Level) (u : Value) → forms l ≡ u ∷ [] → (v : Value) × (l ≡ v ∷ []) × (canon v ≡ u)
only [] u e = absurd (nil≢cons e)
only (v ∷ []) u e = (v, refl, head-eq_of_cons-eq e)
only (v ∷ (w ∷ l)) u e = absurd (cons≢nil (tail-eq_of_cons-eq e))

-- h gives terms as spelled, k their canonical forms.
module _ {N : Type 0} (h k : N → Level) (same : (x : N) → k x ≡ forms (h x)) where
  put-forms : (p : List (Element N)) → put (map canon_e p) k ≡ map forms (put p h)
  unfolding put canon_e
  put-forms [] = refl
  put-forms (lit v ∷ p) = ap (on_top (canon v ∷◌)) (put-forms p) ∙ on_top-forms (v ∷◌) (canon v ∷◌) (put p h) (λ t. refl)
  put-forms (opening ∷ p) = ap wrap (put-forms p) ∙ wrap-forms (put p h)
  put-forms (closing ∷ p) = ap push (put-forms p) ∙ push-forms (put p h)
  put-forms (call ∷ p) = refl
  put-forms (one a x ∷ p) = ap₂ (λ y Y. on_top (y ++◌) Y) (same x) (put-forms p) ∙ on_top-forms (h x ++◌) (forms (h x) ++◌) (put p h) (forms-append (h x))
  put-forms (many x ∷ p) = ap₂ (λ y Y. on_top (y ++◌) Y) (same x) (put-forms p) ∙ on_top-forms (h x ++◌) (forms (h x) ++◌) (put p h) (forms-append (h x))

  one_up : (a : Single) (x : N) → (v : Value) × (h x ≡ v ∷ []) × T (takes a v) → (v : Value) × (k x ≡ v ∷ []) × T (takes a v)
  one_up a x (v, e, q) = (canon v, same x ∙ ap forms e, subst T (sym (takes_canon a v)) q)

  one_down : (a : Single) (x : N) → (v : Value) × (k x ≡ v ∷ []) × T (takes a v) → (v : Value) × (h x ≡ v ∷ []) × T (takes a v)
  one_down a x (u, e, q) = let (v, f, c) = only (h x) u (sym (same x) ∙ e) in (v, f, subst T (takes_canon a v) (subst (λ z. T (takes a z)) (sym c) q))

  ones-forms : (p : List (Element N)) → Ones p h ↔ Ones (map canon_e p) k
  unfolding Ones canon_e
  ones-forms [] = (λ x. x, λ x. x)
  ones-forms (lit v ∷ p) = ones-forms p
  ones-forms (opening ∷ p) = ones-forms p
  ones-forms (closing ∷ p) = ones-forms p
  ones-forms (call ∷ p) = ones-forms p
  ones-forms (one a x ∷ p) = let i = ones-forms p in (λ o. (one_up a x o.0, i.0 o.1), λ o. (one_down a x o.0, i.1 o.1))
  ones-forms (many x ∷ p) = ones-forms p

pub names_canon : (p : List (Element Name)) (t : List Name) → names_after (map canon_e p) t ≡ names_after p t
unfolding names_after canon_e
names_canon [] t = refl
names_canon (lit v ∷ p) t = names_canon p t
names_canon (opening ∷ p) t = names_canon p t
names_canon (closing ∷ p) t = names_canon p t
names_canon (call ∷ p) t = names_canon p t
names_canon (one k x ∷ p) t = names_canon p (add x t)
names_canon (many x ∷ p) t = names_canon p (add x t)

-- ---- the listing lists the consistent extensions ----

pub listed : (p : List (Element Name)) (t : List Name) (start : Env) (F : Level) (B : Env) → length start ≡ length t
    → Memᴰ (set_form B) (candidates (number (map canon_e p) t) (forms F ∷ []) (set_form start)) ↔ Consistent p t start F B
listed p t start F B e = (there, back)
  where
    known : length (set_form start) ≡ length t
    known = length-map start forms ∙ e

    counted : Numbered (number (map canon_e p) t) (length (set_form start))
    counted = rw known (numbered (map canon_e p) t)

    size : length (names_after p t) ≡ after (number (map canon_e p) t) (length (set_form start))
    size = ap length (sym (names_canon p t)) ∙ names_length (map canon_e p) t ∙ ap (after (number (map canon_e p) t)) (sym known)

    same : (x : Name) → value_of_name (names_after (map canon_e p) t) (set_form B) x ≡ forms (value_of_name (names_after p t) B x)
    same x = ap (λ z. value_of_name z (set_form B) x) (names_canon p t) ∙ entry-forms B (find x (names_after p t))

    ones : Ones p (value_of_name (names_after p t) B) ↔ Ones (number (map canon_e p) t) (entry (set_form B))
    ones = let i = ones-forms _ _ same p in let j = ones_names (map canon_e p) t (set_form B) in (λ o. j.0 (i.0 o), λ o. i.1 (j.1 o))

    puts : put (number (map canon_e p) t) (entry (set_form B)) ≡ map forms (put p (value_of_name (names_after p t) B))
    puts = sym (put_names (map canon_e p) t (set_form B)) ∙ put-forms _ _ same p

    there : Memᴰ (set_form B) (candidates (number (map canon_e p) t) (forms F ∷ []) (set_form start)) → Consistent p t start F B
    there m = let x = sound (number (map canon_e p) t) (forms F ∷ []) (set_form start) counted m in
        record { binds = sym (length-map B forms) ∙ x.names ∙ sym size; keeps = x.keeps; ones = ones.1 x.ones; gives = sym puts ∙ x.gives }

    back : Consistent p t start F B → Memᴰ (set_form B) (candidates (number (map canon_e p) t) (forms F ∷ []) (set_form start))
    back c = complete (number (map canon_e p) t) (forms F) [] (set_form start) counted
        (record { keeps = c.keeps; names = length-map B forms ∙ c.binds ∙ size; ones = ones.0 c.ones; gives = puts ∙ c.gives })
