-- The pattern that the code reads by words and numbers is the specification's numbered pattern, and it fits its brackets and names.
use Rattle.std.specs.Prelude.{◌≡◌, refl, List, [], ◌∷◌, map, Bool, ◌&&◌, T, ltb, eqb, length, get_or, take, drop, ℕ, suc, zero}
use Rattle.std.proofs.Common.{ap, ◌∙◌, ltb-true}
use Rattle.term_spec.proofs.BoolLaws.{both_of, T_true}
use Rattle.term_spec.specs.Value.{canon}
use Rattle.match_spec.specs.Element.{Element, lit, opening, closing, call, one, many, canon_e}
use Rattle.match_spec.specs.Pattern.{Item, no_item, Name, find, add, names_after, number, element_k, element, elements, item_rule_k, close_rule, nest_rule_k}
use Rattle.match_spec.specs.Pattern.{none_open, items_rule, pattern_rule}
use Rattle.match_spec.proofs.NameLaws.{find_le, add-length}
use Rattle.pattern.specs.Records.{numbers_of}
use Rattle.steps.specs.State.{renamed, coded, coded_all}
use Rattle.steps.specs.Stays.{Sound}

-- ---- by number ----

-- Elements by name with the numbers of their names.
unfoldable coded_from : List (Element Name) → List ℕ → List (Element ℕ)
coded_from [] xs = []
coded_from (e ∷ p) xs = renamed (get_or xs 0 0) (canon_e e) ∷ coded_from p (drop 1 xs)

coded_from_lem : (names : List ℕ) (ts : List Item) (xs : List ℕ) → coded_all names ts xs ≡ coded_from (elements names ts) xs
unfolding coded_all coded_from coded
coded_from_lem names [] xs = refl
coded_from_lem names (t ∷ ts) xs = ap (renamed (get_or xs 0 0) (canon_e (element names t)) ∷◌) (coded_from_lem names ts (drop 1 xs))

number_from : (p : List (Element Name)) (t : List Name) → coded_from p (numbers_of p t) ≡ number (map canon_e p) t
unfolding coded_from numbers_of number renamed canon_e
number_from [] t = refl
number_from (lit v ∷ p) t = ap (lit (canon v) ∷◌) (number_from p t)
number_from (opening ∷ p) t = ap (opening ∷◌) (number_from p t)
number_from (closing ∷ p) t = ap (closing ∷◌) (number_from p t)
number_from (call ∷ p) t = ap (call ∷◌) (number_from p t)
number_from (one k x ∷ p) t = ap (one k (find x t) ∷◌) (number_from p (add x t))
number_from (many x ∷ p) t = ap (many (find x t) ∷◌) (number_from p (add x t))

-- only as many numbers as records are read
coded-take : (names : List ℕ) (ts : List Item) (xs : List ℕ) → coded_all names ts xs ≡ coded_all names ts (take (length ts) xs)
unfolding coded_all
coded-take names [] xs = refl
coded-take names (t ∷ ts) [] = refl
coded-take names (t ∷ ts) (x ∷ xs) = ap (coded names t x ∷◌) (coded-take names ts xs)

pub number-coded : (names : List ℕ) (ts : List Item) (xs : List ℕ) (t : List Name) → take (length ts) xs ≡ numbers_of (elements names ts) t
    → coded_all names ts xs ≡ number (map canon_e (elements names ts)) t
number-coded names ts xs t e =
    coded-take names ts xs ∙ ap (coded_all names ts) e ∙ coded_from_lem names ts (numbers_of (elements names ts) t) ∙ number_from (elements names ts) t

-- ---- brackets and names ----

-- what is asked of the rest of the pattern, by the record's kind
sound_by : (k : ℕ) (names : List ℕ) (all : List Item) (t : Item) (i : ℕ) (opened : List ℕ) (rest : List ℕ → Bool) (es : List (Element Name)) (tab : List Name)
    → ((now : List ℕ) (u : List Name) → T (rest now) → Sound (number (map canon_e es) u) (length now) (length u) (length (names_after es u)))
    → T (nest_rule_k k all t i opened rest)
    → Sound (number (canon_e (element_k k names t) ∷ map canon_e es) tab) (length opened) (length tab) (length (names_after (element_k k names t ∷ es) tab))
unfolding nest_rule_k element_k canon_e number names_after Sound close_rule
sound_by zero names all t i opened rest es tab ih h = ih opened tab h
sound_by (suc zero) names all t i opened rest es tab ih h = ih opened tab h
sound_by (suc (suc zero)) names all t i opened rest es tab ih h = ih opened tab h
sound_by (suc (suc (suc zero))) names all t i opened rest es tab ih h =
    let (x, y) = both_of (ltb (length opened) 32) (rest (i ∷ opened)) h in (ltb-true _ _ (T_true _ x), ih (i ∷ opened) tab y)
sound_by (suc (suc (suc (suc zero)))) names all t i [] rest es tab ih h = absurd h
sound_by (suc (suc (suc (suc zero)))) names all t i (o ∷ opened) rest es tab ih h =
    ih opened tab (both_of (eqb t.a o && eqb (get_or all o no_item).a i) (rest opened) h).1
sound_by (suc (suc (suc (suc (suc zero))))) names all t i opened rest es tab ih h =
    (find_le _ tab, rw (← add-length _ tab) (ih opened (add _ tab) h))
sound_by (suc (suc (suc (suc (suc (suc zero)))))) names all t i opened rest es tab ih h =
    (find_le _ tab, rw (← add-length _ tab) (ih opened (add _ tab) h))
sound_by (suc (suc (suc (suc (suc (suc (suc zero))))))) names all t i opened rest es tab ih h =
    (find_le _ tab, rw (← add-length _ tab) (ih opened (add _ tab) h))
sound_by (suc (suc (suc (suc (suc (suc (suc (suc k)))))))) names all t i opened rest es tab ih h = ih opened tab h

none_open_lem : (opened : List ℕ) → T (none_open opened) → length opened ≡ 0
unfolding none_open
none_open_lem [] h = refl
none_open_lem (o ∷ opened) h = absurd h

sound-items : (names : List ℕ) (all ts : List Item) (i : ℕ) (opened : List ℕ) (tab : List Name) → T (items_rule names all ts i opened)
    → Sound (number (map canon_e (elements names ts)) tab) (length opened) (length tab) (length (names_after (elements names ts) tab))
unfolding items_rule number names_after Sound element
sound-items names all [] i opened tab h = (none_open_lem opened h, refl)
sound-items names all (t ∷ ts) i opened tab h =
    sound_by t.kind names all t i opened (λ now. items_rule names all ts (suc i) now) (elements names ts) tab
    (λ now u g. sound-items names all ts (suc i) now u g)
    (both_of (item_rule_k t.kind names t) (nest_rule_k t.kind all t i opened (λ now. items_rule names all ts (suc i) now)) h).1

pub pattern_sound : (names : List ℕ) (ts : List Item) (tab : List Name) → T (pattern_rule names ts)
    → Sound (number (map canon_e (elements names ts)) tab) 0 (length tab) (length (names_after (elements names ts) tab))
unfolding pattern_rule
pattern_sound names ts tab h = sound-items names ts ts 0 [] tab h
