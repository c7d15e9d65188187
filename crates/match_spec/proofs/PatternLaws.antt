-- What a pattern within its rules has at each record.
use Rattle.std.specs.Prelude.{List, [], ◌∷◌, Bool, ◌&&◌, T, ltb, eqb, length, get_or, ℕ, suc, zero, ◌<◌}
use Rattle.std.proofs.Common.{arith}
use Rattle.term_spec.proofs.BoolLaws.{both_of}
use Rattle.match_spec.specs.Pattern.{Item, no_item, item_rule_k, close_rule, nest_rule_k, items_rule, pattern_rule}

-- what comes after a record is judged with some open brackets
close_rest : (all : List Item) (t : Item) (i : ℕ) (opened : List ℕ) (rest : List ℕ → Bool) → T (close_rule all t i opened rest) → (now : List ℕ) × T (rest now)
unfolding close_rule
close_rest all t i [] rest h = absurd h
close_rest all t i (o ∷ opened) rest h = (opened, (both_of (eqb t.a o && eqb (get_or all o no_item).a i) (rest opened) h).1)

nest_rest : (k : ℕ) (all : List Item) (t : Item) (i : ℕ) (opened : List ℕ) (rest : List ℕ → Bool) → T (nest_rule_k k all t i opened rest)
    → (now : List ℕ) × T (rest now)
unfolding nest_rule_k
nest_rest zero all t i opened rest h = (opened, h)
nest_rest (suc zero) all t i opened rest h = (opened, h)
nest_rest (suc (suc zero)) all t i opened rest h = (opened, h)
nest_rest (suc (suc (suc zero))) all t i opened rest h = (i ∷ opened, (both_of (ltb (length opened) 32) (rest (i ∷ opened)) h).1)
nest_rest (suc (suc (suc (suc zero)))) all t i opened rest h = close_rest all t i opened rest h
nest_rest (suc (suc (suc (suc (suc k))))) all t i opened rest h = (opened, h)

items_at : (names : List ℕ) (all ts : List Item) (i : ℕ) (opened : List ℕ) (p : ℕ) → T (items_rule names all ts i opened) → p < length ts
    → T (item_rule_k (get_or ts p no_item).kind names (get_or ts p no_item))
unfolding items_rule
items_at names all [] i opened p h lt = absurd (omega arith)
items_at names all (t ∷ ts) i opened zero h lt =
    (both_of (item_rule_k t.kind names t) (nest_rule_k t.kind all t i opened (λ now. items_rule names all ts (suc i) now)) h).0
items_at names all (t ∷ ts) i opened (suc p) h lt =
    let x = (both_of (item_rule_k t.kind names t) (nest_rule_k t.kind all t i opened (λ now. items_rule names all ts (suc i) now)) h).1 in
    let (now, y) = nest_rest t.kind all t i opened (λ now. items_rule names all ts (suc i) now) x in
    items_at names all ts (suc i) now p y (omega arith)

-- Each record of a pattern is within its own rule.
pub item_at : (names : List ℕ) (ts : List Item) (p : ℕ) → T (pattern_rule names ts) → p < length ts
    → T (item_rule_k (get_or ts p no_item).kind names (get_or ts p no_item))
unfolding pattern_rule
item_at names ts p h lt = items_at names ts ts 0 [] p h lt
