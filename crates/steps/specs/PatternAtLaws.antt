-- A pattern with the numbers of its names, record by record.
use Rattle.std.specs.Prelude.{◌≡◌, refl, List, [], ◌∷◌, T, length, get_or, drop, ℕ, suc, zero, ◌+◌, ◌<◌, ◌≤◌}
use Rattle.std.proofs.Common.{ap, ◌∙◌, drop_of_length-le, get_or-drop, add-one, arith}
use Rattle.term_spec.specs.Words.{record_at, records, count}
use Rattle.term_spec.proofs.WordsLaws.{decode-length, decode-at}
use Rattle.match_spec.specs.Pattern.{Item, no_item, item_layout, item_rule_k, pattern_rule}
use Rattle.match_spec.proofs.PatternLaws.{item_at}
use Rattle.steps.specs.State.{coded, coded_all}

coded-drop : (names : List ℕ) (p : ℕ) (ts : List Item) (xs : List ℕ) → p < length ts
    → drop p (coded_all names ts xs) ≡ coded names (get_or ts p no_item) (get_or xs p 0) ∷ drop (suc p) (coded_all names ts xs)
unfolding coded_all
coded-drop names zero [] xs h = absurd (omega arith)
coded-drop names zero (t ∷ ts) xs h = refl
coded-drop names (suc p) [] xs h = absurd (omega arith)
coded-drop names (suc p) (t ∷ ts) xs h =
    let z : 1 + p ≡ suc p = omega arith in
    coded-drop names p ts (drop 1 xs) (omega arith)
    ∙ ap (λ x. coded names (get_or ts p no_item) x ∷ drop (suc p) (coded_all names ts (drop 1 xs))) (get_or-drop 1 xs p 0 ∙ ap (λ k. get_or xs k 0) z)

coded-length : (names : List ℕ) (ts : List Item) (xs : List ℕ) → length (coded_all names ts xs) ≡ length ts
unfolding coded_all
coded-length names [] xs = refl
coded-length names (t ∷ ts) xs = ap suc (coded-length names ts (drop 1 xs))

module _ (names w : List ℕ) (xs : List ℕ) where
  items-count : length (records item_layout w) ≡ count item_layout w
  unfolding records
  items-count = decode-length item_layout (count item_layout w) w

  item_is : (p : ℕ) → p < count item_layout w → get_or (records item_layout w) p no_item ≡ record_at item_layout w p
  unfolding records
  item_is p h = decode-at item_layout (count item_layout w) p w no_item h

  -- The record at p, and those after it.
  pub pattern_at : (p : ℕ) {t : Item} {x : ℕ} → p < count item_layout w → t ≡ record_at item_layout w p → x ≡ get_or xs p 0
      → drop p (coded_all names (records item_layout w) xs) ≡ coded names t x ∷ drop (p + 1) (coded_all names (records item_layout w) xs)
  pattern_at p h e q = coded-drop names p (records item_layout w) xs (rw items-count h) ∙ rw (item_is p h, ← e, ← q, add-one) refl

  -- Past the end there is nothing.
  pub pattern_end : (p : ℕ) → count item_layout w ≤ p → drop p (coded_all names (records item_layout w) xs) ≡ []
  pattern_end p h = drop_of_length-le (coded_all names (records item_layout w) xs) {i = p} (rw (coded-length names (records item_layout w) xs, items-count) h)

  -- A record is within its own rule.
  pub pattern_item : (p : ℕ) {t : Item} → T (pattern_rule names (records item_layout w)) → p < count item_layout w → t ≡ record_at item_layout w p
      → T (item_rule_k t.kind names t)
  pattern_item p r h e = rw (e, ← item_is p h) (item_at names (records item_layout w) p r (rw items-count h))
