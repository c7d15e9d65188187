-- A record's words, one by one, are the record: what reading and writing word by word comes to, once for every layout.
use Rattle.std.specs.Prelude.{◌≡◌, refl, List, [], ◌∷◌, ◌++◌, ℕ, suc, zero, ◌+◌, ◌*◌, ◌≤◌, ◌<◌, length, get_or, set, take, drop}
use Rattle.std.proofs.Common.{ap, ap₂, sym, ◌∙◌, append-nil, arith, add-zero, suc-mul, add-one, get_or-take, get_or-drop}
use Rattle.std.proofs.lemmas.List.Edits.{sets, sets-eq}
use Rattle.term_spec.specs.Words.{Layout, Lies, record_at, encode, write}
use Rattle.term_spec.proofs.WordsLaws.{Lays}
use Rattle.term_spec.specs.Term.{Run as SpecRun, run_of, run_layout}

-- ---- reading ----

-- The n words from p + k on, and those from p on, as code reads them: at p, p + 1, p + 2 ..
abbrev later_words : List ℕ → ℕ → ℕ → ℕ → List ℕ
later_words w p k zero = []
later_words w p k (suc n) = get_or w (p + k) 0 ∷ later_words w p (suc k) n

abbrev pub words_at : List ℕ → ℕ → ℕ → List ℕ
words_at w p zero = []
words_at w p (suc n) = get_or w p 0 ∷ later_words w p 1 n

-- A layout that sees a record's words only, and 0 for those that are missing.
abbrev pub ByWords : {A : Type 0} → Layout A → Type 0
ByWords L = (l : List ℕ) → L.read (words_at l 0 L.width) ≡ L.read l

module _ (w : List ℕ) (i width : ℕ) where
  word_at : (k : ℕ) → k < width → get_or (take width (drop (i * width) w)) k 0 ≡ get_or w (i * width + k) 0
  word_at k lt = get_or-take width (drop (i * width) w) k 0 lt ∙ get_or-drop (i * width) w k 0

  later_same : (k n : ℕ) → k + n ≤ width → later_words w (i * width) k n ≡ later_words (take width (drop (i * width) w)) 0 k n
  later_same k zero h = refl
  later_same k (suc n) h =
      let z : 0 + k ≡ k = omega arith in
      ap₂ ◌∷◌ (sym (ap (λ m. get_or (take width (drop (i * width) w)) m 0) z ∙ word_at k (omega arith))) (later_same (suc k) n (omega arith))

  words_same : (n : ℕ) → n ≤ width → words_at w (i * width) n ≡ words_at (take width (drop (i * width) w)) 0 n
  words_same zero h = refl
  words_same (suc n) h = ap₂ ◌∷◌ (sym (word_at 0 (omega arith) ∙ ap (λ m. get_or w m 0) (add-zero (i * width)))) (later_same 1 n (omega arith))

-- Record i is what its words mean, read one by one.
pub record_read : {A : Type 0} (L : Layout A) → ByWords L → (w : List ℕ) (i : ℕ) → L.read (words_at w (i * L.width) L.width) ≡ record_at L w i
unfolding record_at
record_read L by-words w i = ap L.read (words_same w i L.width L.width (omega arith)) ∙ by-words _

pub run_by_words : ByWords run_layout
unfolding run_of
run_by_words l = refl

pub run_read : (w : List ℕ) (i : ℕ) {start len : ℕ} → start ≡ get_or w (i * run_layout.width) 0 → len ≡ get_or w (i * run_layout.width + 1) 0
    → ◌≡◌ {A = SpecRun} (record { start = start; len = len }) (record_at run_layout w i)
unfolding run_of
run_read w i p q = cc (record_read run_layout run_by_words w i)

-- ---- writing ----

-- Words set at p + k, p + k + 1 .., and at p, p + 1 .., as code sets them.
abbrev later_set : List ℕ → ℕ → ℕ → List ℕ → List ℕ
later_set w p k [] = w
later_set w p k (x ∷ xs) = later_set (set w (p + k) x) p (suc k) xs

abbrev pub words_set : List ℕ → ℕ → List ℕ → List ℕ
words_set w p [] = w
words_set w p (x ∷ xs) = later_set (set w p x) p 1 xs

later_sets : (w : List ℕ) (p k : ℕ) (xs : List ℕ) → later_set w p k xs ≡ sets w (p + k) xs
later_sets w p k [] = refl
later_sets w p k (x ∷ xs) =
    let z : p + suc k ≡ suc (p + k) = omega arith in
    later_sets (set w (p + k) x) p (suc k) xs ∙ ap (λ n. sets (set w (p + k) x) n xs) z

words_sets : (w : List ℕ) (p : ℕ) (xs : List ℕ) → words_set w p xs ≡ sets w p xs
words_sets w p [] = refl
words_sets w p (x ∷ xs) = later_sets (set w p x) p 1 xs ∙ ap (λ n. sets (set w p x) n xs) (add-one p)

-- A record's words set one after another are the record written.
pub record_written : {A : Type 0} (L : Layout A) → Lays L → (w : List ℕ) (i : ℕ) (r : A) → Lies L w (i + 1)
    → words_set w (i * L.width) (L.words r) ≡ write L w i (r ∷ [])
unfolding write encode
record_written L lays w i r h =
    let next : (i + 1) * L.width ≡ i * L.width + L.width = ap (◌* L.width) (add-one i) ∙ suc-mul i L.width in
    let end : i * L.width + length (L.words r) ≡ (i + 1) * L.width = ap (i * L.width +◌) (lays.sized r) ∙ sym next in
    words_sets w (i * L.width) (L.words r)
    ∙ sets-eq (L.words r) w (i * L.width) (omega (arith, end))
    ∙ ap₂ (λ x k. take (i * L.width) w ++ x ++ drop k w) (sym (append-nil (L.words r))) end
