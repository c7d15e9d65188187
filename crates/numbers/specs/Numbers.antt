-- The numbers of terms: equal terms have one number, others different ones; and the tables by which they are found.
use Rattle.std.specs.Prelude.{◌≡◌, List, [], ◌∷◌, map, true, eqb, length, get_or, ℕ, suc, zero, ◌+◌, ◌*◌, ◌%◌, ◌<◌, ◌≤◌}
use Rattle.term_spec.specs.Words.{record_at}
use Rattle.term_spec.specs.Text.{lower, text_at}
use Rattle.term_spec.specs.Term.{Term, term_layout, part, contents_run, limit}
use Rattle.term_spec.specs.Value.{Value, char, canon}
use Rattle.value.specs.Equal.{TermStore, InNames, values_in, equal_at}
use Rattle.words.specs.Records.{as_term}
use Rattle.words.specs.declared.Term.{Term as CodeTerm}
use Rattle.numbers.specs.Digest.{more, digest, digit}
use Rattle.numbers.specs.Buckets.{buckets, Chains, Sought}

-- The canonical form of term i: two terms are equal when these are.
unfoldable pub form_at : List ℕ → List ℕ → ℕ → ℕ → Value
form_at names w used i = canon (get_or (values_in names w used) i (char 0))

-- Of the first k terms, equal ones have one number and others different ones.
pub record Numbers (names w : List ℕ) (used k : ℕ) (numbers : List ℕ) : Type 0 where
  pub room : k ≤ length numbers
  pub told : (i j : ℕ) → i < k → j < k → equal_at names w used i j ≡ eqb (get_or numbers i 0) (get_or numbers j 0)

-- The n numbers from s on are those from p on.
abbrev pub Same : List ℕ → ℕ → ℕ → ℕ → Type 0
Same numbers s p n = (i : ℕ) → i < n → get_or numbers (s + i) 0 ≡ get_or numbers (p + i) 0

-- The first r of n numbers from s on and from p on are the same, and the next ones, if there are any, are not.
pub record Agree (numbers : List ℕ) (s p n r : ℕ) : Type 0 where
  pub within : r ≤ n
  pub same : Same numbers s p r
  pub apart : r < n → get_or numbers (s + r) 0 ≡ get_or numbers (p + r) 0 → ⊥

-- A term whose text, if it has one, lies in the names.
abbrev pub Readable : List ℕ → CodeTerm → Type 0
Readable names t = InNames t.kind names (as_term t)

-- The digest of a symbol: of its text as it is compared, or of its words.
unfoldable pub symbol_key : ℕ → ℕ → List ℕ → Term → ℕ
symbol_key base zero names t = digest base (t.a ∷ t.b ∷ t.c ∷ t.d ∷ [])
symbol_key base (suc zero) names t = digest base (map lower (text_at names t.a t.b))
symbol_key base (suc (suc zero)) names t = digest base (map digit (text_at names t.a t.b))
symbol_key base (suc (suc (suc k))) names t = digest base (t.a ∷ t.b ∷ t.c ∷ t.d ∷ [])

-- The digest of a term: a bracket's is that of the numbers of its contents, and of their count.
unfoldable pub term_key : ℕ → ℕ → List ℕ → List ℕ → Term → ℕ
term_key base zero names numbers t = symbol_key base zero names t
term_key base (suc zero) names numbers t = symbol_key base (suc zero) names t
term_key base (suc (suc zero)) names numbers t = symbol_key base (suc (suc zero)) names t
term_key base (suc (suc (suc zero))) names numbers t = more base (digest base (part numbers (contents_run t))) t.b
term_key base (suc (suc (suc (suc k)))) names numbers t = symbol_key base (suc (suc (suc (suc k)))) names t

-- The bucket of a term, and of term i of a store. The last number of a digest is not multiplied, so a 0 is put after it.
unfoldable pub key_of : ℕ → List ℕ → List ℕ → Term → ℕ
key_of base names numbers t = more base (term_key base t.kind names numbers t) 0 % buckets

abbrev pub key_at : ℕ → List ℕ → List ℕ → List ℕ → ℕ → ℕ
key_at base names w numbers i = key_of base names numbers (record_at term_layout w i)

-- A term that has its own place as its number is entered in its bucket: no term below it is equal to it.
abbrev pub Entered : List ℕ → ℕ → Type 0
Entered numbers i = get_or numbers i 0 ≡ i

-- The numbers of the first k terms, each the place of the first term that is equal, and the chains of those that are entered.
pub record Tables (base : ℕ) (names w : List ℕ) (used k : ℕ) (numbers heads earlier : List ℕ) : Type 0 where
  pub store : TermStore names w used
  pub few : used ≤ limit
  pub room : used ≤ length numbers
  pub heads-room : length heads ≡ buckets
  pub earlier-room : length earlier ≡ limit
  pub low : (i : ℕ) → i < k → get_or numbers i 0 ≤ i
  pub first : (i : ℕ) → i < k → Entered numbers (get_or numbers i 0)
  pub known : Numbers names w used k numbers
  pub chains : Chains (key_at base names w numbers) (Entered numbers) k heads earlier

-- Looking for a term equal to term k along the chain of its bucket, from place `from` less one on.
pub record Searched (base : ℕ) (names w : List ℕ) (used : ℕ) (numbers heads earlier : List ℕ) (k from : ℕ) : Type 0 where
  pub tables : Tables base names w used k numbers heads earlier
  pub below : k < used
  pub sought : Sought (key_at base names w numbers) (Entered numbers) (λ i. equal_at names w used i k ≡ true) k heads earlier (key_at base names w numbers k) from

-- What was found: a term equal to term k, or that there is none.
unfoldable pub Placed : List ℕ → List ℕ → ℕ → List ℕ → ℕ → ℕ → Type 0
Placed names w used numbers k zero = (i : ℕ) → i < k → Entered numbers i → equal_at names w used i k ≡ true → ⊥
Placed names w used numbers k (suc c) = (c < k) × Entered numbers c × (equal_at names w used c k ≡ true)

-- What numbering all terms can cost at most: each is compared with each other one, and reading a term's contents costs no more than there are terms.
abbrev pub largest_cost : ℕ
largest_cost = limit * limit * limit
