-- Laws of keys: the digest of a term by its kind.
use Rattle.std.specs.Prelude.{◌≡◌, List, [], ◌∷◌, map, length, ℕ, suc, zero, ◌+◌, ◌<◌, ◌≤◌}
use Rattle.std.proofs.Math.Path.{refl}
use Rattle.term_spec.proofs.ListLaws.{part_slice}
use Rattle.term_spec.specs.Text.{lower, text_at}
use Rattle.term_spec.specs.Term.{Term, part, contents_run, identifier_kind, number_kind, bracket_kind}
use Rattle.value.specs.Equal.{InNames}
use Rattle.numbers.specs.Digest.{prime, more, digest, digit}
use Rattle.numbers.specs.DigestLaws.{digest-below, more-below}
use Rattle.numbers.specs.Numbers.{symbol_key, term_key}

module _ (kind : ℕ) (names : List ℕ) (t : Term) where
  -- The text of an identifier and of a number lies in the names, ..
  pub identifier_lies : kind ≡ identifier_kind → InNames kind names t → t.a + t.b ≤ length names
  unfolding InNames
  identifier_lies e h = rw e at h

  pub number-lies : kind ≡ number_kind → InNames kind names t → t.a + t.b ≤ length names
  unfolding InNames
  number-lies e h = rw e at h

module _ (base kind : ℕ) (names : List ℕ) (t : Term) where
  -- .. and their digests are those of their texts; other symbols have those of their words.
  pub key_identifier : kind ≡ identifier_kind → symbol_key base kind names t ≡ digest base (map lower (text_at names t.a t.b))
  unfolding symbol_key
  key_identifier e = rw e refl

  pub key_number : kind ≡ number_kind → symbol_key base kind names t ≡ digest base (map digit (text_at names t.a t.b))
  unfolding symbol_key
  key_number e = rw e refl

pub key_words :
    (base kind : ℕ) (names : List ℕ) (t : Term) → (kind ≡ identifier_kind → ⊥) → (kind ≡ number_kind → ⊥)
    → symbol_key base kind names t ≡ digest base (t.a ∷ t.b ∷ t.c ∷ t.d ∷ [])
unfolding symbol_key
key_words base zero names t h k = refl
key_words base (suc zero) names t h k = absurd (h refl)
key_words base (suc (suc zero)) names t h k = absurd (k refl)
key_words base (suc (suc (suc j))) names t h k = refl

-- These, in one, with what a slice of the names is.
pub ruleset symbol_keys = (identifier_lies, number-lies, key_identifier, key_number, key_words, part_slice)

-- A bracket's digest, and any other term's.
pub key_bracket :
    (base kind : ℕ) (names numbers : List ℕ) (t : Term) → kind ≡ bracket_kind
    → term_key base kind names numbers t ≡ more base (digest base (part numbers (contents_run t))) t.b
unfolding term_key
key_bracket base kind names numbers t e = rw e refl

pub key_symbol :
    (base kind : ℕ) (names numbers : List ℕ) (t : Term) → (kind ≡ bracket_kind → ⊥)
    → term_key base kind names numbers t ≡ symbol_key base kind names t
unfolding term_key
key_symbol base zero names numbers t h = refl
key_symbol base (suc zero) names numbers t h = refl
key_symbol base (suc (suc zero)) names numbers t h = refl
key_symbol base (suc (suc (suc zero))) names numbers t h = absurd (h refl)
key_symbol base (suc (suc (suc (suc j)))) names numbers t h = refl

-- A term's digest is below the prime.
pub term-below : (base kind : ℕ) (names numbers : List ℕ) (t : Term) → term_key base kind names numbers t < prime
unfolding term_key symbol_key
term-below base zero names numbers t = digest-below base _
term-below base (suc zero) names numbers t = digest-below base _
term-below base (suc (suc zero)) names numbers t = digest-below base _
term-below base (suc (suc (suc zero))) names numbers t = more-below base _ _ refl
term-below base (suc (suc (suc (suc j)))) names numbers t = digest-below base _
