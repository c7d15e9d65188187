-- How records lie in slices of words (01, "Records"): reading them, and the words after records are written.
use Rattle.std.specs.Prelude.{List, [], ◌∷◌, ◌++◌, Bool, eqb, length, take, drop, ℕ, suc, zero, ◌+◌, ◌*◌, ◌-◌, ◌/◌, ◌%◌, ◌≤◌}

-- One kind of record: its width in words, the record that such words mean, the words of a record.
pub record Layout (A : Type 0) : Type 0 where
  pub width : ℕ
  pub read : List ℕ → A
  pub words : A → List ℕ

-- n records lie in a slice.
abbrev pub Lies : {A : Type 0} → Layout A → List ℕ → ℕ → Type 0
Lies L w n = n * L.width ≤ length w

-- At most n records lie in a slice: the words of n, and fewer than one record's more.
abbrev pub AtMost : {A : Type 0} → Layout A → List ℕ → ℕ → Type 0
AtMost L w n = length w ≤ n * L.width + (L.width - 1)

-- The first n records of a slice.
unfoldable pub decode : {A : Type 0} → Layout A → ℕ → List ℕ → List A
decode L zero w = []
decode L (suc n) w = L.read (take L.width w) ∷ decode L n (drop L.width w)

-- Record i of a slice.
unfoldable pub record_at : {A : Type 0} → Layout A → List ℕ → ℕ → A
record_at L w i = L.read (take L.width (drop (i * L.width) w))

-- The words of records, one after another.
unfoldable pub encode : {A : Type 0} → Layout A → List A → List ℕ
encode L [] = []
encode L (r ∷ rs) = L.words r ++ encode L rs

-- The records that lie whole in a slice, and whether no word is left over ("isn't whole" is 1 Uneven).
unfoldable pub count : {A : Type 0} → Layout A → List ℕ → ℕ
count L w = length w / L.width

-- "a slice of records .. isn't whole" (1 Uneven) where this is false.
unfoldable pub whole : {A : Type 0} → Layout A → List ℕ → Bool
whole L w = eqb (length w % L.width) 0

-- A slice that is a list of records and has no used count.
unfoldable pub records : {A : Type 0} → Layout A → List ℕ → List A
records L w = decode L (count L w) w

-- The words w with the records rs written from record i on, and everything else as it was.
unfoldable pub write : {A : Type 0} → Layout A → List ℕ → ℕ → List A → List ℕ
write L w i rs = take (i * L.width) w ++ encode L rs ++ drop ((i + length rs) * L.width) w
