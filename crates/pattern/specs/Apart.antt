-- What the code tells of bindings of which there are many: that each is right, that no two have one name; and the tables by which names are found.
use Rattle.std.specs.Prelude.{◌≡◌, List, map, Bool, true, false, length, take, drop, ℕ, ◌*◌, ◌-◌, ◌%◌, ◌<◌}
use Rattle.term_spec.specs.Words.{record_at}
use Rattle.term_spec.specs.Text.{lower, text_at}
use Rattle.term_spec.specs.Term.{limit}
use Rattle.numbers.specs.Digest.{digest}
use Rattle.numbers.specs.Buckets.{buckets, Chains}
use Rattle.match_spec.specs.Pattern.{binding_layout, Name, binding_name, binding_rule}
use Rattle.pattern.specs.Records.{bindings_in, BindingTexts}
use Rattle.pattern.specs.declared.apart.Outcome.{Outcome}
use Rattle.pattern.specs.declared.apart.Outcome.TheVariants.{NoneRepeats, OneRepeats, GivenUp}

-- What an answer tells: one thing if it is true, and the other if it is false.
pub data Told (P Q : Type 0) : Bool → Type 0 where
  it_is : P → Told P Q true
  it_is_not : Q → Told P Q false

-- What an outcome tells: one thing if no name is repeated, and the other if one is; what is free to take any cost is never given up.
pub data Tells (P Q : Type 0) (free : Bool) : Outcome → Type 0 where
  none_repeats : P → Tells P Q free NoneRepeats
  one_repeats : Q → Tells P Q free OneRepeats
  given_up : free ≡ false → Tells P Q free GivenUp

-- Each of the first n bindings is right by itself; one of all is not.
abbrev pub EachRight : List ℕ → List ℕ → ℕ → Type 0
EachRight names w n = (i : ℕ) → i < n → binding_rule names (record_at binding_layout w i) ≡ true

pub record OneWrong (names w : List ℕ) : Type 0 where
  pub place : ℕ
  pub inside : place < bindings_in w
  pub wrong : binding_rule names (record_at binding_layout w place) ≡ false

-- The name of binding i.
abbrev pub name_in : List ℕ → List ℕ → ℕ → Name
name_in names w i = binding_name names (record_at binding_layout w i)

-- None of the first n bindings has the name of one before it that is among the first m; two bindings have one name.
abbrev pub Apart : List ℕ → List ℕ → ℕ → ℕ → Type 0
Apart names w m n = (c k : ℕ) → c < m → c < k → k < n → name_in names w c ≡ name_in names w k → ⊥

pub record Repeats (names w : List ℕ) : Type 0 where
  pub first : ℕ
  pub second : ℕ
  pub before : first < second
  pub inside : second < bindings_in w
  pub same : name_in names w first ≡ name_in names w second

-- The bindings from one on, as the code cuts them off.
abbrev pub bindings_from : List ℕ → ℕ → List ℕ
bindings_from w from = take (length w - from * binding_layout.width) (drop (from * binding_layout.width) w)

-- The bucket, at a base, of a name whose text is the n bytes at o, and of binding i's name.
unfoldable pub spec_bucket_of : ℕ → List ℕ → ℕ → ℕ → ℕ
spec_bucket_of base names o n = digest base (map lower (text_at names o n)) % buckets

abbrev pub bucket_in : ℕ → List ℕ → List ℕ → ℕ → ℕ
bucket_in base names w i = spec_bucket_of base names (record_at binding_layout w i).offset (record_at binding_layout w i).size

-- The bindings that have room in the tables are entered.
abbrev pub Entered : ℕ → Type 0
Entered i = i < limit

-- The chains of the bindings below k that are entered, by their buckets at a base.
pub record NameTables (base : ℕ) (names w : List ℕ) (k : ℕ) (heads earlier : List ℕ) : Type 0 where
  pub texts : BindingTexts names w (bindings_in w)
  pub heads-room : length heads ≡ buckets
  pub earlier-room : length earlier ≡ limit
  pub chains : Chains (bucket_in base names w) Entered k heads earlier

-- A binding before binding k has its name; none that is entered has.
pub record NameBefore (names w : List ℕ) (k : ℕ) : Type 0 where
  pub place : ℕ
  pub before : place < k
  pub same : name_in names w place ≡ name_in names w k

abbrev pub NameNew : List ℕ → List ℕ → ℕ → Type 0
NameNew names w k = (c : ℕ) → c < k → Entered c → name_in names w c ≡ name_in names w k → ⊥
