-- Laws of many bindings: the rule of all of them is that each is right and no two have one name; names that are one have one bucket, and are found
-- along its chain; the bindings that follow.
use Rattle.std.specs.Prelude.{◌≡◌, List, [], ◌⊎◌, Bool, true, false, length, get_or, set, drop, replicate}
use Rattle.std.proofs.Math.Path.{refl}
use Rattle.std.proofs.Common.{ap, sym, ◌∙◌, inl, inr, length-set, length-drop, take_all, below_more, arith}
use Rattle.std.proofs.lemmas.List.{length-replicate}
use Prim.Native.Nat.{ℕ, suc, zero, ◌+◌, ◌*◌, ◌-◌, ◌<◌, ◌≤◌}
use Rattle.std.proofs.Math.Decide.{dec_lt}
use Rattle.std.proofs.Math.Numerals.{add-one}
use Rattle.term_spec.proofs.BoolLaws.{T_true, Test, holds, fails, test}
use Rattle.term_spec.specs.Words.{decode, record_at, records}
use Rattle.term_spec.proofs.WordsLaws.{record_drop}
use Rattle.term_spec.specs.Term.{limit}
use Rattle.term_spec.proofs.ValueLaws.{is_yes_lem, yes_of}
use Rattle.numbers.specs.Buckets.{buckets, Sought}
use Rattle.numbers.specs.ChainLaws.{below_next, chains_none, chains_passed, chains_entered, sought_head}
use Rattle.numbers.specs.NumbersLaws.{never}
use Rattle.match_spec.specs.Pattern.{Binding, binding_layout, name_at, find, binding_name, binding_names, binding_rule, bindings_rule}
use Rattle.pattern.specs.Records.{bindings_in, same_name, BindingTexts}
use Rattle.pattern.specs.declared.apart.Outcome.{Outcome}
use Rattle.pattern.specs.declared.apart.Outcome.TheVariants.{NoneRepeats, OneRepeats, GivenUp}
use Rattle.pattern.specs.Apart.{Told, it_is, it_is_not, Tells, none_repeats, one_repeats, given_up}
use Rattle.pattern.specs.Apart.{EachRight, OneWrong, name_in, Apart, Repeats, bindings_from}
use Rattle.pattern.specs.Apart.{spec_bucket_of, bucket_in, Entered, NameTables, NameNew}
use Rattle.pattern.specs.NameLaws.{bindings-length, name-at, find_at, find-before}
use Rattle.pattern.specs.BindingLaws.{Naming, naming_start, all_named, bad_binding_lem, repeated, named, named_text}

-- ---- what an answer tells ----

module _ {P Q : Type 0} where
  pub told_yes : {r : Bool} → Told P Q r → r ≡ true → P
  told_yes (it_is h) e = h
  told_yes (it_is_not h) e = never e refl

  pub told_no : {r : Bool} → Told P Q r → r ≡ false → Q
  told_no (it_is h) e = never refl e
  told_no (it_is_not h) e = h

  pub told_as : {r b : Bool} → Told P Q r → (P → true ≡ b) → (Q → false ≡ b) → r ≡ b
  told_as (it_is h) p q = p h
  told_as (it_is_not h) p q = q h

  module _ {free : Bool} where
    pub tells_none : Tells P Q free NoneRepeats → P
    tells_none (none_repeats h) = h

    pub tells-one : Tells P Q free OneRepeats → Q
    tells-one (one_repeats h) = h

    pub tells_given_up : Tells P Q free GivenUp → free ≡ false
    tells_given_up (given_up h) = h

    -- what is free and does not tell that none repeats tells that one does
    pub tells_free : (o : Outcome) → Tells P Q free o → free ≡ true → (o ≡ NoneRepeats → ⊥) → Q
    tells_free NoneRepeats h e n = absurd (n refl)
    tells_free OneRepeats h e n = tells-one h
    tells_free GivenUp (given_up h) e n = never e h

-- ---- the rule of all bindings ----

module _ (names w : List ℕ) where
  abbrev rule : Bool
  rule = bindings_rule names (records binding_layout w) []

  -- Binding i is right, and its name is not among those before it.
  abbrev Right : ℕ → Type 0
  Right i =
      (binding_rule names (record_at binding_layout w i) ≡ true)
      × (i ≤ find (name_in names w i) (binding_names names (decode binding_layout i w)))

  next_named : (i : ℕ) → i < bindings_in w → Naming names w i → Right i → Naming names w (suc i)
  unfolding binding_name
  next_named i lt now right = rw add-one at (named names w i now lt refl right.0 refl right.1)

  all-passed : ((i : ℕ) → i < bindings_in w → Naming names w i → Right i) → (i : ℕ) → i ≤ bindings_in w → Naming names w i
  all-passed right zero h = naming_start names w
  all-passed right (suc i) h =
      let now = all-passed right i (omega arith) in
      next_named i (omega arith) now (right i (omega arith) now)

  -- The rule says it of each.
  module _ (holding : rule ≡ true) where
    right-now : (i : ℕ) → i < bindings_in w → Naming names w i → Right i
    unfolding binding_name
    right-now i lt now = go (test (binding_rule names (record_at binding_layout w i)))
      where
        at : ℕ
        at = find (name_in names w i) (binding_names names (decode binding_layout i w))

        new : binding_rule names (record_at binding_layout w i) ≡ true → Dec (at < i) → i ≤ at
        new ok (yes q) = never holding (sym (repeated names w i now lt refl ok refl q))
        new ok (no q) = omega arith

        go : Test (binding_rule names (record_at binding_layout w i)) → Right i
        go (holds h) = let ok = T_true _ h in (ok, new ok (dec_lt at i))
        go (fails e) = never holding (sym (bad_binding_lem names w i now lt refl e))

    right-at : (i : ℕ) → i < bindings_in w → Right i
    right-at i lt = right-now i lt (all-passed right-now i (omega arith))

  found_before : (c k : ℕ) → c < k → name_in names w c ≡ name_in names w k → k ≤ find (name_in names w k) (binding_names names (decode binding_layout k w)) → ⊥
  found_before c k lt e h =
      let t = binding_names names (decode binding_layout k w) in
      let size = bindings-length names w k in
      let early = find-before (name_in names w k) t _ c (omega arith) (name-at names w k c lt ∙ e) in
      omega arith

  refuted : (rule ≡ true → ⊥) → false ≡ rule
  refuted h = go (test rule)
    where
      go : Test rule → false ≡ rule
      go (holds t) = absurd (h (T_true _ t))
      go (fails e) = sym e

  pub rule_wrong : OneWrong names w → false ≡ bindings_rule names (records binding_layout w) []
  rule_wrong one = refuted (λ h. never (right-at h one.place one.inside).0 one.wrong)

  pub rule_repeats : Repeats names w → false ≡ bindings_rule names (records binding_layout w) []
  rule_repeats two = refuted (λ h. found_before two.first two.second two.before two.same (right-at h two.second two.inside).1)

  pub rule-holds : EachRight names w (bindings_in w) → Apart names w (bindings_in w) (bindings_in w) → true ≡ bindings_rule names (records binding_layout w) []
  rule-holds right apart = all_named names w (bindings_in w) (all-passed here (bindings_in w) (omega arith)) (omega arith)
    where
      here : (i : ℕ) → i < bindings_in w → Naming names w i → Right i
      here i lt now = (right i lt, new (dec_lt at i))
        where
          at : ℕ
          at = find (name_in names w i) (binding_names names (decode binding_layout i w))

          new : Dec (at < i) → i ≤ at
          new (yes q) =
              let size = bindings-length names w i in
              let found = find_at (name_in names w i) (binding_names names (decode binding_layout i w)) _ (omega arith) in
              absurd (apart at i (omega arith) q lt (sym (name-at names w i at q) ∙ found))
          new (no q) = omega arith

  pub right_texts : EachRight names w (bindings_in w) → BindingTexts names w (bindings_in w)
  unfolding BindingTexts
  right_texts right j lt = named_text names (record_at binding_layout w j) (right j lt)

-- ---- buckets of names ----

bucket_below : (base : ℕ) (names : List ℕ) (o n : ℕ) → spec_bucket_of base names o n < buckets
unfolding spec_bucket_of
bucket_below base names o n = omega arith

-- Binding k is b, whose bucket is x.
pub bucket_read : (base : ℕ) (names w : List ℕ) (k : ℕ) {b : Binding} {x : ℕ} → b ≡ record_at binding_layout w k
    → x ≡ spec_bucket_of base names b.offset b.size → x ≡ bucket_in base names w k
bucket_read base names w k read e = rw (← read) e

bucket_same : (base : ℕ) (names w : List ℕ) (c k : ℕ) → name_in names w c ≡ name_in names w k → bucket_in base names w c ≡ bucket_in base names w k
unfolding spec_bucket_of binding_name name_at
bucket_same base names w c k e = cc

pub tables_none : (base : ℕ) (names w : List ℕ) → BindingTexts names w (bindings_in w)
    → NameTables base names w 0 (replicate buckets 0) (replicate limit 0)
tables_none base names w texts = record {
  texts = texts;
  heads-room = length-replicate {A = ℕ} buckets 0;
  earlier-room = length-replicate {A = ℕ} limit 0;
  chains = chains_none (bucket_in base names w) Entered buckets limit;
}

module _ {base : ℕ} {names w : List ℕ} {k : ℕ} {heads earlier : List ℕ} (was : NameTables base names w k heads earlier) where
  pub tables_passed : limit ≤ k → NameTables base names w (k + 1) heads earlier
  tables_passed h = record {
    texts = was.texts;
    heads-room = was.heads-room;
    earlier-room = was.earlier-room;
    chains = chains_passed was.chains (λ x. omega arith);
  }

  -- Binding k has bucket b.
  module _ {b : ℕ} (key : b ≡ bucket_in base names w k) where
    pub bucket_low : b < buckets
    bucket_low = omega (arith, bucket_below base names (record_at binding_layout w k).offset (record_at binding_layout w k).size)

    pub bucket_room : b < length heads
    bucket_room = omega (arith, bucket_low, was.heads-room)

    pub tables_entered : k < limit → NameTables base names w (k + 1) (set heads b (k + 1)) (set earlier k (get_or heads b 0))
    tables_entered h =
        let room = was.earlier-room in
        record {
          texts = was.texts;
          heads-room = length-set heads b (k + 1) ∙ was.heads-room;
          earlier-room = length-set earlier k (get_or heads b 0) ∙ was.earlier-room;
          chains = chains_entered was.chains b (sym key) h bucket_room (omega arith);
        }

-- ---- looking for a name ----

-- Looking for binding k's name along the chain of its bucket.
abbrev pub NameSought : ℕ → List ℕ → List ℕ → ℕ → List ℕ → List ℕ → ℕ → Type 0
NameSought base names w k heads earlier at =
    Sought (bucket_in base names w) Entered (λ i. name_in names w i ≡ name_in names w k) k heads earlier (bucket_in base names w k) at

pub name_head : {base : ℕ} {names w : List ℕ} {k : ℕ} {heads earlier : List ℕ} {b at : ℕ} → NameTables base names w k heads earlier
    → b ≡ bucket_in base names w k → at ≡ get_or heads b 0 → NameSought base names w k heads earlier at
name_head {base} {names} {w} {k} {heads} tables key e =
    sought_head tables.chains (λ i lt x same. bucket_same base names w i k same) (e ∙ ap (λ z. get_or heads z 0) key)

-- The places looked at are below the limit.
pub name_low : {key : ℕ → ℕ} {Wanted : ℕ → Type 0} {k : ℕ} {heads earlier : List ℕ} {b at : ℕ} → Sought key Entered Wanted k heads earlier b at
    → at ≤ limit
name_low {at = zero} here = omega arith
name_low {at = suc c} here = (here.in_bucket c refl).0

-- Bindings k and j are b and c, whose names were compared.
module _ (names w : List ℕ) (k j : ℕ) {b c : Binding} (read : b ≡ record_at binding_layout w k) (other : c ≡ record_at binding_layout w j) {r : Bool}
    (told : r ≡ same_name (name_at names b.kind b.offset b.size) (name_at names c.kind c.offset c.size)) where
  compared : r ≡ same_name (name_in names w k) (name_in names w j)
  unfolding binding_name
  compared = rw (← read, ← other) told

  pub name-same : r ≡ true → name_in names w j ≡ name_in names w k
  name-same e = sym (yes_of _ (sym compared ∙ e))

  pub name_other : r ≡ false → name_in names w j ≡ name_in names w k → ⊥
  name_other e same = never (compared ∙ is_yes_lem _ (sym same)) e

-- ---- one binding more ----

pub right_next : (names w : List ℕ) {i : ℕ} {b : Binding} → EachRight names w i → b ≡ record_at binding_layout w i → binding_rule names b ≡ true
    → EachRight names w (i + 1)
right_next names w {i} was read ok = below_more _ i was (rw (← read) ok)

pub apart_next : (names w : List ℕ) {k : ℕ} → Apart names w limit k → NameNew names w k → Apart names w limit (k + 1)
apart_next names w {k} was new c j low lt h e = go (below_next h)
  where
    go : (j < k) ⊎ (j ≡ k) → ⊥
    go (inl q) = was c j low lt q e
    go (inr q) = new c (omega arith) low (rw q at e)

-- ---- the bindings from one on ----

module _ (names w : List ℕ) (from : ℕ) where
  rest_all : bindings_from w from ≡ drop (from * binding_layout.width) w
  rest_all =
      let n = from * binding_layout.width in
      take_all (length w - n) (drop n w) (omega (arith, length-drop n w))

  rest-count : bindings_in (bindings_from w from) ≡ bindings_in w - from
  rest-count = omega (arith, ap length rest_all, length-drop (from * binding_layout.width) w)

  rest_read : (i : ℕ) → record_at binding_layout (bindings_from w from) i ≡ record_at binding_layout w (from + i)
  rest_read i = ap (λ v. record_at binding_layout v i) rest_all ∙ record_drop binding_layout from i w

  rest-name : (i : ℕ) → name_in names (bindings_from w from) i ≡ name_in names w (from + i)
  rest-name i = ap (binding_name names) (rest_read i)

  pub rest_texts : BindingTexts names w (bindings_in w) → BindingTexts names (bindings_from w from) (bindings_in (bindings_from w from))
  unfolding BindingTexts
  rest_texts texts j lt = rw (rest_read j) (texts (from + j) (omega (arith, rest-count)))

  pub rest_repeats : Repeats names (bindings_from w from) → Repeats names w
  rest_repeats two = record {
    first = from + two.first;
    second = from + two.second;
    before = let h = two.before in omega arith;
    inside = let h = two.inside in omega (arith, rest-count);
    same = sym (rest-name two.first) ∙ two.same ∙ rest-name two.second;
  }

  pub rest-apart : Apart names w from (bindings_in w) → Apart names (bindings_from w from) limit (bindings_in (bindings_from w from))
      → Apart names w (from + limit) (bindings_in w)
  rest-apart was apart c k low lt h e = go (dec_lt c from)
    where
      go : Dec (c < from) → ⊥
      go (yes q) = was c k q lt h e
      go (no q) =
          let u : from + (c - from) ≡ c = omega arith in
          let v : from + (k - from) ≡ k = omega arith in
          apart (c - from) (k - from) (omega arith) (omega arith) (omega (arith, rest-count))
          (rest-name (c - from) ∙ ap (name_in names w) u ∙ e ∙ ap (name_in names w) (sym v) ∙ sym (rest-name (k - from)))
