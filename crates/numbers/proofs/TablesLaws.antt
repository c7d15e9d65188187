-- Laws of the tables: empty ones, looking for an equal term along a chain, and one term more.
use Rattle.std.specs.Prelude.{◌≡◌, refl, List, Option, Some, None, ◌⊎◌, false, eqb, length, set, replicate}
use Rattle.std.proofs.Common.{ap, ◌∙◌, inl, inr, length-set, get_or-set_same, get_or-set_other}
use Rattle.std.proofs.Math.Path.{sym}
use Rattle.std.proofs.Math.Bool.{true}
use borrow.Author.Tests.{eq-eqb, ne_eqb}
use Rattle.std.proofs.Math.ListN.{get_or}
use Rattle.std.proofs.lemmas.List.{length-replicate}
use Prim.Native.Nat.{ℕ, suc, zero, ◌+◌, ◌-◌, ◌<◌, ◌≤◌}
use native.Mathlib.Omega.{arith}
use Rattle.term_spec.specs.Words.{record_at}
use Rattle.term_spec.specs.Term.{Term, term_layout, limit}
use Rattle.value.specs.Equal.{TermStore, equal_at}
use Rattle.numbers.specs.Buckets.{buckets, entry, Chains}
use Rattle.numbers.specs.ChainLaws.{chains_none, chains_same, chains_passed, chains_entered, below_next}
use Rattle.numbers.specs.ChainLaws.{sought_head, sought_low, sought_entered, sought_next, sought_none}
use Rattle.numbers.specs.Numbers.{Entered, key_of, key_at, Tables, Searched, Placed}
use Rattle.numbers.specs.NumbersLaws.{forms-equal, forms_differ, equal-forms, equal_flip, equal-right, eqb_flip, never}
use Rattle.numbers.proofs.SameKeyLaws.{key_below, key_set, equal_key}

-- At first no term has its number.
pub tables_none : (base : ℕ) (names w : List ℕ) (used : ℕ) (numbers : List ℕ) → TermStore names w used → used ≤ limit → used ≤ length numbers
    → Tables base names w used 0 numbers (replicate buckets 0) (replicate limit 0)
tables_none base names w used numbers store few room = record {
  store = store;
  few = few;
  room = room;
  heads-room = length-replicate {A = ℕ} buckets 0;
  earlier-room = length-replicate {A = ℕ} limit 0;
  low = λ i h. absurd (omega arith);
  first = λ i h. absurd (omega arith);
  known = record { room = omega arith; told = λ i j h. absurd (omega arith) };
  chains = chains_none (key_at base names w numbers) (Entered numbers) buckets limit;
}

-- ---- looking for an equal term ----

-- Term k, t, has bucket b.
module _ {base : ℕ} {names w : List ℕ} {used k : ℕ} {numbers heads earlier : List ℕ} (tables : Tables base names w used k numbers heads earlier)
    {b : ℕ} {t : Term} (key : b ≡ key_of base names numbers t) (read : t ≡ record_at term_layout w k) where
  pub key_low : b < buckets
  key_low = omega (arith, key_below base names numbers t)

  pub key_room : b < length heads
  key_room = omega (arith, key_low, tables.heads-room)

  pub key_here : b ≡ key_at base names w numbers k
  key_here = key ∙ ap (key_of base names numbers) read

  -- The search starts at its head.
  pub searched_head : {from : ℕ} → k < used → from ≡ get_or heads b 0 → Searched base names w used numbers heads earlier k from
  searched_head inside head = record {
    tables = tables;
    below = inside;
    sought =
        sought_head tables.chains (λ i lt x same. equal_key base names w used tables.store numbers i k lt inside tables.known same)
        (head ∙ ap (λ z. get_or heads z 0) key_here);
  }

module _ {base : ℕ} {names w : List ℕ} {used : ℕ} {numbers heads earlier : List ℕ} {k : ℕ} where
  -- Place c is looked at.
  module _ {c : ℕ} (here : Searched base names w used numbers heads earlier k (suc c)) where
    -- It was not it: the one before it in its chain.
    pub searched_next : equal_at names w used c k ≡ false → Searched base names w used numbers heads earlier k (get_or earlier c 0)
    searched_next other = record {
      tables = here.tables;
      below = here.below;
      sought = sought_next here.sought (λ same. never same other);
    }

    pub placed_here : equal_at names w used c k ≡ true → Placed names w used numbers k (suc c)
    unfolding Placed
    placed_here same = (sought_low here.sought, sought_entered here.sought, same)

  pub placed_nowhere : {at : ℕ} → Searched base names w used numbers heads earlier k at → at ≡ 0 → Placed names w used numbers k 0
  unfolding Placed
  placed_nowhere here e = sought_none here.sought e

-- What was found, as facts.
pub record Found (names w : List ℕ) (used : ℕ) (numbers : List ℕ) (k c : ℕ) : Type 0 where
  pub low : c < k
  pub own : Entered numbers c
  pub same : equal_at names w used c k ≡ true

pub placed_none : (names w : List ℕ) (used : ℕ) (numbers : List ℕ) (k at : ℕ) → Placed names w used numbers k at → at ≡ 0 → Placed names w used numbers k 0
placed_none names w used numbers k at h e = rw e at h

pub placed-found : (names w : List ℕ) (used : ℕ) (numbers : List ℕ) (k at : ℕ) → Placed names w used numbers k at → (at ≡ 0 → ⊥)
    → Found names w used numbers k (at - 1)
unfolding Placed
placed-found names w used numbers k zero h n = absurd (n refl)
placed-found names w used numbers k (suc c) h n =
    let e : suc c - 1 ≡ c = omega arith in
    rw e (record { low = h.0; own = h.1; same = h.2 })

-- The same of a place that there may be.
module _ (names w : List ℕ) (used : ℕ) (numbers : List ℕ) (k : ℕ) (place : Option ℕ) (told : Placed names w used numbers k (entry place)) where
  pub place_none : place ≡ None → Placed names w used numbers k 0
  place_none e = rw e at told

  pub place_found : {c : ℕ} → place ≡ Some c → Found names w used numbers k c
  unfolding Placed
  place_found e = let (low, own, same) = rw e at told in record { low = low; own = own; same = same }

-- ---- one term more ----

module _ {base : ℕ} {names w : List ℕ} {used k : ℕ} {numbers heads earlier : List ℕ}
    (was : Tables base names w used k numbers heads earlier) (inside : k < used) where
  module _ (r : ℕ) where
    abbrev new : List ℕ
    new = set numbers k r

    number_low : (i : ℕ) → i < k → get_or new i 0 ≡ get_or numbers i 0
    number_low i lt = get_or-set_other numbers k i r 0 (λ q. omega arith)

    number_here : get_or new k 0 ≡ r
    number_here = let h = was.room in get_or-set_same numbers k r 0 (omega arith)

    moved : Chains (key_at base names w new) (Entered new) k heads earlier
    moved =
        chains_same was.chains (λ c lt. sym (key_set base names w used was.store numbers c k r (omega arith) (omega arith)))
        (λ c lt x. number_low c lt ∙ x) (λ c lt x. sym (number_low c lt) ∙ x)

    module _ (le : r ≤ k) (own : Entered new r) (tells : (i : ℕ) → i < k → equal_at names w used i k ≡ eqb (get_or numbers i 0) r) where
      next_low : (i : ℕ) → i < k + 1 → get_or new i 0 ≤ i
      next_low i h = go (below_next h)
        where
          go : (i < k) ⊎ (i ≡ k) → get_or new i 0 ≤ i
          go (inl lt) = rw (number_low i lt) (was.low i lt)
          go (inr e) = rw (e, number_here) le

      next_first : (i : ℕ) → i < k + 1 → Entered new (get_or new i 0)
      next_first i h = go (below_next h)
        where
          go : (i < k) ⊎ (i ≡ k) → Entered new (get_or new i 0)
          go (inl lt) = let l = was.low i lt in rw (number_low i lt) (number_low (get_or numbers i 0) (omega arith) ∙ was.first i lt)
          go (inr e) = rw (e, number_here) own

      next_told : (i j : ℕ) → i < k + 1 → j < k + 1 → equal_at names w used i j ≡ eqb (get_or new i 0) (get_or new j 0)
      next_told i j h g = go (below_next h) (below_next g)
        where
          go : (i < k) ⊎ (i ≡ k) → (j < k) ⊎ (j ≡ k) → equal_at names w used i j ≡ eqb (get_or new i 0) (get_or new j 0)
          go (inl x) (inl y) = rw (number_low i x, number_low j y) (was.known.told i j x y)
          go (inl x) (inr f) = rw (f, number_low i x, number_here) (tells i x)
          go (inr e) (inl y) = rw (e, number_low j y, number_here) (equal_flip names w used k j ∙ tells j y ∙ eqb_flip (get_or numbers j 0) r)
          go (inr e) (inr f) = rw (e, f) (forms-equal names w used k k refl ∙ sym (eq-eqb (get_or new k 0) (get_or new k 0) refl))

      tables_next : {heads' earlier' : List ℕ} → length heads' ≡ length heads → length earlier' ≡ length earlier
          → Chains (key_at base names w new) (Entered new) (k + 1) heads' earlier' → Tables base names w used (k + 1) new heads' earlier'
      tables_next p q chains =
          let size = length-set numbers k r in
          let h = was.room in
          record {
            store = was.store;
            few = was.few;
            room = omega arith;
            heads-room = p ∙ was.heads-room;
            earlier-room = q ∙ was.earlier-room;
            low = next_low;
            first = next_first;
            known = record { room = omega arith; told = next_told };
            chains = chains;
          }

  -- Term c is equal to it, and is the first that is.
  pub tables_found : {c : ℕ} → Found names w used numbers k c → Tables base names w used (k + 1) (set numbers k c) heads earlier
  tables_found {c} found =
      let lt = found.low in
      tables_next c (omega arith) (number_low c c lt ∙ found.own) tells refl refl (chains_passed (moved c) (λ x. out (sym (number_here c) ∙ x)))
    where
      out : c ≡ k → ⊥
      out e = let lt = found.low in omega arith

      tells : (i : ℕ) → i < k → equal_at names w used i k ≡ eqb (get_or numbers i 0) c
      tells i lt =
          equal-right names w used i c k found.same ∙ was.known.told i c lt found.low ∙ ap (eqb (get_or numbers i 0)) found.own

  -- No term below is equal to it.
  module _ (none : Placed names w used numbers k 0) (b : ℕ) (key : b ≡ key_at base names w numbers k) where
    alone : (i : ℕ) → i < k → equal_at names w used i k ≡ true → ⊥
    unfolding Placed
    alone i lt e =
        let n = get_or numbers i 0 in
        let low = was.low i lt in
        let f : equal_at names w used n i ≡ true = was.known.told n i (omega arith) lt ∙ eq-eqb _ _ (was.first i lt) in
        none n (omega arith) (was.first i lt) (forms-equal names w used n k (equal-forms names w used n i f ∙ equal-forms names w used i k e))

    tells_none : (i : ℕ) → i < k → equal_at names w used i k ≡ eqb (get_or numbers i 0) k
    tells_none i lt =
        let low = was.low i lt in
        forms_differ names w used i k (λ e. alone i lt (forms-equal names w used i k e)) ∙ sym (ne_eqb (get_or numbers i 0) k (λ q. omega arith))

    pub tables_entered : Tables base names w used (k + 1) (set numbers k k) (set heads b (k + 1)) (set earlier k (get_or heads b 0))
    tables_entered =
        let few = was.few in
        let rooms = was.heads-room in
        let room = was.earlier-room in
        let below = key_below base names numbers (record_at term_layout w k) in
        tables_next k (omega arith) (number_here k) tells_none (length-set heads b (k + 1)) (length-set earlier k (get_or heads b 0))
        (chains_entered (moved k) b (key_set base names w used was.store numbers k k k inside (omega arith) ∙ sym key) (number_here k)
        (omega arith) (omega arith))
