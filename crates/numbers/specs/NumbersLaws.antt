-- Laws of numbers: runs are compared by them, equal terms have one key, and the tables with one term more.
use Rattle.std.specs.Prelude.{◌≡◌, refl, List, Bool, true, false, eqb, get_or, take, drop, ℕ, suc, zero, ◌+◌, ◌-◌, ◌<◌, ◌≤◌}
use Rattle.std.proofs.Common.{ap, ◌∙◌, eq-eqb, ne_eqb, get_or-take, get_or-drop, ext_get_or, arith}
use Rattle.std.proofs.Math.Path.{sym}
use Rattle.std.proofs.Math.Decide.{ℕ_discrete, dec_lt}
use Rattle.term_spec.proofs.ListLaws.{part_length}
use Rattle.term_spec.proofs.ValueLaws.{is_yes_lem, is_no, yes_of, alike}
use Rattle.value.specs.Equal.{equal_at, spec_equal_runs}
use Rattle.value.specs.EqualLaws.{runs_from, runs-all, runs-more, runs_none}
use Rattle.numbers.specs.Numbers.{form_at, Numbers, Same, Agree}

-- ---- equality of terms ----

module _ (names w : List ℕ) (used i j : ℕ) where
  pub forms-equal : form_at names w used i ≡ form_at names w used j → equal_at names w used i j ≡ true
  unfolding form_at equal_at
  forms-equal h = is_yes_lem _ h

  pub forms_differ : (form_at names w used i ≡ form_at names w used j → ⊥) → equal_at names w used i j ≡ false
  unfolding form_at equal_at
  forms_differ h = is_no _ h

  pub equal-forms : equal_at names w used i j ≡ true → form_at names w used i ≡ form_at names w used j
  unfolding form_at equal_at
  equal-forms h = yes_of _ h

  pub equal_flip : equal_at names w used i j ≡ equal_at names w used j i
  unfolding equal_at
  equal_flip = alike _ _ sym sym

-- A term that is equal to another is equal to the same terms.
pub equal-right : (names w : List ℕ) (used i c k : ℕ) → equal_at names w used c k ≡ true → equal_at names w used i k ≡ equal_at names w used i c
unfolding equal_at
equal-right names w used i c k same = alike _ _ (λ e. e ∙ sym (yes_of _ same)) (λ e. e ∙ yes_of _ same)

pub eqb_flip : (m n : ℕ) → eqb m n ≡ eqb n m
eqb_flip m n = go (ℕ_discrete m n)
  where
    go : Dec (m ≡ n) → eqb m n ≡ eqb n m
    go (yes e) = rw e refl
    go (no q) = ne_eqb m n q ∙ sym (ne_eqb n m (λ e. q (sym e)))

pub never : {P : Type 0} {b : Bool} → b ≡ true → b ≡ false → P
never p q = let z : ◌≡◌ {A = ℕ} 0 1 = cc in absurd (omega arith)

-- ---- runs by their numbers ----

-- More of the numbers that follow are the same.
pub same_more : (numbers : List ℕ) (s p k m : ℕ) → Same numbers s p k → Same numbers (s + k) (p + k) m → Same numbers s p (k + m)
same_more numbers s p k m front rest i lt = go (dec_lt i k)
  where
    go : Dec (i < k) → get_or numbers (s + i) 0 ≡ get_or numbers (p + i) 0
    go (yes q) = front i q
    go (no q) =
        let first : s + k + (i - k) ≡ s + i = omega arith in
        let second : p + k + (i - k) ≡ p + i = omega arith in
        rw (first, second) at (rest (i - k) (omega arith))

module _ (names w : List ℕ) (used k : ℕ) (numbers : List ℕ) (known : Numbers names w used k numbers) (inside : k ≤ used)
    (s p n : ℕ) (first : s + n ≤ k) (second : p + n ≤ k) where
  abbrev Alike : ℕ → Type 0
  Alike j = get_or numbers (s + j) 0 ≡ get_or numbers (p + j) 0

  runs_next : (j : ℕ) → j < n → Alike j → runs_from names w used s n p j ≡ runs_from names w used s n p (j + 1)
  runs_next j lt e =
      runs-more names w used s n p j lt (omega arith) (omega arith) (known.told (s + j) (p + j) (omega arith) (omega arith) ∙ eq-eqb _ _ e)

  runs_differ : (j : ℕ) → j < n → (Alike j → ⊥) → runs_from names w used s n p j ≡ false
  runs_differ j lt e =
      runs-more names w used s n p j lt (omega arith) (omega arith) (known.told (s + j) (p + j) (omega arith) (omega arith) ∙ ne_eqb _ _ e)

  runs_agree : (j : ℕ) → j ≤ n → Same numbers s p j → runs_from names w used s n p 0 ≡ runs_from names w used s n p j
  runs_agree zero le h = refl
  runs_agree (suc j) le h =
      let f : j + 1 ≡ suc j = omega arith in
      runs_agree j (omega arith) (λ i lt. h i (omega arith)) ∙ runs_next j (omega arith) (h j (omega arith))
      ∙ ap (λ z. runs_from names w used s n p z) f

  -- Runs of one length are equal if all their numbers agree.
  pub runs-numbered : {r m : ℕ} → n ≡ m → Agree numbers s p n r → eqb r n ≡ spec_equal_runs names w used s n p m
  runs-numbered {r} {m} same found = sym (runs-all names w used s n p m same ∙ runs_agree r found.within found.same ∙ go (ℕ_discrete r n))
    where
      go : Dec (r ≡ n) → runs_from names w used s n p r ≡ eqb r n
      go (yes q) = runs_none names w used s n p r (omega arith) ∙ sym (eq-eqb r n q)
      go (no q) =
          let lt : r < n = let h = found.within in omega arith in
          runs_differ r lt (found.apart lt) ∙ sym (ne_eqb r n q)

  -- Equal runs of one length have the same numbers.
  module _ (equal : spec_equal_runs names w used s n p n ≡ true) where
    same-front : (j : ℕ) → j ≤ n → Same numbers s p j
    same-front zero le i lt = absurd (omega arith)
    same-front (suc j) le i lt = go (same-front j (omega arith)) (dec_lt i j) (ℕ_discrete (get_or numbers (s + j) 0) (get_or numbers (p + j) 0))
      where
        go : Same numbers s p j → Dec (i < j) → Dec (Alike j) → Alike i
        go below (yes q) d = below i q
        go below (no q) (yes e) = let f : i ≡ j = omega arith in rw f e
        go below (no q) (no e) =
            never equal (runs-all names w used s n p n refl ∙ runs_agree j (omega arith) below ∙ runs_differ j (omega arith) e)

    pub numbers_same : take n (drop s numbers) ≡ take n (drop p numbers)
    numbers_same =
        let room = known.room in
        let long = part_length numbers s n (omega arith) in
        ext_get_or 0 _ _ (long ∙ sym (part_length numbers p n (omega arith)))
        (λ i lt. let h : i < n = omega arith in entry s i h ∙ same-front n (omega arith) i h ∙ sym (entry p i h))
      where
        entry : (a i : ℕ) → i < n → get_or (take n (drop a numbers)) i 0 ≡ get_or numbers (a + i) 0
        entry a i lt = get_or-take n (drop a numbers) i 0 lt ∙ get_or-drop a numbers i 0
