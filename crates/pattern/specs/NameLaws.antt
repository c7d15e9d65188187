-- Laws of names: when two are one, and finding a name in a table from its start on.
use Rattle.std.specs.Prelude.{◌≡◌, refl, Option, Some, None, is_some, unwrap_or, true, false, get_or, take, ℕ, suc, zero, ◌+◌, ◌<◌, ◌≤◌}
use Rattle.std.proofs.Math.Path.{ap, sym}
use Rattle.std.proofs.Common.{◌∙◌, get_or-take, length-take-le}
use mathlib.Core.List.{List, [], ◌∷◌, ◌++◌}
use Rattle.std.proofs.Math.ListN.{length, drop, get_or-map}
use Rattle.std.proofs.lemmas.List.{length-map}
use Rattle.std.proofs.Math.Seq.{drop-length}
use native.Mathlib.Omega.{arith}
use Rattle.term_spec.proofs.ListLaws.{entry_next, map_next}
use Rattle.term_spec.specs.Words.{Lies, decode, record_at, count, records}
use Rattle.term_spec.proofs.WordsLaws.{decode-length, decode-at, record_next}
use Rattle.term_spec.specs.Text.{text_at}
use Rattle.term_spec.specs.Value.{is_yes, canon}
use Rattle.term_spec.proofs.ValueLaws.{is_no, alike}
use Rattle.text.specs.Texts.{identifiers_equal}
use Rattle.match_spec.specs.Pattern.{Item, item_layout, Binding, binding_layout, Name, name_at, name?, find_here, find, binding_name, binding_names}
use Rattle.match_spec.proofs.NameLaws.{find_le, find-kept}
use Rattle.numbers.specs.NumbersLaws.{never}
use Rattle.pattern.specs.Apart.{name_in}
use Rattle.pattern.specs.Records.{bindings_in, same_name, FoundAmong, item_name, first_names, table_at, BindingTexts, ItemTexts}

-- ---- when two names are one ----

module _ (names : List ℕ) (kind o n other p m : ℕ) where
  pub kinds_apart : (kind ≡ other → ⊥) → false ≡ same_name (name_at names kind o n) (name_at names other p m)
  unfolding name_at
  kinds_apart h = sym (is_no _ (λ q. h (cc)))

  pub same_kinds : kind ≡ other → identifiers_equal (text_at names o n) (text_at names p m) ≡ same_name (name_at names kind o n) (name_at names other p m)
  unfolding name_at identifiers_equal canon
  same_kinds e = alike _ _ (λ q. cc) (λ q. cc)

-- ---- finding a name ----

here : {P : Type 0} (d : Dec P) (n : ℕ) → is_yes d ≡ true → find_here d n ≡ 0
unfolding is_yes find_here
here (yes h) n e = refl
here (no h) n e = absurd (let z : ◌≡◌ {A = ℕ} 0 1 = cc in omega arith)

later : {P : Type 0} (d : Dec P) (n : ℕ) → is_yes d ≡ false → find_here d n ≡ suc n
unfolding is_yes find_here
later (yes h) n e = absurd (let z : ◌≡◌ {A = ℕ} 0 1 = cc in omega arith)
later (no h) n e = refl

pub find-start : (x : Name) (t : List Name) → 0 + find x (drop 0 t) ≡ find x t
find-start x t = omega arith

module _ (x : Name) (t : List Name) (i : ℕ) where
  pub found : {y : Name} → drop i t ≡ y ∷ drop (i + 1) t → i + find x (drop i t) ≡ find x t → same_name x y ≡ true → i ≡ find x t
  unfolding find
  found {y} e h s = omega (arith, rw (e, find, here (name? x y) (find x (drop (i + 1) t)) s) at h)

  pub passed : {y : Name} → drop i t ≡ y ∷ drop (i + 1) t → i + find x (drop i t) ≡ find x t → same_name x y ≡ false → i + 1 + find x (drop (i + 1) t) ≡ find x t
  unfolding find
  passed {y} e h s = omega (arith, rw (e, find, later (name? x y) (find x (drop (i + 1) t)) s) at h)

  pub not_found : {n : ℕ} → length t ≡ n → n ≤ i → i ≤ n → i + find x (drop i t) ≡ find x t → n ≡ find x t
  unfolding find
  not_found {n} e g l h =
      let q : i ≡ length t = omega arith in
      let z : drop i t ≡ [] = ap (λ k. drop k t) q ∙ drop-length t in
      omega (arith, rw (z, find) at h)

-- what stands where a name is found is that name
pub find_at : (x : Name) (t : List Name) (d : Name) → find x t < length t → get_or t (find x t) d ≡ x
unfolding find find_here
find_at x [] d h = absurd (omega arith)
find_at x (y ∷ t) d h = go (name? x y) (find_at x t d) h
  where
    go : (q : Dec (x ≡ y)) → (find x t < length t → get_or t (find x t) d ≡ x) → find_here q (find x t) < suc (length t)
        → get_or (y ∷ t) (find_here q (find x t)) d ≡ x
    go (yes e) ih k = sym e
    go (no e) ih k = ih (omega arith)

-- a name is found where it stands, or before
pub find-before : (x : Name) (t : List Name) (d : Name) (i : ℕ) → i < length t → get_or t i d ≡ x → find x t ≤ i
unfolding find find_here
find-before x [] d i h e = absurd (omega arith)
find-before x (y ∷ t) d zero h e = go (name? x y)
  where
    go : (q : Dec (x ≡ y)) → find_here q (find x t) ≤ zero
    go (yes f) = omega arith
    go (no f) = absurd (f (sym e))
find-before x (y ∷ t) d (suc i) h e = go (name? x y) (find-before x t d i (omega arith) e)
  where
    go : (q : Dec (x ≡ y)) → find x t ≤ i → find_here q (find x t) ≤ suc i
    go (yes f) k = omega arith
    go (no f) k = omega arith

-- a name that is not in the first part of a table is looked for in the second
pub find_past : (x : Name) (t u : List Name) → find x t ≡ length t → find x (t ++ u) ≡ length t + find x u
unfolding find find_here
find_past x [] u e = omega arith
find_past x (y ∷ t) u e = go (name? x y) (find_past x t u) e
  where
    go : (d : Dec (x ≡ y)) → (find x t ≡ length t → find x (t ++ u) ≡ length t + find x u) → find_here d (find x t) ≡ suc (length t)
        → find_here d (find x (t ++ u)) ≡ suc (length t) + find x u
    go (yes q) ih k = absurd (omega arith)
    go (no q) ih k = omega (arith, ih (omega arith))

-- ---- what the code finds ----

-- The place that is found is in the table, and what stands for none is past it.
pub found_inside : (x : Name) (t : List Name) (n : ℕ) (place : Option ℕ) → FoundAmong x t n place → is_some place ≡ true → unwrap_or place n < n
found_inside x t n (Some i) h e = h.1
found_inside x t n None h e = never e refl

pub found_outside : (n : ℕ) (place : Option ℕ) → is_some place ≡ false → n ≤ unwrap_or place n
found_outside n (Some i) e = never refl e
found_outside n None e = omega arith

-- ---- the names of bindings ----

module _ (names w : List ℕ) where
  pub bindings-length : (n : ℕ) → length (binding_names names (decode binding_layout n w)) ≡ n
  bindings-length n = length-map (decode binding_layout n w) (binding_name names) ∙ decode-length binding_layout n w

  pub name-at : (n i : ℕ) → i < n → get_or (binding_names names (decode binding_layout n w)) i (binding_name names (binding_layout.read [])) ≡ name_in names w i
  name-at n i h =
      get_or-map (binding_name names) (decode binding_layout n w) i (binding_layout.read [])
      ∙ ap (binding_name names) (decode-at binding_layout n i w (binding_layout.read []) h)

  pub binding_next : (n i : ℕ) {b : Binding} → i < n → b ≡ record_at binding_layout w i
      → drop i (binding_names names (decode binding_layout n w)) ≡ name_at names b.kind b.offset b.size ∷ drop (i + 1) (binding_names names (decode binding_layout n w))
  unfolding binding_name
  binding_next n i h e = map_next (binding_name names) (decode binding_layout n w) i (record_next binding_layout n w i h e)

  pub binding_text : (n i : ℕ) {b : Binding} → BindingTexts names w n → i < n → b ≡ record_at binding_layout w i → b.offset + b.size ≤ length names
  unfolding BindingTexts
  binding_text n i h lt e = rw e (h i lt)

-- ---- the names of numbered records ----

module _ (names w firsts : List ℕ) where
  pub firsts_size : length (first_names names w firsts) ≡ length firsts
  firsts_size = length-map firsts _

  pub first_here : (i : ℕ) {j : ℕ} {t : Item} → i < length firsts → j ≡ get_or firsts i 0 → t ≡ record_at item_layout w j
      → drop i (first_names names w firsts) ≡ item_name names t ∷ drop (i + 1) (first_names names w firsts)
  first_here i {j} h e q = map_next _ firsts i {y = get_or firsts i 0} (entry_next firsts i 0 h) ∙ rw (← e, ← q) refl

-- Those of the first n of the numbers.
module _ (names w firsts : List ℕ) (n : ℕ) (fits : n ≤ length firsts) where
  pub firsts_length : length (first_names names w (take n firsts)) ≡ n
  firsts_length = length-map (take n firsts) _ ∙ length-take-le n firsts fits

  pub firsts_few : (x : Name) {k : ℕ} → k ≡ find x (first_names names w (take n firsts)) → k ≤ n
  firsts_few x e = omega (arith, find_le x (first_names names w (take n firsts)), firsts_length)

  pub first_next : (i : ℕ) {j : ℕ} {t : Item} → i < n → j ≡ get_or firsts i 0 → t ≡ record_at item_layout w j
      → drop i (first_names names w (take n firsts)) ≡ item_name names t ∷ drop (i + 1) (first_names names w (take n firsts))
  first_next i {j} h e q =
      map_next _ (take n firsts) i {y = get_or (take n firsts) i 0} (entry_next (take n firsts) i 0 (rw (length-take-le n firsts fits) h))
      ∙ rw (get_or-take n firsts i 0 h, ← e, ← q) refl

module _ (names w firsts : List ℕ) (n i : ℕ) {j : ℕ} (h : ItemTexts names w firsts n) (lt : i < n) (e : j ≡ get_or firsts i 0) where
  pub first-inside : Lies item_layout w (j + 1)
  unfolding ItemTexts
  first-inside = rw e (h i lt).0

  pub first_text : {t : Item} → t ≡ record_at item_layout w j → t.a + t.b ≤ length names
  unfolding ItemTexts
  first_text q = rw (q, e) (h i lt).1

-- ---- the whole table ----

module _ (names w bindings firsts : List ℕ) (x : Name) {at : ℕ} (e : at ≡ find x (binding_names names (decode binding_layout (bindings_in bindings) bindings))) where
  pub in_bindings : at < bindings_in bindings → at ≡ find x (table_at names w bindings firsts)
  unfolding records count
  in_bindings h =
      let b : List Name = binding_names names (decode binding_layout (bindings_in bindings) bindings) in
      e ∙ sym (find-kept x b (first_names names w firsts) (rw (bindings-length names bindings (bindings_in bindings), ← e) h))

  pub in_firsts : {k : ℕ} → bindings_in bindings ≤ at → k ≡ find x (first_names names w firsts) → bindings_in bindings + k ≡ find x (table_at names w bindings firsts)
  unfolding records count
  in_firsts {k} h q =
      let b : List Name = binding_names names (decode binding_layout (bindings_in bindings) bindings) in
      let l : length b ≡ bindings_in bindings = bindings-length names bindings (bindings_in bindings) in
      omega (arith, find_past x b (first_names names w firsts) (omega (arith, find_le x b)))
