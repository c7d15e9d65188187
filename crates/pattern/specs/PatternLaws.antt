-- Laws of a pattern's rule: a record by its kind, and what is left of the records comes to the same as the whole.
use Rattle.std.specs.Prelude.{◌≡◌, List, [], ◌∷◌, ◌++◌, reverse, Bool, true, false, ◌&&◌, ltb, leb, length, get_or, set, drop}
use Rattle.std.proofs.Math.Path.{refl, ap}
use Rattle.std.proofs.Common.{◌∙◌, lt-ltb, le-ltb, le-leb, eq-eqb, ne_eqb, sym, length-append, length-set, get_or-set_same, get_or-set_other, add-one}
use Rattle.std.proofs.lemmas.List.{length-reverse, reverse-append}
use Rattle.std.proofs.Math.ListN.{get_or-append}
use Rattle.std.proofs.Math.Seq.{get_or-append_seam}
use Rattle.std.proofs.lemmas.Bool.{lt-leb}
use Rattle.std.proofs.Math.Dec.{eqb}
use Prim.Native.Nat.{ℕ, suc, zero, ◌+◌, ◌-◌, ◌<◌, ◌≤◌}
use Rattle.std.proofs.Math.Decide.{ℕ_discrete}
use native.Mathlib.Omega.{arith}
use Rattle.term_spec.specs.Words.{record_at, records, count}
use Rattle.term_spec.proofs.WordsLaws.{decode-at, record_next, records_done}
use Rattle.term_spec.specs.Text.{text_rule}
use Rattle.term_spec.specs.Term.{Term, symbol_rule}
use Rattle.text.specs.Texts.{name_text, spelling}
use Rattle.match_spec.specs.Pattern.{open_kind, close_kind, symbol_variable_kind, term_variable_kind, expression_variable_kind, call_kind, block_kind, nesting_limit}
use Rattle.match_spec.specs.Pattern.{Item, no_item, item_layout, item_rule_k, close_rule, nest_rule_k, none_open, items_rule, pattern_rule}
use Rattle.items.specs.Records.{term_of_item}
use Rattle.pattern.specs.Records.{items_in, variable}

-- ---- a record by itself ----

pub kind_low : (k : ℕ) → k < symbol_variable_kind → false ≡ variable k
kind_low k h = simp (lt-leb symbol_variable_kind k h)

pub kind_from_s : (k : ℕ) → symbol_variable_kind ≤ k → leb k expression_variable_kind ≡ variable k
kind_from_s k h = simp (le-leb symbol_variable_kind k h)

-- The kinds of variables, one by one.
pub data Variable (k : ℕ) : Type 0 where
  s_kind : k ≡ symbol_variable_kind → Variable k
  t_kind : k ≡ term_variable_kind → Variable k
  e_kind : k ≡ expression_variable_kind → Variable k

pub variable_kind : (k : ℕ) → symbol_variable_kind ≤ k → k ≤ expression_variable_kind → Variable k
variable_kind k lo hi = go (ℕ_discrete k symbol_variable_kind) (ℕ_discrete k term_variable_kind)
  where
    go : Dec (k ≡ symbol_variable_kind) → Dec (k ≡ term_variable_kind) → Variable k
    go (yes e) d = s_kind e
    go (no n) (yes e) = t_kind e
    go (no n) (no m) = e_kind (omega arith)

module _ (names : List ℕ) (t : Item) where
  item_symbol : (k : ℕ) → k < open_kind → symbol_rule k names t.a t.b t.c ≡ item_rule_k k names t
  unfolding item_rule_k
  item_symbol zero h = refl
  item_symbol (suc zero) h = refl
  item_symbol (suc (suc zero)) h = refl
  item_symbol (suc (suc (suc k))) h = absurd (omega arith)

  -- A literal has the rule of the term l that it is.
  pub item_literal : (l : Term) {b : Bool} → b ≡ symbol_rule l.kind names l.a l.b l.c → l ≡ term_of_item t → t.kind < open_kind
      → b ≡ item_rule_k t.kind names t
  item_literal l q e h = q ∙ ap (λ z. symbol_rule z.kind names z.a z.b z.c) e ∙ item_symbol t.kind h

  pub item_bracket : (k : ℕ) → open_kind ≤ k → k < symbol_variable_kind → {z : Bool} → eqb t.b 0 ≡ z → item_rule_k k names t ≡ z && eqb t.c 0
  unfolding item_rule_k
  item_bracket k lo hi {z} e = go (ℕ_discrete k open_kind)
    where
      go : Dec (k ≡ open_kind) → item_rule_k k names t ≡ z && eqb t.c 0
      go (yes q) = rw (q, e) refl
      go (no n) = let q : k ≡ close_kind = omega arith in rw (q, e) refl

  by_kind : (k : ℕ) → Variable k → item_rule_k k names t ≡ text_rule (spelling name_text) names t.a t.b && eqb t.c 0
  unfolding item_rule_k text_rule spelling
  by_kind k (s_kind e) = rw e refl
  by_kind k (t_kind e) = rw e refl
  by_kind k (e_kind e) = rw e refl

  pub item_variable : (k : ℕ) → symbol_variable_kind ≤ k → k < call_kind → {z : Bool} → text_rule (spelling name_text) names t.a t.b ≡ z → item_rule_k k names t ≡ z && eqb t.c 0
  item_variable k lo hi e = by_kind k (variable_kind k lo (omega arith)) ∙ ap (◌&& eqb t.c 0) e

  pub item_call : (k : ℕ) → call_kind ≤ k → k ≤ block_kind → {y z : Bool} → eqb t.a 0 ≡ y → eqb t.b 0 ≡ z → item_rule_k k names t ≡ y && z && eqb t.c 0
  unfolding item_rule_k
  item_call k lo hi {y} {z} p q = go (ℕ_discrete k call_kind)
    where
      go : Dec (k ≡ call_kind) → item_rule_k k names t ≡ y && z && eqb t.c 0
      go (yes e) = rw (e, p, q) refl
      go (no n) = let e : k ≡ block_kind = omega arith in rw (e, p, q) refl

  pub item_none : (k : ℕ) → block_kind < k → item_rule_k k names t ≡ false
  unfolding item_rule_k
  item_none k h = let e : k ≡ suc (suc (suc (suc (suc (suc (suc (suc (suc (suc (k - 10)))))))))) = omega arith in rw e refl

  -- each kind by its name, as a test by cases has it
  pub item_is_literal : (l : Term) (k : ℕ) → l ≡ term_of_item t → k ≡ t.kind → k < open_kind → item_rule_k t.kind names t ≡ symbol_rule l.kind names l.a l.b l.c
  item_is_literal l k e q h = sym (item_literal l refl e (omega arith))

  pub item_is_bracket : (k : ℕ) → k ≡ t.kind → open_kind ≤ k → k < symbol_variable_kind → item_rule_k t.kind names t ≡ eqb t.b 0 && eqb t.c 0
  item_is_bracket k q lo hi = item_bracket t.kind (omega arith) (omega arith) refl

  pub item_is_variable : (k : ℕ) → k ≡ t.kind → symbol_variable_kind ≤ k → k < call_kind → item_rule_k t.kind names t ≡ text_rule (spelling name_text) names t.a t.b && eqb t.c 0
  item_is_variable k q lo hi = item_variable t.kind (omega arith) (omega arith) refl

  pub item_is_call : (k : ℕ) → k ≡ t.kind → call_kind ≤ k → k ≤ block_kind → item_rule_k t.kind names t ≡ eqb t.a 0 && eqb t.b 0 && eqb t.c 0
  item_is_call k q lo hi = item_call t.kind (omega arith) (omega arith) refl refl

  pub item_is_none : {k : ℕ} → block_kind < k → item_rule_k k names t ≡ false
  item_is_none h = item_none _ h

pub ruleset item_kinds = (item_is_literal, item_is_bracket, item_is_variable, item_is_call, item_is_none)

-- ---- the two numbers of a pair of brackets ----

pub numbers_apart : (w : List ℕ) (a i o : ℕ) → (a ≡ o → ⊥) → false ≡ (eqb a o && eqb (record_at item_layout w o).a i)
numbers_apart w a i o n = simp (ne_eqb a o n)

pub numbers_meet : (w : List ℕ) (a i o : ℕ) {t : Item} → a ≡ o → t ≡ record_at item_layout w o → eqb t.a i ≡ (eqb a o && eqb (record_at item_layout w o).a i)
numbers_meet w a i o e q = rw (eq-eqb a o e, ← q) refl

-- ---- the brackets open before a record ----

-- The first d numbers of a list, the last first: the open brackets, innermost first.
unfoldable pub stack_of : ℕ → List ℕ → List ℕ
stack_of zero l = []
stack_of (suc d) l = get_or l d 0 ∷ stack_of d l

stack_length : (d : ℕ) (l : List ℕ) → length (stack_of d l) ≡ d
unfolding stack_of
stack_length zero l = refl
stack_length (suc d) l = ap suc (stack_length d l)

stack_kept : (d : ℕ) (l : List ℕ) (j v : ℕ) → d ≤ j → stack_of d (set l j v) ≡ stack_of d l
unfolding stack_of
stack_kept zero l j v h = refl
stack_kept (suc d) l j v h = rw (get_or-set_other l j d v 0 (λ e. omega arith), stack_kept d l j v (omega arith)) refl

stack_more : (d : ℕ) (l : List ℕ) (v : ℕ) → d < length l → stack_of (suc d) (set l d v) ≡ v ∷ stack_of d l
unfolding stack_of
stack_more d l v h = rw (get_or-set_same l d v 0 h, stack_kept d l d v (omega arith)) refl

stack_top : (d : ℕ) (l : List ℕ) → 1 ≤ d → stack_of d l ≡ get_or l (d - 1) 0 ∷ stack_of (d - 1) l
unfolding stack_of
stack_top d l h = let e : d ≡ suc (d - 1) = omega arith in ap (λ n. stack_of n l) e

-- ---- how a record changes the brackets open before it ----

module _ (all : List Item) (t : Item) (i : ℕ) (now : List ℕ) (rest : List ℕ → Bool) where
  nest_open : (k : ℕ) → k ≡ open_kind → nest_rule_k k all t i now rest ≡ ltb (length now) nesting_limit && rest (i ∷ now)
  unfolding nest_rule_k
  nest_open k e = rw e refl

  nest_close : (k : ℕ) → k ≡ close_kind → nest_rule_k k all t i now rest ≡ close_rule all t i now rest
  unfolding nest_rule_k
  nest_close k e = rw e refl

  nest_other : (k : ℕ) → (k ≡ open_kind → ⊥) → (k ≡ close_kind → ⊥) → nest_rule_k k all t i now rest ≡ rest now
  unfolding nest_rule_k
  nest_other zero n m = refl
  nest_other (suc zero) n m = refl
  nest_other (suc (suc zero)) n m = refl
  nest_other (suc (suc (suc zero))) n m = absurd (n refl)
  nest_other (suc (suc (suc (suc zero)))) n m = absurd (m refl)
  nest_other (suc (suc (suc (suc (suc k))))) n m = refl

-- ---- the records from number i on ----

-- What the loop over the records holds: `opened` has the numbers of the open brackets, innermost last, and what is left comes to the same as the whole.
pub record Nesting (names w opened : List ℕ) (i : ℕ) : Type 0 where
  pub past : i ≤ items_in w
  pub few : length opened ≤ nesting_limit
  pub below : (j : ℕ) → j < length opened → get_or opened j 0 < i
  pub rest : items_rule names (records item_layout w) (drop i (records item_layout w)) i (reverse opened) ≡ pattern_rule names (records item_layout w)

none_open_length : (l : List ℕ) → none_open l ≡ eqb (length l) 0
unfolding none_open
none_open_length [] = refl
none_open_length (o ∷ l) = sym (ne_eqb (suc (length l)) 0 (λ e. omega arith))

none_reversed : (l : List ℕ) → eqb (length l) 0 ≡ none_open (reverse l)
none_reversed l = sym (none_open_length (reverse l) ∙ ap (λ n. eqb n 0) (length-reverse l))

-- What comes after record i, by the brackets that are open then.
abbrev after : List ℕ → List ℕ → ℕ → List ℕ → Bool
after names w i opened = items_rule names (records item_layout w) (drop (i + 1) (records item_layout w)) (suc i) opened

-- Record i, which is t, and is within its rule by itself.
pub record Nested (names w opened : List ℕ) (i : ℕ) (t : Item) : Type 0 where
  pub now : Nesting names w opened i
  pub more : i < items_in w
  pub read : t ≡ record_at item_layout w i
  pub rule : item_rule_k t.kind names t ≡ true

module _ (names w : List ℕ) where
  pub nesting_start : Nesting names w [] 0
  unfolding pattern_rule
  nesting_start = record { past = omega arith; few = omega arith; below = λ j h. absurd (omega arith); rest = refl }

module _ {names w opened : List ℕ} {i : ℕ} where
  pub nesting_all : Nesting names w opened i → items_in w ≤ i → eqb (length opened) 0 ≡ pattern_rule names (records item_layout w)
  unfolding records count items_rule
  nesting_all now h = none_reversed opened ∙ (rw (records_done item_layout (items_in w) w i (omega (arith, now.past))) at now.rest)

  -- record i is t
  nesting_step : {t : Item} → Nesting names w opened i → i < items_in w → t ≡ record_at item_layout w i
      → item_rule_k t.kind names t && nest_rule_k t.kind (records item_layout w) t i (reverse opened) (after names w i)
      ≡ pattern_rule names (records item_layout w)
  unfolding records count items_rule
  nesting_step now lt e = rw (record_next item_layout (items_in w) w i lt e) at now.rest

  pub nesting_bad : {t : Item} → Nesting names w opened i → i < items_in w → t ≡ record_at item_layout w i → item_rule_k t.kind names t ≡ false
      → false ≡ pattern_rule names (records item_layout w)
  nesting_bad now lt e h = rw h at (nesting_step now lt e)

  module _ {t : Item} (good : Nested names w opened i t) where
    nesting_left : nest_rule_k t.kind (records item_layout w) t i (reverse opened) (after names w i) ≡ pattern_rule names (records item_layout w)
    nesting_left = rw good.rule at (nesting_step good.now good.more good.read)

    pub nesting_deep : t.kind ≡ open_kind → nesting_limit ≤ length opened → false ≡ pattern_rule names (records item_layout w)
    nesting_deep k h = rw (nest_open _ _ _ _ _ _ k, length-reverse opened, le-ltb (length opened) nesting_limit h) at nesting_left

    pub nesting_opens : {more : List ℕ} → t.kind ≡ open_kind → length opened < nesting_limit → more ≡ opened ++ (i ∷ []) → Nesting names w more (i + 1)
    nesting_opens k h q =
        let longer = length-append opened (i ∷ []) in
        record {
          past = omega (arith, good.more);
          few = rw q (omega (arith, longer));
          below = λ j lj. rw q (go j (rw q at lj) (ℕ_discrete j (length opened)));
          rest =
              rw (q, reverse-append opened (i ∷ []), add-one i)
              (rw (nest_open _ _ _ _ _ _ k, length-reverse opened, lt-ltb (length opened) nesting_limit h, add-one i) at nesting_left);
        }
      where
        go : (j : ℕ) → j < length (opened ++ (i ∷ [])) → Dec (j ≡ length opened) → get_or (opened ++ (i ∷ [])) j 0 < i + 1
        go j lj (yes e) = rw (e, get_or-append_seam opened i [] 0) (omega arith)
        go j lj (no n) =
            let lt : j < length opened = omega (arith, lj, length-append opened (i ∷ [])) in
            rw (get_or-append opened (i ∷ []) 0 j lt) (omega (arith, good.now.below j lt))

    pub nesting_other : (t.kind ≡ open_kind → ⊥) → (t.kind ≡ close_kind → ⊥) → Nesting names w opened (i + 1)
    nesting_other n m = record {
      past = omega (arith, good.more);
      few = good.now.few;
      below = λ j lj. omega (arith, good.now.below j lj);
      rest = rw (add-one i) (rw (nest_other _ _ _ _ _ _ n m, add-one i) at nesting_left);
    }

    module _ (k : t.kind ≡ close_kind) where
      nesting_closing : close_rule (records item_layout w) t i (reverse opened) (after names w i) ≡ pattern_rule names (records item_layout w)
      nesting_closing = rw (nest_close _ _ _ _ _ _ k) at nesting_left

      pub nesting_unopened : opened ≡ [] → false ≡ pattern_rule names (records item_layout w)
      unfolding close_rule
      nesting_unopened z = rw z at nesting_closing

      -- the innermost one is o, inside the others
      module _ (outer : List ℕ) (o : ℕ) (q : opened ≡ outer ++ (o ∷ [])) where
        nesting_long : length opened ≡ length outer + 1
        nesting_long = ap length q ∙ length-append outer (o ∷ [])

        pub nesting_below : o < i
        nesting_below =
            let last : get_or opened (length outer) 0 ≡ o = ap (λ l. get_or l (length outer) 0) q ∙ get_or-append_seam outer o [] 0 in
            omega (arith, last, good.now.below (length outer) (omega (arith, nesting_long)))

        nesting_partner : get_or (records item_layout w) o no_item ≡ record_at item_layout w o
        unfolding records count
        nesting_partner = decode-at item_layout (items_in w) o w no_item (omega (arith, good.more, nesting_below))

        nesting_inner : reverse opened ≡ o ∷ reverse outer
        nesting_inner = ap reverse q ∙ reverse-append outer (o ∷ [])

        -- what the partners' numbers say, and then the rest
        nesting_closed : {b : Bool} → b ≡ (eqb t.a o && eqb (record_at item_layout w o).a i)
            → b && after names w i (reverse outer) ≡ pattern_rule names (records item_layout w)
        unfolding close_rule
        nesting_closed h = ap (◌&& after names w i (reverse outer)) h ∙ (rw (nesting_inner, nesting_partner) at nesting_closing)

        pub nesting_uncloses : {b : Bool} → b ≡ (eqb t.a o && eqb (record_at item_layout w o).a i) → b ≡ false
            → false ≡ pattern_rule names (records item_layout w)
        nesting_uncloses h f = rw f at (nesting_closed h)

        pub nesting_closes : {b : Bool} → b ≡ (eqb t.a o && eqb (record_at item_layout w o).a i) → b ≡ true → Nesting names w outer (i + 1)
        nesting_closes h f = record {
          past = omega (arith, good.more);
          few = omega (arith, good.now.few, nesting_long);
          below = λ j lj.
              let same : get_or opened j 0 ≡ get_or outer j 0 = ap (λ l. get_or l j 0) q ∙ get_or-append outer (o ∷ []) 0 j lj in
              omega (arith, same, good.now.below j (omega (arith, nesting_long)));
          rest = rw (add-one i) (rw (f, add-one i) at (nesting_closed h));
        }

-- ---- the same where the open brackets are the first `depth` numbers of a list of fixed length ----

-- What the loop over the records holds: `opened` has the numbers of the `depth` open brackets, and what is left comes to the same as the whole.
pub record Reading (names w opened : List ℕ) (depth i : ℕ) : Type 0 where
  pub past : i ≤ items_in w
  pub few : depth ≤ nesting_limit
  pub room : length opened ≡ nesting_limit
  pub below : (j : ℕ) → j < depth → get_or opened j 0 < i
  pub rest : items_rule names (records item_layout w) (drop i (records item_layout w)) i (stack_of depth opened) ≡ pattern_rule names (records item_layout w)

none_left : (d : ℕ) (l : List ℕ) → eqb d 0 ≡ none_open (stack_of d l)
unfolding none_open stack_of
none_left zero l = refl
none_left (suc d) l = ne_eqb (suc d) 0 (λ e. omega arith)

-- Record i, which is t, and is within its rule by itself.
pub record Good (names w opened : List ℕ) (depth i : ℕ) (t : Item) : Type 0 where
  pub now : Reading names w opened depth i
  pub more : i < items_in w
  pub read : t ≡ record_at item_layout w i
  pub rule : item_rule_k t.kind names t ≡ true

module _ (names w : List ℕ) where
  pub reading_start : (opened : List ℕ) → length opened ≡ nesting_limit → Reading names w opened 0 0
  unfolding pattern_rule stack_of
  reading_start opened e = record { past = omega arith; few = omega arith; room = e; below = λ j h. absurd (omega arith); rest = refl }

module _ {names w opened : List ℕ} {depth i : ℕ} where
  pub all_read : Reading names w opened depth i → items_in w ≤ i → eqb depth 0 ≡ pattern_rule names (records item_layout w)
  unfolding records count items_rule
  all_read now h = none_left depth opened ∙ (rw (records_done item_layout (items_in w) w i (omega (arith, now.past))) at now.rest)

  -- record i is t
  step : {t : Item} → Reading names w opened depth i → i < items_in w → t ≡ record_at item_layout w i
      → item_rule_k t.kind names t && nest_rule_k t.kind (records item_layout w) t i (stack_of depth opened) (after names w i)
      ≡ pattern_rule names (records item_layout w)
  unfolding records count items_rule
  step now lt e = rw (record_next item_layout (items_in w) w i lt e) at now.rest

  pub bad_item : {t : Item} → Reading names w opened depth i → i < items_in w → t ≡ record_at item_layout w i → item_rule_k t.kind names t ≡ false
      → false ≡ pattern_rule names (records item_layout w)
  bad_item now lt e h = rw h at (step now lt e)

  module _ {t : Item} (good : Good names w opened depth i t) where
    nested : nest_rule_k t.kind (records item_layout w) t i (stack_of depth opened) (after names w i) ≡ pattern_rule names (records item_layout w)
    nested = rw good.rule at (step good.now good.more good.read)

    room-left : length opened ≡ nesting_limit
    room-left = good.now.room

    pub too_deep : t.kind ≡ open_kind → nesting_limit ≤ depth → false ≡ pattern_rule names (records item_layout w)
    too_deep k h = rw (nest_open _ _ _ _ _ _ k, stack_length depth opened, le-ltb depth nesting_limit h) at nested

    pub opens : {more : List ℕ} → t.kind ≡ open_kind → depth < nesting_limit → more ≡ set opened depth i → Reading names w more (depth + 1) (i + 1)
    opens k h q = record {
      past = omega (arith, good.more);
      few = omega arith;
      room = rw q (length-set opened depth i ∙ room-left);
      below = λ j lj. rw q (go j lj (ℕ_discrete j depth));
      rest =
          rw (q, add-one depth, stack_more depth opened i (omega (arith, room-left)), add-one i)
          (rw (nest_open _ _ _ _ _ _ k, stack_length depth opened, lt-ltb depth nesting_limit h, add-one i) at nested);
    }
      where
        go : (j : ℕ) → j < depth + 1 → Dec (j ≡ depth) → get_or (set opened depth i) j 0 < i + 1
        go j lj (yes q) = rw (q, get_or-set_same opened depth i 0 (omega (arith, room-left))) (omega arith)
        go j lj (no q) = rw (get_or-set_other opened depth j i 0 q) (omega (arith, good.now.below j (omega arith)))

    pub other : (t.kind ≡ open_kind → ⊥) → (t.kind ≡ close_kind → ⊥) → Reading names w opened depth (i + 1)
    other n m = record {
      past = omega (arith, good.more);
      few = good.now.few;
      room = room-left;
      below = λ j lj. omega (arith, good.now.below j lj);
      rest = rw (add-one i) (rw (nest_other _ _ _ _ _ _ n m, add-one i) at nested);
    }

    module _ (k : t.kind ≡ close_kind) where
      closing : close_rule (records item_layout w) t i (stack_of depth opened) (after names w i) ≡ pattern_rule names (records item_layout w)
      closing = rw (nest_close _ _ _ _ _ _ k) at nested

      pub unopened : depth ≡ 0 → false ≡ pattern_rule names (records item_layout w)
      unfolding close_rule stack_of
      unopened z = rw z at closing

      module _ {o : ℕ} (z : depth ≡ 0 → ⊥) (q : o ≡ get_or opened (depth - 1) 0) where
        pub inner_below : o < i
        inner_below = rw q (good.now.below (depth - 1) (omega arith))

        partner : get_or (records item_layout w) o no_item ≡ record_at item_layout w o
        unfolding records count
        partner = decode-at item_layout (items_in w) o w no_item (omega (arith, good.more, inner_below))

        -- what the partners' numbers say, and then the rest
        closed : {b : Bool} → b ≡ (eqb t.a o && eqb (record_at item_layout w o).a i)
            → b && after names w i (stack_of (depth - 1) opened) ≡ pattern_rule names (records item_layout w)
        unfolding close_rule
        closed h =
            ap (◌&& after names w i (stack_of (depth - 1) opened)) h ∙ (rw (stack_top depth opened (omega arith), ← q, partner) at closing)

        pub uncloses : {b : Bool} → b ≡ (eqb t.a o && eqb (record_at item_layout w o).a i) → b ≡ false
            → false ≡ pattern_rule names (records item_layout w)
        uncloses h f = rw f at (closed h)

        pub closes : {b : Bool} → b ≡ (eqb t.a o && eqb (record_at item_layout w o).a i) → b ≡ true → Reading names w opened (depth - 1) (i + 1)
        closes h f = record {
          past = omega (arith, good.more);
          few = omega (arith, good.now.few);
          room = room-left;
          below = λ j lj. omega (arith, good.now.below j (omega arith));
          rest = rw (add-one i) (rw (f, add-one i) at (closed h));
        }
