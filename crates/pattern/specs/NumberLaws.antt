-- Laws of numbering names: what the records from i on add to the table and to the numbers comes, after what is there, to the same as the whole.
use Rattle.std.specs.Prelude.{◌≡◌, refl, List, [], ◌∷◌, ◌++◌, map, Bool, true, false, ◌&&◌, T, leb, ltb, eqb, get_or, set, take, drop, ℕ, suc, zero, ◌+◌, ◌<◌, ◌≤◌, min}
use Rattle.std.proofs.Math.Path.{ap, sym}
use Rattle.std.proofs.Common.{◌∙◌, append_assoc, append-nil, leb→le, length-set, length-append, take-suc-set, get_or-set_same, get_or-set_other, add-one, arith}
use Rattle.std.proofs.lemmas.List.{map-append}
use Rattle.std.proofs.Math.ListN.{length, get_or-append}
use Rattle.std.proofs.Math.Seq.{append_snoc, get_or-append_seam}
use Rattle.std.proofs.Math.Decide.{ℕ_discrete, dec_lt}
use Rattle.term_spec.proofs.BoolLaws.{both_of, true-T}
use Rattle.term_spec.proofs.ListLaws.{map-drop, map_next}
use Rattle.term_spec.specs.Words.{Lies, AtMost, decode, record_at, records, count}
use Rattle.term_spec.proofs.WordsLaws.{decode-at, decode-length, record_next, records_done}
use Rattle.term_spec.specs.Text.{text_rule}
use Rattle.text.specs.Texts.{name_text, spelling}
use Rattle.text.specs.TextLaws.{text_within}
use Rattle.match_spec.specs.Element.{Element}
use Rattle.match_spec.specs.Pattern.{Item, no_item, item_layout, symbol_variable_kind, expression_variable_kind, nesting_limit, name_limit}
use Rattle.match_spec.specs.Pattern.{element_k, element, elements, item_rule_k, close_rule, nest_rule_k, items_rule, pattern_rule}
use Rattle.match_spec.specs.Pattern.{binding_layout, Name, name_at, find, add_if, add, names_after, binding_names}
use Rattle.match_spec.proofs.NameLaws.{find_le, add-length, names_grow}
use Rattle.pattern.specs.Records.{items_in, bindings_in, numbers_of, variable, item_name, first_names, table_at, ItemTexts}
use Rattle.pattern.specs.PatternLaws.{Variable, s_kind, t_kind, e_kind, variable_kind, item_variable}
use Rattle.pattern.specs.NameLaws.{bindings-length, firsts_length, firsts_size}

-- ---- a record's name lies in the names ----

-- A record that changes the open brackets leaves the rest to hold.
nest_rest : (k : ℕ) (all : List Item) (t : Item) (i : ℕ) (opened : List ℕ) (rest : List ℕ → Bool) → T (nest_rule_k k all t i opened rest) → (now : List ℕ) × T (rest now)
unfolding nest_rule_k close_rule
nest_rest zero all t i opened rest h = (opened, h)
nest_rest (suc zero) all t i opened rest h = (opened, h)
nest_rest (suc (suc zero)) all t i opened rest h = (opened, h)
nest_rest (suc (suc (suc zero))) all t i opened rest h = (i ∷ opened, (both_of (ltb (length opened) nesting_limit) (rest (i ∷ opened)) h).1)
nest_rest (suc (suc (suc (suc zero)))) all t i [] rest h = absurd h
nest_rest (suc (suc (suc (suc zero)))) all t i (o ∷ opened) rest h = (opened, (both_of (eqb t.a o && eqb (get_or all o no_item).a i) (rest opened) h).1)
nest_rest (suc (suc (suc (suc (suc k))))) all t i opened rest h = (opened, h)

-- The rule of a pattern, as the rule of each record.
item_holds : (names : List ℕ) (all ts : List Item) (i : ℕ) (opened : List ℕ) → T (items_rule names all ts i opened) → (j : ℕ) (d : Item) → j < length ts
    → T (item_rule_k (get_or ts j d).kind names (get_or ts j d))
unfolding items_rule
item_holds names all [] i opened h j d lt = absurd (omega arith)
item_holds names all (t ∷ ts) i opened h zero d lt = (both_of (item_rule_k t.kind names t) _ h).0
item_holds names all (t ∷ ts) i opened h (suc j) d lt =
    let (now, k) = nest_rest t.kind all t i opened (λ n. items_rule names all ts (suc i) n) (both_of (item_rule_k t.kind names t) _ h).1 in
    item_holds names all ts (suc i) now k j d (omega arith)

-- A kind that is a variable's.
kind_bounds : (k : ℕ) → variable k ≡ true → (symbol_variable_kind ≤ k) × (k ≤ expression_variable_kind)
kind_bounds k h = let (x, y) = both_of (leb symbol_variable_kind k) (leb k expression_variable_kind) (true-T _ h) in (leb→le _ _ x, leb→le _ _ y)

pub item_text : (names w : List ℕ) (i : ℕ) {t : Item} → T (pattern_rule names (records item_layout w)) → i < items_in w → t ≡ record_at item_layout w i
    → variable t.kind ≡ true → t.a + t.b ≤ length names
unfolding records count pattern_rule
item_text names w i {t} h lt e v =
    let all : List Item = decode item_layout (items_in w) w in
    let (lo, hi) = kind_bounds t.kind v in
    let q : get_or all i (item_layout.read []) ≡ t = decode-at item_layout (items_in w) i w (item_layout.read []) lt ∙ sym e in
    let r : T (item_rule_k t.kind names t) = rw q at (item_holds names all all 0 [] h i (item_layout.read []) (rw decode-length lt)) in
    let whole = rw (item_variable names t t.kind lo (omega arith) refl) at r in
    text_within (spelling name_text) names t.a t.b (both_of (text_rule (spelling name_text) names t.a t.b) (eqb t.c 0) whole).0

-- ---- what a record adds ----

-- What an element adds: the table after it, and its number.
record Adds (e : Element Name) (p : List (Element Name)) (before after : List Name) (number : ℕ) : Type 0 where
  table : names_after (e ∷ p) before ≡ names_after p after
  numbers : numbers_of (e ∷ p) before ≡ number ∷ numbers_of p after

named : (k : ℕ) (names : List ℕ) (t : Item) → Variable k → (p : List (Element Name)) (u : List Name)
    → Adds (element_k k names t) p u (add (name_at names k t.a t.b) u) (find (name_at names k t.a t.b) u)
unfolding element_k names_after numbers_of
named k names t (s_kind e) p u = rw e (record { table = refl; numbers = refl })
named k names t (t_kind e) p u = rw e (record { table = refl; numbers = refl })
named k names t (e_kind e) p u = rw e (record { table = refl; numbers = refl })

nameless : (k : ℕ) (names : List ℕ) (t : Item) → variable k ≡ false → (p : List (Element Name)) (u : List Name) → Adds (element_k k names t) p u u 0
unfolding element_k names_after numbers_of
nameless zero names t h p u = record { table = refl; numbers = refl }
nameless (suc zero) names t h p u = record { table = refl; numbers = refl }
nameless (suc (suc zero)) names t h p u = record { table = refl; numbers = refl }
nameless (suc (suc (suc zero))) names t h p u = record { table = refl; numbers = refl }
nameless (suc (suc (suc (suc zero)))) names t h p u = record { table = refl; numbers = refl }
nameless (suc (suc (suc (suc (suc zero))))) names t h p u = absurd (let z : ◌≡◌ {A = ℕ} 0 1 = cc in omega arith)
nameless (suc (suc (suc (suc (suc (suc zero)))))) names t h p u = absurd (let z : ◌≡◌ {A = ℕ} 0 1 = cc in omega arith)
nameless (suc (suc (suc (suc (suc (suc (suc zero))))))) names t h p u = absurd (let z : ◌≡◌ {A = ℕ} 0 1 = cc in omega arith)
nameless (suc (suc (suc (suc (suc (suc (suc (suc k)))))))) names t h p u = record { table = refl; numbers = refl }

-- A name that is in the table leaves it, one that is not goes to its end.
add_known : (x : Name) (t : List Name) → find x t < length t → add x t ≡ t
unfolding add add_if
add_known x t h = go (dec_lt (find x t) (length t))
  where
    go : (d : Dec (find x t < length t)) → add_if d x t ≡ t
    go (yes k) = refl
    go (no k) = absurd (k h)

add-new : (x : Name) (t : List Name) → length t ≤ find x t → add x t ≡ t ++ (x ∷ [])
unfolding add add_if
add-new x t h = go (dec_lt (find x t) (length t))
  where
    go : (d : Dec (find x t < length t)) → add_if d x t ≡ t ++ (x ∷ [])
    go (yes k) = absurd (omega arith)
    go (no k) = refl

-- ---- the loop over the records ----

-- The elements from record i on, and the names of the bindings.
abbrev pub elements_from : List ℕ → List ℕ → ℕ → List (Element Name)
elements_from names w i = drop i (elements names (records item_layout w))

abbrev pub start_names : List ℕ → List ℕ → List Name
start_names names bindings = binding_names names (records binding_layout bindings)

-- What it holds: `firsts` has the numbers of the records that brought the new names, and `numbers` the numbers of the records before i.
pub record Numbered (names w bindings firsts numbers : List ℕ) (i : ℕ) : Type 0 where
  pub past : i ≤ items_in w
  pub few : bindings_in bindings + length firsts ≤ name_limit
  pub texts : ItemTexts names w firsts (length firsts)
  pub table : names_after (elements_from names w i) (table_at names w bindings firsts) ≡ names_after (elements_from names w 0) (start_names names bindings)
  pub given : take i numbers ++ numbers_of (elements_from names w i) (table_at names w bindings firsts) ≡ numbers_of (elements_from names w 0) (start_names names bindings)

table_size : (names w bindings firsts : List ℕ) → length (table_at names w bindings firsts) ≡ bindings_in bindings + length firsts
unfolding records count
table_size names w bindings firsts =
    length-append (binding_names names (decode binding_layout (bindings_in bindings) bindings)) (first_names names w firsts)
    ∙ omega (arith, bindings-length names bindings (bindings_in bindings), firsts_size names w firsts)

-- one new name more, brought by record i
table_longer : (names w bindings firsts : List ℕ) (i : ℕ) {t : Item} → t ≡ record_at item_layout w i
    → table_at names w bindings firsts ++ (item_name names t ∷ []) ≡ table_at names w bindings (firsts ++ (i ∷ []))
table_longer names w bindings firsts i e =
    append_assoc (start_names names bindings) (first_names names w firsts) _
    ∙ ap (start_names names bindings ++◌) (rw e (sym (map-append (λ j. item_name names (record_at item_layout w j)) firsts (i ∷ []))))

texts_longer : (names w firsts : List ℕ) (i : ℕ) {t : Item} → i < items_in w → t ≡ record_at item_layout w i → t.a + t.b ≤ length names → ItemTexts names w firsts (length firsts)
    → ItemTexts names w (firsts ++ (i ∷ [])) (length (firsts ++ (i ∷ [])))
unfolding ItemTexts
texts_longer names w firsts i {t} inside e within old j lj = go (ℕ_discrete j (length firsts))
  where
    go : Dec (j ≡ length firsts) → Lies item_layout w (get_or (firsts ++ (i ∷ [])) j 0 + 1)
        × ((record_at item_layout w (get_or (firsts ++ (i ∷ [])) j 0)).a + (record_at item_layout w (get_or (firsts ++ (i ∷ [])) j 0)).b ≤ length names)
    go (yes q) = rw (q, get_or-append_seam firsts i [] 0, ← e) (omega arith, within)
    go (no q) =
        let lt : j < length firsts = omega (arith, lj, length-append firsts (i ∷ [])) in
        rw (get_or-append firsts (i ∷ []) 0 j lt) (old j lt)

elements_next : (names w : List ℕ) (i : ℕ) {t : Item} → i < items_in w → t ≡ record_at item_layout w i → elements_from names w i ≡ element_k t.kind names t ∷ elements_from names w (i + 1)
unfolding records count element
elements_next names w i lt e = map_next (element names) (decode item_layout (items_in w) w) i (record_next item_layout (items_in w) w i lt e)

elements_done : (names w : List ℕ) (i : ℕ) → i ≡ items_in w → elements_from names w i ≡ []
unfolding records count
elements_done names w i e = sym (map-drop (element names) i (decode item_layout (items_in w) w)) ∙ ap (map (element names)) (records_done item_layout (items_in w) w i e)

-- one number more
given-more : (numbers : List ℕ) (i v : ℕ) (rest : List ℕ) {all more : List ℕ} → i < length numbers → more ≡ set numbers i v → take i numbers ++ (v ∷ rest) ≡ all → take (i + 1) more ++ rest ≡ all
given-more numbers i v rest lt e h = rw (e, add-one, take-suc-set numbers i v lt) (append_snoc (take i numbers) v rest ∙ h)

-- Record i, which is t, and whether it is a variable's.
pub record AtRecord (names w bindings firsts numbers : List ℕ) (i : ℕ) (t : Item) (b : Bool) : Type 0 where
  pub now : Numbered names w bindings firsts numbers i
  pub more : i < items_in w
  pub wide : i < length numbers
  pub read : t ≡ record_at item_layout w i
  pub kind : variable t.kind ≡ b

pub numbered_start : (names w bindings numbers : List ℕ) → AtMost binding_layout bindings name_limit → Numbered names w bindings [] numbers 0
unfolding ItemTexts
numbered_start names w bindings numbers l = record {
  past = omega arith;
  few = omega arith;
  texts = λ j h. absurd (omega arith);
  table = ap (names_after (elements_from names w 0)) (append-nil (start_names names bindings));
  given = ap (numbers_of (elements_from names w 0)) (append-nil (start_names names bindings));
}

module _ {names w bindings firsts numbers : List ℕ} {i : ℕ} where
  -- all records are passed
  module _ (now : Numbered names w bindings firsts numbers i) (h : items_in w ≤ i) where
    numbered_ended : i ≡ items_in w
    numbered_ended = omega (arith, now.past)

    pub numbered_names : bindings_in bindings + length firsts ≡ min (name_limit + 1) (length (names_after (elements_from names w 0) (start_names names bindings)))
    unfolding names_after
    numbered_names = omega (arith, table_size names w bindings firsts, now.few, ap length (rw (elements_done names w i numbered_ended) at now.table))

    pub numbered_all : take (count item_layout w) numbers ≡ numbers_of (elements_from names w 0) (start_names names bindings)
    unfolding numbers_of count
    numbered_all = sym (append-nil (take (items_in w) numbers)) ∙ (rw (elements_done names w i numbered_ended, numbered_ended) at now.given)

  -- record i gets its number, and the table becomes that of `newer`
  numbered_next : {t : Item} {b : Bool} {more newer : List ℕ} {v : ℕ} → AtRecord names w bindings firsts numbers i t b
      → Adds (element_k t.kind names t) (elements_from names w (i + 1)) (table_at names w bindings firsts) (table_at names w bindings newer) v
      → more ≡ set numbers i v → bindings_in bindings + length newer ≤ name_limit → ItemTexts names w newer (length newer)
      → Numbered names w bindings newer more (i + 1)
  numbered_next {v = v} here adds q few texts =
      let next = elements_next names w i here.more here.read in
      record {
        past = omega (arith, here.more);
        few = few;
        texts = texts;
        table = sym adds.table ∙ (rw next at here.now.table);
        given = given-more numbers i v _ here.wide q (ap (take i numbers ++◌) (sym adds.numbers) ∙ (rw next at here.now.given));
      }

  pub numbered_plain : {t : Item} {more : List ℕ} → AtRecord names w bindings firsts numbers i t false → more ≡ set numbers i 0 → Numbered names w bindings firsts more (i + 1)
  numbered_plain {t} here q =
      numbered_next here (nameless t.kind names t here.kind (elements_from names w (i + 1)) (table_at names w bindings firsts)) q here.now.few here.now.texts

  -- t is a variable, and its name's place in the table is `at`
  module _ {t : Item} {at : ℕ} (here : AtRecord names w bindings firsts numbers i t true) (f : at ≡ find (item_name names t) (table_at names w bindings firsts)) where
    numbered_adds : Adds (element_k t.kind names t) (elements_from names w (i + 1)) (table_at names w bindings firsts) (add (item_name names t) (table_at names w bindings firsts)) at
    numbered_adds = let (lo, hi) = kind_bounds t.kind here.kind in rw f (named t.kind names t (variable_kind t.kind lo hi) (elements_from names w (i + 1)) (table_at names w bindings firsts))

    pub numbered_many : name_limit ≤ at → name_limit + 1 ≡ min (name_limit + 1) (length (names_after (elements_from names w 0) (start_names names bindings)))
    numbered_many h =
        let (u, q) = names_grow (elements_from names w (i + 1)) (add (item_name names t) (table_at names w bindings firsts)) in
        let all = rw (elements_next names w i here.more here.read) at here.now.table in
        omega (
          arith,
          table_size names w bindings firsts,
          here.now.few,
          find_le (item_name names t) (table_at names w bindings firsts),
          add-length (item_name names t) (table_at names w bindings firsts),
          length-append (add (item_name names t) (table_at names w bindings firsts)) u,
          ap length (sym all ∙ numbered_adds.table ∙ q),
        )

    module _ {more : List ℕ} (q : more ≡ set numbers i at) where
      pub numbered_known : at < bindings_in bindings + length firsts → Numbered names w bindings firsts more (i + 1)
      numbered_known h =
          let k : add (item_name names t) (table_at names w bindings firsts) ≡ table_at names w bindings firsts =
          add_known _ _ (omega (arith, table_size names w bindings firsts)) in
          numbered_next here (rw k at numbered_adds) q here.now.few here.now.texts

      pub numbered_met : {newer : List ℕ} → t.a + t.b ≤ length names → at < name_limit → bindings_in bindings + length firsts ≤ at → newer ≡ firsts ++ (i ∷ [])
          → Numbered names w bindings newer more (i + 1)
      numbered_met within l h z =
          let k : add (item_name names t) (table_at names w bindings firsts) ≡ table_at names w bindings (firsts ++ (i ∷ [])) =
          add-new _ _ (omega (arith, table_size names w bindings firsts)) ∙ table_longer names w bindings firsts i here.read in
          rw z
          (numbered_next here (rw k at numbered_adds) q (omega (arith, length-append firsts (i ∷ [])))
          (texts_longer names w firsts i here.more here.read within here.now.texts))

-- ---- the same where the new names are those of the first `new` numbers of a list of fixed length ----

-- What it holds: `firsts` has the numbers of the records that brought the new names, and `numbers` the numbers of the records before i.
pub record Numbering (names w bindings firsts numbers : List ℕ) (new i : ℕ) : Type 0 where
  pub past : i ≤ items_in w
  pub room : length firsts ≡ name_limit
  pub few : bindings_in bindings + new ≤ name_limit
  pub texts : ItemTexts names w firsts new
  pub table : names_after (elements_from names w i) (table_at names w bindings (take new firsts)) ≡ names_after (elements_from names w 0) (start_names names bindings)
  pub given : take i numbers ++ numbers_of (elements_from names w i) (table_at names w bindings (take new firsts)) ≡ numbers_of (elements_from names w 0) (start_names names bindings)

table-length : (names w bindings firsts : List ℕ) (new : ℕ) → new ≤ length firsts → length (table_at names w bindings (take new firsts)) ≡ bindings_in bindings + new
unfolding records count
table-length names w bindings firsts new h =
    length-append (binding_names names (decode binding_layout (bindings_in bindings) bindings)) (first_names names w (take new firsts))
    ∙ omega (arith, bindings-length names bindings (bindings_in bindings), firsts_length names w firsts new h)

-- one new name more, brought by record i
table_more : (names w bindings firsts : List ℕ) (new i : ℕ) {t : Item} → new < length firsts → t ≡ record_at item_layout w i
    → table_at names w bindings (take new firsts) ++ (item_name names t ∷ []) ≡ table_at names w bindings (take (new + 1) (set firsts new i))
table_more names w bindings firsts new i lt e =
    append_assoc (start_names names bindings) (first_names names w (take new firsts)) _
    ∙ ap (start_names names bindings ++◌) (rw (add-one, take-suc-set firsts new i lt, e) (sym (map-append (λ j. item_name names (record_at item_layout w j)) (take new firsts) (i ∷ []))))

texts_more : (names w firsts : List ℕ) (new i : ℕ) {t : Item} → new < length firsts → i < items_in w → t ≡ record_at item_layout w i → t.a + t.b ≤ length names → ItemTexts names w firsts new
    → ItemTexts names w (set firsts new i) (new + 1)
unfolding ItemTexts
texts_more names w firsts new i {t} lt inside e within old j lj = go (ℕ_discrete j new)
  where
    go : Dec (j ≡ new) → Lies item_layout w (get_or (set firsts new i) j 0 + 1)
        × ((record_at item_layout w (get_or (set firsts new i) j 0)).a + (record_at item_layout w (get_or (set firsts new i) j 0)).b ≤ length names)
    go (yes q) = rw (q, get_or-set_same firsts new i 0 lt, ← e) (omega arith, within)
    go (no q) = rw (get_or-set_other firsts new j i 0 q) (old j (omega arith))

-- Record i, which is t, and whether it is a variable's.
pub record Here (names w bindings firsts numbers : List ℕ) (new i : ℕ) (t : Item) (b : Bool) : Type 0 where
  pub now : Numbering names w bindings firsts numbers new i
  pub more : i < items_in w
  pub wide : i < length numbers
  pub read : t ≡ record_at item_layout w i
  pub kind : variable t.kind ≡ b

pub numbering_start : (names w bindings firsts numbers : List ℕ) → length firsts ≡ name_limit → AtMost binding_layout bindings name_limit
    → Numbering names w bindings firsts numbers 0 0
unfolding ItemTexts
numbering_start names w bindings firsts numbers e l = record {
  past = omega arith;
  room = e;
  few = omega arith;
  texts = λ j h. absurd (omega arith);
  table = ap (names_after (elements_from names w 0)) (append-nil (start_names names bindings));
  given = ap (numbers_of (elements_from names w 0)) (append-nil (start_names names bindings));
}

-- The table of names with the first `new` of the records that brought one.
abbrev table_so_far : List ℕ → List ℕ → List ℕ → List ℕ → ℕ → List Name
table_so_far names w bindings firsts new = table_at names w bindings (take new firsts)

module _ {names w bindings firsts numbers : List ℕ} {new i : ℕ} where
  size : Numbering names w bindings firsts numbers new i → length (table_so_far names w bindings firsts new) ≡ bindings_in bindings + new
  size now = table-length names w bindings firsts new (omega (arith, now.few, now.room))

  -- all records are passed
  module _ (now : Numbering names w bindings firsts numbers new i) (h : items_in w ≤ i) where
    ended : i ≡ items_in w
    ended = omega (arith, now.past)

    pub names_all : bindings_in bindings + new ≡ min (name_limit + 1) (length (names_after (elements_from names w 0) (start_names names bindings)))
    unfolding names_after
    names_all = omega (arith, size now, now.few, ap length (rw (elements_done names w i ended) at now.table))

    pub numbers_all : take (count item_layout w) numbers ≡ numbers_of (elements_from names w 0) (start_names names bindings)
    unfolding numbers_of count
    numbers_all = sym (append-nil (take (items_in w) numbers)) ∙ (rw (elements_done names w i ended, ended) at now.given)

  -- record i gets its number, and the table becomes that of `newer`
  numbered : {t : Item} {b : Bool} {more newer : List ℕ} {now v : ℕ} → Here names w bindings firsts numbers new i t b
      → Adds (element_k t.kind names t) (elements_from names w (i + 1)) (table_so_far names w bindings firsts new) (table_at names w bindings (take now newer)) v
      → more ≡ set numbers i v → length newer ≡ name_limit → bindings_in bindings + now ≤ name_limit → ItemTexts names w newer now
      → Numbering names w bindings newer more now (i + 1)
  numbered {v = v} here adds q room few texts =
      let next = elements_next names w i here.more here.read in
      record {
        past = omega (arith, here.more);
        room = room;
        few = few;
        texts = texts;
        table = sym adds.table ∙ (rw next at here.now.table);
        given = given-more numbers i v _ here.wide q (ap (take i numbers ++◌) (sym adds.numbers) ∙ (rw next at here.now.given));
      }

  pub plain : {t : Item} {more : List ℕ} → Here names w bindings firsts numbers new i t false → more ≡ set numbers i 0
      → Numbering names w bindings firsts more new (i + 1)
  plain {t} here q =
      numbered here (nameless t.kind names t here.kind (elements_from names w (i + 1)) (table_so_far names w bindings firsts new)) q here.now.room here.now.few here.now.texts

  -- t is a variable, and its name's place in the table is `at`
  module _ {t : Item} {at : ℕ} (here : Here names w bindings firsts numbers new i t true) (f : at ≡ find (item_name names t) (table_so_far names w bindings firsts new)) where
    adds : Adds (element_k t.kind names t) (elements_from names w (i + 1)) (table_so_far names w bindings firsts new) (add (item_name names t) (table_so_far names w bindings firsts new)) at
    adds = let (lo, hi) = kind_bounds t.kind here.kind in rw f (named t.kind names t (variable_kind t.kind lo hi) (elements_from names w (i + 1)) (table_so_far names w bindings firsts new))

    pub too_many : name_limit ≤ at → name_limit + 1 ≡ min (name_limit + 1) (length (names_after (elements_from names w 0) (start_names names bindings)))
    too_many h =
        let (u, q) = names_grow (elements_from names w (i + 1)) (add (item_name names t) (table_so_far names w bindings firsts new)) in
        let all = rw (elements_next names w i here.more here.read) at here.now.table in
        omega (
          arith,
          size here.now,
          here.now.few,
          find_le (item_name names t) (table_so_far names w bindings firsts new),
          add-length (item_name names t) (table_so_far names w bindings firsts new),
          length-append (add (item_name names t) (table_so_far names w bindings firsts new)) u,
          ap length (sym all ∙ adds.table ∙ q),
        )

    module _ {more : List ℕ} (q : more ≡ set numbers i at) where
      pub known : at < bindings_in bindings + new → Numbering names w bindings firsts more new (i + 1)
      known h =
          let k : add (item_name names t) (table_so_far names w bindings firsts new) ≡ (table_so_far names w bindings firsts new) = add_known _ _ (omega (arith, size here.now)) in
          numbered here (rw k at adds) q here.now.room here.now.few here.now.texts

      pub met : {newer : List ℕ} → t.a + t.b ≤ length names → at < name_limit → bindings_in bindings + new ≤ at → newer ≡ set firsts new i
          → Numbering names w bindings newer more (new + 1) (i + 1)
      met within l h z =
          let lt : new < length firsts = omega (arith, here.now.room) in
          let k : add (item_name names t) (table_so_far names w bindings firsts new) ≡ table_at names w bindings (take (new + 1) (set firsts new i)) =
          add-new _ _ (omega (arith, size here.now)) ∙ table_more names w bindings firsts new i lt here.read in
          rw z
          (numbered here (rw k at adds) q (length-set firsts new i ∙ here.now.room) (omega arith)
          (texts_more names w firsts new i lt here.more here.read within here.now.texts))
