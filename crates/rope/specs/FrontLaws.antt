-- Laws of comparing the terms of two nodes: in two parts, by numbers, and run by run.
use Rattle.std.specs.Prelude.{◌≡◌, refl, Bool, true, false, T, length, ℕ, ◌+◌, ◌-◌, ◌≤◌, ◌<◌, min}
use Rattle.std.proofs.Math.Path.{ap, ap₂, sym}
use Rattle.std.proofs.Common.{◌∙◌, take-append-drop, drop-drop, get_or-take, length-take-le, ext_get_or}
use mathlib.Core.List.{List, [], ◌++◌, map-append}
use Rattle.std.proofs.Math.Bool.{◌&&◌}
use borrow.Author.Tests.{eq-eqb, ne_eqb}
use Rattle.std.proofs.Math.ListN.{get_or, take, drop, get_or-map}
use Rattle.std.proofs.lemmas.List.{length-map}
use native.Mathlib.Omega.{arith}
use Rattle.term_spec.proofs.ListLaws.{map-take, map-drop, drop-take, part-below}
use Rattle.term_spec.specs.Term.{Run, limit}
use Rattle.term_spec.proofs.TermLaws.{values_length}
use Rattle.term_spec.specs.Value.{Value, char, canon, forms, sames?, is_yes}
use Rattle.term_spec.proofs.ValueLaws.{is_yes_lem, is_no}
use Rattle.term_spec.proofs.WordsLaws.{decode-length}
use Rattle.view_spec.specs.Node.{Node, meaning, nodes_rule}
use Rattle.view_spec.proofs.NodeLaws.{reach_limit}
use Rattle.view_spec.specs.Read.{equal_terms}
use Rattle.view_spec.proofs.ReadLaws.{equal-terms}
use Rattle.nodes.specs.NodeStore.{nodes_in, NodeStore, AnyStore}
use Rattle.value.specs.Equal.{values_in, spec_equal_runs}
use Rattle.value.specs.declared.store.Store.{Store}
use Rattle.numbers.specs.Numbers.{form_at}
use Rattle.numbers.specs.NumbersLaws.{equal-forms, forms-equal, never}
use Rattle.places.specs.Rest.{Rest, rest, passed}
use Rattle.std.specs.Prelude.{Option, Some, None}
use Rattle.equality.specs.Within.{RunsIn}
use Rattle.rope.specs.Pieces.{Goes, Front, ToRun, front, values, ShowBoth}
use Rattle.rope.specs.PiecesLaws.{Along, Next, along_again, along_run, along_next, front_some, along_on}
use Rattle.rope.specs.Fronts.{Ropes, PlacesKnown, picked, equal_from, TellsFronts}

-- ---- lists in two parts ----

-- A decision that comes to two others.
both : {P Q R : Type 0} (d : Dec P) (e : Dec Q) (f : Dec R) → (P → Q × R) → (Q → R → P) → is_yes d ≡ is_yes e && is_yes f
unfolding is_yes
both d (yes q) (yes r) g h = is_yes_lem d (h q r)
both d (yes q) (no n) g h = is_no d (λ p. n (g p).1)
both d (no n) f g h = is_no d (λ p. n (g p).0)

-- Two lists of terms are equal if their first k terms are and the others are.
in_parts : (x y : List Value) (k : ℕ) → equal_terms x y ≡ equal_terms (take k x) (take k y) && equal_terms (drop k x) (drop k y)
unfolding equal_terms
in_parts x y k =
    both _ _ _
    (λ e. (map-take canon k x ∙ ap (take k) e ∙ sym (map-take canon k y), map-drop canon k x ∙ ap (drop k) e ∙ sym (map-drop canon k y)))
    (λ p q. parts x ∙ ap₂ ◌++◌ p q ∙ sym (parts y))
  where
    parts : (z : List Value) → forms z ≡ forms (take k z) ++ forms (drop k z)
    parts z = ap forms (sym (take-append-drop k z)) ∙ map-append canon (take k z) (drop k z)

-- A list of terms equals itself.
pub terms-same : (x y : List Value) → x ≡ y → true ≡ equal_terms x y
terms-same x y e = sym ((equal-terms x y).1 (ap forms e))

module _ (vs : List Value) (ns : List Node) (f g n : ℕ) where
  -- The next k terms are compared.
  pub from_next : (done k : ℕ) → done + k ≤ n → {b : Bool} → b ≡ equal_terms (take k (drop done (meaning vs ns f))) (take k (drop done (meaning vs ns g)))
      → equal_from vs ns f g n done ≡ b && equal_from vs ns f g n (done + k)
  unfolding equal_from
  from_next done k h {b} e =
      let F = take n (meaning vs ns f) in
      let G = take n (meaning vs ns g) in
      in_parts (drop done F) (drop done G) k
      ∙ ap₂ ◌&&◌ (ap₂ equal_terms (part-below (meaning vs ns f) done k n h) (part-below (meaning vs ns g) done k n h) ∙ sym e)
      (ap₂ equal_terms (drop-drop k done F) (drop-drop k done G))

  -- No term is left.
  pub from_all : (done : ℕ) → n ≤ done → equal_from vs ns f g n done ≡ true
  unfolding equal_from
  from_all done h = sym (terms-same _ _ (none f ∙ sym (none g)))
    where
      none : (i : ℕ) → drop done (take n (meaning vs ns i)) ≡ []
      none i = let z : n - done ≡ 0 = omega arith in drop-take done n (meaning vs ns i) ∙ ap (λ m. take m (drop done (meaning vs ns i))) z

-- ---- what was found so far ----

module _ (vs : List Value) (ns : List Node) (f g n : ℕ) {r : Option ℕ} (tells : TellsFronts vs ns f g n r) where
  pub told_different : r ≡ None → false ≡ equal_from vs ns f g n 0
  unfolding TellsFronts
  told_different e = sym (rw e at tells)

  module _ {done : ℕ} (e : r ≡ Some done) where
    told : (done ≤ n) × (equal_from vs ns f g n 0 ≡ equal_from vs ns f g n done)
    unfolding TellsFronts
    told = rw e at tells

    pub told_most : done ≤ n
    told_most = told.0

    pub told_all : done ≡ n → true ≡ equal_from vs ns f g n 0
    told_all h = sym (told.1 ∙ from_all vs ns f g n done (omega arith))

    pub told_rest : {b : Bool} → b ≡ equal_from vs ns f g n done → b ≡ equal_from vs ns f g n 0
    told_rest h = h ∙ sym told.1

-- ---- terms by their numbers ----

module _ {names w : List ℕ} {used : ℕ} {numbers ps qs : List ℕ} {k : ℕ} (c : PlacesKnown names w used numbers ps qs k) where
  abbrev Same : ℕ → Type 0
  Same i = get_or numbers (get_or ps i 0) 0 ≡ get_or numbers (get_or qs i 0) 0

  abbrev Answer : Bool
  Answer = equal_terms (picked (values_in names w used) (take k ps)) (picked (values_in names w used) (take k qs))

  -- the forms, and that of what stands at a place
  abbrev forms_at : List ℕ → List Value
  forms_at l = forms (picked (values_in names w used) (take k l))

  abbrev form_out : Value
  form_out = canon (get_or (values_in names w used) 0 (char 0))

  size : (l : List ℕ) → k ≤ length l → length (forms_at l) ≡ k
  size l h = length-map (picked (values_in names w used) (take k l)) canon ∙ length-map (take k l) _ ∙ length-take-le k l h

  form : (l : List ℕ) (i : ℕ) → i < k → get_or (forms_at l) i form_out ≡ form_at names w used (get_or l i 0)
  unfolding form_at
  form l i h =
      let vs = values_in names w used in
      get_or-map canon (picked vs (take k l)) i _
      ∙ ap canon (get_or-map (λ p. get_or vs p (char 0)) (take k l) i 0)
      ∙ ap (λ p. canon (get_or vs p (char 0))) (get_or-take k l i 0 h)

  pub at_same : ((i : ℕ) → i < k → Same i) → true ≡ Answer
  at_same h =
      sym ((equal-terms _ _).1 (ext_get_or form_out (forms_at ps) (forms_at qs) (size ps c.long ∙ sym (size qs c.far)) (λ i z.
      let lt : i < k = omega (arith, size ps c.long) in
      form ps i lt
      ∙ equal-forms names w used _ _ (c.known.told _ _ (c.left i lt) (c.right i lt) ∙ eq-eqb _ _ (h i lt))
      ∙ sym (form qs i lt))))

  pub at_differ : (i : ℕ) → i < k → (Same i → ⊥) → false ≡ Answer
  unfolding equal_terms
  at_differ i lt q =
      sym (is_no _ (λ e.
      never (forms-equal names w used _ _ (sym (form ps i lt) ∙ ap (λ l. get_or l i form_out) e ∙ form qs i lt))
      (c.known.told _ _ (c.left i lt) (c.right i lt) ∙ ne_eqb _ _ q)))

-- ---- run by run ----

-- The rule of the nodes, over the list of the values.
values-good : (names w nodes : List ℕ) (over used : ℕ) → NodeStore nodes over used → T (nodes_rule (length (values_in names w over)) (nodes_in nodes used))
values-good names w nodes over used s = rw (values_length, decode-length) s.good

-- Two nodes over a store of the code.
pub over_store : (s : Store) {nodes : List ℕ} {used f g n : ℕ} → ShowBoth nodes s.used used f g n → Ropes s.names.now s.terms.now nodes s.used used f g n
over_store s shows = record { terms = s.good; few = s.few; shows = shows }

-- No more terms than a node can have.
pub ropes_short : {names w nodes : List ℕ} {over used f g n : ℕ} → Ropes names w nodes over used f g n → n ≤ limit
ropes_short {names} {w} {nodes} {over} {used} {f} c =
    let good = values-good names w nodes over used c.shows.store in
    omega (arith, c.shows.left.fits, reach_limit (values_in names w over) (nodes_in nodes used) good f (rw decode-length c.shows.left.low))

-- The first n terms of f and g are equal if those after the first `done` are, and these are still to be read.
pub record Fronts (vs : List Value) (ns : List Node) (f g n : ℕ) (a b : Rest) (done : ℕ) : Type 0 where
  pub left : Along vs ns f n done a
  pub right : Along vs ns g n done b
  pub alike : equal_from vs ns f g n 0 ≡ equal_from vs ns f g n done

-- The next k terms of each stand in runs from x and from y on.
pub record Pair (vs : List Value) (ns : List Node) (f g n done l m x y k : ℕ) : Type 0 where
  pub left : Next vs ns f n done l (record { start = x; len = k })
  pub right : Next vs ns g n done m (record { start = y; len = k })

module _ {vs : List Value} {ns : List Node} {f g n done : ℕ} {a b : Rest} (w : Fronts vs ns f g n a b done) where
  -- Both pieces are taken down to runs.
  pub fronts_run : {a' b' : Rest} → Goes ns a a' → Goes ns b b' → Fronts vs ns f g n a' b' done
  fronts_run x y = record {
    left = along_run w.left x.ready (x.same values vs w.left.good);
    right = along_run w.right y.ready (y.same values vs w.right.good);
    alike = w.alike;
  }

  -- The next k terms of each, in the runs that the two pieces begin with.
  module _ (lt : done < n) (v : Front ns a.node a.skip) {r : Run} (e : r ≡ front ns a.node a.skip a.left)
      (u : Front ns b.node b.skip) {s : Run} (q : s ≡ front ns b.node b.skip b.left) {k : ℕ} (z : k ≡ min r.len s.len) where
    some : 1 ≤ k
    some = omega (arith, front_some w.left lt v e, front_some w.right lt u q)

    pub fronts_pair : Pair vs ns f g n done a.left b.left r.start s.start k
    fronts_pair = record {
      left = along_next w.left lt v e k some (omega arith);
      right = along_next w.right lt u q k some (omega arith);
    }

  -- As far as that is told.
  pub fronts_some : TellsFronts vs ns f g n (Some done)
  unfolding TellsFronts
  fronts_some = (w.left.most, w.alike)

  -- All n terms are read.
  pub fronts_all : n ≤ done → TellsFronts vs ns f g n (Some n)
  unfolding TellsFronts
  fronts_all h = (omega arith, w.alike ∙ from_all vs ns f g n done h ∙ sym (from_all vs ns f g n n (omega arith)))

-- What a turn knows once both pieces are taken down to runs.
pub record Turn (vs : List Value) (ns : List Node) (f g n : ℕ) (a b : Rest) (done x y k : ℕ) : Type 0 where
  pub both : Fronts vs ns f g n a b done
  pub pair : Pair vs ns f g n done a.left b.left x y k

pub turn : {vs : List Value} {ns : List Node} {f g n done : ℕ} {a b a' b' : Rest} → Fronts vs ns f g n a b done → done < n
    → {r s : Run} → ToRun ns a a' × (r ≡ front ns a'.node a'.skip a'.left) → ToRun ns b b' × (s ≡ front ns b'.node b'.skip b'.left)
    → {k : ℕ} → k ≡ min r.len s.len → Turn vs ns f g n a' b' done r.start s.start k
turn w lt (x, e) (y, q) z =
    let both = fronts_run w x.goes y.goes in
    record { both = both; pair = fronts_pair both lt x.begins e y.begins q z }

-- The nodes as a store.
pub ropes_store : {names w nodes : List ℕ} {over used f g n : ℕ} → Ropes names w nodes over used f g n → AnyStore nodes used
ropes_store {over = over} asked = record { terms = over; few_terms = asked.few; store = asked.shows.store }

-- The two runs lie among the terms.
pub turn_lies : {names w nodes : List ℕ} {over used f g n done l m x y k : ℕ} → Ropes names w nodes over used f g n
    → Pair (values_in names w over) (nodes_in nodes used) f g n done l m x y k
    → RunsIn names w (record { start = x; len = k }) (record { start = y; len = k }) over
turn_lies asked p = record {
  store = asked.terms;
  few = asked.few;
  first = rw (values_length, decode-length) at p.left.inside;
  second = rw (values_length, decode-length) at p.right.inside;
}

-- The answer of comparing the two runs.
module _ (names words : List ℕ) (used : ℕ) {ns : List Node} {f g n done l m x y k : ℕ} (p : Pair (values_in names words used) ns f g n done l m x y k)
    {a b : Rest} (w : Fronts (values_in names words used) ns f g n a b done) where
  abbrev vs : List Value
  vs = values_in names words used

  -- It is that of the next terms.
  fronts_next : {answer : Bool} → spec_equal_runs names words used x k y k ≡ answer → equal_from vs ns f g n 0 ≡ answer && equal_from vs ns f g n (done + k)
  unfolding spec_equal_runs equal_terms
  fronts_next e =
      w.alike ∙ from_next vs ns f g n done k p.left.most (sym e ∙ ap₂ (λ x y. is_yes (sames? (forms x) (forms y))) p.left.shows p.right.shows)

  pub fronts_differ : spec_equal_runs names words used x k y k ≡ false → TellsFronts vs ns f g n None
  unfolding TellsFronts
  fronts_differ e = fronts_next e

  pub fronts_more : {a' b' : Rest} → spec_equal_runs names words used x k y k ≡ true → done < n → k ≤ a.left → k ≤ b.left
      → a' ≡ passed a k (rest f (done + k) (n - (done + k)) []) → b' ≡ passed b k (rest g (done + k) (n - (done + k)) [])
      → Fronts vs ns f g n a' b' (done + k)
  fronts_more e lt h j x y = record { left = along_on w.left lt k h x; right = along_on w.right lt k j y; alike = fronts_next e }

-- No term is read yet.
pub fronts_start : (names words nodes : List ℕ) (used nodes-used f g n : ℕ) → ShowBoth nodes used nodes-used f g n
    → {a b : Rest} → a ≡ rest f 0 n [] → b ≡ rest g 0 n [] → Fronts (values_in names words used) (nodes_in nodes nodes-used) f g n a b 0
fronts_start names words nodes used nodes-used f g n s ea eb =
    let vs = values_in names words used in
    let ns = nodes_in nodes nodes-used in
    let good = values-good names words nodes used nodes-used s.store in
    record {
      left = rw ea (along_again vs ns f n 0 n good (rw decode-length s.left.low) s.left.fits (omega arith) (omega arith));
      right = rw eb (along_again vs ns g n 0 n good (rw decode-length s.right.low) s.right.fits (omega arith) (omega arith));
      alike = refl;
    }
