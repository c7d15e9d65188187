-- Settling: the terms copied are valid where they go and mean what they meant, so the settled run shows the field's terms.
use Rattle.std.specs.Prelude.{◌≡◌, T, length, get_or, take, drop}
use Rattle.std.proofs.Math.Path.{refl, ap}
use Rattle.std.proofs.Common.{sym, ◌∙◌, subst, length-append, take-append-drop, length-take-le, take-take, drop_at, arith}
use mathlib.Core.List.{List, [], ◌∷◌, ◌++◌, append_assoc, append-nil}
use Rattle.std.proofs.Math.Seq.{append_snoc}
use Prim.Native.Nat.{ℕ, suc, zero, ◌+◌, ◌≤◌, ◌<◌}
use Rattle.term_spec.specs.Table.{table}
use Rattle.term_spec.proofs.TableLaws.{table_at, table-append}
use Rattle.term_spec.specs.Term.{Term, no_term, Run, part, run_rule, term_rule, terms_rule}
use Rattle.term_spec.proofs.TermLaws.{run_facts, facts_run, term-more, term-at, terms-cons, terms-append, values_length, value_more}
use Rattle.term_spec.specs.Value.{Value, char, value_of, values}
use Rattle.view_spec.specs.Node.{Node, Field, nodes_rule, field_rule, meaning_k, meaning_of, meanings, meaning, holds}
use Rattle.view_spec.specs.Read.{Place, stored, scattered, place, copy_at, copy, settled_at, settled_run}
use Rattle.view_spec.proofs.NodeLaws.{holds-length}
use Rattle.view_spec.proofs.ReadLaws.{place-shows}

-- ---- two lists side by side, entry by entry ----

unfoldable pub Two : {A B : Type 0} → (A → B → Type 0) → List A → List B → Type 0
Two R [] [] = Unit {0}
Two R [] (y ∷ m) = ⊥
Two R (x ∷ l) [] = ⊥
Two R (x ∷ l) (y ∷ m) = R x y × Two R l m

module _ {A B : Type 0} (R : A → B → Type 0) where
  two_nil : Two R [] []
  unfolding Two
  two_nil = tt

  two-one : (x : A) (y : B) → R x y → Two R (x ∷ []) (y ∷ [])
  unfolding Two
  two-one x y h = (h, tt)

  two-take : (n : ℕ) (l : List A) (m : List B) → Two R l m → Two R (take n l) (take n m)
  unfolding Two
  two-take zero l m h = tt
  two-take (suc n) [] [] h = tt
  two-take (suc n) [] (y ∷ m) h = absurd h
  two-take (suc n) (x ∷ l) [] h = absurd h
  two-take (suc n) (x ∷ l) (y ∷ m) h = (h.0, two-take n l m h.1)

  two-drop : (n : ℕ) (l : List A) (m : List B) → Two R l m → Two R (drop n l) (drop n m)
  unfolding Two
  two-drop zero l m h = h
  two-drop (suc n) [] [] h = tt
  two-drop (suc n) [] (y ∷ m) h = absurd h
  two-drop (suc n) (x ∷ l) [] h = absurd h
  two-drop (suc n) (x ∷ l) (y ∷ m) h = two-drop n l m h.1

  two-append : (l : List A) (m : List B) (l' : List A) (m' : List B) → Two R l m → Two R l' m' → Two R (l ++ l') (m ++ m')
  unfolding Two
  two-append [] [] l' m' h k = k
  two-append [] (y ∷ m) l' m' h k = absurd h
  two-append (x ∷ l) [] l' m' h k = absurd h
  two-append (x ∷ l) (y ∷ m) l' m' h k = (h.0, two-append l m l' m' h.1 k)

  two_at : (l : List A) (m : List B) (i : ℕ) (x : A) (y : B) → Two R l m → R x y → R (get_or l i x) (get_or m i y)
  unfolding Two
  two_at [] [] i x y h k = k
  two_at [] (z ∷ m) i x y h k = absurd h
  two_at (z ∷ l) [] i x y h k = absurd h
  two_at (z ∷ l) (u ∷ m) zero x y h k = h.0
  two_at (z ∷ l) (u ∷ m) (suc i) x y h k = two_at l m i x y h.1 k

  two_index : (l : List A) (m : List B) (x : A) (y : B) → length l ≡ length m → ((i : ℕ) → i < length l → R (get_or l i x) (get_or m i y)) → Two R l m
  unfolding Two
  two_index [] [] x y e h = tt
  two_index [] (u ∷ m) x y e h = absurd (omega arith)
  two_index (z ∷ l) [] x y e h = absurd (omega arith)
  two_index (z ∷ l) (u ∷ m) x y e h = (h zero (omega arith), two_index l m x y (omega arith) (λ i lt. h (suc i) (omega arith)))

  two-length : (l : List A) (m : List B) → Two R l m → length l ≡ length m
  unfolding Two
  two-length [] [] h = refl
  two-length [] (y ∷ m) h = absurd h
  two-length (x ∷ l) [] h = absurd h
  two-length (x ∷ l) (y ∷ m) h = ap suc (two-length l m h.1)

-- A field takes lists that are related to lists that are related.
module _ {A B : Type 0} (R : A → B → Type 0) (xs : List A) (ys : List B) (h : Two R xs ys) where
  two_kind : (k : ℕ) (n : Node) (a : List (List A)) (b : List (List B)) → Two (Two R) a b → Two R (meaning_k k n xs a) (meaning_k k n ys b)
  unfolding meaning_k
  two_kind zero n a b t = two_nil R
  two_kind (suc zero) n a b t =
      two-append R _ _ _ _ (two-take R n.b _ _ (two-drop R n.a xs ys h)) (two_at (Two R) a b n.c [] [] t (two_nil R))
  two_kind (suc (suc k)) n a b t =
      two-append R _ _ _ _ (two-take R n.b _ _ (two_at (Two R) a b n.a [] [] t (two_nil R))) (two_at (Two R) a b n.c [] [] t (two_nil R))

  two-table : (ns : List Node) (a : List (List A)) (b : List (List B)) → Two (Two R) a b → Two (Two R) (table (meaning_of xs) ns a) (table (meaning_of ys) ns b)
  unfolding table meaning_of
  two-table [] a b t = t
  two-table (n ∷ ns) a b t = two-table ns _ _ (two-append (Two R) a b _ _ t (two-one (Two R) _ _ (two_kind n.kind n a b t)))

  pub two-holds : (ns : List Node) (f : Field) → Two R (holds xs ns f) (holds ys ns f)
  two-holds ns f = two-take R f.len _ _
      (two_at (Two R) (meanings xs ns) (meanings ys ns) f.node [] [] (two-table ns [] [] (two_nil (Two R))) (two_nil R))

-- ---- a term of the store ts, copied anywhere above it, is valid and means the same ----

record Lasting (names : List ℕ) (ts : List Term) (t : Term) (v : Value) : Type 0 where
  valid : (more : List Term) → T (term_rule names (ts ++ more) t)
  same : (more : List Value) → value_of names t (values names ts ++ more) ≡ v

lasting : (names : List ℕ) (ts : List Term) → T (terms_rule names [] ts) → Two (Lasting names ts) ts (values names ts)
unfolding values
lasting names ts g = two_index (Lasting names ts) ts (values names ts) no_term (char 0) (sym (values_length names ts)) one
  where
    cut : {A : Type 0} (i : ℕ) (l more : List A) → take i l ++ (drop i l ++ more) ≡ l ++ more
    cut i l more = sym (append_assoc (take i l) (drop i l) more) ∙ ap (◌++ more) (take-append-drop i l)

    one : (i : ℕ) → i < length ts → Lasting names ts (get_or ts i no_term) (get_or (values names ts) i (char 0))
    one i lt =
        let t = get_or ts i no_term in
        let vs = values names ts in
        let k = term-at names [] ts i g lt in
        let vl = values_length names ts in
        let e = table_at (value_of names) ts [] i i no_term (char 0) lt (omega arith) in
        let n = length-take-le i ts (omega arith) ∙ sym (length-take-le i vs (omega arith)) in
        record {
          valid = λ more. subst (λ z. T (term_rule names z t)) (cut i ts more) (term-more names (take i ts) (drop i ts ++ more) t k);
          same = λ more. ap (value_of names t) (sym (cut i vs more)) ∙ value_more names (take i ts) t (take i vs) (drop i vs ++ more) n k ∙ sym e;
        }

copy-values : (names : List ℕ) (ts us : List Term) (vs more : List Value) → Two (Lasting names ts) us vs
    → table (value_of names) us (values names ts ++ more) ≡ (values names ts ++ more) ++ vs
unfolding Two table
copy-values names ts [] [] more h = sym (append-nil (values names ts ++ more))
copy-values names ts [] (v ∷ vs) more h = absurd h
copy-values names ts (u ∷ us) [] more h = absurd h
copy-values names ts (u ∷ us) (v ∷ vs) more h =
    let xs = values names ts in
    ap (table (value_of names) us) (ap (λ z. (xs ++ more) ++ (z ∷ [])) (h.0.same more) ∙ append_assoc xs more (v ∷ []))
    ∙ copy-values names ts us vs (more ++ (v ∷ [])) h.1
    ∙ ap (◌++ vs) (sym (append_assoc xs more (v ∷ []))) ∙ append_snoc (xs ++ more) v vs

copy-rule : (names : List ℕ) (ts us : List Term) (vs : List Value) (more : List Term) → Two (Lasting names ts) us vs → T (terms_rule names (ts ++ more) us)
unfolding Two terms_rule
copy-rule names ts [] [] more h = tt
copy-rule names ts [] (v ∷ vs) more h = absurd h
copy-rule names ts (u ∷ us) [] more h = absurd h
copy-rule names ts (u ∷ us) (v ∷ vs) more h =
    terms-cons names (ts ++ more) u us (h.0.valid more) (rw append_assoc (copy-rule names ts us vs (more ++ (u ∷ [])) h.1))

values_copied : (names : List ℕ) (ts us : List Term) (vs : List Value) → Two (Lasting names ts) us vs → values names (ts ++ us) ≡ values names ts ++ vs
unfolding values
values_copied names ts us vs h = let xs = values names ts in
    table-append (value_of names) ts us [] ∙ ap (table (value_of names) us) (sym (append-nil xs)) ∙ copy-values names ts us vs [] h ∙ ap (◌++ vs) (append-nil xs)

-- ---- settling ----

pub nodes-values : (names : List ℕ) (ts : List Term) (ns : List Node) → T (nodes_rule (length ts) ns) → T (nodes_rule (length (values names ts)) ns)
nodes-values names ts ns g = rw (values_length names ts) g

pub record Settles (names : List ℕ) (ts : List Term) (ns : List Node) (f : Field) : Type 0 where
  pub good : T (terms_rule names [] (ts ++ copy ts ns f))
  pub more : List Value
  pub spelled : values names (ts ++ copy ts ns f) ≡ values names ts ++ more
  pub inside : T (run_rule (length (ts ++ copy ts ns f)) (settled_run ts ns f))
  pub shows : part (values names (ts ++ copy ts ns f)) (settled_run ts ns f) ≡ holds (values names ts) ns f

-- The same, where the records copied and the run are known.
settles_by : (names : List ℕ) (ts : List Term) (ns : List Node) (f : Field) (us : List Term) (vs : List Value) (r : Run)
    → copy ts ns f ≡ us → settled_run ts ns f ≡ r → T (terms_rule names [] (ts ++ us)) → values names (ts ++ us) ≡ values names ts ++ vs
    → r.start + r.len ≤ length (ts ++ us) → part (values names ts ++ vs) r ≡ holds (values names ts) ns f → Settles names ts ns f
settles_by names ts ns f us vs r e q g s i p = record {
  good = rw e g;
  more = vs;
  spelled = rw e s;
  inside = rw (e, q) (facts_run (length (ts ++ us)) r i);
  shows = rw (e, q, s) p;
}

pub settles : (names : List ℕ) (ts : List Term) (ns : List Node) (f : Field) → T (terms_rule names [] ts) → T (nodes_rule (length ts) ns) → T (field_rule ns f)
    → Settles names ts ns f
unfolding copy_at settled_at
settles names ts ns f gt gn h = go (place ns f) refl
  where
    xs : List Value
    xs = values names ts

    us : List Term
    us = holds ts ns f

    n : length xs ≡ length ts
    n = values_length names ts

    go : (p : Place) → place ns f ≡ p → Settles names ts ns f
    go (stored r) e =
        let (s, i) = place-shows xs ns f r (nodes-values names ts ns gn) h e in
        settles_by names ts ns f [] [] r (ap (λ p. copy_at p ts ns f) e) (ap (λ p. settled_at p (length ts) f) e) (rw append-nil gt)
        (ap (values names) (append-nil ts) ∙ sym (append-nil xs))
        (rw append-nil (omega (arith, n, run_facts (length xs) r i))) (ap (λ z. part z r) (append-nil xs) ∙ s)
    go scattered e =
        let two = two-holds (Lasting names ts) ts xs (lasting names ts gt) ns f in
        let m = two-length (Lasting names ts) us (holds xs ns f) two ∙ holds-length xs ns f (nodes-values names ts ns gn) h in
        settles_by names ts ns f us (holds xs ns f) (record { start = length ts; len = f.len }) (ap (λ p. copy_at p ts ns f) e) (ap (λ p. settled_at p (length ts) f) e)
        (terms-append names ts us gt (rw append-nil at (copy-rule names ts us (holds xs ns f) [] two))) (values_copied names ts us (holds xs ns f) two)
        (rw length-append (omega arith))
        (ap (take f.len) (drop_at xs (holds xs ns f) (length ts) n) ∙ take-take f.len f.len (meaning xs ns f.node) (omega arith))
