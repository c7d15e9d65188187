-- Laws of from_runs: fusing keeps the terms, and the chain of the fused runs is good and means them.
use Rattle.std.specs.Prelude.{◌≡◌, refl, List, [], ◌∷◌, ◌++◌, T, length, take, drop, ℕ, ◌+◌, ◌≤◌, ◌<◌}
use Rattle.std.proofs.Common.{ap, sym, ◌∙◌, append_assoc, append-nil, length-append, take-add, drop-drop, arith}
use Rattle.std.proofs.Math.Decide.{ℕ_discrete}
use Rattle.term_spec.proofs.BoolLaws.{both_of}
use Rattle.term_spec.proofs.ListLaws.{All, part_length}
use Rattle.term_spec.proofs.TermLaws.{run_facts}
use Rattle.term_spec.specs.Term.{Run, part, run_rule, runs_rule}
use Rattle.view_spec.specs.Node.{Node, node_at, cons_node, meaning, GoodNodes}
use Rattle.view_spec.specs.Build.{last, make_cons, if_dec, fuse_head, fuse_onto, fuse, chain_head, chain, total, parts}
use Rattle.view_spec.proofs.NodeLaws.{nodes_there, nil_first, node-new, meaning_nil, made_cons, trans_grown}

-- A run that is not empty and ends within the used terms.
pub record Fine (used : ℕ) (r : Run) : Type 0 where
  pub some_len : 1 ≤ r.len
  pub within : r.start + r.len ≤ used

runs_facts : (used : ℕ) (r : Run) (rs : List Run) → T (runs_rule used (r ∷ rs)) → (r.start + r.len ≤ used) × T (runs_rule used rs)
unfolding runs_rule
runs_facts used r rs h = let (x, y) = both_of (run_rule used r) (runs_rule used rs) h in (run_facts used r x, y)

onto_parts : {X : Type 0} (xs : List X) (r : Run) (qs : List Run) → parts xs (fuse_onto r qs) ≡ part xs r ++ parts xs qs
unfolding fuse_onto fuse_head parts
onto_parts xs r [] = refl
onto_parts {X} xs r (q ∷ qs) = go (ℕ_discrete (r.start + r.len) q.start)
  where
    go : (d : Dec (r.start + r.len ≡ q.start)) → parts xs (fuse_head d r q qs) ≡ part xs r ++ (part xs q ++ parts xs qs)
    go (yes h) =
        ap (◌++ parts xs qs) (take-add r.len q.len (drop r.start xs)
        ∙ ap (λ z. part xs r ++ take q.len z) (drop-drop r.len r.start xs ∙ ap (λ z. drop z xs) h))
        ∙ append_assoc (part xs r) (part xs q) (parts xs qs)
    go (no h) = refl

pub fuse-parts : {X : Type 0} (xs : List X) (rs : List Run) → parts xs (fuse rs) ≡ parts xs rs
unfolding fuse if_dec parts
fuse-parts xs [] = refl
fuse-parts xs (r ∷ rs) = go (ℕ_discrete r.len 0) (fuse-parts xs rs)
  where
    go : (d : Dec (r.len ≡ 0)) → parts xs (fuse rs) ≡ parts xs rs → parts xs (if_dec d (fuse rs) (fuse_onto r (fuse rs))) ≡ part xs r ++ parts xs rs
    go (yes h) ih = rw h ih
    go (no h) ih = onto_parts xs r (fuse rs) ∙ ap (part xs r ++◌) ih

onto_fine : (used : ℕ) (r : Run) (qs : List Run) → Fine used r → All (Fine used) qs → All (Fine used) (fuse_onto r qs)
unfolding fuse_onto fuse_head All
onto_fine used r [] f a = (f, tt)
onto_fine used r (q ∷ qs) f a = go (ℕ_discrete (r.start + r.len) q.start) a.0
  where
    go : (d : Dec (r.start + r.len ≡ q.start)) → Fine used q → All (Fine used) (fuse_head d r q qs)
    go (yes h) g = (record { some_len = omega arith; within = omega arith }, a.1)
    go (no h) g = (f, (g, a.1))

pub fuse-fine : (used : ℕ) (rs : List Run) → T (runs_rule used rs) → All (Fine used) (fuse rs)
unfolding fuse if_dec All
fuse-fine used [] a = tt
fuse-fine used (r ∷ rs) a = let (x, y) = runs_facts used r rs a in go (ℕ_discrete r.len 0) x (fuse-fine used rs y)
  where
    go : (d : Dec (r.len ≡ 0)) → r.start + r.len ≤ used → All (Fine used) (fuse rs) → All (Fine used) (if_dec d (fuse rs) (fuse_onto r (fuse rs)))
    go (yes h) i ih = ih
    go (no h) i ih = onto_fine used r (fuse rs) (record { some_len = omega arith; within = i }) ih

pub parts-length : {X : Type 0} (xs : List X) (rs : List Run) → T (runs_rule (length xs) rs) → length (parts xs rs) ≡ total rs
unfolding parts total
parts-length xs [] a = refl
parts-length xs (r ∷ rs) a =
    let (i, y) = runs_facts (length xs) r rs a in
    rw (length-append, parts-length xs rs y, part_length xs r.start r.len i) refl

pub last_snoc : (ns : List Node) (n : Node) → last (ns ++ (n ∷ [])) ≡ length ns
last_snoc ns n = rw length-append (omega arith)

-- The store ms is ns and more; its node i is a Nil or a Cons and means l.
pub record Chained {X : Type 0} (xs : List X) (ns ms : List Node) (i : ℕ) (l : List X) : Type 0 where
  pub good : GoodNodes (length xs) ms
  pub grown : (new : List Node) × (ms ≡ ns ++ new)
  pub below : i < length ms
  pub leaf : (node_at ms i).kind ≤ 1
  pub shows : meaning xs ms i ≡ l

pub chain_made : {X : Type 0} (xs : List X) (qs : List Run) (ns : List Node) → GoodNodes (length xs) ns → All (Fine (length xs)) qs
    → Chained xs ns (chain qs ns) (chain_head qs (chain qs ns)) (parts xs qs)
unfolding chain chain_head parts All
chain_made xs [] ns g a =
    let h = nodes_there (length xs) ns g in
    let k = nil_first (length xs) ns g in
    record { good = g; grown = ([], sym (append-nil ns)); below = h; leaf = omega arith; shows = meaning_nil xs ns 0 h k }
chain_made xs (r ∷ qs) ns g a = go (chain qs ns) (chain_head qs (chain qs ns)) a.0 (chain_made xs qs ns g a.1)
  where
    go : (ms : List Node) (i : ℕ) → Fine (length xs) r → Chained xs ns ms i (parts xs qs)
        → Chained xs ns (make_cons ms r.start r.len i) (last (make_cons ms r.start r.len i)) (part xs r ++ parts xs qs)
    go ms i f ih =
        let n = cons_node ms r.start r.len i in
        let m = made_cons xs ms r.start r.len i ih.good f.some_len f.within ih.below ih.leaf in
        let e = last_snoc ms (cons_node ms r.start r.len i) in
        record {
          good = m.good;
          grown = trans_grown ns ms (make_cons ms r.start r.len i) ih.grown m.grown;
          below = rw e m.below;
          leaf = rw (e, node-new ms n) (omega arith);
          shows = ap (meaning xs (make_cons ms r.start r.len i)) e ∙ m.shows ∙ ap (part xs r ++◌) ih.shows;
        }

pub chain_length : (qs : List Run) (ns : List Node) → length (chain qs ns) ≡ length ns + length qs
unfolding chain
chain_length [] ns = omega arith
chain_length (r ∷ qs) ns = rw (length-append, chain_length qs ns) (omega arith)
