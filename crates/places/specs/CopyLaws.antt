-- Laws of copying words one by one, within a slice or from one slice to another, and of words that are set one after another.
use Rattle.std.specs.Prelude.{◌≡◌, refl, List, [], ◌∷◌, ◌++◌, length, get_or, set, take, drop, ℕ, suc, ◌+◌, ◌≤◌, ◌<◌}
use Rattle.std.proofs.Common.{ap, sym, ◌∙◌, length-drop, take-suc, get_or-drop, get_or-set_other, length-take-le, add-one, arith}
use Rattle.std.proofs.lemmas.List.Edits.{sets, sets-eq}
use Rattle.std.proofs.Math.Seq.{length-sets, paste}

-- i of n words from `from` on have gone to `to` and after it.
pub record Copied (source before : List ℕ) (from to n : ℕ) (after : List ℕ) (i : ℕ) : Type 0 where
  pub most : i ≤ n
  pub words : after ≡ sets before to (take i (drop from source))

-- One word more.
pub sets-snoc : (l : List ℕ) (i : ℕ) (vs : List ℕ) (a : ℕ) → sets l i (vs ++ (a ∷ [])) ≡ set (sets l i vs) (i + length vs) a
sets-snoc l i [] a = let z : i ≡ i + 0 = omega arith in ap (λ k. set l k a) z
sets-snoc l i (v ∷ vs) a =
    let z : suc i + length vs ≡ i + suc (length vs) = omega arith in
    sets-snoc (set l i v) (suc i) vs a ∙ ap (λ k. set (sets (set l i v) (suc i) vs) k a) z

-- words that are set change none below them
sets_below : (l : List ℕ) (i : ℕ) (vs : List ℕ) (k : ℕ) → k < i → get_or (sets l i vs) k 0 ≡ get_or l k 0
sets_below l i [] k h = refl
sets_below l i (v ∷ vs) k h = sets_below (set l i v) (suc i) vs k (omega arith) ∙ get_or-set_other l i k v 0 (λ e. omega arith)

pub copied_none : (source before : List ℕ) (from to n : ℕ) → Copied source before from to n before 0
copied_none source before from to n = record { most = omega arith; words = refl }

module _ {source before : List ℕ} {from to n : ℕ} {after : List ℕ} {i : ℕ} (so_far : Copied source before from to n after i) where
  pub copied_length : length after ≡ length before
  copied_length = ap length so_far.words ∙ length-sets before to (take i (drop from source))

  -- one word more
  pub copied_next : from + n ≤ length source → i < n → Copied source before from to n (set after (to + i) (get_or source (from + i) 0)) (i + 1)
  copied_next h lt =
      let d : i < length (drop from source) = rw length-drop (omega arith) in
      let l : length (take i (drop from source)) ≡ i = length-take-le i (drop from source) (omega arith) in
      let s : take (i + 1) (drop from source) ≡ take i (drop from source) ++ (get_or source (from + i) 0 ∷ []) =
      rw (add-one, take-suc (drop from source) i 0 d, get_or-drop) refl in
      record {
        most = omega arith;
        words = ap (λ w. set w (to + i) (get_or source (from + i) 0)) so_far.words
            ∙ ap (λ k. set (sets before to (take i (drop from source))) (to + k) (get_or source (from + i) 0)) (sym l)
            ∙ sym (sets-snoc before to (take i (drop from source)) (get_or source (from + i) 0)) ∙ ap (sets before to) (sym s);
      }

  pub copied_all : n ≤ i → after ≡ sets before to (take n (drop from source))
  copied_all h = let e : i ≡ n = omega (arith, so_far.most) in so_far.words ∙ ap (λ k. sets before to (take k (drop from source))) e

-- One word more, within one slice: the word that is read is as it was before.
pub copied_up : {before : List ℕ} {from to n : ℕ} {after : List ℕ} {i : ℕ} → Copied before before from to n after i
    → from + n ≤ to → to + n ≤ length before → i < n → Copied before before from to n (set after (to + i) (get_or after (from + i) 0)) (i + 1)
copied_up {before} {from} {to} {i = i} so_far h k lt =
    let e = ap (λ w. get_or w (from + i) 0) so_far.words ∙ sets_below before to (take i (drop from before)) (from + i) (omega arith) in
    rw e (copied_next so_far (omega arith) lt)

-- What the library copies, as words that are set.
pub pasted : (l : List ℕ) (to from n k : ℕ) (source : List ℕ) → k ≡ n → from + n ≤ length source → to + n ≤ length l
    → paste l to (drop from source) k ≡ sets l to (take n (drop from source))
pasted l to from n k source e h room =
    let size : length (take n (drop from source)) ≡ n = length-take-le n (drop from source) (rw length-drop (omega arith)) in
    rw e (sym (sets-eq (take n (drop from source)) l to (omega arith) ∙ rw size refl))
