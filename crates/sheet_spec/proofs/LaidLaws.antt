-- Laws of slices of which a part is replaced: lengths, one element, a part after or before another one.
use Rattle.std.specs.Prelude.{◌≡◌, List, [], ◌∷◌, ◌++◌, length, take, drop, set, ℕ, suc, ◌+◌, ◌≤◌, ◌<◌}
use Rattle.std.proofs.Common.{ap, ap₂, sym, ◌∙◌, append_assoc, append-nil, length-append, length-drop}
use Rattle.std.proofs.Common.{take-append-drop, length-take-le, take_at, drop_at, drop-drop, take-take, arith}
use Rattle.std.proofs.Math.Seq.{drop-append-add}
use Rattle.std.proofs.lemmas.List.{take-append-le, set_split}
use Rattle.sheet_spec.specs.Job.{laid_at, laid}

-- The length stays where the part fits.
pub laid_at-length : (old : List ℕ) (p : ℕ) (new : List ℕ) → p + length new ≤ length old → length (laid_at old p new) ≡ length old
unfolding laid_at
laid_at-length old p new h =
    length-append (take p old ++ new) (drop (p + length new) old)
    ∙ omega (arith, length-append (take p old) new, length-take-le p old (omega arith), length-drop (p + length new) old)

-- No part.
pub laid_at_none : (old : List ℕ) (p : ℕ) → laid_at old p [] ≡ old
unfolding laid_at
laid_at_none old p = let z : p + length {A = ℕ} [] ≡ p = omega arith in ap₂ (λ x n. x ++ drop n old) (append-nil (take p old)) z ∙ take-append-drop p old

-- A part at the start.
pub laid_at-start : (old new : List ℕ) → laid_at old 0 new ≡ laid new old
unfolding laid_at laid
laid_at-start old new = let z : 0 + length new ≡ length new = omega arith in ap (λ n. new ++ drop n old) z

-- A part of one element.
pub laid_at-set : (old : List ℕ) (p x : ℕ) → p < length old → set old p x ≡ laid_at old p (x ∷ [])
unfolding laid_at
laid_at-set old p x h =
    let z : suc p ≡ p + length (x ∷ []) = omega arith in
    set_split old p x h ∙ sym (append_assoc (take p old) (x ∷ []) (drop (suc p) old)) ∙ ap (λ n. take p old ++ (x ∷ []) ++ drop n old) z

-- A part, and one after it.
pub laid_at_next : (old : List ℕ) (p q : ℕ) (a b : List ℕ) → q ≡ p + length a → q ≤ length old → laid_at (laid_at old p a) q b ≡ laid_at old p (a ++ b)
unfolding laid_at
laid_at_next old p q a b e h =
    let f = take p old ++ a in
    let d = drop (p + length a) old in
    let l : length f ≡ q = length-append (take p old) a ∙ omega (arith, length-take-le p old (omega arith)) in
    let m : q + length b ≡ length f + length b = omega arith in
    let k : p + length a + length b ≡ p + length (a ++ b) = omega (arith, length-append a b) in
    ap₂ (λ x y. x ++ b ++ y) (take_at f d q l) (ap (λ n. drop n (f ++ d)) m ∙ drop-append-add f d (length b) ∙ drop-drop (length b) (p + length a) old
    ∙ ap (λ n. drop n old) k)
    ∙ ap (◌++ drop (p + length (a ++ b)) old) (append_assoc (take p old) a b)

-- A part, and one before it.
pub laid_at-before : (old : List ℕ) (p q : ℕ) (a b : List ℕ) → q ≡ p + length a → q ≤ length old → laid_at (laid_at old q b) p a ≡ laid_at old p (a ++ b)
unfolding laid_at
laid_at-before old p q a b e h =
    let f = take q old in
    let d = drop (q + length b) old in
    let l : length f ≡ q = length-take-le q old h in
    let k : q + length b ≡ p + length (a ++ b) = omega (arith, length-append a b) in
    ap₂ (λ x y. x ++ a ++ y)
    (ap (take p) (append_assoc f b d) ∙ take-append-le p f (b ++ d) (omega arith) ∙ take-take p q old (omega arith))
    (ap₂ (λ n x. drop n x) (sym e) (append_assoc f b d) ∙ drop_at f (b ++ d) q l)
    ∙ sym (append_assoc (take p old ++ a) b d)
    ∙ ap₂ (λ x n. x ++ drop n old) (append_assoc (take p old) a b) k

-- A part, and one element after it.
pub laid_at-snoc : (old : List ℕ) (p q : ℕ) (a : List ℕ) (x : ℕ) → q ≡ p + length a → q < length old → set (laid_at old p a) q x ≡ laid_at old p (a ++ x ∷ [])
laid_at-snoc old p q a x e h = laid_at-set (laid_at old p a) q x (omega (arith, laid_at-length old p a (omega arith)))
    ∙ laid_at_next old p q a (x ∷ []) e (omega arith)

-- The length stays where the first part fits.
pub laid-length : (new old : List ℕ) → length new ≤ length old → length (laid new old) ≡ length old
laid-length new old h = ap length (sym (laid_at-start old new)) ∙ laid_at-length old 0 new (omega arith)

-- Two parts laid one after the other, as a caller of two functions knows them.
pub laid_at_then : (old mid new : List ℕ) (p q : ℕ) (a b : List ℕ) → q ≡ p + length a → q ≤ length old → mid ≡ laid_at old p a → new ≡ laid_at mid q b
    → new ≡ laid_at old p (a ++ b)
laid_at_then old mid new p q a b e h f g = g ∙ ap (λ x. laid_at x q b) f ∙ laid_at_next old p q a b e h
