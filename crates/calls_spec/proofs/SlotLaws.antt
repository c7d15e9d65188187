-- Slots: what was written into them is read back, candidate by candidate.
use Rattle.std.specs.Prelude.{◌≡◌, refl, List, [], ◌∷◌, ◌++◌, Bool, true, false, ◌||◌, T, eqb, length, drop, ℕ, ◌+◌, ◌*◌}
use Rattle.std.proofs.Common.{ap, ap₂, sym, ◌∙◌, append_assoc, drop_at}
use Rattle.term_spec.proofs.ListLaws.{All}
use Rattle.term_spec.specs.Words.{encode, decode, write}
use Rattle.term_spec.proofs.WordsLaws.{run_lays, encode-length, decode-encode, encode-append}
use Rattle.term_spec.specs.Term.{Run, run_layout}
use Rattle.match_spec.specs.Answer.{Status, going, done, full, called, number_of}
use Rattle.calls_spec.specs.Step.{Answer, refused, listed, slots_of, slots_filled, slot_names, concat, fill_slots, match_answer}
use Rattle.calls_spec.specs.Demand3.{read_slots}

-- Every candidate has a run for each of k names.
abbrev pub Sized : ℕ → List (List Run) → Type 0
Sized k cs = All (λ c. length c ≡ k) cs

read_encoded : (k : ℕ) (cs : List (List Run)) (x : List ℕ) → Sized k cs → read_slots (length cs) k (encode run_layout (concat cs) ++ x) ≡ cs
unfolding read_slots concat All
read_encoded k [] x a = refl
read_encoded k (c ∷ cs) x a =
    let e : encode run_layout (c ++ concat cs) ++ x ≡ encode run_layout c ++ (encode run_layout (concat cs) ++ x)
    = ap (◌++ x) (encode-append run_layout run_lays c (concat cs)) ∙ append_assoc (encode run_layout c) (encode run_layout (concat cs)) x in
    let l : length (encode run_layout c) ≡ k * 2 = encode-length run_layout run_lays c ∙ ap (◌* 2) a.0 in
    ap₂ ◌∷◌ (ap₂ (decode run_layout) (sym a.0) e ∙ decode-encode run_layout run_lays c (encode run_layout (concat cs) ++ x))
    (ap (read_slots (length cs) k) (ap (drop (k * 2)) e ∙ drop_at (encode run_layout c) (encode run_layout (concat cs) ++ x) (k * 2) l)
    ∙ read_encoded k cs x a.1)

pub read_filled : (w : List ℕ) (k : ℕ) (cs : List (List Run)) → Sized k cs → read_slots (length cs) k (fill_slots w cs) ≡ cs
unfolding fill_slots write
read_filled w k cs a = read_encoded k cs _ a

-- an answer of 10 or 11 has written nothing, if a Call that was reached has not
pub refusal_empty : {E : Type 0} (st : Status) (l : List E) → (st ≡ called → l ≡ []) → T (eqb (number_of st l) 10 || eqb (number_of st l) 11) → l ≡ []
unfolding number_of
refusal_empty going [] h t = refl
refusal_empty going (x ∷ l) h t = absurd t
refusal_empty done l h t = absurd t
refusal_empty full l h t = absurd t
refusal_empty called l h t = h refl

-- the slots as the answer counts them hold the candidates written
pub answered_slots : (w : List ℕ) (n k : ℕ) (cs : List (List Run)) → Sized k cs → (T (eqb n 10 || eqb n 11) → cs ≡ [])
    → read_slots (slots_filled (match_answer n (length cs) k)) (slot_names (match_answer n (length cs) k)) (fill_slots w cs) ≡ cs
unfolding match_answer slots_of read_slots
answered_slots w n k cs a h = go (eqb n 10 || eqb n 11) h
  where
    answer : Bool → Answer
    answer b = elim b as (λ z. Answer) [ true ↦ refused n | false ↦ listed n (length cs) k ]

    go : (b : Bool) → (T b → cs ≡ []) → read_slots (slots_filled (answer b)) (slot_names (answer b)) (fill_slots w cs) ≡ cs
    go true q = sym (q tt)
    go false q = read_filled w k cs a
