-- Laws of the fold in code: how the tally and the slots go along with the events that are taken in, and the loop over the splits.
use Rattle.std.specs.Prelude.{◌≡◌, List, [], ◌∷◌, ◌++◌, drop, ℕ, suc, zero, ◌+◌, ◌-◌, ◌*◌, ◌<◌, ◌≤◌}
use Rattle.std.proofs.Math.Path.{refl, ap, sym}
use Rattle.std.proofs.Common.{ap₂, subst, ◌∙◌, append-nil, drop-drop, mul-le-mul_right, add-one, arith}
use Rattle.term_spec.specs.Term.{Run}
use Rattle.match_spec.specs.Walk.{Event, tried, reached, upto}
use Rattle.match_spec.specs.Answer.{going, called, Progress, Wanted, absorb_one, absorb}
use Rattle.match_spec.proofs.AnswerLaws.{absorb-append, absorb_done, absorb-full, absorb_called}
use Rattle.matcher.specs.declared.Goal.{Goal}
use Rattle.matcher.specs.declared.Tally.{Tally}
use Rattle.matcher.specs.declared.Status.{Status}
use Rattle.matcher.specs.declared.Status.TheVariants.{Going, Done, Full, Called}
use Rattle.matcher.specs.Ready.{candidates_in, status_of, progress_of, wanted_of, slot_words, Filled, Written}

-- ---- the slots ----

filled-same : (m cap : ℕ) (f r : Tally) (w : List ℕ) → r.count ≡ f.count → f.count ≤ cap → Filled m cap f r w w
filled-same m cap f r w e h = record { more = omega arith; most = omega arith; rest = refl }

-- words that agree from a slot on agree from a later one on
later : (n a b : ℕ) (v w : List ℕ) → a ≤ b → drop (a * n) v ≡ drop (a * n) w → drop (b * n) v ≡ drop (b * n) w
later n a b v w h e =
    let k : a * n ≤ b * n = mul-le-mul_right n h in
    let z : a * n + (b * n - a * n) ≡ b * n = omega arith in
    ap (λ i. drop i v) (sym z) ∙ sym (drop-drop (b * n - a * n) (a * n) v) ∙ ap (drop (b * n - a * n)) e
    ∙ drop-drop (b * n - a * n) (a * n) w ∙ ap (λ i. drop i w) z

filled_more : (m cap : ℕ) {f g r : Tally} {u v w : List ℕ} → Filled m cap f g u v → Filled m cap g r v w → Filled m cap f r u w
filled_more m cap {f} {g} {r} {u} {v} {w} a b = record {
  more = omega (arith, a.more, b.more);
  most = b.most;
  rest = b.rest ∙ later (slot_words m) g.count r.count v u b.more a.rest;
}

-- ---- exits of the walk ----

-- a listing that has stopped takes in nothing
stopped : {E : Type 0} (q : Wanted) (cap : ℕ) (l : List (Event E)) (w : List E) (n : Status) → (n ≡ Going → ⊥)
    → absorb q cap l (record { written = w; status = status_of n }) ≡ record { written = w; status = status_of n }
unfolding status_of
stopped q cap l w Going h = absurd (h refl)
stopped q cap l w Done h = absorb_done q cap l w
stopped q cap l w Full h = absorb-full q cap l w
stopped q cap l w Called h = absorb_called q cap l w

-- nothing is taken in
none_taken : {E : Type 0} (q : Wanted) (cap : ℕ) (o : Progress E) → absorb q cap [] o ≡ o
unfolding absorb
none_taken q cap o = refl

-- a split that is gone into writes nothing by itself
tried_taken : {E : Type 0} (q : Wanted) (cap : ℕ) (l : List (Event E)) (w : List E)
    → absorb q cap (tried ∷ l) (record { written = w; status = going }) ≡ absorb q cap l (record { written = w; status = going })
unfolding absorb absorb_one
tried_taken q cap l w = refl

-- a Call or Block stops
call_taken : {E : Type 0} (q : Wanted) (cap : ℕ) (w : List E)
    → absorb q cap (reached ∷ []) (record { written = w; status = going }) ≡ record { written = w; status = called }
unfolding absorb absorb_one
call_taken q cap w = refl

module _ (g : Goal) (f : Tally) (w : List ℕ) (most : f.count ≤ g.cap) {events : List (Event (List Run))} where
  pub written_none : events ≡ [] → Written g events f f w w
  written_none e = record {
    taken = sym (none_taken (wanted_of g.head) g.cap _) ∙ ap (λ z. absorb (wanted_of g.head) g.cap z (progress_of g.entries f w)) (sym e);
    filled = filled-same _ _ f f w refl most;
  }

  pub written_call : f.stop ≡ Going → events ≡ reached ∷ [] → Written g events f (record { stop = Called; count = f.count }) w w
  unfolding status_of
  written_call z e = record {
    taken = sym (ap₂ (λ x y. absorb (wanted_of g.head) g.cap x (record { written = candidates_in g.entries f.count w; status = status_of y })) e z
        ∙ call_taken (wanted_of g.head) g.cap (candidates_in g.entries f.count w));
    filled = filled-same _ _ f (record { stop = Called; count = f.count }) w refl most;
  }

-- other events that are the same
pub written_same : {g : Goal} {f r : Tally} {before after : List ℕ} {l k : List (Event (List Run))} → l ≡ k
    → Written g k f r before after → Written g l f r before after
written_same {g} {f} {r} {before} e h = record {
  taken = h.taken ∙ ap (λ z. absorb (wanted_of g.head) g.cap z (progress_of g.entries f before)) (sym e);
  filled = h.filled;
}

-- ---- splits from the k-th on ----

-- c of f's lists from the k-th on.
unfoldable pub splits_from : {B : Type 0} → (ℕ → List B) → ℕ → ℕ → List B
splits_from f k zero = []
splits_from f k (suc c) = f k ++ splits_from f (suc k) c

from_shifted : {B : Type 0} (f : ℕ → List B) (k c : ℕ) → splits_from (λ j. f (suc j)) k c ≡ splits_from f (suc k) c
unfolding splits_from
from_shifted f k zero = refl
from_shifted f k (suc c) = ap (f (suc k) ++◌) (from_shifted f (suc k) c)

upto_from : {B : Type 0} (f : ℕ → List B) (m : ℕ) → upto f m ≡ splits_from f 0 (suc m)
unfolding upto splits_from
upto_from f zero = sym (append-nil (f 0))
upto_from f (suc m) = ap (f 0 ++◌) (upto_from (λ j. f (suc j)) m ∙ from_shifted f 0 (suc m))

from_next : {B : Type 0} (f : ℕ → List B) (k m : ℕ) → k ≤ m → splits_from f k (suc m - k) ≡ f k ++ splits_from f (k + 1) (suc m - (k + 1))
unfolding splits_from
from_next f k m h =
    let e : suc m - k ≡ suc (suc m - (k + 1)) = omega arith in
    ap (splits_from f k) e ∙ ap (λ j. f k ++ splits_from f j (suc m - (k + 1))) (sym (add-one k))

from_end : {B : Type 0} (f : ℕ → List B) (k m : ℕ) → m < k → splits_from f k (suc m - k) ≡ []
unfolding splits_from
from_end f k m h = let e : suc m - k ≡ 0 = omega arith in ap (splits_from f k) e

-- ---- the loop over the splits ----

module _ (g : Goal) (G : ℕ → List (Event (List Run))) (len : ℕ) (f : Tally) (before : List ℕ) where
  -- what the goal takes in of events after a tally and its words
  abbrev takes : List (Event (List Run)) → Tally → List ℕ → Progress (List Run)
  takes l t w = absorb (wanted_of g.head) g.cap l (progress_of g.entries t w)

  -- the events of all splits
  abbrev whole : Progress (List Run)
  whole = takes (upto G len) f before

  -- k splits are behind: what is left comes to the whole, and nothing has stopped the listing
  pub record Looping (got : Tally) (slots : List ℕ) (k : ℕ) : Type 0 where
    pub within : k ≤ suc len
    pub goes : got.stop ≡ Going
    pub left : takes (splits_from G k (suc len - k)) got slots ≡ whole
    pub filled : Filled g.entries g.cap f got before slots

  pub loop_start : f.stop ≡ Going → f.count ≤ g.cap → Looping f before 0
  loop_start s c = let z : suc len - 0 ≡ suc len = omega arith in record {
    within = omega arith;
    goes = s;
    left = ap (λ n. takes (splits_from G 0 n) f before) z ∙ ap (λ l. takes l f before) (sym (upto_from G len));
    filled = filled-same _ _ f f before refl c;
  }

  module _ {got : Tally} {slots : List ℕ} {k : ℕ} (o : Looping got slots k) where
    pub loop_done : len < k → Written g (upto G len) f got before slots
    loop_done h = record {
      taken = sym (none_taken (wanted_of g.head) g.cap _) ∙ ap (λ l. takes l got slots) (sym (from_end G k len h)) ∙ o.left;
      filled = o.filled;
    }

    abbrev later_splits : List (Event (List Run))
    later_splits = splits_from G (k + 1) (suc len - (k + 1))

    -- the events of split k, then those of the later ones
    apart : k ≤ len → absorb (wanted_of g.head) g.cap later_splits (takes (G k) got slots) ≡ whole
    apart h = sym (absorb-append (wanted_of g.head) g.cap (G k) later_splits _) ∙ ap (λ l. takes l got slots) (sym (from_next G k len h)) ∙ o.left

    loop_skip : k ≤ len → G k ≡ [] → Looping got slots (k + 1)
    loop_skip h e = record {
      within = omega arith;
      goes = o.goes;
      left = ap (absorb (wanted_of g.head) g.cap later_splits) (sym (none_taken (wanted_of g.head) g.cap _) ∙ ap (λ l. takes l got slots) (sym e))
          ∙ apart h;
      filled = o.filled;
    }

    module _ (h : k ≤ len) {W : List (Event (List Run))} (e : G k ≡ tried ∷ W) {r : Tally} {after : List ℕ} (w : Written g W got r slots after) where
      -- the events of split k are taken in
      taken_here : takes (G k) got slots ≡ progress_of g.entries r after
      unfolding status_of
      taken_here =
          let so_far = candidates_in g.entries got.count slots in
          ap (λ l. takes l got slots) e
          ∙ ap (λ n. absorb (wanted_of g.head) g.cap (tried ∷ W) (record { written = so_far; status = status_of n })) o.goes
          ∙ tried_taken (wanted_of g.head) g.cap W so_far
          ∙ ap (λ n. absorb (wanted_of g.head) g.cap W (record { written = so_far; status = status_of n })) (sym o.goes)
          ∙ sym w.taken

      pub loop_into : r.stop ≡ Going → Looping r after (k + 1)
      loop_into s = record {
        within = omega arith;
        goes = s;
        left = ap (absorb (wanted_of g.head) g.cap later_splits) (sym taken_here) ∙ apart h;
        filled = filled_more _ _ o.filled w.filled;
      }

      pub loop_stops : (r.stop ≡ Going → ⊥) → Written g (upto G len) f r before after
      loop_stops n = record {
        taken = sym (stopped (wanted_of g.head) g.cap later_splits (candidates_in g.entries r.count after) r.stop n)
            ∙ ap (absorb (wanted_of g.head) g.cap later_splits) (sym taken_here) ∙ apart h;
        filled = filled_more _ _ o.filled w.filled;
      }

  -- n splits from k on, and so all splits from k to before r, have no events
  loop_skips : (n : ℕ) {got : Tally} {slots : List ℕ} {k : ℕ} → Looping got slots k → k + n ≤ suc len
      → ((j : ℕ) → k ≤ j → j < k + n → G j ≡ []) → Looping got slots (k + n)
  loop_skips zero {got} {slots} {k} o h none = let z : k ≡ k + 0 = omega arith in subst (Looping got slots) z o
  loop_skips (suc n) {got} {slots} {k} o h none =
      let z : k + 1 + n ≡ k + suc n = omega arith in
      let skipped = loop_skip o (omega arith) (none k (omega arith) (omega arith)) in
      subst (Looping got slots) z (loop_skips n skipped (omega arith) (λ j a b. none j (omega arith) (omega arith)))

  pub loop_to : {got : Tally} {slots : List ℕ} {k : ℕ} (r : ℕ) → Looping got slots k → k ≤ r → r ≤ len + 1
      → ((j : ℕ) → k ≤ j → j < r → G j ≡ []) → Looping got slots r
  loop_to {got} {slots} {k} r o low high none =
      let z : k + (r - k) ≡ r = omega arith in
      subst (Looping got slots) z (loop_skips (r - k) o (omega arith) (λ j a b. none j a (omega arith)))
