-- Laws of chains: none entered yet; another key and another test that are the same below; one place passed; one place entered; looking along one.
use Rattle.std.specs.Prelude.{◌≡◌, refl, List, ◌⊎◌, length, get_or, set, replicate, ℕ, suc, ◌+◌, ◌-◌, ◌<◌, ◌≤◌}
use Rattle.std.proofs.Common.{sym, ap, ◌∙◌, inl, inr, get_or-set_same, get_or-set_other, arith}
use Rattle.std.proofs.Math.Decide.{ℕ_discrete, dec_lt}
use Rattle.term_spec.proofs.ListLaws.{zeros-at}
use Rattle.numbers.specs.Buckets.{Chains, Sought}

-- At first no place is entered.
pub chains_none : (key : ℕ → ℕ) (Entered : ℕ → Type 0) (m n : ℕ) → Chains key Entered 0 (replicate m 0) (replicate n 0)
chains_none key Entered m n = record {
  heads_low = λ b. omega (arith, zeros-at m b);
  heads_in = λ b c e. absurd (omega (arith, zeros-at m b));
  heads-last = λ r h. absurd (omega arith);
  earlier_low = λ c. omega (arith, zeros-at n c);
  earlier_in = λ c d h. absurd (omega arith);
  earlier-last = λ c r h. absurd (omega arith);
}

-- Chains look only at the places below.
module _ {key key' : ℕ → ℕ} {Entered Entered' : ℕ → Type 0} {k : ℕ} {heads earlier : List ℕ} (was : Chains key Entered k heads earlier)
    (same : (c : ℕ) → c < k → key c ≡ key' c) (to : (c : ℕ) → c < k → Entered c → Entered' c) (from : (c : ℕ) → c < k → Entered' c → Entered c) where
  head_in : (b c : ℕ) → get_or heads b 0 ≡ suc c → Entered' c × (key' c ≡ b)
  head_in b c e =
      let lt : c < k = omega (arith, was.heads_low b) in
      let (x, y) = was.heads_in b c e in
      (to c lt x, sym (same c lt) ∙ y)

  next_in : (c d : ℕ) → c < k → Entered' c → get_or earlier c 0 ≡ suc d → Entered' d × (key' d ≡ key' c)
  next_in c d lt x e =
      let ld : d < k = omega (arith, was.earlier_low c) in
      let (y, z) = was.earlier_in c d lt (from c lt x) e in
      (to d ld y, sym (same d ld) ∙ z ∙ same c lt)

  pub chains_same : Chains key' Entered' k heads earlier
  chains_same = record {
    heads_low = was.heads_low;
    heads_in = head_in;
    heads-last = λ r lt x. rw (← same r lt) (was.heads-last r lt (from r lt x));
    earlier_low = was.earlier_low;
    earlier_in = next_in;
    earlier-last = λ c r lt x h y e.
        let lr : r < k = omega arith in
        was.earlier-last c r lt (from c lt x) h (from r lr y) (same r lr ∙ e ∙ sym (same c lt));
  }

pub below_next : {r k : ℕ} → r < k + 1 → (r < k) ⊎ (r ≡ k)
below_next {r} {k} h = go (dec_lt r k)
  where
    go : Dec (r < k) → (r < k) ⊎ (r ≡ k)
    go (yes q) = inl q
    go (no q) = inr (omega arith)

module _ {key : ℕ → ℕ} {Entered : ℕ → Type 0} {k : ℕ} {heads earlier : List ℕ} (was : Chains key Entered k heads earlier) where
  -- Place k is not entered.
  module _ (out : Entered k → ⊥) where
    lower : (c : ℕ) → c < k + 1 → Entered c → c < k
    lower c h x = go (ℕ_discrete c k)
      where
        go : Dec (c ≡ k) → c < k
        go (yes q) = absurd (out (rw q at x))
        go (no q) = omega arith

    pub chains_passed : Chains key Entered (k + 1) heads earlier
    chains_passed = record {
      heads_low = λ b. omega (arith, was.heads_low b);
      heads_in = was.heads_in;
      heads-last = λ r h x. was.heads-last r (lower r h x) x;
      earlier_low = was.earlier_low;
      earlier_in = λ c d h x. was.earlier_in c d (lower c h x) x;
      earlier-last = λ c r h x. was.earlier-last c r (lower c h x) x;
    }

  -- Place k becomes the last of its bucket.
  module _ (b : ℕ) (here : key k ≡ b) (into : Entered k) (room : b < length heads) (room' : k < length earlier) where
    abbrev heads' : List ℕ
    heads' = set heads b (k + 1)

    abbrev earlier' : List ℕ
    earlier' = set earlier k (get_or heads b 0)

    head_now : get_or heads' b 0 ≡ k + 1
    head_now = get_or-set_same heads b (k + 1) 0 room

    next_now : get_or earlier' k 0 ≡ get_or heads b 0
    next_now = get_or-set_same earlier k (get_or heads b 0) 0 room'

    entered_low : (d : ℕ) → get_or heads' d 0 ≤ k + 1
    entered_low d = go (ℕ_discrete d b)
      where
        go : Dec (d ≡ b) → get_or heads' d 0 ≤ k + 1
        go (yes q) = rw q (omega (arith, head_now))
        go (no q) = rw (get_or-set_other heads b d (k + 1) 0 q) (omega (arith, was.heads_low d))

    entered_in : (d c : ℕ) → get_or heads' d 0 ≡ suc c → Entered c × (key c ≡ d)
    entered_in d c e = go (ℕ_discrete d b)
      where
        go : Dec (d ≡ b) → Entered c × (key c ≡ d)
        go (yes q) =
            let f : get_or heads' b 0 ≡ suc c = rw q at e in
            let g : c ≡ k = omega (arith, head_now) in
            (rw g into, rw g (here ∙ sym q))
        go (no q) = was.heads_in d c (sym (get_or-set_other heads b d (k + 1) 0 q) ∙ e)

    entered-last : (r : ℕ) → r < k + 1 → Entered r → r < get_or heads' (key r) 0
    entered-last r h x = go (ℕ_discrete (key r) b) (below_next h)
      where
        go : Dec (key r ≡ b) → (r < k) ⊎ (r ≡ k) → r < get_or heads' (key r) 0
        go (yes q) _ = rw (q, head_now) h
        go (no q) (inl lt) = rw (get_or-set_other heads b (key r) (k + 1) 0 q) (was.heads-last r lt x)
        go (no q) (inr e) = absurd (q (ap key e ∙ here))

    next_low : (c : ℕ) → get_or earlier' c 0 ≤ c
    next_low c = go (ℕ_discrete c k)
      where
        go : Dec (c ≡ k) → get_or earlier' c 0 ≤ c
        go (yes q) = rw (q, next_now) (was.heads_low b)
        go (no q) = rw (get_or-set_other earlier k c (get_or heads b 0) 0 q) (was.earlier_low c)

    next_of : (c d : ℕ) → c < k + 1 → Entered c → get_or earlier' c 0 ≡ suc d → Entered d × (key d ≡ key c)
    next_of c d h x e = go (ℕ_discrete c k)
      where
        go : Dec (c ≡ k) → Entered d × (key d ≡ key c)
        go (yes q) =
            let (y, z) = was.heads_in b d (sym next_now ∙ ap (λ i. get_or earlier' i 0) (sym q) ∙ e) in
            (y, z ∙ sym here ∙ ap key (sym q))
        go (no q) = was.earlier_in c d (omega arith) x (sym (get_or-set_other earlier k c (get_or heads b 0) 0 q) ∙ e)

    next_last : (c r : ℕ) → c < k + 1 → Entered c → r < c → Entered r → key r ≡ key c → r < get_or earlier' c 0
    next_last c r h x lt y e = go (ℕ_discrete c k)
      where
        go : Dec (c ≡ k) → r < get_or earlier' c 0
        go (yes q) =
            let f : key r ≡ b = e ∙ ap key q ∙ here in
            let low = was.heads-last r (omega arith) y in
            rw (q, next_now, ← f) low
        go (no q) = rw (get_or-set_other earlier k c (get_or heads b 0) 0 q) (was.earlier-last c r (omega arith) x lt y e)

    pub chains_entered : Chains key Entered (k + 1) (set heads b (k + 1)) (set earlier k (get_or heads b 0))
    chains_entered = record {
      heads_low = entered_low;
      heads_in = entered_in;
      heads-last = entered-last;
      earlier_low = next_low;
      earlier_in = next_of;
      earlier-last = next_last;
    }

-- ---- looking along a chain ----

module _ {key : ℕ → ℕ} {Entered Wanted : ℕ → Type 0} {k : ℕ} {heads earlier : List ℕ} {b : ℕ} where
  -- It starts at the bucket's head.
  pub sought_head : {at : ℕ} → Chains key Entered k heads earlier → ((i : ℕ) → i < k → Entered i → Wanted i → key i ≡ b) → at ≡ get_or heads b 0
      → Sought key Entered Wanted k heads earlier b at
  sought_head chains bucket e = record {
    chains = chains;
    bucket = bucket;
    low = rw e (chains.heads_low b);
    in_bucket = λ c f. chains.heads_in b c (sym e ∙ f);
    all = λ i lt x y. rw (e, ← bucket i lt x y) (chains.heads-last i lt x);
  }

  -- Place c is looked at.
  module _ {c : ℕ} (here : Sought key Entered Wanted k heads earlier b (suc c)) where
    pub sought_low : c < k
    sought_low = let h = here.low in omega arith

    pub sought_entered : Entered c
    sought_entered = (here.in_bucket c refl).0

    pub sought_less : get_or earlier c 0 < suc c
    sought_less = let h = here.chains.earlier_low c in omega arith

    -- It was not wanted: the one before it in its chain.
    module _ (other : Wanted c → ⊥) where
      before_in : (d : ℕ) → get_or earlier c 0 ≡ suc d → Entered d × (key d ≡ b)
      before_in d e =
          let (x, y) = here.in_bucket c refl in
          let (u, v) = here.chains.earlier_in c d sought_low x e in
          (u, v ∙ y)

      before-all : (i : ℕ) → i < k → Entered i → Wanted i → i < get_or earlier c 0
      before-all i lt x y = go (ℕ_discrete i c)
        where
          go : Dec (i ≡ c) → i < get_or earlier c 0
          go (yes q) = absurd (other (rw q at y))
          go (no q) =
              let (u, v) = here.in_bucket c refl in
              let h = here.all i lt x y in
              here.chains.earlier-last c i sought_low u (omega arith) x (here.bucket i lt x y ∙ sym v)

      pub sought_next : Sought key Entered Wanted k heads earlier b (get_or earlier c 0)
      sought_next = record {
        chains = here.chains;
        bucket = here.bucket;
        low = let h = sought_less in let l = here.low in omega arith;
        in_bucket = before_in;
        all = before-all;
      }

  -- Where it is not at the end, it is at a place, by a number that is one more.
  module _ {at : ℕ} (here : Sought key Entered Wanted k heads earlier b at) (more : at ≡ 0 → ⊥) where
    place : at ≡ suc (at - 1)
    place = omega arith

    pub sought_place : Sought key Entered Wanted k heads earlier b (suc (at - 1))
    sought_place = rw place at here

  -- At the end no place is wanted.
  pub sought_none : {at : ℕ} → Sought key Entered Wanted k heads earlier b at → at ≡ 0 → (i : ℕ) → i < k → Entered i → Wanted i → ⊥
  sought_none here e i lt x y = let h = here.all i lt x y in omega arith
