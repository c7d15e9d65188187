-- What is written of a walk's candidates, and the number answered.
use Rattle.std.proofs.Math.Path.{◌≡◌, refl, ap}
use Rattle.std.proofs.Common.{sym, ◌∙◌, inl, inr, length-append, take_all, take_at, arith}
use mathlib.Core.List.{List, [], ◌∷◌, ◌++◌, map, append-nil, nil≢cons, cons≢nil}
use Rattle.std.specs.Prelude.{◌⊎◌, ◌↔◌, length, take, ℕ, suc, zero, ◌+◌, ◌≤◌, ◌<◌}
use Rattle.std.proofs.lemmas.List.{length-map}
use Rattle.std.proofs.Math.Seq.{append_snoc}
use Rattle.std.proofs.Math.Decide.{dec_lt, dec_le}
use Rattle.term_spec.proofs.ListLaws.{All}
use Rattle.match_spec.specs.Element.{Element, lit, opening, closing, call, one, many, Level, Levels, Env, on_top, wrap, push, put, entry, canon_e}
use Rattle.match_spec.specs.Pattern.{Name, add, number}
use Rattle.match_spec.specs.Listing.{first, leave, cuts, finish, candidates}
use Rattle.match_spec.specs.Walk.{Event, hit, tried, reached, Reading, walk, hits}
use Rattle.match_spec.specs.Answer.{going, done, full, called, Progress, started, Wanted, allOfThem}
use Rattle.match_spec.specs.Answer.{headOnly, after_one, write_hit, absorb_one, absorb, number_of}
use Rattle.match_spec.proofs.SoundLaws.{Numbered, sound}
use Rattle.match_spec.proofs.WalkLaws.{empty, walk-lists, Reads}
use Rattle.match_spec.proofs.KeepLaws.{HasCall, walk_has}

-- ---- taking events in ----

module _ {E : Type 0} (q : Wanted) (slots : ℕ) where
  -- Events are taken in one after another: a loop may do so part by part.
  pub absorb-append : (a b : List (Event E)) (o : Progress E) → absorb q slots (a ++ b) o ≡ absorb q slots b (absorb q slots a o)
  unfolding absorb
  absorb-append [] b o = refl
  absorb-append (e ∷ a) b o = absorb-append a b (absorb_one q slots e o.written o.status)

  -- Once done, full or called, nothing changes: a loop may stop there.
  pub absorb_done : (l : List (Event E)) (w : List E) → absorb q slots l (record { written = w; status = done }) ≡ record { written = w; status = done }
  unfolding absorb absorb_one
  absorb_done [] w = refl
  absorb_done (hit B ∷ l) w = absorb_done l w
  absorb_done (tried ∷ l) w = absorb_done l w
  absorb_done (reached ∷ l) w = absorb_done l w

  pub absorb-full : (l : List (Event E)) (w : List E) → absorb q slots l (record { written = w; status = full }) ≡ record { written = w; status = full }
  unfolding absorb absorb_one
  absorb-full [] w = refl
  absorb-full (hit B ∷ l) w = absorb-full l w
  absorb-full (tried ∷ l) w = absorb-full l w
  absorb-full (reached ∷ l) w = absorb-full l w

  pub absorb_called : (l : List (Event E)) (w : List E) → absorb q slots l (record { written = w; status = called }) ≡ record { written = w; status = called }
  unfolding absorb absorb_one
  absorb_called [] w = refl
  absorb_called (hit B ∷ l) w = absorb_called l w
  absorb_called (tried ∷ l) w = absorb_called l w
  absorb_called (reached ∷ l) w = absorb_called l w

  pub write-room : (w : List E) (B : E) → length w < slots
      → write_hit q (dec_lt (length w) slots) w B ≡ record { written = w ++ (B ∷ []); status = after_one q }
  unfolding write_hit
  write-room w B h = go (dec_lt (length w) slots)
    where
      go : (d : Dec (length w < slots)) → ◌≡◌ {A = Progress E} (write_hit q d w B) (record { written = w ++ (B ∷ []); status = after_one q })
      go (yes k) = refl
      go (no k) = absurd (k h)

  pub write-full : (w : List E) (B : E) → slots ≤ length w → write_hit q (dec_lt (length w) slots) w B ≡ record { written = w; status = full }
  unfolding write_hit
  write-full w B h = go (dec_lt (length w) slots)
    where
      go : (d : Dec (length w < slots)) → ◌≡◌ {A = Progress E} (write_hit q d w B) (record { written = w; status = full })
      go (yes k) = absurd (omega arith)
      go (no k) = refl

-- Events with a Call or Block reached, and events without.
unfoldable pub Reached : {E : Type 0} → List (Event E) → Type 0
Reached [] = ⊥
Reached (hit B ∷ l) = Reached l
Reached (tried ∷ l) = Reached l
Reached (reached ∷ l) = Unit {0}

unfoldable pub Quiet : {E : Type 0} → List (Event E) → Type 0
Quiet [] = Unit {0}
Quiet (hit B ∷ l) = Quiet l
Quiet (tried ∷ l) = Quiet l
Quiet (reached ∷ l) = ⊥

pub quiet_or_reached : {E : Type 0} (l : List (Event E)) → Quiet l ⊎ Reached l
unfolding Quiet Reached
quiet_or_reached [] = inl tt
quiet_or_reached (hit B ∷ l) = quiet_or_reached l
quiet_or_reached (tried ∷ l) = quiet_or_reached l
quiet_or_reached (reached ∷ l) = inr tt

pub quiet_unreached : {E : Type 0} (l : List (Event E)) → Quiet l → Reached l → ⊥
unfolding Quiet Reached
quiet_unreached [] h k = k
quiet_unreached (hit B ∷ l) h k = quiet_unreached l h k
quiet_unreached (tried ∷ l) h k = quiet_unreached l h k
quiet_unreached (reached ∷ l) h k = h

-- ---- all of them ----

pub absorb-fits : {E : Type 0} (slots : ℕ) (l : List (Event E)) (w : List E) → Quiet l → length w + length (hits l) ≤ slots
    → absorb allOfThem slots l (record { written = w; status = going }) ≡ record { written = w ++ hits l; status = going }
unfolding absorb absorb_one after_one Quiet hits
absorb-fits slots [] w q h = ap (λ z. record { written = z; status = going }) (sym (append-nil w))
absorb-fits slots (hit B ∷ l) w q h =
    ap (absorb allOfThem slots l) (write-room allOfThem slots w B (omega arith)) ∙ absorb-fits slots l (w ++ (B ∷ [])) q (simp length-append (omega arith))
    ∙ ap (λ z. record { written = z; status = going }) (append_snoc w B (hits l))
absorb-fits slots (tried ∷ l) w q h = absorb-fits slots l w q h
absorb-fits slots (reached ∷ l) w q h = absurd q

pub absorb_over : {E : Type 0} (slots : ℕ) (l : List (Event E)) (w : List E) → Quiet l → length w ≤ slots → slots < length w + length (hits l)
    → absorb allOfThem slots l (record { written = w; status = going }) ≡ record { written = take slots (w ++ hits l); status = full }
unfolding absorb absorb_one after_one Quiet hits
absorb_over slots [] w q h k = absurd (omega arith)
absorb_over {E} slots (hit B ∷ l) w q h k = go (dec_lt (length w) slots) (absorb_over slots l (w ++ (B ∷ [])) q)
  where
    go : Dec (length w < slots) → (length (w ++ (B ∷ [])) ≤ slots → slots < length (w ++ (B ∷ [])) + length (hits l)
        → absorb allOfThem slots l (record { written = w ++ (B ∷ []); status = going })
        ≡ record { written = take slots ((w ++ (B ∷ [])) ++ hits l); status = full })
        → absorb allOfThem slots l (write_hit allOfThem (dec_lt (length w) slots) w B) ≡ record { written = take slots (w ++ (B ∷ hits l)); status = full }
    go (yes i) ih = ap (absorb allOfThem slots l) (write-room allOfThem slots w B i) ∙ ih (simp length-append (omega arith)) (simp length-append (omega arith))
        ∙ ap (λ y. record { written = take slots y; status = full }) (append_snoc w B (hits l))
    go (no i) ih = ap (absorb allOfThem slots l) (write-full allOfThem slots w B (omega arith)) ∙ absorb-full allOfThem slots l w
        ∙ ap (λ y. record { written = y; status = full }) (sym (take_at w (B ∷ hits l) slots (omega arith)))
absorb_over slots (tried ∷ l) w q h k = absorb_over slots l w q h k
absorb_over slots (reached ∷ l) w q h k = absurd q

pub written_all : {E : Type 0} (n : ℕ) (l : List (Event E)) → Quiet l → (absorb allOfThem n l started).written ≡ take n (hits l)
written_all n l q = go (dec_le (length (hits l)) n)
  where
    go : Dec (length (hits l) ≤ n) → (absorb allOfThem n l started).written ≡ take n (hits l)
    go (yes h) = ap (λ o. o.written) (absorb-fits n l [] q (omega arith)) ∙ sym (take_all n (hits l) h)
    go (no h) = ap (λ o. o.written) (absorb_over n l [] q (omega arith) (omega arith))

-- The number due for so many candidates and slots: 10 if there is none, 0 if all fit, else 15.
unfoldable pub fitting : {P : Type 0} → Dec P → ℕ
fitting (yes h) = 0
fitting (no h) = 15

unfoldable pub due : ℕ → ℕ → ℕ
due zero slots = 10
due (suc n) slots = fitting (dec_le (suc n) slots)

pub due-fits : (n slots : ℕ) → suc n ≤ slots → due (suc n) slots ≡ 0
unfolding due fitting
due-fits n slots h = go (dec_le (suc n) slots)
  where
    go : (d : Dec (suc n ≤ slots)) → fitting d ≡ 0
    go (yes y) = refl
    go (no y) = absurd (y h)

pub due_over : (n slots : ℕ) → slots < n → due n slots ≡ 15
unfolding due fitting
due_over zero slots h = absurd (omega arith)
due_over (suc n) slots h = go (dec_le (suc n) slots)
  where
    go : (d : Dec (suc n ≤ slots)) → fitting d ≡ 15
    go (yes y) = absurd (omega arith)
    go (no y) = refl

-- The number answered for a list of events.
abbrev pub answered : {E : Type 0} → Wanted → ℕ → List (Event E) → ℕ
answered q n l = number_of (absorb q n l started).status (absorb q n l started).written

number_going : {E : Type 0} (l : List E) (n : ℕ) → length l ≤ n → number_of going l ≡ due (length l) n
unfolding number_of due
number_going [] n h = refl
number_going (x ∷ l) n h = sym (due-fits (length l) n h)

number-full : {E : Type 0} (l : List E) (m n : ℕ) → n < m → number_of full l ≡ due m n
unfolding number_of
number-full l m n h = sym (due_over m n h)

pub number-due : {E : Type 0} (n : ℕ) (l : List (Event E)) → Quiet l → answered allOfThem n l ≡ due (length (hits l)) n
number-due n l q = go (dec_le (length (hits l)) n)
  where
    go : Dec (length (hits l) ≤ n) → answered allOfThem n l ≡ due (length (hits l)) n
    go (yes h) = ap (λ o. number_of o.status o.written) (absorb-fits n l [] q (omega arith)) ∙ number_going (hits l) n h
    go (no h) =
        ap (λ o. number_of o.status o.written) (absorb_over n l [] q (omega arith) (omega arith))
        ∙ number-full (take n (hits l)) (length (hits l)) n (omega arith)

-- ---- the head alone ----

-- With a slot the first candidate ends the taking in.
head_progress : {E : Type 0} (n : ℕ) (B : E) (l : List (Event E)) → absorb headOnly (suc n) (hit B ∷ l) started ≡ record { written = B ∷ []; status = done }
unfolding absorb absorb_one after_one
head_progress n B l = ap (absorb headOnly (suc n) l) (write-room headOnly (suc n) [] B (omega arith)) ∙ absorb_done headOnly (suc n) l (B ∷ [])

-- With none it finds no room.
head_no_room : {E : Type 0} (q : Wanted) (B : E) (l : List (Event E)) → absorb q zero (hit B ∷ l) started ≡ record { written = []; status = full }
unfolding absorb absorb_one
head_no_room q B l = ap (absorb q zero l) (write-full q zero [] B (omega arith)) ∙ absorb-full q zero l []

pub head_only : {E : Type 0} (n : ℕ) (l : List (Event E)) → Quiet l → (absorb headOnly (suc n) l started).written ≡ take 1 (hits l)
unfolding Quiet hits absorb absorb_one
head_only n [] q = refl
head_only n (hit B ∷ l) q = ap (λ o. o.written) (head_progress n B l)
head_only n (tried ∷ l) q = head_only n l q
head_only n (reached ∷ l) q = absurd q

pub no_room : {E : Type 0} (q : Wanted) (l : List (Event E)) → (absorb q zero l started).written ≡ []
unfolding absorb absorb_one
no_room q [] = refl
no_room q (hit B ∷ l) = ap (λ o. o.written) (head_no_room q B l)
no_room q (tried ∷ l) = no_room q l
no_room q (reached ∷ l) = ap (λ o. o.written) (absorb_called q zero l [])

-- As for a list of the head alone.
pub number_head : {E : Type 0} (n : ℕ) (l : List (Event E)) → Quiet l → answered headOnly n l ≡ due (length (take 1 (hits l))) n
unfolding Quiet hits absorb absorb_one number_of due
number_head n [] q = refl
number_head zero (hit B ∷ l) q = ap (λ o. number_of o.status o.written) (head_no_room headOnly B l) ∙ sym (due_over 1 zero (omega arith))
number_head (suc n) (hit B ∷ l) q = ap (λ o. number_of o.status o.written) (head_progress n B l) ∙ sym (due-fits zero (suc n) (omega arith))
number_head n (tried ∷ l) q = number_head n l q
number_head n (reached ∷ l) q = absurd q

-- ---- where there is no candidate ----

module _ {E : Type 0} (q : Wanted) (n : ℕ) where
  quiet_none : (l : List (Event E)) → hits l ≡ [] → Quiet l → absorb q n l started ≡ started
  unfolding hits absorb absorb_one Quiet
  quiet_none [] e h = refl
  quiet_none (hit B ∷ l) e h = absurd (cons≢nil e)
  quiet_none (tried ∷ l) e h = quiet_none l e h
  quiet_none (reached ∷ l) e h = absurd h

  reached_none : (l : List (Event E)) → hits l ≡ [] → Reached l → absorb q n l started ≡ record { written = []; status = called }
  unfolding hits absorb absorb_one Reached
  reached_none [] e h = absurd h
  reached_none (hit B ∷ l) e h = absurd (cons≢nil e)
  reached_none (tried ∷ l) e h = reached_none l e h
  reached_none (reached ∷ l) e h = absorb_called q n l []

  pub written_none : (l : List (Event E)) → hits l ≡ [] → (absorb q n l started).written ≡ []
  written_none l e = go (quiet_or_reached l)
    where
      go : Quiet l ⊎ Reached l → (absorb q n l started).written ≡ []
      go (inl h) = ap (λ o. o.written) (quiet_none l e h)
      go (inr h) = ap (λ o. o.written) (reached_none l e h)

  pub number_none : (l : List (Event E)) → hits l ≡ [] → Quiet l → answered q n l ≡ 10
  unfolding number_of
  number_none l e h = ap (λ o. number_of o.status o.written) (quiet_none l e h)

  pub number-reached : (l : List (Event E)) → hits l ≡ [] → Reached l → answered q n l ≡ 11
  unfolding number_of
  number-reached l e h = ap (λ o. number_of o.status o.written) (reached_none l e h)

  -- 10 or 11, and 11 exactly if a Call or Block was reached.
  pub called_number : (l : List (Event E)) → hits l ≡ [] → ((answered q n l ≡ 10) ⊎ (answered q n l ≡ 11)) × ((answered q n l ≡ 11) ↔ Reached l)
  called_number l e = go (quiet_or_reached l)
    where
      go : Quiet l ⊎ Reached l → ((answered q n l ≡ 10) ⊎ (answered q n l ≡ 11)) × ((answered q n l ≡ 11) ↔ Reached l)
      go (inl h) = let z = number_none l e h in (inl z, (λ k. absurd (omega arith), λ r. absurd (quiet_unreached l h r)))
      go (inr h) = let z = number-reached l e h in (inr z, (λ k. h, λ r. z))

-- ---- patterns with and without a Call or Block ----

abbrev pub Calm : {N : Type 0} → List (Element N) → Type 0
Calm p = HasCall p → ⊥

pub calm_or_call : {N : Type 0} (p : List (Element N)) → Calm p ⊎ HasCall p
unfolding HasCall
calm_or_call [] = inl (λ h. h)
calm_or_call (lit v ∷ p) = calm_or_call p
calm_or_call (opening ∷ p) = calm_or_call p
calm_or_call (closing ∷ p) = calm_or_call p
calm_or_call (call ∷ p) = inr tt
calm_or_call (one k n ∷ p) = calm_or_call p
calm_or_call (many n ∷ p) = calm_or_call p

-- Numbering and canonical forms leave the calls where they are.
pub calls_same : (p : List (Element Name)) (t : List Name) → HasCall (number (map canon_e p) t) ↔ HasCall p
unfolding HasCall number canon_e
calls_same [] t = (λ h. h, λ h. h)
calls_same (lit v ∷ p) t = calls_same p t
calls_same (opening ∷ p) t = calls_same p t
calls_same (closing ∷ p) t = calls_same p t
calls_same (call ∷ p) t = (λ h. h, λ h. h)
calls_same (one k x ∷ p) t = calls_same p (add x t)
calls_same (many x ∷ p) t = calls_same p (add x t)

pub calm-same : (p : List (Element Name)) (t : List Name) → Calm p → Calm (number (map canon_e p) t)
calm-same p t c h = c ((calls_same p t).0 h)

every_one : {R : Type 0} (l : List R) → All (λ r. Unit {0}) l
unfolding All
every_one [] = tt
every_one (r ∷ l) = (tt, every_one l)

pub quiet_walk : {R : Type 0} (rd : Reading R) (p : List (Element ℕ)) (ls env : List R) → Calm p → Quiet (walk rd p ls env)
unfolding Quiet
quiet_walk {R} rd p ls env calm = walk_has rd (λ r. Unit {0}) Quiet
    (record { front_kept = λ k r le h. h; back_kept = λ k r le h. h; inner_kept = λ r l c e h. h })
    (record { empty_has = tt; candidate_has = λ v h. tt; split_has = λ l h. h; append_has = both }) p ls env calm (every_one ls) (every_one env)
  where
    both : (a b : List (Event (List R))) → Quiet a → Quiet b → Quiet (a ++ b)
    both [] b h k = k
    both (hit B ∷ a) b h k = both a b h k
    both (tried ∷ a) b h k = both a b h k
    both (reached ∷ a) b h k = absurd h

put_call : {N : Type 0} (p : List (Element N)) (B : N → Level) → HasCall p → put p B ≡ []
unfolding HasCall put on_top wrap push
put_call [] B h = absurd h
put_call (lit v ∷ p) B h = rw (put_call p B h) refl
put_call (opening ∷ p) B h = rw (put_call p B h) refl
put_call (closing ∷ p) B h = rw (put_call p B h) refl
put_call (call ∷ p) B h = refl
put_call (one k n ∷ p) B h = rw (put_call p B h) refl
put_call (many n ∷ p) B h = rw (put_call p B h) refl

no_levels : (p : List (Element ℕ)) (env : Env) → candidates p [] env ≡ []
unfolding candidates first leave cuts finish
no_levels [] env = refl
no_levels (lit v ∷ p) env = refl
no_levels (opening ∷ p) env = refl
no_levels (closing ∷ p) env = refl
no_levels (call ∷ p) env = refl
no_levels (one k n ∷ p) env = refl
no_levels (many n ∷ p) env = refl

none_listed : (p : List (Element ℕ)) (ls : Levels) (env : Env) → HasCall p → Numbered p (length env) → candidates p ls env ≡ []
none_listed p [] env h counted = no_levels p env
none_listed p (c ∷ st) env h counted = empty _ (λ B m. nil≢cons (sym (put_call p (entry B) h) ∙ (sound p (c ∷ st) env counted m).gives))

map_empty : {A B : Type 0} (f : A → B) (l : List A) → map f l ≡ [] → l ≡ []
map_empty f [] e = refl
map_empty f (x ∷ l) e = absurd (cons≢nil e)

-- A pattern with a Call or Block has no candidate.
pub no_candidate : {R : Type 0} (rd : Reading R) → Reads rd → (p : List (Element ℕ)) (ls env : List R) → Numbered p (length env) → HasCall p
    → hits (walk rd p ls env) ≡ []
no_candidate rd ok p ls env counted h =
    map_empty _ (hits (walk rd p ls env)) (walk-lists rd ok p ls env counted ∙ none_listed p (map rd.cells ls) (map rd.cells env) h (rw length-map counted))
