-- From the walk's events to an answer: a fold that writes candidates into slots and stops (01: 10, 11, 15, the count; first match).
-- A limit on tries (02: 2.5) is one more status and one more number here; the walk stays.
use Rattle.std.specs.Prelude.{List, [], ◌∷◌, ◌++◌, length, ℕ, suc, zero, ◌/◌, ◌*◌}
use Rattle.std.proofs.Math.Decide.{dec_lt}
use Rattle.term_spec.specs.Refusal.{no_match, calls_are_not_patterns, more_than_fit}
use Rattle.match_spec.specs.Walk.{Event, hit, tried, reached}

-- going: more events are taken in. done: first match has its head. full: a candidate came after the slots were filled. called: a Call or
-- Block was reached.
pub data Status : Type 0 where
  going done full called : Status

-- The candidates written so far, and how it stands.
pub record Progress (E : Type 0) : Type 0 where
  pub written : List E
  pub status : Status

-- Nothing written, and going.
abbrev pub started : {E : Type 0} → Progress E
started = record { written = []; status = going }

-- What is wanted: the list, or its head alone (`match_pattern_first`).
pub data Wanted : Type 0 where
  allOfThem headOnly : Wanted

-- How it stands after a candidate was written.
unfoldable pub after_one : Wanted → Status
after_one allOfThem = going
after_one headOnly = done

-- A candidate goes into the next slot if there is one.
unfoldable pub write_hit : {E P : Type 0} → Wanted → Dec P → List E → E → Progress E
write_hit q (yes h) w B = record { written = w ++ (B ∷ []); status = after_one q }
write_hit q (no h) w B = record { written = w; status = full }

-- One event taken in; after done, full or called nothing is.
unfoldable pub absorb_one : {E : Type 0} → Wanted → ℕ → Event E → List E → Status → Progress E
absorb_one q slots (hit B) w going = write_hit q (dec_lt (length w) slots) w B
absorb_one q slots tried w going = record { written = w; status = going }
absorb_one q slots reached w going = record { written = w; status = called }
absorb_one q slots e w done = record { written = w; status = done }
absorb_one q slots e w full = record { written = w; status = full }
absorb_one q slots e w called = record { written = w; status = called }

-- The events taken in one by one.
unfoldable pub absorb : {E : Type 0} → Wanted → ℕ → List (Event E) → Progress E → Progress E
absorb q slots [] o = o
absorb q slots (e ∷ l) o = absorb q slots l (absorb_one q slots e o.written o.status)

-- "The lent slice has as many slots as fit whole"; "With no names there is one slot, of no words."
unfoldable pub spec_slots_in : ℕ → ℕ → ℕ
spec_slots_in words zero = 1
spec_slots_in words (suc n) = words / (2 * suc n)

-- 01's number of the answer: 10 if the list is empty, 11 if a call was reached, 15 if a further candidate exists, else 0.
unfoldable pub number_of : {E : Type 0} → Status → List E → ℕ
number_of going [] = no_match
number_of going (x ∷ l) = 0
number_of done l = 0
number_of full l = more_than_fit
number_of called l = calls_are_not_patterns
