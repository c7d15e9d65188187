-- One more byte of a decimal number, read or refused, and the end of it.
use Rattle.std.specs.Prelude.{List, [], ◌∷◌, ◌≡◌, None, Some, Bool, true, false, ◌&&◌, length, get_or, drop, ℕ, ◌+◌, ◌*◌, ◌-◌, ◌<◌, ◌≤◌}
use Rattle.std.specs.Char.{is_ascii_digit}
use Rattle.std.proofs.Common.{refl}
use Rattle.std.proofs.lemmas.Bool.{le-leb, lt-leb}
use Rattle.std.proofs.lemmas.List.{drop_more, drop_all}
use Rattle.lines.specs.Decimal.{largest, with_digit, kept, digits_after}

none_after : (l : List ℕ) → digits_after None l ≡ None
unfolding digits_after
none_after [] = refl
none_after (b ∷ l) = refl

never_kept : (b : Bool) (n : ℕ) → kept (b && false) n ≡ None
unfolding kept
never_kept true n = refl
never_kept false n = refl

module _ (l : List ℕ) (i n : ℕ) where
  next_byte : i < length l → digits_after (Some n) (drop i l) ≡ digits_after (with_digit n (get_or l i 0)) (drop (i + 1) l)
  unfolding digits_after
  next_byte lt = rw (drop_more l i 0 lt) refl

  pub digit_read : i < length l → is_ascii_digit (get_or l i 0) ≡ true → n ≤ largest
      → digits_after (Some n) (drop i l) ≡ digits_after (Some (n * 10 + (get_or l i 0 - 48))) (drop (i + 1) l)
  unfolding with_digit kept
  digit_read lt digit small = rw (next_byte lt, digit, le-leb n largest small) refl

  pub no_digit : i < length l → is_ascii_digit (get_or l i 0) ≡ false → digits_after (Some n) (drop i l) ≡ None
  unfolding with_digit kept
  no_digit lt other = rw (next_byte lt, other) (none_after (drop (i + 1) l))

  pub too_large : i < length l → largest < n → digits_after (Some n) (drop i l) ≡ None
  unfolding with_digit kept
  too_large lt large =
      let never = never_kept (is_ascii_digit (get_or l i 0)) (n * 10 + (get_or l i 0 - 48))
      in rw (next_byte lt, lt-leb n largest large, never) (none_after (drop (i + 1) l))

  pub all_read : length l ≤ i → digits_after (Some n) (drop i l) ≡ Some n
  unfolding digits_after
  all_read end = rw (drop_all i l end) refl
