-- What a token is of the text that was left before it.
use Rattle.std.specs.Prelude.{List, ℕ, ◌≡◌, ◌<◌, ◌≤◌, ◌-◌, length, take, drop}

-- A token stands in what was left and is not empty, and what is left after it begins where it ends.
pub record TokenOf (left token after : List ℕ) : Type 0 where
  pub start : ℕ
  pub end : ℕ
  pub some : start < end
  pub fits : end ≤ length left
  pub token_is : token ≡ take (end - start) (drop start left)
  pub after_is : after ≡ drop end left
