-- That the chart of lowered bytes is the rule of lowering: one test over the whole list, and a law for each entry.
use Rattle.std.specs.Prelude.{◌≡◌, refl, map, get_or, ℕ, ◌<◌}
use Rattle.std.proofs.Common.{ap, sym, ◌∙◌, zero-add}
use Rattle.term_spec.specs.Text.{lower}
use Rattle.term_spec.specs.ListLaws.{numbers_from}
use Rattle.term_spec.proofs.ListLaws.{map_numbers}
use Rattle.text.specs.LowerTable.{byte_count, lowered_bytes}

-- The test, computed: the rule gives this list for the 256 bytes.
bytes_lowered : map lower (numbers_from 0 byte_count) ≡ lowered_bytes
unfolding lower lowered_bytes
bytes_lowered = refl

-- "Each entry is its byte, an ASCII capital lowered" (02: 2.4).
pub entry_lowered : (c : ℕ) → c < byte_count → get_or lowered_bytes c 0 ≡ lower c
entry_lowered c h = ap (λ l. get_or l c 0) (sym bytes_lowered) ∙ map_numbers lower 0 byte_count c h ∙ ap lower (zero-add c)
