-- What a call tells of an answer: 01's number, and each out parameter after it, given the value that it had before.
use Rattle.std.proofs.Math.Option.{Option, some, none}
use Rattle.std.specs.Prelude.{Result, Bool, true, false, ℕ}
use Rattle.view_spec.specs.Node.{Field}
use Rattle.calls_spec.specs.Step.{Answer, refused, built, truth, in_store, in_work, listed, answer_number}
use Rattle.equality.specs.Compare.{Comparison, same, different, found, refused_runs}
use Rattle.view.specs.declared.Field.{Field as CodeField}
use Rattle.view.specs.Check.{as_field}
use Rattle.listing.specs.declared.Matched.{Matched}
use Rattle.listing.specs.Match.{brought}
use Rattle.outputs.specs.Numbers.{told_by}

-- ---- what a call answers, of any refusals, by the numbers that they are told by ----

abbrev pub answer_by : {E : Type 0} → (E → ℕ) → Result CodeField E → Answer
answer_by number a = told_by (λ f. built (as_field f)) refused number a

abbrev pub verdict_by : {E : Type 0} → (E → ℕ) → Result Bool E → Answer
verdict_by number v = told_by truth refused number v

abbrev pub matched_by : {E : Type 0} → (E → ℕ) → Result Matched E → Answer
matched_by number m = told_by brought refused number m

abbrev pub compared_by : {E : Type 0} → (E → ℕ) → Result Bool E → Comparison
compared_by number v = told_by found refused_runs number v

-- Yes as 1, no as 0.
unfoldable pub bit : Bool → ℕ
bit true = 1
bit false = 0

-- ---- out parameters: the answer's value, or the old one where it has none ----

-- The values that an answer has for out parameters: a field's node and length, yes or no, whether terms stand in the work buffer, where
-- they start, how many terms or candidates there are, and the entries of a candidate.
pub record Values : Type 0 where
  pub node : Option ℕ
  pub len : Option ℕ
  pub yes : Option ℕ
  pub in_work : Option ℕ
  pub start : Option ℕ
  pub count : Option ℕ
  pub entries : Option ℕ

abbrev no_values : Values
no_values = record { node = none; len = none; yes = none; in_work = none; start = none; count = none; entries = none }

abbrev field_values : Field → Values
field_values f = record { node = some f.node; len = some f.len; yes = none; in_work = none; start = none; count = none; entries = none }

abbrev truth_values : Bool → Values
truth_values b = record { node = none; len = none; yes = some (bit b); in_work = none; start = none; count = none; entries = none }

abbrev part_values : ℕ → ℕ → ℕ → Values
part_values w i n = record { node = none; len = none; yes = none; in_work = some w; start = some i; count = some n; entries = none }

abbrev list_values : ℕ → ℕ → Values
list_values c k = record { node = none; len = none; yes = none; in_work = none; start = none; count = some c; entries = some k }

-- By answer: the one place where answers are taken apart for this.
unfoldable pub values_of : Answer → Values
values_of (refused n) = no_values
values_of (built f) = field_values f
values_of (truth b) = truth_values b
values_of (in_store r) = part_values 0 r.start r.len
values_of (in_work n) = part_values 1 0 n
values_of (listed n c k) = list_values c k

-- An out parameter after the call.
unfoldable pub or_old : Option ℕ → ℕ → ℕ
or_old none old = old
or_old (some n) old = n

-- Each by name.
abbrev pub node_after : Answer → ℕ → ℕ
node_after a old = or_old (values_of a).node old

abbrev pub len_after : Answer → ℕ → ℕ
len_after a old = or_old (values_of a).len old

abbrev pub yes_after : Answer → ℕ → ℕ
yes_after a old = or_old (values_of a).yes old

abbrev pub in_work_after : Answer → ℕ → ℕ
in_work_after a old = or_old (values_of a).in_work old

abbrev pub start_after : Answer → ℕ → ℕ
start_after a old = or_old (values_of a).start old

abbrev pub count_after : Answer → ℕ → ℕ
count_after a old = or_old (values_of a).count old

abbrev pub entries_after : Answer → ℕ → ℕ
entries_after a old = or_old (values_of a).entries old

-- ---- the number with its out parameters ----

-- Of a call that hands back a field.
unfoldable pub field_out : Answer → ℕ → ℕ → ℕ × ℕ × ℕ
field_out a node len = (answer_number a, node_after a node, len_after a len)

-- Of a call that compares fields.
unfoldable pub truth_out : Answer → ℕ → ℕ × ℕ
truth_out a old = (answer_number a, yes_after a old)

-- Of flatten.
unfoldable pub flat_out : Answer → ℕ → ℕ → ℕ → ℕ × ℕ × ℕ × ℕ
flat_out a w start count = (answer_number a, in_work_after a w, start_after a start, count_after a count)

-- Of a listing.
unfoldable pub list_out : Answer → ℕ → ℕ → ℕ × ℕ × ℕ
list_out a count entries = (answer_number a, count_after a count, entries_after a entries)

-- Of a comparison of runs.
unfoldable pub compared_out : Comparison → ℕ → ℕ × ℕ
compared_out same old = (0, 1)
compared_out different old = (0, 0)
compared_out (refused_runs n) old = (n, old)
