-- What an export tells of its call: 01's number with the out parameters, and what the call leaves.
use Rattle.std.specs.Prelude.{List, ℕ}
use Rattle.view_spec.specs.Node.{Field}
use Rattle.calls_spec.specs.Store.{Store}
use Rattle.calls_spec.specs.Step.{After}
use Rattle.outputs.specs.Outputs.{field_out, truth_out, flat_out, list_out}

-- A field of two numbers.
abbrev pub field_of : ℕ → ℕ → Field
field_of n l = record { node = n; len = l }

-- After a call that hands back a field: the stores with their counts.
unfoldable pub after_field : After → ℕ → ℕ → (ℕ × ℕ × ℕ) × Store
after_field x node len = (field_out x.answer node len, x.store)

-- After a call that compares fields.
unfoldable pub after_truth : After → ℕ → (ℕ × ℕ) × Store
after_truth x old = (truth_out x.answer old, x.store)

-- After flatten: the work buffer too.
unfoldable pub after_flat : After → ℕ → ℕ → ℕ → (ℕ × ℕ × ℕ × ℕ) × Store × List ℕ
after_flat x w start count = (flat_out x.answer w start count, x.store, x.work)

-- After a listing: the slots too.
unfoldable pub after_list : After → ℕ → ℕ → (ℕ × ℕ × ℕ) × Store × List ℕ
after_list x count entries = (list_out x.answer count entries, x.store, x.slots)
