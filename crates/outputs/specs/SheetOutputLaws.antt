-- A sheet that was read has counts within the limits, and what reading it leaves is told.
use Rattle.std.specs.Prelude.{◌≡◌, refl, List, Bool, ◌&&◌, T, length}
use Rattle.std.proofs.Math.Path.{ap}
use Rattle.std.proofs.Common.{sym, ◌∙◌}
use Rattle.std.proofs.Math.Option.{Option, some, none}
use Rattle.std.proofs.Math.Bool.{true, false}
use Rattle.std.proofs.Math.Dec.{leb}
use Prim.Native.Nat.{ℕ}
use Rattle.term_spec.proofs.BoolLaws.{both_of, true-T}
use Rattle.sheet_spec.specs.Sheet.{Sheet, Counts, spec_names_start, counts_at, head_rule, body_rule, spec_read_sheet}
use Rattle.sheet_spec.proofs.SheetLaws.{read_none}
use Rattle.sheet_spec.specs.Job.{SheetAnswer, refused_sheet, wrote, counted, AfterSheet, unread, read_into}
use Rattle.sheet_form.specs.Form.{in_limits}
use Rattle.sheet_read.specs.Read.{leaves_sheet, read_by}
use Rattle.sheet_read.specs.SheetLaws.{head_limits}
use Rattle.outputs.specs.SheetOutputs.{ReadOuts, read_outs, counts_out, after_read}

-- The counts in an answer are within the limits.
limits_in : SheetAnswer → Bool
limits_in (refused_sheet n) = true
limits_in (wrote n) = true
limits_in (counted c) = in_limits c

-- ---- within the limits ----

module _ (c : Counts) (t p r : List ℕ) where
  none_limited : T (limits_in (read_into none c t p r).answer)
  unfolding read_into unread limits_in
  none_limited = tt

  by_limited : (s : Sheet) (x : Bool) → T (in_limits c) → T (limits_in (read_by c s t p r x).answer)
  unfolding unread limits_in
  by_limited s true h = h
  by_limited s false h = tt

  some_limited : (o : Option Sheet) → T (in_limits c) → T (limits_in (read_into o c t p r).answer)
  unfolding read_into
  some_limited none h = none_limited
  some_limited (some s) h = by_limited s (leb (length s.terms) (length t) && leb (length s.pattern) (length p) && leb (length s.runs) (length r)) h

read_limited : (text t p r : List ℕ) → T (limits_in (read_into (spec_read_sheet text) (counts_at text) t p r).answer)
read_limited text t p r = go (head_rule text (counts_at text) && body_rule text (counts_at text)) refl
  where
    go : (x : Bool) → head_rule text (counts_at text) && body_rule text (counts_at text) ≡ x → T (limits_in (read_into (spec_read_sheet text) (counts_at text) t p r).answer)
    go true h =
        let (d, _) = both_of (head_rule text (counts_at text)) (body_rule text (counts_at text)) (true-T _ h) in
        some_limited (counts_at text) t p r (spec_read_sheet text) (head_limits text (counts_at text) d)
    go false h = rw (read_none text h) (none_limited (counts_at text) t p r)

-- ---- the exits ----

pub counts_told :
    (c : Counts) (old : ReadOuts) {s : ℕ} → s ≡ spec_names_start c → ◌≡◌ {A = ℕ × ReadOuts} (0, read_outs c.terms s c.names c.pattern c.runs) (counts_out (counted c) old)
unfolding counts_out
counts_told c old e = ap (λ (x : ℕ). (0, read_outs c.terms x c.names c.pattern c.runs)) e

module _ (text : List ℕ) (a : SheetAnswer) (t p r t₀ p₀ r₀ : List ℕ) (left : leaves_sheet a t p r ≡ read_into (spec_read_sheet text) (counts_at text) t₀ p₀ r₀) where
  pub counted_limited : (c : Counts) → a ≡ counted c → T (in_limits c)
  unfolding leaves_sheet limits_in
  counted_limited c e =
      let z : in_limits c ≡ limits_in (read_into (spec_read_sheet text) (counts_at text) t₀ p₀ r₀).answer = ap limits_in (sym e) ∙ ap (λ (x : AfterSheet). limits_in x.answer) left in
      rw z (read_limited text t₀ p₀ r₀)

  pub read_out : {v : ℕ × ReadOuts} (b : SheetAnswer) (old : ReadOuts) → a ≡ b → v ≡ counts_out b old
      → ◌≡◌ {A = (ℕ × ReadOuts) × List ℕ × List ℕ × List ℕ} (v, t, p, r) (after_read (read_into (spec_read_sheet text) (counts_at text) t₀ p₀ r₀) old)
  unfolding leaves_sheet after_read
  read_out b old e f =
      ap (λ (x : ℕ × ReadOuts). (x, t, p, r)) (f ∙ ap (λ x. counts_out x old) (sym e)) ∙ ap (λ (z : AfterSheet). after_read z old) left
