-- The words of record i are those that its layout reads there.
use Rattle.std.proofs.Common.{◌≡◌, ℕ, ◌*◌, take, drop, ◌∙◌, arith, List, refl}
use Rattle.term_spec.specs.Words.{Layout, record_at}
use Rattle.words.proofs.get.Goals as goal

read_there : {A : Type 0} (L : Layout A) (w : List ℕ) (i : ℕ) {a b : ℕ} → a ≡ i * L.width → b ≡ L.width → L.read (take b (drop a w)) ≡ record_at L w i
unfolding record_at
read_there L w i p q = rw (p, q) refl

pub returns : goal.returns
returns g c =
    let wide = g.met.R.Record.wide in
    c.read.ensures ∙ read_there g.R.Record.layout c.args.words.now c.args.i (grind (arith, wide)) (grind (arith, wide))
