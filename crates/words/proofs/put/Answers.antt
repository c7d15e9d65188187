-- The record's words in the place of record i, and all others as they were.
use Rattle.std.proofs.Common.{◌≡◌, ℕ, ◌+◌, ◌*◌, take, drop, ap, ◌∙◌, arith, List, [], ◌∷◌, sym, append-nil, append_assoc, add-one, suc-mul}
use Rattle.std.proofs.lemmas.List.{drop-drop}
use borrow.Rule.Slice.PartMut.{put_mid}
use Rattle.term_spec.specs.Words.{Layout, encode, write}
use Rattle.words.proofs.put.Goals as goal

written_there : {A : Type 0} (L : Layout A) (w ys : List ℕ) (i : ℕ) {a b : ℕ} (r : A) → a ≡ i * L.width → b ≡ L.width → ys ≡ L.words r
    → put_mid a b w ys ≡ write L w i (r ∷ [])
unfolding write encode
written_there L w ys i r p q e =
    let next : (i + 1) * L.width ≡ i * L.width + L.width = ap (◌* L.width) (add-one i) ∙ suc-mul i L.width in
    rw (p, q, e, next, drop-drop L.width (i * L.width) w, append-nil (L.words r))
    (sym (append_assoc (take (i * L.width) w) (L.words r) (drop (i * L.width + L.width) w)))

pub returns : goal.returns
returns g c =
    let wide = g.met.R.Record.wide in
    written_there g.R.Record.layout c.args.words.now c.write.new.words c.args.i _ (grind (arith, wide)) (grind (arith, wide)) c.write.ensures
