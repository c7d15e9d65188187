-- Laws of a part of a rope that is read as places: its terms are those at the places, and these lie in the store. So two parts are compared by the
-- numbers of the terms at their places.
use Rattle.std.specs.Prelude.{◌≡◌, List, map, Bool, ◌&&◌, length, get_or, take, drop, ℕ, ◌+◌, ◌<◌, ◌≤◌}
use Rattle.std.proofs.Common.{ap, ap₂, sym, ◌∙◌, get_or-take, get_or-drop, arith}
use Rattle.term_spec.specs.ListLaws.{numbers_from}
use Rattle.term_spec.proofs.ListLaws.{map-take, map-drop}
use Rattle.term_spec.specs.Term.{term_layout}
use Rattle.term_spec.proofs.TermLaws.{values_length}
use Rattle.term_spec.specs.Value.{char}
use Rattle.term_spec.specs.Words.{decode}
use Rattle.term_spec.proofs.WordsLaws.{decode-length}
use Rattle.view_spec.specs.Node.{meaning}
use Rattle.view_spec.specs.Read.{equal_terms}
use Rattle.nodes.specs.NodeStore.{nodes_in, NodeStore, Reaches}
use Rattle.value.specs.Equal.{values_in}
use Rattle.places.specs.Places.{wanted, ShowsPart, PartRead}
use Rattle.places.specs.PlacesLaws.{up_length, meaning-picked, places-below}
use Rattle.places.specs.RestLaws.{reach_length}
use Rattle.rope.specs.Fronts.{RopesKnown, PlacesKnown, picked, equal_from}
use Rattle.rope.specs.FrontLaws.{from_next}

-- ---- one part ----

module _ {nodes : List ℕ} {terms used node : ℕ} (skip n : ℕ) (store : NodeStore nodes terms used) (reaches : Reaches nodes used node (skip + n))
    (before list : List ℕ) (read : PartRead nodes node skip n before list) where
  low : node < length (nodes_in nodes used)
  low = rw decode-length reaches.low

  pub part_at : take n list ≡ wanted terms (nodes_in nodes used) node skip n
  part_at = read.2 used terms store reaches

  pub part-picked : {X : Type 0} (d : X) (xs : List X) → length xs ≡ terms
      → take n (drop skip (meaning xs (nodes_in nodes used) node)) ≡ map (λ p. get_or xs p d) (take n list)
  part-picked {X} d xs e =
      let at : ℕ → X = λ p. get_or xs p d in
      let all = meaning (numbers_from 0 (length xs)) (nodes_in nodes used) node in
      ap (λ l. take n (drop skip l)) (meaning-picked d xs (nodes_in nodes used) node (rw e store.good) low)
      ∙ sym (map-take at n (drop skip all) ∙ ap (take n) (map-drop at skip all))
      ∙ ap (map at) (ap (λ m. wanted m (nodes_in nodes used) node skip n) e ∙ sym part_at)

  pub part_low : (i : ℕ) → i < n → get_or list i 0 < terms
  part_low i h =
      let all = meaning (numbers_from 0 terms) (nodes_in nodes used) node in
      let long = reach_length (numbers_from 0 terms) (nodes_in nodes used) (rw up_length store.good) node low in
      let e : get_or list i 0 ≡ get_or all (skip + i) 0 =
      sym (get_or-take n list i 0 h) ∙ ap (λ l. get_or l i 0) part_at ∙ get_or-take n (drop skip all) i 0 h ∙ get_or-drop skip all i 0 in
      rw e (places-below terms (nodes_in nodes used) node store.good low (skip + i) (omega (arith, long, reaches.fits)))

-- ---- the parts of two nodes after their first `done` terms ----

module _ {names w nodes : List ℕ} {over used : ℕ} {numbers : List ℕ} {f g n : ℕ} (c : RopesKnown names w nodes over used numbers f g n)
    (done k : ℕ) (fits : done + k ≤ n) where
  left_reaches : Reaches nodes used f (done + k)
  left_reaches = record { low = c.shows.left.low; fits = omega (arith, c.shows.left.fits) }

  right_reaches : Reaches nodes used g (done + k)
  right_reaches = record { low = c.shows.right.low; fits = omega (arith, c.shows.right.fits) }

  pub left-shows : ShowsPart nodes f done k
  left-shows = record { used = used; store = record { terms = over; few_terms = c.few; store = c.shows.store }; reaches = left_reaches }

  pub right-shows : ShowsPart nodes g done k
  right-shows = record { used = used; store = record { terms = over; few_terms = c.few; store = c.shows.store }; reaches = right_reaches }

  module _ (before before' first second : List ℕ) (x : PartRead nodes f done k before first) (y : PartRead nodes g done k before' second)
      (long : k ≤ length before) (far : k ≤ length before') where
    pub parts_known : PlacesKnown names w over numbers first second k
    parts_known = record {
      known = c.known;
      long = omega (arith, x.1);
      far = omega (arith, y.1);
      left = part_low done k c.shows.store left_reaches before first x;
      right = part_low done k c.shows.store right_reaches before' second y;
    }

    pub parts_next : {answer b : Bool} → answer ≡ b
        → answer ≡ equal_terms (picked (values_in names w over) (take k first)) (picked (values_in names w over) (take k second))
        → equal_from (values_in names w over) (nodes_in nodes used) f g n done
        ≡ b && equal_from (values_in names w over) (nodes_in nodes used) f g n (done + k)
    parts_next z e =
        let vs = values_in names w over in
        let size = values_length names (decode term_layout over w) ∙ decode-length term_layout over w in
        let p = part-picked done k c.shows.store left_reaches before first x (char 0) vs size in
        let q = part-picked done k c.shows.store right_reaches before' second y (char 0) vs size in
        from_next vs (nodes_in nodes used) f g n done k fits (sym z ∙ e ∙ sym (ap₂ equal_terms p q))
