-- The numbers of all used terms answer for the parts.
use Rattle.rope.proofs.equal_rest.Goals as goal

pub equal_parts-requires : goal.equal_parts-requires
equal_parts-requires c =
    let few = c.args.store.now.few in
    record { within = c.requires.within; numbered = (_, _, _, _, record { known = c.number_terms.ensures.0; few = few; shows = c.requires.shows.1 }) }

pub returns : goal.returns
returns c used shows = c.equal_parts.ensures _ _ _ used (record { known = c.number_terms.ensures.0; few = c.args.store.now.few; shows = shows })
