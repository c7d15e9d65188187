-- The tail read is node c of a valid store, so its reach is within the limit and the node made is the Cons.
use Rattle.nodes.specs.MakeLaws.{known, cons_made}
use Rattle.nodes.proofs.make_cons.Goals as goal

pub returns : goal.returns
returns c = cons_made _ _ _ _ _ (known _ _ _ c.requires.store.store _ c.requires.fits.3 c.get-tail.ensures) c.reach_of.ensures (rw c.number.ensures at c.put.ensures)
