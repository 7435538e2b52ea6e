use Rattle.nc_yang_nodes.proofs.DerivedLemmas.{unplaced}
use Rattle.nc_yang_nodes.proofs.identities.Identities.has_mark.Goals as goal

pub returns-in-None : goal.returns-in-None
returns-in-None c = λ base marks l here. unplaced c.self.inside.places c.args.self.now c.self.view_is c.args.number c.in-None.ensures l here base
