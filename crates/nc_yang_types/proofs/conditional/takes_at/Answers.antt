use Rattle.nc_yang_types.proofs.ConditionalLemmas.{tells_taking}
use Rattle.nc_yang_types.proofs.conditional.takes_at.Goals as goal

pub returns : goal.returns
returns c =
    tells_taking c.args.meanings.now c.args.number c.args.graph.now c.in_ok-members.members c.as_slice.result.now c.requires c.in_ok-members.ensures c.as_slice.ensures
    c.args.text.now c.names_among.result c.names_among.ensures
