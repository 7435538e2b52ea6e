use Rattle.nc_yang_types.proofs.FoundLemmas.{plan_is}
use Rattle.nc_yang_types.proofs.by_itself.by_itself.Goals as goal

pub returns-clause-ok : goal.returns-clause-ok
returns-clause-ok g c =
    plan_is c.args.scopes.now c.args.number c.args.statement.now c.requires.statement c.args.text c.requires.text (g.F.Features.on c.args.features.now) c.args.one
    c.in_ok-entry.entry c.in_ok-planned.planned c.in_text.result c.in_ok-entry.ensures.ok c.in_ok-planned.ensures c.in_text.ensures
