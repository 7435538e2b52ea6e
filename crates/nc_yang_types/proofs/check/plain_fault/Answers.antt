use Rattle.std.proofs.Common.{inl}
use Rattle.nc_yang_types.proofs.CheckLemmas.{breaks_here, plain_by_members}
use Rattle.nc_yang_types.proofs.check.plain_fault.Goals as goal

pub returns-in-Some : goal.returns-in-Some
returns-in-Some c = λ on are l here.
    inl (breaks_here c.args.scopes.now c.args.meanings.now c.args.number c.args.statement.now c.requires on are l here c.in-Some.fault c.in-Some.ensures)

pub returns : goal.returns
returns c = λ on are l here.
    plain_by_members c.args.scopes.now c.args.meanings.now c.args.number c.args.statement.now c.requires on are l here c.referring_member.result
    c.in_default.ensures c.referring_member.ensures
