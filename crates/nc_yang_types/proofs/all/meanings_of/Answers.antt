use Rattle.std.proofs.Common.{subst}
use Rattle.std.specs.Prelude.{MatchOption}
use Rattle.nc_yang_scopes.specs.declared.naming.TextFault.{TextFault}
use Rattle.nc_yang_types.specs.Faults.{BreaksTypes, KeepsTypes}
use Rattle.nc_yang_types.proofs.all.meanings_of.Goals as goal

pub returns-in-Some-clause-fault : goal.returns-in-Some-clause-fault
returns-in-Some-clause-fault g c =
    subst
    (λ o. MatchOption o (KeepsTypes (g.F.Features.on c.args.features.now) c.args.scopes.now.texts) (λ (it : TextFault). BreaksTypes (g.F.Features.on c.args.features.now) c.args.scopes.now.texts it.text it.fault))
    c.in-Some.is (c.in_ok-ill.ensures (g.F.Features.on c.args.features.now) c.in_ok-found.ensures)

pub returns-in-None-clause-kept : goal.returns-in-None-clause-kept
returns-in-None-clause-kept g c =
    subst
    (λ o. MatchOption o (KeepsTypes (g.F.Features.on c.args.features.now) c.args.scopes.now.texts) (λ (it : TextFault). BreaksTypes (g.F.Features.on c.args.features.now) c.args.scopes.now.texts it.text it.fault))
    c.in-None.is (c.in_ok-ill.ensures (g.F.Features.on c.args.features.now) c.in_ok-found.ensures)
