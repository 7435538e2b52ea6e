use Rattle.std.proofs.Common.{sym}
use Rattle.nc_yang_types.proofs.FoundLemmas.{look_nothing, look_type}
use Rattle.nc_yang_types.proofs.found.look.Goals as goal

pub returns-in_ok-own-in-OnType : goal.returns-in_ok-own-in-OnType
returns-in_ok-own-in-OnType g c =
    look_type c.args.scopes.now c.args.number c.in-Some.statement.now (sym c.in-Some.ensures) c.in-Some-text.text (sym c.in-Some-text.ensures) (g.F.Features.on c.args.features.now) c.args.meanings.now
    c.in-OnType.base c.args.footing c.in-OnType.is c.in_ok-own-in-OnType.own c.in_ok-own-in-OnType.ensures c.as_slice.result.now c.as_slice.ensures c.on_type.result c.on_type.ensures

pub returns-in-OnNothing : goal.returns-in-OnNothing
returns-in-OnNothing g c = look_nothing (g.F.Features.on c.args.features.now) c.args.scopes.now c.args.meanings.now c.args.number c.args.footing c.in-OnNothing.is
