use Rattle.std.proofs.Common.{sym, subst}
use Rattle.nc_yang_types.specs.Defaults.{IsDefault}
use Rattle.nc_yang_types.specs.Numbers.{OnNumber}
use Rattle.nc_yang_types.specs.inner.Footings.{IsFooting}
use Rattle.nc_yang_types.specs.inner.KnownTypes.{KnowsBase}
use Rattle.nc_yang_types.proofs.DefaultLemmas.{base_default, not_over, own_default}
use Rattle.nc_yang_types.proofs.defaults.brought.Goals as goal

pub returns-in_default : goal.returns-in_default
returns-in_default c = not_over c.args.scopes.now c.args.number c.args.footing c.args.defaults.now c.in_default.not-OnType

pub returns-in-Some : goal.returns-in-Some
returns-in-Some c = own_default c.args.scopes.now c.args.number c.in-OnType.base c.args.footing c.in-OnType.is c.args.defaults.now c.in-Some.own c.in-Some.ensures

pub returns-in-None : goal.returns-in-None
returns-in-None c =
    subst
    (λ z. OnNumber c.args.scopes.now c.args.number (λ l. IsFooting c.args.scopes.now l c.args.footing → KnowsBase c.args.scopes.now c.args.defaults.now c.args.footing → IsDefault c.args.scopes.now l z))
    (sym c.kept.ensures) (base_default c.args.scopes.now c.args.number c.in-OnType.base c.args.footing c.in-OnType.is c.args.defaults.now c.in-None.ensures)
