use Rattle.std.proofs.Common.{subst}
use Rattle.nc_yang_leafs.specs.Named.{NameSame}
use Rattle.nc_yang_scopes.specs.Scopes.{Scoping}
use Rattle.nc_yang.proofs.AlikeNames.{alike}
use Rattle.nc_yang.proofs.names.Names.are_alike.Goals as goal

pub returns : goal.returns
returns c = λ same on.
    alike c.args.self.now on c.args.bases.now c.args.others.now
    (subst (λ (s : Scoping). NameSame s c.args.bases.now c.args.others.now) c.self.view_is (c.name_same.ensures same))
