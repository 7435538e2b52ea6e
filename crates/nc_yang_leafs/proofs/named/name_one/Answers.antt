use Rattle.std.proofs.Common.{◌≡◌, arith}
use Rattle.nc_yang_leafs.proofs.NamedLemmas.{one_named}
use Rattle.nc_yang_leafs.proofs.named.name_one.Goals as goal

pub returns : goal.returns
returns c = λ e.
    let same : c.in-Some.one ≡ c.in-Some-identity_of.two = grind arith in
    one_named c.args.scopes.now c.args.base c.args.other c.in-Some.one c.in-Some-identity_of.two c.in-Some.ensures c.in-Some-identity_of.ensures same
