use Rattle.nc_yang_leafs.proofs.NamedLemmas.{names_at}
use Rattle.nc_yang_leafs.proofs.named.identity_of.Goals as goal

pub returns : goal.returns
returns c =
    names_at c.args.scopes.now c.args.base c.in_ok-statement.statement.now c.name.result.now c.in_ok-statement.ensures c.name.ensures c.resolve.result
    c.resolve.ensures.value c.resolve.ensures.there
