use Rattle.std.proofs.Common.{subst}
use Rattle.nc_yang_leafs.specs.Sources.{own_of}
use Rattle.nc_yang_statements.specs.Stops.{OnBroken}
use Rattle.nc_yang_leafs.specs.inner.Reading.{IsStop, defined}
use Rattle.nc_yang_leafs.proofs.NodeLemmas.{own_bad, own_good}
use Rattle.nc_yang_leafs.proofs.default_node.by_own.Goals as goal

pub returns-in-Ok : goal.returns-in-Ok
returns-in-Ok c = λ are l here some numbers.
    own_good c.args.scopes.now c.args.schema.now (defined c.args.number c.args.node.now l) c.args.own.now some numbers c.in-Ok.values
    (c.in-Ok.ensures are (own_of c.args.node.now.kind l) numbers)

pub returns-in-Err-Broken : goal.returns-in-Err-Broken
returns-in-Err-Broken c = λ are l here some numbers.
    own_bad c.args.scopes.now c.args.schema.now (defined c.args.number c.args.node.now l) c.args.own.now some numbers c.in-Err-Broken.stop c.bad_default.result
    (subst (OnBroken (IsStop c.args.scopes.now c.args.schema.now c.args.number (own_of c.args.node.now.kind l))) c.in-Err-Broken.field-0-is (c.in-Err-Broken.ensures are (own_of c.args.node.now.kind l) numbers))
    c.bad_default.ensures
