use Rattle.std.proofs.Common.{sym}
use Rattle.nc_yang_leafs.specs.inner.Reading.{defined}
use Rattle.nc_yang_leafs.proofs.SourceLemmas.{brought_by}
use Rattle.nc_yang_leafs.proofs.sources.brought.Goals as goal

pub returns-then-may_lack : goal.returns-then-may_lack
returns-then-may_lack c = λ l here none means.
    brought_by c.args.scopes.now (defined c.args.number c.args.node.now l) c.leaf_default.result (sym c.if-may_lack.ensures) none means (c.leaf_default.ensures l here)
