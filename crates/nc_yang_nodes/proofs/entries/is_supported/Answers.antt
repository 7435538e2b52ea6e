use Rattle.std.proofs.Common.{rules, arith, true}
use Rattle.nc_yang_nodes.specs.FeaturesOn.{is_on}
use Rattle.nc_yang_nodes.specs.Roles.{is_supported}
use Rattle.nc_yang_nodes.proofs.TableLemmas.{allows_end, allows_off, allows_on}
use Rattle.nc_yang_nodes.proofs.entries.is_supported.Goals as goal

pub returns-then-not-allows_at : goal.returns-then-not-allows_at
returns-then-not-allows_at c = λ l at.
    allows_off c.args.scopes.now (is_on c.args.features.now) c.args.number c.loop-place.place c.args.statement.now l c.allows_at.result
    (is_supported c.args.scopes.now.texts (is_on c.args.features.now) l) c.requires at (c.loop-place.invariant l at) (omega arith) c.allows_at.ensures (search rules)

pub loop-place-preserved : goal.loop-place-preserved
loop-place-preserved c = λ l at.
    allows_on c.args.scopes.now (is_on c.args.features.now) c.args.number c.loop-place.place c.args.statement.now l c.allows_at.result
    (is_supported c.args.scopes.now.texts (is_on c.args.features.now) l) c.requires at (c.loop-place.invariant l at) (omega arith) c.allows_at.ensures (search rules)

pub returns : goal.returns
returns c = λ l at.
    allows_end c.args.scopes.now (is_on c.args.features.now) c.args.number c.loop-place.place c.args.statement.now l true
    (is_supported c.args.scopes.now.texts (is_on c.args.features.now) l) c.requires at (c.loop-place.invariant l at) (omega arith)
