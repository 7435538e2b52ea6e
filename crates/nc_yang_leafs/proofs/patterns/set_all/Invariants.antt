-- the first types have their patterns, and none was refused
use Rattle.std.proofs.Common.{◌≡◌}
use Rattle.nc_yang_leafs.specs.inner.Adding.{AreKnown, HasSomePatterns}
use Rattle.nc_yang_leafs.specs.inner.Assembly.{both}
use Rattle.nc_yang_leafs.proofs.patterns.set_all.Given as goal

abbrev pub invariant-loop-number : goal.invariant-loop-number
invariant-loop-number g l =
    HasSomePatterns l.scopes.located (both l.fn.schema l.patterns) l.number l.schema
    × AreKnown l.scopes.located l.schema.patterns l.known
    × (g.M.Maker.refusals l.maker ≡ g.M.Maker.refusals l.initial.maker)
