-- the first statements have the numbers of their patterns, and none was refused
use Rattle.std.proofs.Common.{◌≡◌, take}
use Rattle.nc_yang_leafs.specs.inner.Adding.{AddsAll, AreKnown}
use Rattle.nc_yang_leafs.proofs.patterns.add_all.Given as goal

abbrev pub invariant-loop-statement : goal.invariant-loop-statement
invariant-loop-statement g l =
    AddsAll l.scopes.located (take l.statement-index l.statements) l.initial.schema l.schema l.numbers
    × AreKnown l.scopes.located l.schema.patterns l.known
    × (g.M.Maker.refusals l.maker ≡ g.M.Maker.refusals l.initial.maker)
