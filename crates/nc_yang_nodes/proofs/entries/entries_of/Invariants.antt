use Rattle.std.proofs.Common.{◌≡◌, length}
use Rattle.nc_yang_nodes.specs.FeaturesOn.{is_on}
use Rattle.nc_yang_nodes.specs.inner.Tables.{AreStored}
use Rattle.nc_yang_nodes.proofs.entries.entries_of.Given as goal

abbrev pub invariant-loop-number : goal.invariant-loop-number
invariant-loop-number l = AreStored l.scopes (is_on l.features) l.entries × (length l.entries ≡ l.number)
