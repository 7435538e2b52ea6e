-- The leafs so far.
use Rattle.std.proofs.Common.{◌≡◌, take}
use Rattle.nc_yang_nodes.specs.FeaturesOn.{is_on}
use Rattle.nc_yang.specs.Typedefs.{typedef_tables}
use Rattle.nc_yang.proofs.suited.tables_of.Given as goal

abbrev pub invariant-loop-number : goal.invariant-loop-number
invariant-loop-number l = l.schema ≡ typedef_tables l.scopes (is_on l.features) (take l.number-index l.numbers)
