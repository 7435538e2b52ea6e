-- The modules of the texts that are left.
use Rattle.std.proofs.Common.{◌≡◌, ◌++◌, ◌+◌, length, drop}
use Rattle.nc_yang_nodes.specs.FeaturesOn.{is_on}
use Rattle.nc_yang_data.specs.Modules.{modules_from}
use Rattle.nc_yang_data.proofs.modules.add_modules.Given as goal

abbrev pub invariant-loop-text : goal.invariant-loop-text
invariant-loop-text l = record {
  count : length l.schema.modules ≡ length l.fn.schema.modules + l.text;
  others : l.schema ≡ record l.fn.schema { modules = l.schema.modules };
  left : l.fn.schema.modules ++ modules_from (is_on l.features) 0 l.scopes.texts
      ≡ l.schema.modules ++ modules_from (is_on l.features) l.text (drop l.text l.scopes.texts);
}
