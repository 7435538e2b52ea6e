-- The test of the cases that a walk has.
use Rattle.nc_yang_nodes.specs.FeaturesOn.{is_on}
use Rattle.nc_yang_data.specs.Leafs.{CaseTest, names_case}
use Rattle.nc_yang_data.specs.declared.cases.Cases.{Cases}

-- whether a case has that name in a choice of that name, by what a walk has
abbrev pub case_test : Cases → CaseTest
case_test c = names_case c.scopes.now (is_on c.features.now) c.plan.now
