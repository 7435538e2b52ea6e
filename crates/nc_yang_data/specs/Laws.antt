-- What follows from the definitions.
use Rattle.std.specs.Prelude.{◌≡◌, []}
use Rattle.nc_schema.specs.Proper.{AreInPlace}
use Rattle.nc_yang_scopes.specs.Scopes.{Scoping}
use Rattle.nc_yang_nodes.specs.Plans.{IsPlan}
use Rattle.nc_yang_nodes.specs.Roles.{FeatureTest}
use Rattle.nc_yang_nodes.specs.declared.planned.Plan.{Plan}
use Rattle.nc_yang_data.specs.Data.{data_faults, data_tables}

-- the data nodes and choices of a plan are in place where no rule is broken
abbrev pub DataIsInPlace : Type 0
DataIsInPlace =
    (scoping : Scoping) (on : FeatureTest) (plan : Plan) → IsPlan scoping on plan → data_faults scoping on plan ≡ []
    → AreInPlace (data_tables scoping on plan)

-- data nodes and choices do not depend on which plan of the modules is taken, and neither do the rules that they break
abbrev pub DataIsFixed : Type 0
DataIsFixed =
    (scoping : Scoping) (on : FeatureTest) (one other : Plan) → IsPlan scoping on one → IsPlan scoping on other
    → (data_tables scoping on one ≡ data_tables scoping on other)
    × (data_faults scoping on one ≡ data_faults scoping on other)
