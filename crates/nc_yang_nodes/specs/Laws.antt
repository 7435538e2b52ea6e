-- What follows from the definitions.
use Rattle.nc_yang_scopes.specs.declared.naming.TextFault.{TextFault}
use Rattle.nc_yang_scopes.specs.Scopes.{Scoping}
use Rattle.nc_yang_nodes.specs.declared.planned.Plan.{Plan}
use Rattle.nc_yang_nodes.specs.Roles.{FeatureTest}
use Rattle.nc_yang_nodes.specs.Alike.{AreAlike}
use Rattle.nc_yang_nodes.specs.Plans.{IsFirstPast, IsPlan, IsSoundPlan}

-- where modules have a plan, no statement is the first past a limit
abbrev pub PlanHasNoFault : Type 0
PlanHasNoFault =
    (scoping : Scoping) (on : FeatureTest) (plan : Plan) (fault : TextFault)
    → IsPlan scoping on plan → IsFirstPast scoping on fault → ⊥

-- a plan's data nodes stand in others that come before them, in cases of choices in the same place, and belong to
-- modules that are there
abbrev pub PlanIsSound : Type 0
PlanIsSound =
    (scoping : Scoping) (on : FeatureTest) (plan : Plan) → IsPlan scoping on plan
    → IsSoundPlan scoping plan

-- two plans of the same modules differ at most in the numbers of statements that are written alike in one place
abbrev pub PlansAreAlike : Type 0
PlansAreAlike =
    (scoping : Scoping) (on : FeatureTest) (one other : Plan) → IsPlan scoping on one → IsPlan scoping on other
    → AreAlike scoping one other
