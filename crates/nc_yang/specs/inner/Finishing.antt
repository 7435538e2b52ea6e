-- A schema with types that gets its defaults, and the patterns of its types between two looks at them.
use Rattle.std.specs.Prelude.{◌⊎◌}
use Rattle.nc_schema.specs.Tables.{Tables}
use Rattle.nc_yang_scopes.specs.Scopes.{Scoping}
use Rattle.nc_yang_scopes.specs.declared.naming.TextFault.{TextFault}
use Rattle.nc_yang_nodes.specs.declared.planned.Plan.{Plan}
use Rattle.nc_yang_leafs.specs.declared.bare.Typed.{Typed}
use Rattle.nc_yang_leafs.specs.Patterns.{HasPatterns, IsRefused, Refusals, RefusesType}
use Rattle.nc_yang_nodes.specs.Roles.{FeatureTest}
use Rattle.nc_yang.specs.Depths.{BreaksDepth, KeepsDepth}
use Rattle.nc_yang.specs.Schemas.{BreaksPlan, BreaksSchema, IsTypedOf, RefusesSchema, basis}
use Rattle.nc_yang_leafs.specs.Defaults.{BreaksDefault, HasDefaults, KeepsDefaults}

-- it has them
pub record Finishes (scoping : Scoping) (plan : Plan) (typed : Typed) (tables : Tables) : Type 0 where
  pub shallow : KeepsDepth scoping plan typed.schema
  pub keeps : KeepsDefaults scoping plan typed.schema
  pub patterned : Tables
  pub has : HasPatterns scoping.located typed patterned
  pub defaults : HasDefaults scoping plan patterned tables

-- or it has not: a value is read through too many types; a default breaks a rule; a pattern is refused; or a default
-- breaks a rule with the patterns
pub data Ends (scoping : Scoping) (plan : Plan) (typed : Typed) (refusals : Refusals) : TextFault → Type 0 where
  too_deep : (fault : TextFault) → BreaksDepth scoping plan typed.schema fault → Ends scoping plan typed refusals fault
  broken : (fault : TextFault) → BreaksDefault scoping plan typed.schema fault → Ends scoping plan typed refusals fault
  refused : (fault : TextFault) → KeepsDepth scoping plan typed.schema → KeepsDefaults scoping plan typed.schema
      → RefusesType scoping.located typed refusals fault → Ends scoping plan typed refusals fault
  unsuited : (fault : TextFault) (patterned : Tables) → KeepsDepth scoping plan typed.schema
      → KeepsDefaults scoping plan typed.schema → HasPatterns scoping.located typed patterned
      → BreaksDefault scoping plan patterned fault
      → Ends scoping plan typed refusals fault

-- a maker refused a pattern in use where all rules are kept in which no pattern is asked
pub record RefusesPlan (scoping : Scoping) (on : FeatureTest) (plan : Plan) (refusals : Refusals)
    (found : TextFault) : Type 0 where
  pub typed : Tables
  pub is : IsTypedOf scoping on plan typed
  pub refused : IsRefused (basis scoping on plan) refusals found

-- data nodes of a plan give no schema: they break a rule, or a maker refused a pattern
abbrev pub GivesNoSchema : Scoping → FeatureTest → Plan → Refusals → TextFault → Type 0
GivesNoSchema scoping on plan refusals fault =
    BreaksPlan scoping on plan fault ⊎ RefusesPlan scoping on plan refusals fault

-- texts give none
abbrev pub GivesNothing : Scoping → FeatureTest → Refusals → TextFault → Type 0
GivesNothing scoping on refusals fault = BreaksSchema scoping on fault ⊎ RefusesSchema scoping on refusals fault
