-- Types of data nodes without their patterns, with them, and as they are stated whatever a maker says of them.
use Rattle.std.proofs.Common.{◌≡◌, sym, subst}
use Rattle.nc_schema.specs.Tables.{Tables}
use Rattle.nc_yang_scopes.specs.Scopes.{Scoping}
use Rattle.nc_yang_nodes.specs.Roles.{FeatureTest}
use Rattle.nc_yang_nodes.specs.declared.planned.Plan.{Plan}
use Rattle.nc_yang_leafs.specs.Patterns.{HasPatterns}
use Rattle.nc_yang_leafs.specs.declared.bare.Typed.{Typed}
use Rattle.nc_yang_leafs.proofs.PatternLemmas.{patterns_left_out, stated_typed, with_patterns_typed}
use Rattle.nc_yang_leafs.specs.Defaults.{KeepsDefaults}
use Rattle.nc_yang.specs.Depths.{KeepsDepth}
use Rattle.nc_yang.specs.Schemas.{AreNames, IsBareOf, basis_of}
use Rattle.nc_yang.specs.inner.Judged.{HasBare}

module _ (scoping : Scoping) (on : FeatureTest) (plan : Plan) (given : Tables) (typed : Typed) (h : HasBare scoping on plan given typed) where
  pub bare_with : (tables : Tables) → HasPatterns scoping.located typed tables → IsBareOf scoping on plan given tables
  bare_with tables has =
      let out = patterns_left_out (AreNames scoping on) (basis_of scoping on plan given) typed h.typings tables has in
      record {
        straight = h.straight;
        types = with_patterns_typed (AreNames scoping on) (basis_of scoping on plan given) typed h.typings tables has;
        shallow = subst (KeepsDepth scoping plan) (sym out) h.shallow;
        defaults = subst (KeepsDefaults scoping plan) (sym out) h.defaults;
      }

  pub bare_stated : (tables : Tables) × IsBareOf scoping on plan given tables
  bare_stated =
      let t = stated_typed (AreNames scoping on) (basis_of scoping on plan given) typed h.typings in (
        t.0,
        record {
          straight = h.straight;
          types = t.1;
          shallow = subst (KeepsDepth scoping plan) (sym t.2) h.shallow;
          defaults = subst (KeepsDefaults scoping plan) (sym t.2) h.defaults;
        },
      )
