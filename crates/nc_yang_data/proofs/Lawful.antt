-- Where no rule is broken, data nodes and choices are in place.
use Rattle.std.proofs.Common.{◌≡◌, ◌++◌, []}
use Rattle.nc_schema.specs.Proper.{AreInPlace}
use Rattle.nc_yang_scopes.specs.Scopes.{Scoping}
use Rattle.nc_yang_nodes.proofs.Sound.{plan_is_sound}
use Rattle.nc_yang_nodes.specs.Plans.{IsPlan}
use Rattle.nc_yang_nodes.specs.Roles.{FeatureTest}
use Rattle.nc_yang_nodes.specs.declared.planned.Plan.{Plan}
use Rattle.nc_yang_data.specs.Conditions.{all_conditions}
use Rattle.nc_yang_data.specs.Data.{data_faults, data_tables, drafts}
use Rattle.nc_yang_data.specs.Defaults.{default_faults}
use Rattle.nc_yang_data.specs.Leafs.{names_case}
use Rattle.nc_yang_data.specs.Places.{faults_from}
use Rattle.nc_yang_data.specs.Siblings.{name_faults}
use Rattle.nc_yang_data.proofs.Kept.{append_nothing, apart, known, stands}
use Rattle.nc_yang_data.proofs.KeptCases.{choice_cases, node_cases}
use Rattle.nc_yang_data.proofs.KeptKeys.{its_keys}
use Rattle.nc_yang_data.proofs.KeptNames.{is_named, orders_entries}
use Rattle.nc_yang_data.proofs.KeptUniques.{its_uniques}

pub in_place : (scoping : Scoping) (on : FeatureTest) (plan : Plan) → IsPlan scoping on plan → data_faults scoping on plan ≡ [] →
    AreInPlace (data_tables scoping on plan)
in_place scoping on plan planned off =
    let sound = plan_is_sound scoping on plan planned in
    let none =
    (append_nothing (faults_from scoping (drafts scoping plan) (names_case scoping on plan) 0 plan.nodes)
    (name_faults scoping plan ++ (default_faults scoping (data_tables scoping on plan) plan ++ all_conditions scoping plan (data_tables scoping on plan).nodes)) off).0 in
    record {
      parents = λ number node is. stands scoping on plan number node (known scoping on plan number node sound none is) sound;
      names = λ number node is. is_named scoping on plan number node (known scoping on plan number node sound none is) sound;
      siblings_apart = λ number node is other beside there parents names.
          apart scoping on plan number other node beside (known scoping on plan number node sound none is) (known scoping on plan other beside sound none there) parents names;
      keys = λ number node is. its_keys scoping on plan number node (known scoping on plan number node sound none is);
      uniques = λ number node is. its_uniques scoping on plan number node (known scoping on plan number node sound none is);
      by_user = λ number node is. orders_entries scoping on plan number node (known scoping on plan number node sound none is);
      cases = λ number node is. node_cases scoping on plan number node sound (known scoping on plan number node sound none is);
      outer_cases = choice_cases scoping on plan sound;
    }
