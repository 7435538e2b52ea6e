-- What has to be there: up through containers, and one after another.
use Rattle.std.proofs.Common.{◌≡◌, ◌<◌, ◌+◌, ◌-◌, ℕ, suc, ◌++◌, drop, length, Option, Some, None, slice_get, sym, ap, ◌∙◌, arith}
use Rattle.std.specs.Option.{option_map_or}
use Rattle.nc_schema.specs.Tables.{Tables}
use Rattle.nc_yang_statements.proofs.Firsts.{first_none, first_some}
use Rattle.nc_yang_statements.specs.Rules.{first}
use Rattle.nc_yang_scopes.specs.Scopes.{Scoping}
use Rattle.nc_yang_scopes.specs.declared.naming.TextFault.{TextFault}
use Rattle.nc_yang_nodes.proofs.ListLemmas.{drop_next, got}
use Rattle.nc_yang_nodes.specs.declared.planned.Plan.{Plan}
use Rattle.nc_yang_nodes.specs.declared.planned.PlannedChoice.{PlannedChoice}
use Rattle.nc_yang_data.specs.Defaults.{carrier_of, choice_faults, choices_from, node_faults, nodes_from, outermost}

-- one level up
pub out_step : (tables : Tables) (whole levels level at above : ℕ) → level < levels → carrier_of tables at ≡ Some above →
    whole ≡ outermost tables (levels - level) at → whole ≡ outermost tables (levels - (level + 1)) above
out_step tables whole levels level at above less is same =
    let e : levels - level ≡ suc (levels - (level + 1)) = omega (arith, less) in
    same ∙ ap (λ k. outermost tables k at) e ∙ ap (λ o. option_map_or (outermost tables (levels - (level + 1))) o at) is

module _ (scoping : Scoping) (tables : Tables) (plan : Plan) where
  nodes_next : (number : ℕ) → number < length plan.nodes → first (nodes_from scoping tables plan number (drop number plan.nodes))
      ≡ first (node_faults scoping tables plan number ++ nodes_from scoping tables plan (number + 1) (drop (number + 1) plan.nodes))
  nodes_next number within =
      let p = got plan.nodes number within in
      ap (λ ps. first (nodes_from scoping tables plan number ps)) (drop_next plan.nodes number p.0 p.1)

  -- a node without a fault, and one with a fault
  pub node_passed : (number : ℕ) (whole : Option TextFault) → number < length plan.nodes → first (node_faults scoping tables plan number) ≡ None →
      whole ≡ first (nodes_from scoping tables plan number (drop number plan.nodes)) →
      whole ≡ first (nodes_from scoping tables plan (number + 1) (drop (number + 1) plan.nodes))
  node_passed number whole within none old =
      old ∙ nodes_next number within
      ∙ first_none (node_faults scoping tables plan number) (nodes_from scoping tables plan (number + 1) (drop (number + 1) plan.nodes)) none

  pub node_stops : (number : ℕ) (whole : Option TextFault) (found : TextFault) → number < length plan.nodes →
      first (node_faults scoping tables plan number) ≡ Some found → whole ≡ first (nodes_from scoping tables plan number (drop number plan.nodes)) →
      Some found ≡ whole
  node_stops number whole found within some old =
      sym (old ∙ nodes_next number within
      ∙ first_some (node_faults scoping tables plan number) (nodes_from scoping tables plan (number + 1) (drop (number + 1) plan.nodes)) found some)

  -- the same of a choice
  pub choice_passed : (number : ℕ) (whole : Option TextFault) → number < length plan.choices →
      ((p : PlannedChoice) → slice_get plan.choices number ≡ Some p → first (choice_faults scoping tables plan number p) ≡ None) →
      whole ≡ first (choices_from scoping tables plan number (drop number plan.choices)) →
      whole ≡ first (choices_from scoping tables plan (number + 1) (drop (number + 1) plan.choices))
  choice_passed number whole within none old =
      let p = got plan.choices number within in
      old ∙ ap (λ ps. first (choices_from scoping tables plan number ps)) (drop_next plan.choices number p.0 p.1)
      ∙ first_none (choice_faults scoping tables plan number p.0) (choices_from scoping tables plan (number + 1) (drop (number + 1) plan.choices)) (none p.0 p.1)

  pub choice_stops : (number : ℕ) (whole : Option TextFault) (found : TextFault) → number < length plan.choices →
      ((p : PlannedChoice) → slice_get plan.choices number ≡ Some p → first (choice_faults scoping tables plan number p) ≡ Some found) →
      whole ≡ first (choices_from scoping tables plan number (drop number plan.choices)) → Some found ≡ whole
  choice_stops number whole found within some old =
      let p = got plan.choices number within in
      sym (old ∙ ap (λ ps. first (choices_from scoping tables plan number ps)) (drop_next plan.choices number p.0 p.1)
      ∙ first_some (choice_faults scoping tables plan number p.0) (choices_from scoping tables plan (number + 1) (drop (number + 1) plan.choices)) found (some p.0 p.1))
