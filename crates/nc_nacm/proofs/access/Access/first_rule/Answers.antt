use Rattle.std.proofs.Common.{◌≡◌, ap, subst, ◌∙◌, map, Bor}
use Rattle.std.specs.List.{find}
use Rattle.std.specs.Option.{option_copied}
use Rattle.nc_model.specs.Decision.{matches_data, rules_for}
use Rattle.nc_model.specs.Sight.{Viewer}
use Rattle.nc_model.specs.declared.policy.Rule.{Rule}
use Rattle.nc_nacm.proofs.Firsts.{first_found}
use Rattle.nc_nacm.proofs.access.Access.first_rule.Goals as goal

pub returns : goal.returns
returns c =
    let own : Viewer = record { tables = c.self.inside.schema.now; policy = c.self.inside.policy.now; peer = c.self.inside.peer.now } in
    let rules_are = ap (map (λ (rule : Bor Rule). rule.now)) c.as_slice-rules.ensures ∙ c.self.invariant.rules_are in
    subst (λ (viewer : Viewer). option_copied c.rule_at.result ≡ find (matches_data viewer.tables c.args.steps.now c.args.right) (rules_for viewer.policy viewer.peer))
    c.self.view_is
    (first_found own c.args.steps.now c.args.right (map (λ (rule : Bor Rule). rule.now) c.as_slice-rules.result.now) c.module_at-name.result.now
    c.first_place.result (option_copied c.rule_at.result) rules_are c.module_at-name.ensures c.first_place.ensures c.rule_at.ensures)
