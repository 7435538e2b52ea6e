use Rattle.std.proofs.Common.{◌<◌, ◌^◌, length, ap, subst, ◌∙◌}
use Rattle.std.specs.Prelude.{slice_get}
use Rattle.nc_schema.specs.Tables.{Tables}
use Rattle.nc_defaults.proofs.ListLemmas.{node_few, node_within}
use Rattle.nc_defaults.proofs.children.Children.node.Goals as goal

pub returns-clause-value : goal.returns-clause-value
returns-clause-value c = c.node.ensures ∙ ap (λ (t : Tables). slice_get t.nodes c.args.number) c.self.view_is

pub returns-clause-within : goal.returns-clause-within
returns-clause-within c =
    node_within c.node.result c.args.self.now.nodes c.args.number (c.node.ensures ∙ ap (λ (t : Tables). slice_get t.nodes c.args.number) c.self.view_is)

pub returns-clause-few : goal.returns-clause-few
returns-clause-few c =
    node_few c.node.result c.args.self.now.nodes c.args.number (subst (λ (t : Tables). length t.nodes < 2 ^ 32) c.self.view_is c.self.invariant.few)
    (c.node.ensures ∙ ap (λ (t : Tables). slice_get t.nodes c.args.number) c.self.view_is)
