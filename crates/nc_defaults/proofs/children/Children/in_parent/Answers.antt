use Rattle.std.proofs.Common.{Some, None, ap, ◌∙◌}
use Rattle.nc_schema.specs.Tables.{Tables}
use Rattle.nc_defaults.specs.Children.{children_of}
use Rattle.nc_defaults.specs.inner.Lists.{list_place}
use Rattle.nc_defaults.proofs.ListLemmas.{list_is}
use Rattle.nc_defaults.proofs.children.Children.in_parent.Goals as goal

pub returns-in-Some : goal.returns-in-Some
returns-in-Some c =
    c.as_slice.ensures
    ∙ list_is c.self.inside.lists c.list_place.result (list_place c.args.parent) (Some c.in-Some.list.now) c.in-Some.ensures.value c.list_place.ensures
    ∙ c.self.invariant.children c.args.parent
    ∙ ap (λ (t : Tables). children_of t.nodes c.args.parent) c.self.view_is

pub returns-in-None : goal.returns-in-None
returns-in-None c =
    list_is c.self.inside.lists c.list_place.result (list_place c.args.parent) None c.in-None.ensures.value c.list_place.ensures
    ∙ c.self.invariant.children c.args.parent
    ∙ ap (λ (t : Tables). children_of t.nodes c.args.parent) c.self.view_is
