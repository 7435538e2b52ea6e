use Rattle.std.proofs.Common.{◌∙◌}
use Rattle.std.specs.List.{list_any}
use Rattle.nc_filter.specs.inner.Labels.{group_wants, want_wants}
use Rattle.nc_filter.proofs.ListLemmas.{popped, popped_all}
use Rattle.nc_filter.proofs.SpotLemmas.{want_more}
use Rattle.nc_filter.proofs.wants.wants.Goals as goal

pub groups-preserved : goal.groups-preserved
groups-preserved c = λ f g.
    popped (group_wants f g) (list_any (want_wants f g) c.groups.out) (list_any (want_wants f g) c.push.new.self) c.groups.rest c.pop.new.self c.in-Some.group c.in-Some.ensures
    (want_more f g c.in-Some.group c.groups.out c.push.new.self c.in_ok-want_of.field-0 c.in_ok-want_of.ensures c.in_ok-push.ensures.ok)
    ∙ c.groups.invariant f g

pub returns : goal.returns
returns c = λ f g.
    popped_all (group_wants f g) (list_any (want_wants f g) c.groups.out) (list_any (group_wants f g) c.args.groups) c.groups.rest c.in_default.ensures.0 (c.groups.invariant f g)
