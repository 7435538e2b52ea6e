use Rattle.std.proofs.Common.{◌∙◌, ◌||◌, ap}
use Rattle.std.specs.List.{list_any}
use Rattle.nc_filter.specs.inner.Runs.{group_tells}
use Rattle.nc_filter.proofs.ListLemmas.{popped, popped_all}
use Rattle.nc_filter.proofs.groups.joined_groups.Goals as goal

pub groups-init : goal.groups-init
groups-init c = λ whole test.
    ap (λ groups. list_any (group_tells whole test) groups || list_any (group_tells whole test) c.in_ok-rest.rest) c.new-out.ensures
    ∙ c.in_ok-rest.ensures (group_tells whole test) ∙ c.in_ok-by_list.ensures (group_tells whole test)

pub groups-preserved : goal.groups-preserved
groups-preserved c = λ whole test.
    popped (group_tells whole test) (list_any (group_tells whole test) c.groups.out) (list_any (group_tells whole test) c.in_ok-out.out) c.groups.rest c.pop.new.self
    c.in-Some.group c.in-Some.ensures (c.in_ok-out.ensures whole test)
    ∙ c.groups.invariant whole test

pub returns : goal.returns
returns c = λ whole test.
    popped_all (group_tells whole test) (list_any (group_tells whole test) c.groups.out) (list_any (group_tells whole test) c.args.groups) c.groups.rest
    c.in_default.ensures.0 (c.groups.invariant whole test)
