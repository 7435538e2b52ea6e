use Rattle.std.proofs.Common.{◌∙◌, ◌||◌, ap}
use Rattle.std.specs.List.{list_any}
use Rattle.nc_filter.specs.inner.Runs.{class_tells, group_tells}
use Rattle.nc_filter.proofs.ListLemmas.{popped, popped_all}
use Rattle.nc_filter.proofs.groups.group_each.Goals as goal

pub classes-preserved : goal.classes-preserved
classes-preserved c = λ here among keys_are test.
    popped (class_tells c.args.runs.now here test) (list_any (group_tells c.args.runs.now test) c.classes.out) (list_any (group_tells c.args.runs.now test) c.in_ok-out.out) c.classes.rest c.pop.new.self
    c.in-Some.class c.in-Some.ensures
    (c.in_ok-out.ensures c.args.runs.now test ∙ ap (λ b. list_any (group_tells c.args.runs.now test) c.classes.out || b) (c.in_ok-group.ensures here among keys_are test))
    ∙ c.classes.invariant here among keys_are test

pub returns : goal.returns
returns c = λ here among keys_are test.
    popped_all (class_tells c.args.runs.now here test) (list_any (group_tells c.args.runs.now test) c.classes.out)
    (list_any (group_tells c.args.runs.now test) c.args.out || list_any (class_tells c.args.runs.now here test) c.args.classes) c.classes.rest
    c.in_default.ensures.0 (c.classes.invariant here among keys_are test)
