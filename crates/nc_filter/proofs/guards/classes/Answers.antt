use Rattle.std.proofs.Common.{◌∙◌}
use Rattle.std.specs.List.{list_any}
use Rattle.nc_filter.specs.inner.Runs.{class_says}
use Rattle.nc_filter.proofs.ListLemmas.{popped}
use Rattle.nc_filter.proofs.guards.classes.Goals as goal

pub classes-preserved : goal.classes-preserved
classes-preserved c = λ has test.
    popped (class_says has test) (list_any (class_says has test) c.classes.out) (list_any (class_says has test) c.in_ok-out.out) c.classes.rest c.pop.new.self c.in-Some.class
    c.in-Some.ensures (c.in_ok-out.ensures has test)
    ∙ c.classes.invariant has test
