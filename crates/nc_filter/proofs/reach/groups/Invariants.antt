use Rattle.std.proofs.Common.{◌≡◌, Bool, take}
use Rattle.std.specs.List.{list_any}
use Rattle.nc_message.specs.declared.tree.Elem.{Elem}
use Rattle.nc_filter.specs.declared.runs.Run.{Run}
use Rattle.nc_filter.specs.inner.Runs.{IsKeyed, group_tells, want_tells}
use Rattle.nc_filter.proofs.reach.groups.Given as goal

abbrev pub invariant-loop-want : goal.invariant-loop-want
invariant-loop-want l = IsKeyed l.table.items l.runs → (test : Run → Elem → Bool) →
    list_any (group_tells l.runs test) l.out ≡ list_any (want_tells l.runs l.upper test) (take l.want-index l.wants)
