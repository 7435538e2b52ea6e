use Rattle.std.proofs.Common.{◌≡◌, ◌++◌, drop}
use Rattle.std.specs.List.{flat_map}
use Rattle.nc_filter.proofs.wants.all_labels.Given as goal

abbrev pub invariant-loop-want : goal.invariant-loop-want
invariant-loop-want l =
    l.out ++ flat_map (λ want. want.labels) (drop l.want-index l.wants) ≡ flat_map (λ want. want.labels) l.wants
