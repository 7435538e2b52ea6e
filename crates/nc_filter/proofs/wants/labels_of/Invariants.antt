use Rattle.std.proofs.Common.{◌≡◌, ◌++◌, drop}
use Rattle.std.specs.Prelude.{map}
use Rattle.std.specs.List.{flat_map}
use Rattle.nc_filter.specs.inner.Labels.{level_labels}
use Rattle.nc_filter.proofs.wants.labels_of.Given as goal

abbrev pub invariant-loop-elem : goal.invariant-loop-elem
invariant-loop-elem l =
    l.out ++ flat_map level_labels (map (λ elem. elem.now) (drop l.elem-index l.elems)) ≡ flat_map level_labels (map (λ elem. elem.now) l.elems)
