use Rattle.std.proofs.Common.{◌≡◌, ◌++◌, drop, not}
use Rattle.std.specs.Prelude.{map}
use Rattle.std.specs.List.{filter, filter_map}
use Rattle.nc_protocol.specs.Elements.{elem_of}
use Rattle.nc_protocol.specs.Filter.{is_containment}
use Rattle.nc_filter.specs.inner.Labels.{elem_label, level_labels}
use Rattle.nc_filter.proofs.labels.level_labels.Given as goal

abbrev pub invariant-loop-part : goal.invariant-loop-part
invariant-loop-part l =
    l.out ++ map elem_label (filter (λ elem. not (is_containment elem)) (filter_map elem_of (drop l.part-index l.part-items))) ≡ level_labels l.fn.elem
