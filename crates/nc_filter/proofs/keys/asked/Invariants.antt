use Rattle.std.proofs.Common.{◌≡◌, ◌++◌, drop}
use Rattle.std.specs.Prelude.{map}
use Rattle.std.specs.List.{filter, filter_map}
use Rattle.nc_protocol.specs.Elements.{elem_of}
use Rattle.nc_protocol.specs.Filter.{is_content_match}
use Rattle.nc_filter.specs.inner.Keys.{asked, elem_key}
use Rattle.nc_filter.proofs.keys.asked.Given as goal

abbrev pub invariant-loop-part : goal.invariant-loop-part
invariant-loop-part l =
    l.out ++ map elem_key (filter is_content_match (filter_map elem_of (drop l.part-index l.part-items))) ≡ asked l.fn.elem
