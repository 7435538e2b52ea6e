use Rattle.std.proofs.Common.{◌≡◌, ◌++◌, drop}
use Rattle.std.specs.Prelude.{map}
use Rattle.std.specs.List.{filter_map}
use Rattle.nc_protocol.specs.Elements.{elem_of}
use Rattle.nc_filter.proofs.level.push_level.Given as goal

abbrev pub invariant-loop-part : goal.invariant-loop-part
invariant-loop-part l =
    map (λ elem. elem.now) l.elems ++ filter_map elem_of (drop l.part-index l.part-items) ≡ map (λ elem. elem.now) l.initial.elems ++ filter_map elem_of l.parts
