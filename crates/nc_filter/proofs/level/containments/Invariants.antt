use Rattle.std.proofs.Common.{◌≡◌, ◌++◌, drop}
use Rattle.std.specs.Prelude.{map}
use Rattle.std.specs.List.{filter}
use Rattle.nc_protocol.specs.Filter.{is_containment}
use Rattle.nc_filter.proofs.level.containments.Given as goal

abbrev pub invariant-loop-elem : goal.invariant-loop-elem
invariant-loop-elem l =
    map (λ elem. elem.now) l.out ++ filter is_containment (map (λ elem. elem.now) (drop l.elem-index l.elems)) ≡ filter is_containment (map (λ elem. elem.now) l.elems)
