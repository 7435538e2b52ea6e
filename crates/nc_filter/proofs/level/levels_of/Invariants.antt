use Rattle.std.proofs.Common.{◌≡◌, ◌++◌, drop}
use Rattle.std.specs.Prelude.{map}
use Rattle.std.specs.List.{flat_map}
use Rattle.nc_protocol.specs.Filter.{level_of}
use Rattle.nc_filter.proofs.level.levels_of.Given as goal

abbrev pub invariant-loop-elem : goal.invariant-loop-elem
invariant-loop-elem l =
    map (λ elem. elem.now) l.out ++ flat_map level_of (map (λ elem. elem.now) (drop l.elem-index l.elems)) ≡ flat_map level_of (map (λ elem. elem.now) l.elems)
