use Rattle.std.proofs.Common.{◌≡◌, drop}
use Rattle.std.specs.Prelude.{map}
use Rattle.std.specs.List.{list_any}
use Rattle.nc_protocol.specs.Filter.{is_of_matches, level_of}
use Rattle.nc_filter.proofs.level.has_level_of_matches.Given as goal

abbrev pub invariant-loop-elem : goal.invariant-loop-elem
invariant-loop-elem l =
    list_any (λ elem. is_of_matches (level_of elem)) (map (λ elem. elem.now) (drop l.elem-index l.elems)) ≡ list_any (λ elem. is_of_matches (level_of elem)) (map (λ elem. elem.now) l.elems)
