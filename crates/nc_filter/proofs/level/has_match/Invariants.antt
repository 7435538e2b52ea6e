use Rattle.std.proofs.Common.{◌≡◌, drop}
use Rattle.std.specs.Prelude.{map}
use Rattle.std.specs.List.{list_any}
use Rattle.nc_filter.specs.inner.Picks.{is_guarded}
use Rattle.nc_filter.proofs.level.has_match.Given as goal

abbrev pub invariant-loop-elem : goal.invariant-loop-elem
invariant-loop-elem l =
    list_any is_guarded (map (λ elem. elem.now) (drop l.elem-index l.elems)) ≡ list_any is_guarded (map (λ elem. elem.now) l.elems)
