use Rattle.std.proofs.Common.{◌≡◌, ◌++◌, drop}
use Rattle.std.specs.Prelude.{map}
use Rattle.nc_filter.proofs.wants.same_elems.Given as goal

abbrev pub invariant-loop-elem : goal.invariant-loop-elem
invariant-loop-elem l = map (λ elem. elem.now) l.out ++ map (λ elem. elem.now) (drop l.elem-index l.elems) ≡ map (λ elem. elem.now) l.elems
