use Rattle.std.proofs.Common.{take}
use Rattle.std.specs.Prelude.{map}
use Rattle.nc_filter.specs.inner.Instances.{AddsNames}
use Rattle.nc_filter.proofs.asked.with_names.Given as goal

abbrev pub invariant-loop-elem : goal.invariant-loop-elem
invariant-loop-elem l = AddsNames (map (λ elem. elem.now) (take l.elem-index l.elems)) l.fn.names l.names
