use Rattle.std.proofs.Common.{take}
use Rattle.std.specs.Prelude.{map}
use Rattle.nc_filter.specs.inner.Tables.{HasTexts}
use Rattle.nc_filter.proofs.texts.texts.Given as goal

abbrev pub invariant-loop-elem : goal.invariant-loop-elem
invariant-loop-elem l =
    HasTexts l.items (map (λ elem. elem.now) (take l.elem-index l.elems))
