use Rattle.std.proofs.Common.{◌≡◌, drop}
use Rattle.std.specs.List.{list_all}
use Rattle.nc_yang_types.specs.Features.{lets}
use Rattle.nc_yang_types.proofs.features.stands.Given as goal

abbrev pub invariant-loop-below : goal.invariant-loop-below
invariant-loop-below g l =
    list_all (lets (g.F.Features.on l.features) l.text) l.below-items
    ≡ list_all (lets (g.F.Features.on l.features) l.text) (drop l.below-index l.below-items)
