use Rattle.std.proofs.Common.{◌≡◌, ◌&&◌, ◌||◌, Bool, take}
use Rattle.std.specs.Prelude.{map}
use Rattle.std.specs.List.{list_any}
use Rattle.nc_names.specs.declared.path.Row.{Row}
use Rattle.nc_filter.specs.inner.Labels.{at}
use Rattle.nc_filter.specs.inner.Sets.{bit_of}
use Rattle.nc_filter.proofs.flat.with_spots.Given as goal

abbrev pub invariant-loop-number : goal.invariant-loop-number
invariant-loop-number l = (test : Row → Bool) →
    list_any test (map (λ row. row.now) l.out)
    ≡ (list_any test (map (λ row. row.now) l.fn.out) || list_any (at l.spots (λ spot. bit_of l.set spot.number && test spot.row.now)) (take l.number-index l.some))
