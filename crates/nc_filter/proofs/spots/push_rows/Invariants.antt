use Rattle.std.proofs.Common.{◌≡◌, ◌||◌, ℕ, Bool, take}
use Rattle.std.specs.Prelude.{map}
use Rattle.std.specs.List.{list_any}
use Rattle.nc_names.specs.declared.path.Row.{Row}
use Rattle.nc_filter.proofs.spots.push_rows.Given as goal

abbrev pub invariant-loop-row : goal.invariant-loop-row
invariant-loop-row l = (f : ℕ → Row → Bool) →
    list_any (λ spot. f spot.number spot.row.now) l.spots
    ≡ (list_any (λ spot. f spot.number spot.row.now) l.fn.spots || list_any (f l.number) (map (λ row. row.now) (take l.row-index l.rows)))
