use Rattle.std.proofs.Common.{◌≡◌, ◌||◌, Bool, take}
use Rattle.std.specs.Prelude.{map}
use Rattle.std.specs.List.{list_any}
use Rattle.nc_names.specs.declared.path.Row.{Row}
use Rattle.nc_filter.specs.inner.Labels.{label_picks}
use Rattle.nc_filter.proofs.flat.pick_labels.Given as goal

abbrev pub invariant-loop-label : goal.invariant-loop-label
invariant-loop-label l = (test : Row → Bool) →
    list_any test (map (λ row. row.now) l.out)
    ≡ (list_any test (map (λ row. row.now) l.fn.out) || list_any (label_picks l.schema l.depth l.spots l.wants test) (take l.label-index l.some))
