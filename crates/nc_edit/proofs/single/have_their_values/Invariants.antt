use Rattle.std.proofs.Common.{◌≡◌, List, drop, map}
use Rattle.std.specs.List.{list_all}
use Rattle.nc_names.specs.declared.path.Row.{Row}
use Rattle.nc_tree.specs.Finding.{Finds}
use Rattle.nc_edit.specs.inner.Single.{has_its_value}
use Rattle.nc_edit.proofs.single.have_their_values.Given as goal

abbrev pub invariant-loop-row : goal.invariant-loop-row
invariant-loop-row l =
    (all : List Row) → Finds l.found all →
    list_all (has_its_value all) (map (λ row. row.now) (drop l.row-index l.rows)) ≡ list_all (has_its_value all) (map (λ row. row.now) l.rows)
