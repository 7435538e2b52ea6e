use Rattle.std.proofs.Common.{◌≡◌, ◌&&◌, ◌||◌, ◌*◌, ◌+◌, ◌-◌, ◌^◌, Bool, List, length}
use Rattle.std.specs.Prelude.{map}
use Rattle.std.specs.List.{list_any}
use Rattle.nc_names.specs.declared.path.Row.{Row}
use Rattle.nc_filter.specs.inner.Names.{AreNames}
use Rattle.nc_filter.specs.inner.Picks.{picked}
use Rattle.nc_filter.specs.inner.Tables.{IsIndex}
use Rattle.nc_filter.proofs.walk.+pick.Given as goal

abbrev pub decreases-pick_level : goal.decreases-pick_level
decreases-pick_level l = 8 * (2 ^ 64 - l.depth)

abbrev pub decreases-pick_node : goal.decreases-pick_node
decreases-pick_node l = 8 * (2 ^ 64 - l.depth) - 2

abbrev pub decreases-pick_some : goal.decreases-pick_some
decreases-pick_some l = 8 * (2 ^ 64 - l.depth) - 1

abbrev pub decreases-pick_within : goal.decreases-pick_within
decreases-pick_within l = 8 * (2 ^ 64 - l.depth) + 4

abbrev pub decreases-pick_open : goal.decreases-pick_open
decreases-pick_open l = 8 * (2 ^ 64 - l.depth) + 1

abbrev pub invariant-pick_level-nodes : goal.invariant-pick_level-nodes
invariant-pick_level-nodes l =
    (all : List Row) → IsIndex l.basis.index.table all → AreNames l.level.items l.level.elems l.level.elems → (test : Row → Bool) →
    (list_any test (map (λ row. row.now) l.out) || list_any (λ row. picked l.basis.schema.now all l.depth (map (λ elem. elem.now) l.level.elems) row && test row) (map (λ row. row.now) l.rest))
    ≡ (list_any test (map (λ row. row.now) l.fn.out) || list_any (λ row. picked l.basis.schema.now all l.depth (map (λ elem. elem.now) l.level.elems) row && test row) (map (λ row. row.now) l.rows))

abbrev pub decreases-pick_level-nodes : goal.decreases-pick_level-nodes
decreases-pick_level-nodes l = length l.rest
