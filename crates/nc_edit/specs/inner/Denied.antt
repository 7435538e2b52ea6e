-- The first change of an edit that is denied, found one change after another.
use Rattle.std.specs.Prelude.{◌&&◌, ℕ, Bool, false, not, if◌then◌else◌, List, map, Option, Some, None, fold, is_some, slice_get}
use Rattle.std.specs.List.{filter, filter_map}
use Rattle.std.specs.Option.{option_map_or}
use Rattle.nc_names.specs.declared.path.Path.{Path}
use Rattle.nc_names.specs.declared.path.Right.{Right}
use Rattle.nc_names.specs.declared.path.Right.TheVariants.{Delete}
use Rattle.nc_names.specs.declared.path.Row.{Row}
use Rattle.nc_names.specs.declared.path.Step.{Step}
use Rattle.nc_schema.specs.Standing.{block_at, has_row, node_of}
use Rattle.nc_schema.specs.Tables.{Tables}
use Rattle.nc_protocol.specs.Changes.{is_missing}
use Rattle.nc_protocol.specs.Edited.{Change, change_at, earlier, gives_way}
use Rattle.nc_protocol.specs.declared.access.Decision.{Decision}
use Rattle.nc_edit.specs.declared.asked.Asking.{Asking}

-- the change that the code's own stands for
abbrev pub meaning : Asking → Change
meaning asking = record { path = asking.path; right = asking.right }

-- the change that comes first, of a change and the first one so far, if there is one
abbrev pub first_of : Tables → List Row → Option Change → Change → Option Change
first_of tables rows None change = Some change
first_of tables rows (Some first) change = Some (earlier tables rows first change)

-- the first denied change so far, with one more
abbrev pub next_denied : Tables → (Path → Right → Decision) → List Row → Option Change → Change → Option Change
next_denied tables rights rows so_far change =
    if (rights change.path change.right).permit then so_far else first_of tables rows so_far change

-- the data node belongs to a case of a choice
abbrev pub has_case : Tables → ℕ → Bool
has_case tables number = option_map_or (λ node. is_some (slice_get node.cases 0)) (slice_get tables.nodes number) false

-- a row that an edit deletes: it is not among the new ones, and does not give way to another case
unfoldable pub is_dropped : Tables → List Row → Row → Bool
is_dropped tables block row = is_missing block row && not (gives_way tables block row)

-- the changes of those of some rows that an edit deletes
abbrev pub dropped_of : Tables → List Row → List Row → List Change
dropped_of tables block rows =
    map (λ row. record { path = row.path; right = Delete }) (filter (is_dropped tables block) rows)

-- the changes of those rows at a path and below it that an edit deletes
abbrev pub dropped : Tables → List Row → Path → List Row → List Change
dropped tables rows path block = dropped_of tables block (block_at rows path.steps)

-- the steps lead to an entry that the user orders
abbrev pub is_ordered : Tables → List Step → Bool
is_ordered tables steps = option_map_or (λ node. node.by_user) (node_of tables steps) false

-- such an entry stands already
abbrev pub stands_ordered : Tables → List Row → Row → Bool
stands_ordered tables rows row = is_ordered tables row.path.steps && has_row rows row.path.steps

-- the first denied change, where `after` is what stands afterwards
abbrev pub first_among : Tables → (Path → Right → Decision) → List Row → List Row → Path → List Row → Option Change
first_among tables rights rows after path block =
    fold (next_denied tables rights rows) (fold (next_denied tables rights rows) None (dropped tables rows path block))
    (filter_map (change_at tables rows after) block)
