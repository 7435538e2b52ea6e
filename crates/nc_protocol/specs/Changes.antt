-- How two configurations differ (RFC 7950 3, 7.7.7; RFC 8341 3.2.2).
use Rattle.std.specs.Prelude.{◌&&◌, ◌||◌, ℕ, Bool, true, false, not, List, map, Option, Some, None}
use Rattle.std.specs.List.{filter, last_or, take_while}
use Rattle.std.specs.Option.{option_map_or}
use Rattle.nc_names.specs.Same.{is_same_keys, is_same_value}
use Rattle.nc_names.specs.declared.path.Path.{Path}
use Rattle.nc_names.specs.declared.path.Row.{Row}
use Rattle.nc_names.specs.declared.path.Step.{Step}
use Rattle.nc_schema.specs.Blocks.{entries_beside, row_at}
use Rattle.nc_schema.specs.Standing.{has_entry, has_row, is_by_user}
use Rattle.nc_schema.specs.Tables.{Tables}
use Rattle.nc_protocol.specs.declared.changes.Changes.{Changes}

-- those of the entries that are among others too
abbrev pub entries_among : List (List (List ℕ)) → List (List (List ℕ)) → List (List (List ℕ))
entries_among others order = filter (λ entry. has_entry entry others) order

-- the entry directly before another
abbrev pub entry_above : List (List ℕ) → List (List (List ℕ)) → Option (List (List ℕ))
entry_above keys order = last_or None (take_while (λ entry. not (is_same_keys entry keys)) order)

-- two entries are one, or there is none in either place
abbrev pub is_same_entry : Option (List (List ℕ)) → Option (List (List ℕ)) → Bool
is_same_entry None None = true
is_same_entry (Some a) (Some b) = is_same_keys a b
is_same_entry a b = false

-- an entry has moved from one order to another: of the entries that both have, not the same one stands directly
-- before it
abbrev pub moves_between : List (List (List ℕ)) → List (List (List ℕ)) → List (List ℕ) → Bool
moves_between old new keys =
    not (is_same_entry (entry_above keys (entries_among new old)) (entry_above keys (entries_among old new)))

-- so has the entry to which the steps lead, in a list or leaf-list that the user orders
abbrev pub has_moved : Tables → List Row → List Row → List Step → Bool
has_moved tables old new steps =
    option_map_or (λ step. is_by_user tables step.node
    && moves_between (entries_beside old steps) (entries_beside new steps) step.keys) (last_or None steps) false

-- rows, before or after, do not have the row's path
abbrev pub is_missing : List Row → Row → Bool
is_missing rows row = not (has_row rows row.path.steps)

-- a row of both has another value than before, or is an entry that has moved
abbrev pub is_updated : Tables → List Row → List Row → Row → Bool
is_updated tables old new row =
    option_map_or (λ before. not (is_same_value before.value row.value) || has_moved tables old new row.path.steps)
    (row_at old row.path.steps) false

-- the paths of rows
abbrev pub paths_of : List Row → List Path
paths_of rows = map (λ row. row.path) rows

-- the changes from one configuration to another
abbrev pub changes_between : Tables → List Row → List Row → Changes
changes_between tables old new = record {
  created = paths_of (filter (is_missing old) new);
  updated = paths_of (filter (is_updated tables old new) new);
  deleted = paths_of (filter (is_missing new) old);
}
