-- The nodes that the selects of a request for a partial lock name (RFC 5717 2.4.1).
use Rattle.std.specs.Prelude.{if◌then◌else◌, Bool, List, Option, Some, None}
use Rattle.std.specs.List.{filter, filter_map}
use Rattle.nc_names.specs.declared.path.Path.{Path}
use Rattle.nc_names.specs.declared.path.Row.{Row}
use Rattle.nc_schema.specs.Tables.{Tables}
use Rattle.nc_protocol.specs.declared.asked.Select.{Select}
use Rattle.nc_model.specs.Verdict.{are_selects, each_once, is_matched, selected_path}

-- the nodes that selects name, in their order, where each of them names a node of the schema
abbrev pub paths_of : Tables → List Select → Option (List Path)
paths_of tables selects =
    if are_selects tables selects then Some (filter_map (selected_path tables) selects) else None

-- those of the nodes that exist among the rows, each once
abbrev pub nodes_among : Tables → List Row → List Path → List Path
nodes_among tables rows paths = each_once (filter (is_matched tables rows) paths)

-- the rows whose paths are seen
abbrev pub rows_seen : (Path → Bool) → List Row → List Row
rows_seen seen rows = filter (λ row. seen row.path) rows

-- those of the nodes that exist among them, each once
abbrev pub nodes_seen : Tables → (Path → Bool) → List Row → List Path → List Path
nodes_seen tables seen rows paths = nodes_among tables (rows_seen seen rows) paths
