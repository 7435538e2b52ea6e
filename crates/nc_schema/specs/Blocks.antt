-- The rows at and below one node, and such rows among the others (RFC 7950 7.5 to 7.9).
use Rattle.nc_names.specs.Same.{is_at_or_below, is_same_path}
use Rattle.nc_names.specs.declared.path.Path.{Path}
use Rattle.nc_names.specs.declared.path.Place.{Place}
use Rattle.nc_names.specs.declared.path.Row.{Row}
use Rattle.nc_names.specs.declared.path.Step.{Step}
use Rattle.nc_schema.specs.Configuration.{key_rows}
use Rattle.nc_schema.specs.Standing.{entries, excludes, node_of, steps_before}
use Rattle.nc_schema.specs.Tables.{Tables}
use Rattle.nc_schema.specs.declared.node.Kind.{Kind}
use Rattle.nc_schema.specs.declared.node.Kind.TheVariants.{Container, Leaf, LeafList, List as ListKind}
use Rattle.std.specs.List.{filter, find, last_or, list_any}
use Rattle.std.specs.Option.{option_map_or}
use Rattle.std.specs.Prelude.{ℕ, Bool, List, None, Option, [], false, if◌then◌else◌, not, ◌++◌, ◌||◌, ◌∷◌}

-- the rows that a node has by itself: an entry with those of its keys; none at a container without presence
abbrev pub own_rows : Kind → List ℕ → Path → List (List ℕ) → Option (List ℕ) → List Row
own_rows (Container presence) keys path values value =
    if presence then record { path = path; value = None } ∷ [] else []
own_rows Leaf keys path values value = record { path = path; value = value } ∷ []
own_rows LeafList keys path values value = record { path = path; value = value } ∷ []
own_rows ListKind keys path values value = record { path = path; value = None } ∷ key_rows path.steps keys values

-- the rows that the node at a path has by itself, with that value (RFC 7950 7.5 to 7.8)
abbrev pub rows_of_node : Tables → Path → Option (List ℕ) → List Row
rows_of_node tables path value =
    option_map_or
    (λ node.
    own_rows node.kind node.keys path (option_map_or (λ step. step.keys) (last_or None path.steps) []) value)
    (node_of tables path.steps) []

-- the path leads to a data node whose kind passes
abbrev pub at_node : Tables → Path → (Kind → Bool) → Bool
at_node tables path test = option_map_or (λ node. test node.kind) (node_of tables path.steps) false

-- the other rows: those of other cases go (RFC 7950 7.9)
abbrev pub other_rows : Tables → List Row → List Step → List Row → List Row
other_rows tables rows steps block =
    filter (λ row.
    not (is_at_or_below steps row.path
    || list_any (λ added. excludes tables added.path.steps row.path.steps) block)) rows

-- the block in its place among the other rows
abbrev pub with_block : Tables → List Row → Path → Place → List Row → List Row
with_block tables rows path place block =
    let others = other_rows tables rows path.steps block in
    filter (λ row. steps_before tables rows place [] row.path.steps path.steps) others
    ++ block ++ filter (λ row. not (steps_before tables rows place [] row.path.steps path.steps)) others

-- the row at a path
abbrev pub row_at : List Row → List Step → Option Row
row_at rows steps = find (λ row. is_same_path row.path.steps steps) rows

-- the steps but the last
abbrev pub above_from : Step → List Step → List Step
above_from step [] = []
above_from step (next ∷ rest) = step ∷ above_from next rest

-- the steps to the node in which the one at these steps stands
abbrev pub above_last : List Step → List Step
above_last [] = []
above_last (step ∷ rest) = above_from step rest

-- the entries of the list or leaf-list to whose entry the steps lead
abbrev pub entries_beside : List Row → List Step → List (List (List ℕ))
entries_beside rows steps = option_map_or (λ step. entries rows (above_last steps) step.node) (last_or None steps) []
