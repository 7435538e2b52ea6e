-- The violations of a place, one data node and one choice after another.
use Rattle.std.specs.Prelude.{◌==◌, ◌&&◌, ◌++◌, ◌∷◌, ◌<◌, ◌≤◌, ℕ, Bool, false, not, if◌then◌else◌, ltb, length, drop, IfSome}
use Rattle.std.specs.Prelude.{List, [], Option, Some, None, slice_get}
use Rattle.std.specs.List.{enumerate_from, filter, flat_map}
use Rattle.std.specs.Option.{option_map_or}
use Rattle.nc_names.specs.declared.cause.CauseKind.{CauseKind}
use Rattle.nc_names.specs.declared.cause.CauseKind.TheVariants.{Mandatory, TooFew, TooMany}
use Rattle.nc_schema.specs.InUse.{stands_in}
use Rattle.nc_schema.specs.Kinds.{has_entries, is_leaf}
use Rattle.nc_schema.specs.Places.{Place, is_made, parts_of, places_of}
use Rattle.nc_schema.specs.Tables.{Tables}
use Rattle.nc_schema.specs.Violations.{bare_violations, child_violations, choice_violations, is_choice_before}
use Rattle.nc_schema.specs.Violations.{is_required, unique_violations, violated}
use Rattle.nc_schema.specs.declared.node.Case.{Case}
use Rattle.nc_schema.specs.declared.node.Choice.{Choice}
use Rattle.nc_schema.specs.declared.node.Node.{Node}
use Rattle.nc_schema.specs.declared.violation.Violation.{Violation}

-- those of a data node, where it stands in the place
abbrev pub node_at : Tables → Place → ℕ × Node → List Violation
node_at tables place one = if stands_in one.1.parent place then child_violations tables place one.0 one.1 else []

-- those of the data nodes from a number on
abbrev pub nodes_from : Tables → Place → ℕ → List Violation
nodes_from tables place number = flat_map (node_at tables place) (enumerate_from number (drop number tables.nodes))

-- those of the data node of a number, in a place where it stands
abbrev pub child_at : Tables → Place → ℕ → List Violation
child_at tables place number = option_map_or (child_violations tables place number) (slice_get tables.nodes number) []

-- those of a choice without data nodes, where it stands in the place
abbrev pub bare_at : Tables → Place → ℕ × Choice → List Violation
bare_at tables place one = if stands_in one.1.parent place then bare_violations tables place one.0 else []

-- those of the choices without data nodes, from a number on
abbrev pub bare_from : Tables → Place → ℕ → List Violation
bare_from tables place number = flat_map (bare_at tables place) (enumerate_from number (drop number tables.choices))

-- a choice is mandatory in a place, and no node of it exists there
abbrev pub choice_lacks : Tables → Place → ℕ → Bool
choice_lacks tables place number =
    option_map_or (λ choice. choice.mandatory && not (is_made tables place number)
    && is_required tables place choice.within)
    (slice_get tables.choices number) false

-- those of a choice, unless one of the first so many data nodes is of it
abbrev pub begun_violations : Tables → Place → ℕ → ℕ → List Violation
begun_violations tables place number choice =
    if is_choice_before tables number choice then [] else choice_violations tables place choice

-- those of the choices that begin at a data node with these cases
abbrev pub begun_choices : Tables → Place → ℕ → List Case → List Violation
begun_choices tables place number cases =
    flat_map (λ one. choice_violations tables place one.choice)
    (filter (λ one. not (is_choice_before tables number one.choice)) cases)

-- what is broken where so many instances of a data node stand
abbrev pub count_fault : Node → ℕ → Bool → Option CauseKind
count_fault node count required =
    if is_leaf node.kind && node.mandatory && count == 0 && required then Some Mandatory
    else (if has_entries node.kind && ltb count node.least && required then Some TooFew
    else (if has_entries node.kind && option_map_or (λ most. ltb most count) node.most false then Some TooMany
    else None))

-- so many instances among so many rows that one more breaks nothing, and mends nothing
pub record IsEnough (node : Node) (rows enough : ℕ) : Type 0 where
  pub some : 1 ≤ enough
  pub least : node.least ≤ enough
  pub most : IfSome node.most (λ most. most < rows → most < enough)

-- those of the number of instances of a data node
abbrev pub count_violations : Tables → Place → ℕ → Node → List Violation
count_violations tables place number node =
    let count = length (parts_of place number) in
    let child = place.steps ++ record { node = number; keys = [] } ∷ [] in
    let required = is_required tables place node.cases in
    violated (is_leaf node.kind && node.mandatory && count == 0 && required) Mandatory child
    ++ violated (has_entries node.kind && ltb count node.least && required) TooFew child
    ++ violated (has_entries node.kind && option_map_or (λ most. ltb most count) node.most false) TooMany child

-- those of the `unique` statements of a data node
abbrev pub uniques_of : Tables → Place → ℕ → Node → List Violation
uniques_of tables place number node =
    flat_map (unique_violations tables (places_of tables place number node)) node.uniques
