-- Where nodes stand among the rows of a data tree, and where an edit puts one (RFC 7950 7.5 to 7.9).
use Rattle.std.specs.Prelude.{◌==◌, ◌&&◌, ◌||◌, ℕ, Bool, true, false, not, if◌then◌else◌, ltb, List, [], ◌∷◌, ◌++◌, map, Option, Some, None, slice_get, option_map, option_and_then}
use Rattle.std.specs.List.{filter, filter_map, list_any, last_or}
use Rattle.std.specs.Option.{option_map_or}
use Rattle.std.specs.Ordering.{nat_cmp}
use Rattle.std.specs.Cmp.Lexicographic.{slice_cmp}
use Rattle.std.specs.declared.cmp.Ordering.{Ordering}
use Rattle.std.specs.declared.cmp.Ordering.TheVariants.{Less, Equal, Greater}
use Rattle.nc_names.specs.declared.path.Place.{Place}
use Rattle.nc_names.specs.declared.path.Place.TheVariants.{Kept, First, Last, Before, After}
use Rattle.nc_names.specs.declared.path.Row.{Row}
use Rattle.nc_names.specs.declared.path.Step.{Step}
use Rattle.nc_schema.specs.declared.node.Case.{Case}
use Rattle.nc_schema.specs.declared.node.Node.{Node}
use Rattle.nc_schema.specs.Order.{keys_above, sibling_place}
use Rattle.nc_schema.specs.Tables.{Tables}
use Rattle.nc_names.specs.Same.{is_same_keys, is_same_step, is_same_path, is_at_or_below}
use Rattle.nc_schema.specs.Kinds.{stands_for_itself}

-- the data node to which the steps lead
abbrev pub node_of : Tables → List Step → Option Node
node_of tables steps = option_and_then (λ step. slice_get tables.nodes step.node) (last_or None steps)

-- there is a row of the node to which the steps lead
abbrev pub has_row : List Row → List Step → Bool
has_row rows steps = list_any (λ row. is_same_path row.path.steps steps) rows

-- the rows at and below a node
abbrev pub block_at : List Row → List Step → List Row
block_at rows steps = filter (λ row. is_at_or_below steps row.path) rows

-- a node exists where there is a row at it or below it
abbrev pub exists : List Row → List Step → Bool
exists rows steps = list_any (λ row. is_at_or_below steps row.path) rows

-- the nodes above, from the top
abbrev pub above_of : List Step → List (List Step)
above_of [] = []
above_of (step ∷ rest) = [] ∷ map (λ above. step ∷ above) (above_of rest)

-- an entry or a container with presence above the node does not exist
abbrev pub lacks_above : Tables → List Row → List Step → Bool
lacks_above tables rows steps =
    list_any (λ above. option_map_or (λ node. stands_for_itself node.kind) (node_of tables above) false
    && not (has_row rows above)) (above_of steps)

-- the keys in a path to an entry of that list, or the value in one to an entry of that leaf-list
abbrev pub keys_in : List Step → ℕ → List Step → Option (List (List ℕ))
keys_in [] number (step ∷ []) = if step.node == number then Some step.keys else None
keys_in (over ∷ above) number (step ∷ rest) = if is_same_step over step then keys_in above number rest else None
keys_in above number steps = None

-- the entries of a list or leaf-list in their order
abbrev pub entries : List Row → List Step → ℕ → List (List (List ℕ))
entries rows above number = filter_map (λ row. keys_in above number row.path.steps) rows

-- the entry with these keys is among them
abbrev pub has_entry : List (List ℕ) → List (List (List ℕ)) → Bool
has_entry keys order = list_any (λ entry. is_same_keys entry keys) order

-- the entries but the one with these keys
abbrev pub without_entry : List (List ℕ) → List (List (List ℕ)) → List (List (List ℕ))
without_entry keys order = filter (λ entry. not (is_same_keys entry keys)) order

-- the entry keeps its place; a new one is put behind all others (RFC 7950 7.7.9, 7.8.6)
abbrev pub kept_or_last : List (List ℕ) → List (List (List ℕ)) → List (List (List ℕ))
kept_or_last keys order = if has_entry keys order then order else order ++ keys ∷ []

-- an entry put before the anchor; without the anchor it is not put anywhere
abbrev pub put_before : List (List ℕ) → List (List ℕ) → List (List (List ℕ)) → List (List (List ℕ))
put_before anchor keys [] = []
put_before anchor keys (entry ∷ more) =
    if is_same_keys entry anchor then keys ∷ entry ∷ more else entry ∷ put_before anchor keys more

-- an entry put after the anchor; without the anchor it is not put anywhere
abbrev pub put_after : List (List ℕ) → List (List ℕ) → List (List (List ℕ)) → List (List (List ℕ))
put_after anchor keys [] = []
put_after anchor keys (entry ∷ more) =
    if is_same_keys entry anchor then entry ∷ keys ∷ more else entry ∷ put_after anchor keys more

-- the entries in their order once one is put in its place (RFC 7950 7.7.9, 7.8.6). One that is put
-- beside itself keeps its place
abbrev pub placed : Place → List (List ℕ) → List (List (List ℕ)) → List (List (List ℕ))
placed Kept keys order = kept_or_last keys order
placed First keys order = keys ∷ without_entry keys order
placed Last keys order = without_entry keys order ++ keys ∷ []
placed (Before anchor) keys order =
    if is_same_keys anchor keys then kept_or_last keys order else put_before anchor keys (without_entry keys order)
placed (After anchor) keys order =
    if is_same_keys anchor keys then kept_or_last keys order else put_after anchor keys (without_entry keys order)

-- one entry stands before another
abbrev pub stands_before : List (List (List ℕ)) → List (List ℕ) → List (List ℕ) → Bool
stands_before [] keys others = false
stands_before (entry ∷ more) keys others =
    if is_same_keys entry others then false
    else (if is_same_keys entry keys then true else stands_before more keys others)

-- the comparison says that the first is less
abbrev pub is_less : Ordering → Bool
is_less Less = true
is_less Equal = false
is_less Greater = false

-- the user orders the entries of the data node (RFC 7950 7.7.7)
abbrev pub is_by_user : Tables → ℕ → Bool
is_by_user tables number = option_map_or (λ node. node.by_user) (slice_get tables.nodes number) false

-- entries of one list or leaf-list: as they stand in the order where the user orders them, else by
-- their keys (RFC 7950 7.7.7)
abbrev pub entry_before : Tables → List (List (List ℕ)) → Step → Step → Bool
entry_before tables order step other =
    if is_by_user tables step.node then stands_before order step.keys other.keys
    else is_less (slice_cmp (slice_cmp nat_cmp) step.keys other.keys)

-- one of two siblings before the other, in document order
abbrev pub sibling_before : Tables → List ℕ → List (List (List ℕ)) → Step → Step → Bool
sibling_before tables keys order step other =
    ltb (sibling_place keys step.node) (sibling_place keys other.node)
    || (step.node == other.node && entry_before tables order step other)

-- the place is that of the path's last step; above it every entry keeps its own
abbrev pub place_at : Place → List Step → Place
place_at place [] = place
place_at place (step ∷ rest) = Kept

-- a node before the one that is put in that place, in document order. `above` are the steps to both
abbrev pub steps_before : Tables → List Row → Place → List Step → List Step → List Step → Bool
steps_before tables rows place above [] [] = false
steps_before tables rows place above [] (other ∷ others) = true
steps_before tables rows place above (step ∷ steps) [] = false
steps_before tables rows place above (step ∷ steps) (other ∷ others) =
    if is_same_step step other then steps_before tables rows place (above ++ other ∷ []) steps others
    else sibling_before tables (keys_above tables (option_map (λ over. over.node) (last_or None above)))
    (placed (place_at place others) other.keys (entries rows above other.node)) step other

-- one list has a case of a choice of which the other has another case (RFC 7950 7.9)
abbrev pub cases_differ : List Case → List Case → Bool
cases_differ some others =
    list_any (λ one. list_any (λ other. one.choice == other.choice && not (one.case == other.case)) others) some

-- the cases to which a data node belongs (RFC 7950 7.9.2)
abbrev pub cases_of : Tables → ℕ → List Case
cases_of tables number = option_map_or (λ node. node.cases) (slice_get tables.nodes number) []

-- a node excludes another: they belong to two cases of one choice
abbrev pub excludes : Tables → List Step → List Step → Bool
excludes tables (step ∷ steps) (other ∷ others) =
    if is_same_step step other then excludes tables steps others
    else cases_differ (cases_of tables step.node) (cases_of tables other.node)
excludes tables steps others = false
