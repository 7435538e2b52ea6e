-- The places of a payload's elements, kept in a set with those above them.
use Rattle.std.specs.Prelude.{◌≡◌, ◌||◌, ℕ, Bool, true, false, List, [], ◌∷◌, ◌++◌, Option, option_map, Result, Ok, Err}
use Rattle.std.specs.List.{flat_map, list_any}
use Rattle.std.specs.Option.{option_map_or}
use Rattle.std.specs.BTreeSet.{contains}
use Rattle.std.specs.declared.cmp.Ordering.{Ordering}
use Rattle.std.specs.Cmp.Lexicographic.{slice_cmp}
use Rattle.nc_names.specs.contracts.path.StepOrd.TheImpl.{ghosts}
use Rattle.nc_names.specs.Same.{is_at_or_below, is_same_path}
use Rattle.nc_names.specs.declared.memory.Memory.{Memory as NoMemory}
use Rattle.nc_names.specs.declared.path.Path.{Path}
use Rattle.nc_names.specs.declared.path.Step.{Step}
use Rattle.nc_message.specs.declared.tree.Elem.{Elem}
use Rattle.nc_schema.specs.Tables.{Tables}
use Rattle.nc_protocol.specs.declared.datastore.Origin.{Origin}
use Rattle.nc_protocol.specs.declared.datastore.Origin.TheVariants.{Inline, Store}
use Rattle.nc_protocol.specs.declared.edit.Edit.{Edit}
use Rattle.nc_protocol.specs.declared.request.Cause.{Cause}
use Rattle.nc_protocol.specs.Elements.{Reading, Named, keys_read, named}
use Rattle.nc_protocol.specs.Payload.{element_places, is_at_fault, part_places, reading_of, rows_of, stands_in}
use Rattle.nc_payload.specs.declared.payload_paths.Places.{Places}

-- steps are ordered by their nodes, then by their keys
abbrev pub order : List Step → List Step → Ordering
order steps others = slice_cmp ghosts.cmp steps others

-- the node of some steps is a place or above one; above all places is the root
abbrev pub has : Places → List Step → Bool
has places [] = places.some
has places (step ∷ steps) = contains order places.items (step ∷ steps)

-- the node of a path is a place or above one
abbrev pub has_place : Places → Path → Bool
has_place places path = has places path.steps

-- some steps lead to one of the places, or to a node above one
abbrev pub is_above_any : List (List Step) → List Step → Bool
is_above_any list key = list_any (λ steps. is_at_or_below key (record { steps = steps })) list

-- one place more
abbrev pub AddsPlace : Places → Places → List Step → Type 0
AddsPlace before after steps =
    (after.some ≡ true) ×
    ((key : List Step) → contains order after.items key ≡ (contains order before.items key || is_same_path steps key))

-- places and those above them are there too
abbrev pub AddsPlaces : Places → Places → List (List Step) → Type 0
AddsPlaces before after list = (key : List Step) → has after key ≡ (has before key || is_above_any list key)

-- a node and those above it are there, but for the root
abbrev pub HasAbove : Places → List Step → Type 0
HasAbove places above =
    (first : Step) (rest : List Step) → is_at_or_below (first ∷ rest) (record { steps = above }) ≡ true →
    has places (first ∷ rest) ≡ true

-- the steps to an element's node, where its keys have a reading
abbrev pub ends_at : Reading → List Step → Named → Option (List Step)
ends_at reading above named =
    option_map (λ keys. above ++ record { node = named.number; keys = keys } ∷ [])
    (keys_read reading named.node.kind named)

-- the places of an element and of what is in it
abbrev pub inside_places : Reading → List Step → Option ℕ → Elem → List (List Step)
inside_places reading above parent elem =
    element_places reading above (named reading parent elem)
    (λ steps number. flat_map (part_places reading steps number) elem.parts)

-- the path of the fault of what is read, where there is one; want of memory is free
abbrev pub FaultOf : Result (List Edit) Cause → Result (Option Path) NoMemory → Type 0
FaultOf defined (Ok fault) =
    (path : Path) → option_map_or (λ at. is_same_path at.steps path.steps) fault false ≡ is_at_fault defined path
FaultOf defined (Err memory) = Unit {0}

-- the paths that the source of a request names
abbrev pub origin_names : Tables → Origin → Path → Bool
origin_names tables (Inline config) path =
    stands_in (reading_of tables) config path || is_at_fault (rows_of tables config) path
origin_names tables (Store datastore) path = false
