-- The one entry outside of which a filter keeps nothing, as it is looked up.
use Rattle.std.specs.Prelude.{◌≡◌, ◌≢◌, ◌⊎◌, ◌+◌, ℕ, Bool, true, false, List, [], ◌∷◌, ◌++◌, Option, Some, None, IfSome, map, slice_get}
use Rattle.std.specs.List.{Contains}
use Rattle.std.specs.Option.{option_map_or}
use Rattle.nc_names.specs.Ends.{trimmed}
use Rattle.nc_names.specs.declared.path.Path.{Path}
use Rattle.nc_names.specs.declared.path.Place.TheVariants.{Kept}
use Rattle.nc_names.specs.declared.path.Row.{Row}
use Rattle.nc_names.specs.declared.path.Step.{Step}
use Rattle.nc_message.specs.declared.tree.Elem.{Elem}
use Rattle.nc_schema.specs.Children.{IsChild}
use Rattle.nc_schema.specs.Kinds.{has_entries}
use Rattle.nc_schema.specs.Standing.{steps_before}
use Rattle.nc_schema.specs.Tables.{Tables}
use Rattle.nc_schema.specs.declared.node.Kind.TheVariants.{List as ListKind}
use Rattle.nc_schema.specs.declared.node.Node.{Node}
use Rattle.nc_protocol.specs.Elements.{whole_text}
use Rattle.nc_protocol.specs.Filter.{is_content_match, level_of}
use Rattle.nc_filter.specs.declared.entry.Aim.{Aim}
use Rattle.nc_filter.specs.inner.Front.{AreBare, LeadBy}

-- an element names, with its namespace, a data node among those in a node, or at the top
abbrev pub NamesChild : Tables → Option ℕ → Elem → ℕ → Type 0
NamesChild tables parent elem number =
    (elem.name.space ≢ [])
    × (node : Node) × (slice_get tables.nodes number ≡ Some node) × IsChild parent elem.name node

-- lists and leaf-lists have entries
abbrev pub number_has_entries : Tables → ℕ → Bool
number_has_entries tables number = option_map_or (λ node. has_entries node.kind) (slice_get tables.nodes number) true

-- elements name one node in the other, none of which has entries: these are the steps, and `last` the last of the nodes
abbrev pub LeadIn : Tables → Option ℕ → List Elem → List Step → Option ℕ → Type 0
LeadIn tables parent [] [] last = parent ≡ last
LeadIn tables parent (elem ∷ elems) (step ∷ steps) last =
    NamesChild tables parent elem step.node × (number_has_entries tables step.node ≡ false) × (step.keys ≡ [])
    × LeadIn tables (Some step.node) elems steps last
LeadIn tables parent elems steps last = ⊥

-- a filter leads to the first node with entries by containment nodes, each all that stands at its level
abbrev pub IsAim : Tables → Elem → Aim → Type 0
IsAim tables from aim =
    LeadBy from (map (λ elem. elem.now) aim.elems ++ aim.last.now ∷ []) aim.last.now
    × (map (λ elem. elem.now) aim.level ≡ level_of aim.last.now)
    × (parent : Option ℕ) × LeadIn tables None (map (λ elem. elem.now) aim.elems) aim.above parent
    × NamesChild tables parent aim.last.now aim.list

-- a list that the system orders
abbrev pub IsOrderedList : Tables → ℕ → Node → Type 0
IsOrderedList tables number node =
    (slice_get tables.nodes number ≡ Some node) × (node.kind ≡ ListKind) × (node.by_user ≡ false)

-- a content match of a level asks for a text of a node in a list
abbrev pub AsksFor : Tables → List Elem → ℕ → ℕ → List ℕ → Type 0
AsksFor tables level list number text =
    (elem : Elem) × Contains level elem × (is_content_match elem ≡ true) × NamesChild tables (Some list) elem number
    × (text ≡ trimmed (whole_text elem.parts))

-- so it is with each key of a list
abbrev pub AskForAll : Tables → List Elem → ℕ → List ℕ → List (List ℕ) → Type 0
AskForAll tables level list [] [] = Unit {0}
AskForAll tables level list (key ∷ keys) (text ∷ texts) =
    AsksFor tables level list key text × AskForAll tables level list keys texts
AskForAll tables level list keys texts = ⊥

-- there is a row at a place, and it stands before a node
abbrev pub IsBeforeAt : Tables → List Row → Path → ℕ → Type 0
IsBeforeAt tables rows low place =
    (row : Row) × (slice_get rows place ≡ Some row)
    × (steps_before tables rows Kept [] row.path.steps low.steps ≡ true)

-- the rows before a place stand before a node, and those from there on after another, as the last of the former and the
-- first of the latter show
abbrev pub EndsBefore : Tables → List Row → Path → ℕ → Type 0
EndsBefore tables rows low place = (place ≡ 0) ⊎ ((last : ℕ) × (place ≡ last + 1) × IsBeforeAt tables rows low last)

-- the rows from a place on stand after a node, as the first of them shows, if there is one
abbrev pub BeginsAfter : Tables → List Row → Path → ℕ → Type 0
BeginsAfter tables rows high place =
    IfSome (slice_get rows place) (λ row. steps_before tables rows Kept [] high.steps row.path.steps ≡ true)

-- at some place the rows before it stand before one node, and those from there on after the other: none is between
abbrev pub IsCutBetween : Tables → List Row → Path → Path → Type 0
IsCutBetween tables rows low high = (place : ℕ) × EndsBefore tables rows low place × BeginsAfter tables rows high place

-- the path to the entry of a list
abbrev pub entry_path : List Step → ℕ → List (List ℕ) → Path
entry_path above list keys = record { steps = above ++ record { node = list; keys = keys } ∷ [] }

-- no row stands in an entry whose first keys are these and whose next one goes on from a text by white space
abbrev pub IsClearAt : Tables → List Row → List Step → ℕ → List (List ℕ) → List ℕ → Type 0
IsClearAt tables rows above list front text =
    IsCutBetween tables rows (entry_path above list (front ++ (text ++ 1 ∷ []) ∷ []))
    (entry_path above list (front ++ (text ++ 33 ∷ []) ∷ []))

-- nor in one that has white space at the ends of a key where the texts have none
abbrev pub AreClear : Tables → List Row → List Step → ℕ → List (List ℕ) → List (List ℕ) → Type 0
AreClear tables rows above list front [] = Unit {0}
AreClear tables rows above list front (text ∷ texts) =
    IsClearAt tables rows above list front [] × IsClearAt tables rows above list front text
    × AreClear tables rows above list (front ++ text ∷ []) texts

-- the path to the entry that alone has these texts as its keys, white space at their ends aside, where nothing above it
-- has a row or keys
abbrev pub IsOnlyEntry : Tables → List Row → List Step → ℕ → List (List ℕ) → Path → Type 0
IsOnlyEntry tables rows above list texts path =
    AreClear tables rows above list [] texts × (path ≡ entry_path above list texts) × AreBare tables rows path.steps
