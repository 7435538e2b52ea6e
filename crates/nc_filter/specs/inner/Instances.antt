-- What elements ask for of an instance, and what an instance has of that; rows by the instances above them.
use Rattle.std.specs.Prelude.{◌≡◌, ◌&&◌, ◌||◌, ◌+◌, ℕ, Bool, true, false, ⊤, List, Option, None, Some, [], ◌∷◌, ◌++◌, map, slice_get}
use Rattle.std.specs.BTreeSet.{BTreeSet}
use Rattle.std.specs.List.{list_any}
use Rattle.std.specs.Option.{option_map_or}
use Rattle.nc_names.specs.Same.{is_same_text}
use Rattle.nc_names.specs.declared.path.Row.{Row}
use Rattle.nc_names.specs.declared.path.Step.{Step}
use Rattle.nc_message.specs.declared.tree.Elem.{Elem}
use Rattle.nc_schema.specs.Tables.{Tables}
use Rattle.nc_filter.specs.declared.rows.Spot.{Spot}
use Rattle.nc_filter.specs.declared.wants.Want.{Want}
use Rattle.nc_filter.specs.inner.Keys.{asked, keys_in, name_key, node_labels}
use Rattle.nc_filter.specs.inner.Picks.{is_named, node_at, within}
use Rattle.nc_filter.specs.inner.Sets.{has}
use Rattle.nc_filter.specs.inner.Tables.{has_text}

-- an element asks for its name, where there is a depth above at which a data node is named, and for what the
-- content matches at its level ask for
abbrev pub asked_in : Option ℕ → Elem → List (List ℕ)
asked_in upper elem = option_map_or (λ at. (0 ∷ name_key elem) ∷ []) upper [] ++ map (λ key. 1 ∷ key) (asked elem)

-- the labels of the data node of a number
abbrev pub number_labels : Tables → ℕ → List (List ℕ)
number_labels tables number = option_map_or node_labels (slice_get tables.nodes number) []

-- the labels of the data node at that depth of the steps to an instance
abbrev pub step_labels : Tables → Option ℕ → List Step → List (List ℕ)
step_labels tables upper above =
    option_map_or (λ at. option_map_or (λ step. number_labels tables step.node) (slice_get above at) []) upper []

-- what an instance has that elements ask for: labels of the data node above, and keys of the rows directly in it
abbrev pub instance_keys : Tables → List Row → Option ℕ → List Step → List (List ℕ)
instance_keys tables all upper above = step_labels tables upper above ++ map (λ key. 1 ∷ key) (keys_in tables all above)

-- the depth of the level above, where there is one
abbrev pub IsUnder : Option ℕ → ℕ → Type 0
IsUnder None depth = ⊤
IsUnder (Some at) depth = depth ≡ at + 1

-- an element names the data node at that depth of the path to a row
abbrev pub is_named_at : Tables → Option ℕ → Row → Elem → Bool
is_named_at tables upper row elem =
    option_map_or (λ at. option_map_or (λ number. is_named tables number elem) (node_at at row) false) upper true

-- what elements say of a row: one of them names the data node above it, and its level selects the row
abbrev pub elems_pick : Tables → List Row → ℕ → Option ℕ → List Elem → Row → Bool
elems_pick tables all depth upper elems row =
    list_any (λ elem. is_named_at tables upper row elem && within tables all depth row elem) elems

-- what wants select: the rows in their instances that their elements pick
abbrev pub wants_pick : (List Elem → Row → Bool) → List Want → (Row → Bool) → Spot → Bool
wants_pick picks wants test spot =
    list_any (λ want. has want.members spot.number && picks (map (λ elem. elem.now) want.elems) spot.row.now) wants
    && test spot.row.now

-- ---- rows that the elements of wants name
abbrev pub AddsNames : List Elem → BTreeSet (List ℕ) → BTreeSet (List ℕ) → Type 0
AddsNames elems before now = (wanted : List ℕ) → has_text now wanted
    ≡ (has_text before wanted || list_any (λ elem. is_same_text (0 ∷ name_key elem) wanted) elems)

-- the set has the names of the elements of all wants, and nothing else
abbrev pub AreNamesOf : List Want → BTreeSet (List ℕ) → Type 0
AreNamesOf wants names = (wanted : List ℕ) → has_text names wanted
    ≡ list_any
    (λ want. list_any (λ elem. is_same_text (0 ∷ name_key elem) wanted) (map (λ elem. elem.now) want.elems)) wants

-- the row of a spot is at or below a data node, at that depth, that has one of the names
abbrev pub is_asked : Tables → ℕ → BTreeSet (List ℕ) → Spot → Bool
is_asked tables depth names spot =
    option_map_or (λ number. list_any (has_text names) (number_labels tables number)) (node_at depth spot.row.now) false

-- of some rows, those at or below a data node that an element of wants names
abbrev pub AreAsked : Tables → ℕ → List Want → List Spot → List Spot → Type 0
AreAsked tables depth wants spots found = (all : List Row) (test : Row → Bool) →
    list_any (wants_pick (elems_pick tables all (depth + 1) (Some depth)) wants test) found
    ≡ list_any (wants_pick (elems_pick tables all (depth + 1) (Some depth)) wants test) spots
