-- Values in use at leafs and leaf-lists: those that stand in the data tree, and the defaults where
-- none stands (RFC 7950 7.6.1, 7.7.2).
use Rattle.std.specs.Prelude.{◌&&◌, ℕ, Bool, if◌then◌else◌, List, [], ◌∷◌, Option, None, slice_get, option_and_then}
use Rattle.std.specs.List.{filter_map, find, flat_map, list_all}
use Rattle.std.specs.Option.{option_map_or}
use Rattle.nc_names.specs.Same.{is_same_text}
use Rattle.nc_names.specs.declared.path.Path.{Path}
use Rattle.nc_names.specs.declared.path.Row.{Row}
use Rattle.nc_names.specs.declared.path.Step.{Step}
use Rattle.nc_schema.specs.Children.{is_same_number}
use Rattle.nc_schema.specs.Places.{Place, is_chosen_or_default, node_there, parts_of, place_below, places_from}
use Rattle.nc_schema.specs.Places.{top_place}
use Rattle.nc_schema.specs.Standing.{cases_of}
use Rattle.nc_schema.specs.Tables.{Tables}

-- the value of the first row
abbrev pub first_value : List Row → Option (List ℕ)
first_value [] = None
first_value (row ∷ rows) = row.value

-- the values of a leaf, or of the entries of a leaf-list, that stand in a place
abbrev pub values_there : Place → ℕ → List (List ℕ)
values_there place number = filter_map (λ part. first_value part.rows) (parts_of place number)

-- the defaults of a leaf or leaf-list (RFC 7950 7.6.4, 7.7.4)
abbrev pub defaults_of : Tables → ℕ → List (List ℕ)
defaults_of tables number = option_map_or (λ node. node.defaults) (slice_get tables.nodes number) []

-- the defaults of a leaf or leaf-list that are in use in a place where no value stands: a node of each
-- case to which it belongs exists there, or the case is chosen by default
abbrev pub defaults_there : Tables → Place → ℕ → List (List ℕ)
defaults_there tables place number =
    let in_use = place.defaults && list_all (is_chosen_or_default tables place) (cases_of tables number) in
    if in_use then defaults_of tables number else []

-- values, or the others where there is none
abbrev pub or_else : List (List ℕ) → List (List ℕ) → List (List ℕ)
or_else [] others = others
or_else (value ∷ values) others = value ∷ values

-- the values in use of a leaf or leaf-list in a place
abbrev pub values_in_use : Tables → Place → ℕ → List (List ℕ)
values_in_use tables place number = or_else (values_there place number) (defaults_there tables place number)

-- the value that a step to a leaf names, or one to the entry of a leaf-list with that value
abbrev pub named_value : Step → List (List ℕ) → Option (List ℕ)
named_value step values = find (λ value. list_all (is_same_text value) step.keys) values

-- the value in use to which steps lead from a place
abbrev pub value_from : Tables → Place → List Step → Option (List ℕ)
value_from tables place [] = None
value_from tables place (step ∷ []) = named_value step (values_in_use tables place step.node)
value_from tables place (step ∷ next ∷ rest) =
    option_and_then (λ below. value_from tables below (next ∷ rest)) (place_below tables place step)

-- the value in use at a leaf, or at the entry of a leaf-list with that value
abbrev pub value_in_use : Tables → List Row → Path → Option (List ℕ)
value_in_use tables rows path = value_from tables (top_place rows) path.steps

-- the data node in which one stands; none at the top
abbrev pub parent_of : Tables → ℕ → Option ℕ
parent_of tables number = option_and_then (λ node. node.parent) (slice_get tables.nodes number)

-- the place is an instance of that parent, or the top
abbrev pub stands_in : Option ℕ → Place → Bool
stands_in parent place = is_same_number parent (node_there place)

-- the values in use of a leaf or leaf-list in a place and all below it
abbrev pub values_below : Tables → Place → ℕ → List (List ℕ)
values_below tables place number =
    flat_map (λ one. if stands_in (parent_of tables number) one then values_in_use tables one number else [])
    (places_from tables place)
