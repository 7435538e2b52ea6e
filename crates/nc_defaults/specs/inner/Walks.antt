-- The places that a walk gathers from a data node on.
use Rattle.std.specs.Prelude.{◌+◌, ◌∷◌, ℕ, List, [], drop, if◌then◌else◌, ltb, map, slice_get}
use Rattle.std.specs.List.{flat_map}
use Rattle.std.specs.Option.{option_map_or}
use Rattle.nc_schema.specs.Places.{Part, Place, place_of, place_parts, places_among}
use Rattle.nc_schema.specs.Tables.{Tables}
use Rattle.nc_schema.specs.declared.node.Node.{Node}

-- those below a place of the data nodes from a number on
abbrev pub places_under : Tables → Place → ℕ → List Place
places_under tables place number = places_among tables place number (drop number tables.nodes)

-- an instance of a data node and the places below it
abbrev pub places_with : Tables → Place → ℕ → Node → List Part → List Place
places_with tables place number node parts =
    flat_map (λ below. below ∷ places_under tables below (number + 1)) (map (place_of tables place node) parts)

-- all instances of a child of the place's data node, and the places below them
abbrev pub places_at : Tables → Place → ℕ → List Place
places_at tables place child = option_map_or
    (λ node. places_with tables place child node (place_parts place child node.kind)) (slice_get tables.nodes child) []

-- those of some children, but for the ones that come before a number
abbrev pub places_at_all : Tables → Place → ℕ → List ℕ → List Place
places_at_all tables place number children =
    flat_map (λ child. if ltb child number then [] else places_at tables place child) children
