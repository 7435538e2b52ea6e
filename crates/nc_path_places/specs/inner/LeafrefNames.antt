-- The names that can be written at a place of the path of a leafref, and how far a text is one of them.
use Rattle.std.specs.Prelude.{◌≡◌, ◌≤◌, ◌+◌, ◌&&◌, ◌||◌, ℕ, zero, suc, Bool, true, false, if◌then◌else◌, List, length, Option, Some, None, max, get_or, slice_get}
use Rattle.std.specs.Option.{option_map_or}
use Rattle.nc_names.specs.Identifiers.{is_identifier}
use Rattle.nc_names.specs.Same.{is_same_text}
use Rattle.nc_schema.specs.Children.{child_number}
use Rattle.nc_schema.specs.InstancePaths.{leafref_name, parent_of}
use Rattle.nc_schema.specs.Kinds.{has_value}
use Rattle.nc_schema.specs.PathWords.{◌>>=◌}
use Rattle.nc_schema.specs.Tables.{Tables}
use Rattle.nc_path_places.specs.inner.Candidates.{common, far_of, is_nameable, stands}
use Rattle.nc_path_places.specs.inner.Going.{Reading}
use Rattle.nc_path_places.specs.inner.Leafrefs.{Down}

-- the data node to which a name leads from there
abbrev pub named_there : Reading → (own : List ℕ) → Option ℕ → List ℕ → Option ℕ
named_there s own above part = leafref_name s.tables own s.bounds part >>= child_number s.tables above

-- the data node is a leaf or leaf-list
abbrev pub is_value : Tables → ℕ → Bool
is_value tables number = option_map_or (λ node. has_value node.kind) (slice_get tables.nodes number) false

-- the name of the data node can be written without a prefix
abbrev pub is_own : Tables → (own : List ℕ) → ℕ → Bool
is_own tables own number =
    option_map_or (λ node. is_same_text node.name.space own && is_identifier node.name.name)
    (slice_get tables.nodes number) false

-- with a prefix or without
abbrev pub is_writable : Reading → (own : List ℕ) → ℕ → Bool
is_writable s own number = is_own s.tables own number || is_nameable s number

-- ---- from where names lead down to a value: a mark for the top, and one for each data node
abbrev pub place_of : Option ℕ → ℕ
place_of None = 0
place_of (Some number) = number + 1

-- names lead down from the top or from a data node, as its mark says
abbrev pub goes_down : List Bool → Option ℕ → Bool
goes_down marks above = get_or marks (place_of above) false

-- a path can end at the data node or below it
abbrev pub leads : Tables → List Bool → ℕ → Bool
leads tables marks number = is_value tables number || goes_down marks (Some number)

-- a name leads from its parent to the data node
abbrev pub is_reached : Reading → (own : List ℕ) → ℕ → Bool
is_reached s own number = stands s.tables (parent_of s.tables number) number && is_writable s own number

-- names lead down exactly where there is a mark
pub record HasMarks (s : Reading) (own : List ℕ) (marks : List Bool) : Type 0 where
  pub sound : (above : Option ℕ) → goes_down marks above ≡ true → (text : List ℕ) × Down s own above text
  pub complete : (above : Option ℕ) (text : List ℕ) → Down s own above text → goes_down marks above ≡ true

-- the same as far as names lead down over data nodes that are not below the number
pub record IsMarking (s : Reading) (own : List ℕ) (marks : List Bool) (least : ℕ) : Type 0 where
  pub long : length marks ≡ length s.tables.nodes + 1
  pub sound : (above : Option ℕ) → goes_down marks above ≡ true → (text : List ℕ) × Down s own above text
  pub closed : (number : ℕ) → least ≤ number → leads s.tables marks number ≡ true → is_reached s own number ≡ true →
      goes_down marks (parent_of s.tables number) ≡ true

-- ---- the names there
-- a name leads from there to the data node, and a path can end at it or below it
abbrev pub is_way : Reading → (own : List ℕ) → List Bool → Option ℕ → ℕ → Bool
is_way s own marks above number =
    stands s.tables above number && (is_writable s own number && leads s.tables marks number)

-- the data node to which a name leads, if a path can end at it or below it
abbrev pub way : Reading → (own : List ℕ) → List Bool → Option ℕ → List ℕ → Option ℕ
way s own marks above part =
    named_there s own above part >>= (λ number. if leads s.tables marks number then Some number else None)

-- how far the text is the name of the data node without a prefix
abbrev pub far_own : Tables → (own : List ℕ) → List ℕ → ℕ → ℕ
far_own tables own text number =
    if is_own tables own number
    then option_map_or (λ node. common text node.name.name) (slice_get tables.nodes number) 0 else 0

-- with a prefix or without
abbrev pub far_name : Reading → (own : List ℕ) → List ℕ → ℕ → ℕ
far_name s own text number = max (far_own s.tables own text number) (far_of s text number)

-- of one of the data nodes below the number to which a name leads from there
abbrev pub far_way : Reading → (own : List ℕ) → List Bool → Option ℕ → List ℕ → ℕ → ℕ
far_way s own marks above text zero = 0
far_way s own marks above text (suc number) =
    max (far_way s own marks above text number)
    (if is_way s own marks above number then far_name s own text number else 0)
