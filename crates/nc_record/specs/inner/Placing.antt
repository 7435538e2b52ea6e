-- The path, the keys and the value of a row, by the row before it and those after it.
use Rattle.std.specs.Prelude.{◌≡◌, ◌==◌, ◌++◌, ◌-◌, ℕ, Bool, false, List, [], ◌∷◌, length, map, take, Option, Some, None, if◌then◌else◌, slice_get, option_and_then}
use Rattle.std.specs.Option.{option_map_or}
use Rattle.nc_names.specs.declared.path.Row.{Row}
use Rattle.nc_names.specs.declared.path.Step.{Step}
use Rattle.nc_schema.specs.Configuration.{IsDataTree}
use Rattle.nc_schema.specs.Kinds.{has_value}
use Rattle.nc_schema.specs.Paths.{LeadDown}
use Rattle.nc_schema.specs.Tables.{Tables}
use Rattle.nc_schema.specs.declared.node.Kind.{Kind}
use Rattle.nc_schema.specs.declared.node.Node.{Node}
use Rattle.nc_schema.specs.declared.node.Kind.TheVariants.{Container, Leaf, LeafList, List as ListKind}
use Rattle.nc_record.specs.declared.spelled.Spelled.{Spelled}
use Rattle.nc_record.specs.inner.Given.{spelled_of}

-- the node in which a data node stands
abbrev pub parent_of : Tables → ℕ → Option ℕ
parent_of tables number = option_and_then (λ node. node.parent) (slice_get tables.nodes number)

-- a step without keys
abbrev pub plain_step : ℕ → Step
plain_step number = record { node = number; keys = [] }

-- the step to a data node at a depth, from 0: the one on the path of the row before, where that leads to this node,
-- else one without keys
abbrev pub open_step : List Step → ℕ → ℕ → Step
open_step before depth number =
    option_map_or (λ step. if step.node == number then step else plain_step number) (slice_get before depth)
    (plain_step number)

-- so is each of these steps found
abbrev pub AreOpen : List Step → List Step → Type 0
AreOpen before above =
    (up later : List Step) (step : Step) → above ≡ up ++ step ∷ later → open_step before (length up) step.node ≡ step

-- the steps lead to the node in which that step's data node stands, and each is found
pub record IsOpenWay (tables : Tables) (before above : List Step) (step : Step) : Type 0 where
  pub down : LeadDown tables None (above ++ step ∷ [])
  pub open_ : AreOpen before above

-- the keys of an entry: those of a list follow its row, that of a leaf-list is its value
abbrev pub keys_by : Kind → ℕ → List ℕ → List Spelled → List (List ℕ)
keys_by LeafList count value following = value ∷ []
keys_by ListKind count value following = map (λ it. it.value) (take count following)
keys_by kind count value following = []

-- those at the data node of a row
abbrev pub keys_of : Tables → Spelled → List Spelled → List (List ℕ)
keys_of tables spelled following =
    option_map_or (λ node. keys_by node.kind (length node.keys) spelled.value following)
    (slice_get tables.nodes spelled.node) []

-- the data node has a value
abbrev pub has_a_value : Option Node → Bool
has_a_value node = option_map_or (λ it. has_value it.kind) node false

-- the value of a row, where its data node has one
abbrev pub value_of : Tables → Spelled → Option (List ℕ)
value_of tables spelled =
    if has_a_value (slice_get tables.nodes spelled.node) then Some spelled.value else None

-- the steps of the last of these rows
abbrev pub last_steps : List Row → List Step
last_steps rows = option_map_or (λ row. row.path.steps) (slice_get rows (length rows - 1)) []

-- in a data tree this row stands after those that are placed and before those that follow
pub record IsNextIn (tables : Tables) (before : List Step) (spelled : Spelled) (following : List Spelled)
    (done : List Row) (row : Row) (rest : List Row) : Type 0 where
  pub tree : IsDataTree tables (done ++ row ∷ rest)
  pub before_is : before ≡ last_steps done
  pub spelled_is : spelled ≡ spelled_of row
  pub following_is : following ≡ map spelled_of rest

-- these rows are placed, and the others are left
pub record IsPlaced (rows placed : List Row) (left : List Spelled) : Type 0 where
  pub more : List Row
  pub same : rows ≡ placed ++ more
  pub left_is : left ≡ map spelled_of more
