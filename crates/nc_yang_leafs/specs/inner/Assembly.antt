-- The schema put together.
use Rattle.std.specs.Prelude.{◌≡◌, ◌<◌, ◌≤◌, ◌++◌, ℕ, List, [], ◌∷◌, map, length, Option, Some, None, slice_get, slice_set}
use Rattle.nc_schema.specs.declared.node.Node.{Node}
use Rattle.nc_schema.specs.Tables.{Tables}
use Rattle.nc_schema.specs.declared.value_type.ValueType.{ValueType}
use Rattle.nc_yang_leafs.specs.declared.bare.Typed.{Typed}
use Rattle.nc_yang_leafs.specs.Patterns.{bare, numbers_in}

-- the data nodes, that of a number with that type
abbrev pub node_with : List Node → ℕ → ℕ → Option Node → List Node
node_with nodes number kind (Some node) = slice_set nodes number (record node { kind_of_value = kind })
node_with nodes number kind None = nodes

-- a schema, and the numbers of the patterns of its types
abbrev pub both : Tables → (patterns : List (List ℕ)) → Typed
both schema patterns = record { schema = schema; patterns = patterns }

-- with a type, and the numbers of its patterns apart from it
abbrev pub with_type : Typed → ValueType → Typed
with_type typed one = record {
  schema = record typed.schema { types = typed.schema.types ++ bare one ∷ [] };
  patterns = typed.patterns ++ numbers_in one ∷ [];
}

-- so it is with these types
pub record HasBareTypes (old : Tables) (types : List ValueType) (typed : Typed) : Type 0 where
  pub schema : typed.schema ≡ record old { types = old.types ++ map bare types }
  pub patterns : typed.patterns ≡ map numbers_in types

-- the schema, whose data node of that number has that type
abbrev pub with_kind : Tables → ℕ → ℕ → Tables
with_kind tables number kind =
    record tables { nodes = node_with tables.nodes number kind (slice_get tables.nodes number) }

-- the first so many data nodes have those types, and all else is as before
pub record HasSome (old : Tables) (kinds : List ℕ) (count : ℕ) (new : Tables) : Type 0 where
  pub modules : new.modules ≡ old.modules
  pub choices : new.choices ≡ old.choices
  pub patterns : new.patterns ≡ old.patterns
  pub types : new.types ≡ old.types
  pub counted : length new.nodes ≡ length old.nodes
  pub set : (number kind : ℕ) (node : Node) → number < count → slice_get kinds number ≡ Some kind
      → slice_get old.nodes number ≡ Some node →
      slice_get new.nodes number ≡ Some (record node { kind_of_value = kind })
  pub others : (number : ℕ) → count ≤ number → slice_get new.nodes number ≡ slice_get old.nodes number

-- all have
abbrev pub HasKinds : Tables → List ℕ → Tables → Type 0
HasKinds old kinds new = HasSome old kinds (length kinds) new
