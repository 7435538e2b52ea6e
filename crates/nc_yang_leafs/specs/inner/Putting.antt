-- Defaults put into a schema.
use Rattle.std.specs.Prelude.{◌≡◌, ◌≢◌, ℕ, List, [], length, Some, slice_get}
use Rattle.nc_schema.specs.declared.node.Node.{Node}
use Rattle.nc_schema.specs.Tables.{Tables}

-- all but the data nodes is as it was, and these are as many
pub record KeepsRest (old new : Tables) : Type 0 where
  pub counted : length new.nodes ≡ length old.nodes
  pub choices : new.choices ≡ old.choices
  pub types : new.types ≡ old.types
  pub modules : new.modules ≡ old.modules
  pub patterns : new.patterns ≡ old.patterns

-- with the defaults of one data node, which had none
pub record IsPut (number : ℕ) (values : List (List ℕ)) (old new : Tables) : Type 0 where
  pub rest : KeepsRest old new
  pub here : (node : Node) → slice_get old.nodes number ≡ Some node → node.defaults ≡ []
      → slice_get new.nodes number ≡ Some (record node { defaults = values })
  pub others : (other : ℕ) → other ≢ number → slice_get new.nodes other ≡ slice_get old.nodes other

-- with those of each
pub record ArePut (found : List (List (List ℕ))) (old new : Tables) : Type 0 where
  pub rest : KeepsRest old new
  pub each : (number : ℕ) (node : Node) (values : List (List ℕ)) → slice_get old.nodes number ≡ Some node
      → node.defaults ≡ [] → slice_get found number ≡ Some values
      → slice_get new.nodes number ≡ Some (record node { defaults = values })
