-- Edges from each identity to those that have it as a base, between their places.
use Rattle.std.specs.Prelude.{◌≡◌, ◌<◌, ℕ, List, length, Some, Contains, ◌⊎◌}
use Rattle.nc_yang_words.specs.declared.statement.Statement.{Statement}
use Rattle.nc_yang_statements.specs.declared.keyword.Keyword.TheVariants.{Base}
use Rattle.nc_yang_scopes.specs.Scopes.{Located}
use Rattle.nc_yang_order.specs.Orders.{targets}
use Rattle.nc_yang_scopes.specs.Parts.{parts_of}
use Rattle.nc_yang_nodes.specs.Identities.{identities}
use Rattle.nc_yang_nodes.specs.inner.Places.{place_named, place_of}

-- a graph has those edges besides what it had
pub record Adds (edges : ℕ → ℕ → Type 0) (old new : List (List ℕ)) : Type 0 where
  pub counted : length new ≡ length old
  pub kept : (from to : ℕ) → Contains (targets old from) to → Contains (targets new from) to
  pub only : (from to : ℕ) → Contains (targets new from) to → Contains (targets old from) to ⊎ edges from to
  pub all : (from to : ℕ) → from < length old → edges from to → Contains (targets new from) to

-- the edge of one of those statements
pub record AnyOf (ls : List Located) (edges : Located → ℕ → ℕ → Type 0) (from to : ℕ) : Type 0 where
  pub one : Located
  pub stands : Contains ls one
  pub is : edges one from to

-- from the identity that a `base` statement names
abbrev pub FromNamed : List Statement → (to : ℕ) → Located → ℕ → ℕ → Type 0
FromNamed texts to base from other = (place_named texts base ≡ Some from) × (to ≡ other)

-- to an identity from its bases
pub record ToIdentity (texts : List Statement) (l : Located) (from to : ℕ) : Type 0 where
  pub place : ℕ
  pub is : place_of texts l ≡ Some place
  pub base : AnyOf (parts_of Base l) (FromNamed texts place) from to

-- to each identity of the texts
pub record IsGraph (texts : List Statement) (graph : List (List ℕ)) : Type 0 where
  pub counted : length graph ≡ length (identities texts)
  pub only : (from to : ℕ) → Contains (targets graph from) to → AnyOf (identities texts) (ToIdentity texts) from to
  pub all : (from to : ℕ) → from < length graph → AnyOf (identities texts) (ToIdentity texts) from to →
      Contains (targets graph from) to
