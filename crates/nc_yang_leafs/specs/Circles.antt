-- Leafrefs that lead in a circle (RFC 7950 9.9.2).
use Rattle.std.specs.Prelude.{◌≡◌, ℕ, Option, Some, IsTrue, slice_get, MatchOption}
use Rattle.nc_schema.specs.declared.node.Node.{Node}
use Rattle.nc_schema.specs.declared.pattern.LeafrefEnd.{LeafrefEnd}
use Rattle.nc_schema.specs.Kinds.{has_value}
use Rattle.nc_yang_scopes.specs.declared.naming.TextFault.{TextFault}
use Rattle.nc_yang_scopes.specs.Scopes.{Located}
use Rattle.nc_yang_scopes.specs.References.{fault_at}
use Rattle.nc_yang_types.specs.Wholes.{UsesPath}
use Rattle.nc_yang_leafs.specs.Bases.{Basis, leads, type_of}

-- the type of a leaf or leaf-list is a leafref with that `path` statement, or has such a one among its members
pub record HasPath (b : Basis) (leaf : ℕ) (path : Located) : Type 0 where
  pub node : Node
  pub there : slice_get b.given.nodes leaf ≡ Some node
  pub valued : IsTrue (has_value node.kind)
  pub of_type : Located
  pub is : type_of b.scoping b.plan leaf ≡ Some of_type
  pub uses : UsesPath b.on b.scoping.texts of_type path

-- and from there that path leads to another leaf or leaf-list, or back to the same
pub record Refers (b : Basis) (leaf : ℕ) (path : Located) (target : ℕ) : Type 0 where
  pub has : HasPath b leaf path
  pub end : LeafrefEnd
  pub leads : leads b.scoping b.given leaf path ≡ Some end
  pub to : end.target ≡ target

-- a leaf leads to another in any number of steps
pub data Reaches (b : Basis) : ℕ → ℕ → Type 0 where
  itself : (leaf : ℕ) → Reaches b leaf leaf
  through : (leaf : ℕ) (path : Located) (next last : ℕ) → Refers b leaf path next → Reaches b next last
      → Reaches b leaf last

-- a leaf refers to one that leads back to it
pub record BreaksCircle (b : Basis) (fault : TextFault) : Type 0 where
  pub leaf : ℕ
  pub path : Located
  pub target : ℕ
  pub refers : Refers b leaf path target
  pub back : Reaches b target leaf
  pub at : fault ≡ fault_at path

-- none does
abbrev pub HasNoCircle : Basis → Type 0
HasNoCircle b = (fault : TextFault) → BreaksCircle b fault → ⊥

-- whether one does
abbrev pub JudgesCircles : Basis → Option TextFault → Type 0
JudgesCircles b result = MatchOption result (HasNoCircle b) (BreaksCircle b)
