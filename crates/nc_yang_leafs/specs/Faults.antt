-- Leafrefs that lead to no leaf or leaf-list (RFC 7950 9.9.2).
use Rattle.std.specs.Prelude.{◌≡◌, ℕ, Some, None, IsTrue, slice_get}
use Rattle.nc_schema.specs.declared.node.Node.{Node}
use Rattle.nc_schema.specs.Kinds.{has_value}
use Rattle.nc_yang_statements.specs.declared.fault.ModuleWhy.TheVariants.{UnknownName}
use Rattle.nc_yang_statements.specs.Statements.{line}
use Rattle.nc_yang_scopes.specs.declared.naming.TextFault.{TextFault}
use Rattle.nc_yang_scopes.specs.Scopes.{Located}
use Rattle.nc_yang_types.specs.Wholes.{UsesPath}
use Rattle.nc_yang_leafs.specs.Bases.{Basis, leads, type_of}

-- at a `path` statement
abbrev pub fault_at : Located → TextFault
fault_at path =
    record { text = path.place.text; fault = record { line = line path.statement; why = UnknownName } }

-- the `path` of a leafref that the type of a leaf or leaf-list is, or that is one of its members, leads nowhere from
-- there
pub record BreaksLeafref (b : Basis) (fault : TextFault) : Type 0 where
  pub number : ℕ
  pub node : Node
  pub there : slice_get b.given.nodes number ≡ Some node
  pub valued : IsTrue (has_value node.kind)
  pub of_type : Located
  pub is : type_of b.scoping b.plan number ≡ Some of_type
  pub path : Located
  pub uses : UsesPath b.on b.scoping.texts of_type path
  pub lost : leads b.scoping b.given number path ≡ None
  pub at : fault ≡ fault_at path
