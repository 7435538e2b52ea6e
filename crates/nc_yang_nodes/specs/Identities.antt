-- The identities of modules, and which of them are derived from which (RFC 7950 7.18).
use Rattle.std.specs.Prelude.{◌≡◌, ℕ, List, [], length, Some, Contains}
use Rattle.std.specs.List.{flat_map, range_with_len}
use Rattle.std.specs.Option.{option_map_or}
use Rattle.nc_yang_words.specs.declared.statement.Statement.{Statement}
use Rattle.nc_yang_statements.specs.declared.keyword.Keyword.TheVariants.{Base, Identity}
use Rattle.nc_yang_statements.specs.Statements.{name}
use Rattle.nc_yang_scopes.specs.Scopes.{Located, resolved, root}
use Rattle.nc_yang_scopes.specs.Parts.{parts_of}

-- the identities that the module of a text defines, in their order
abbrev pub defined_in : List Statement → (text : ℕ) → List Located
defined_in texts text = option_map_or (parts_of Identity) (root texts text) []

-- those of all modules, in the order of the texts
abbrev pub identities : List Statement → List Located
identities texts = flat_map (defined_in texts) (range_with_len 0 (length texts))

-- an identity is known by its module and its name (RFC 7950 7.18)
abbrev pub IsSameIdentity : Located → Located → Type 0
IsSameIdentity l other = (l.place.text ≡ other.place.text) × (name l.statement ≡ name other.statement)

-- a `base` statement names that identity
pub record Names (texts : List Statement) (base identity : Located) : Type 0 where
  pub found : Located
  pub leads : resolved texts Identity (name base.statement) base.place ≡ Some found
  pub is : IsSameIdentity found identity

-- an identity has a `base` statement that names the other (RFC 7950 7.18.2)
pub record HasBase (texts : List Statement) (identity other : Located) : Type 0 where
  pub statement : Located
  pub stands : Contains (identities texts) statement
  pub is : IsSameIdentity statement identity
  pub base : Located
  pub within : Contains (parts_of Base statement) base
  pub named : Names texts base other

-- an identity is derived from another: from its bases, and from those from which these are derived (RFC 7950 7.18.2)
pub data IsDerived (texts : List Statement) (from : Located) : Located → Type 0 where
  directly : (l : Located) → HasBase texts l from → IsDerived texts from l
  further : (l between : Located) → HasBase texts l between → IsDerived texts from between → IsDerived texts from l
