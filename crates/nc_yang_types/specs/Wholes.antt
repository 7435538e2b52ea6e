-- Types that mean something with all their member types, and the paths of leafrefs in them (RFC 7950 9.9, 9.12).
use Rattle.std.specs.Prelude.{ℕ, Bool, List, [], Contains}
use Rattle.nc_yang_words.specs.declared.statement.Statement.{Statement}
use Rattle.nc_yang_scopes.specs.Scopes.{Located}
use Rattle.nc_yang_types.specs.Meanings.{DerivedFrom, Entry, Meaning, Means, OneOf, Refers}

-- the `type` statements of a union's members
abbrev pub members_of : Meaning → List Located
members_of (OneOf members) = members
members_of (Entry entry patterns names) = []
members_of (DerivedFrom bases) = []
members_of (Refers path need) = []

-- a `type` statement means something, and so does each of its members, down to the last
pub data MeansWhole (on : ℕ → List ℕ → Bool) (texts : List Statement) : Located → Type 0 where
  whole : (l : Located) (m : Meaning) → Means on texts l m
      → ((member : Located) → Contains (members_of m) member → MeansWhole on texts member) → MeansWhole on texts l

-- the `path` statement is of a leafref that a `type` statement is, or of one among its members
pub data UsesPath (on : ℕ → List ℕ → Bool) (texts : List Statement) : Located → Located → Type 0 where
  itself : (l path : Located) (need : Bool) → Means on texts l (Refers path need) → UsesPath on texts l path
  member : (l path one : Located) (members : List Located) → Means on texts l (OneOf members) → Contains members one
      → UsesPath on texts one path → UsesPath on texts l path
