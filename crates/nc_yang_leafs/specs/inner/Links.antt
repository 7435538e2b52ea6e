-- To which data nodes the paths of leafrefs lead, by numbers.
use Rattle.std.specs.Prelude.{◌≡◌, ℕ, Bool, List, Option, Some, length, slice_get, option_map, option_and_then, Contains}
use Rattle.std.specs.List.{flat_map}
use Rattle.std.specs.Option.{option_to_list}
use Rattle.nc_schema.specs.declared.pattern.LeafrefEnd.{LeafrefEnd}
use Rattle.nc_schema.specs.Tables.{Tables}
use Rattle.nc_yang_scopes.specs.Scopes.{Located, Scoping}
use Rattle.nc_yang_scopes.specs.declared.references.Link.{Link}
use Rattle.nc_yang_scopes.specs.References.{AreLinksOf}
use Rattle.nc_yang_types.specs.Plans.{AreMeanings}
use Rattle.nc_yang_leafs.specs.Bases.{Basis, basis_on, leads}
use Rattle.nc_yang_scopes.specs.Prefixes.{ArePrefixes}
use Rattle.nc_yang_leafs.specs.Marks.{AreMarks}
use Rattle.nc_yang_leafs.specs.declared.link_site.Site.{Site}
use Rattle.nc_yang_leafs.specs.Circles.{Refers}

abbrev pub HasPrefixes : Site → Type 0
HasPrefixes site = ArePrefixes site.scopes.now.texts site.prefixes.now

abbrev pub HasMarks : Site → Type 0
HasMarks site = AreMarks site.meanings.now site.marks.now

abbrev pub basis_of : (on : ℕ → List ℕ → Bool) → Site → Basis
basis_of on site = basis_on on site.scopes.now site.plan.now site.schema.now

-- so it is whichever `if-feature` statements hold by which the meanings were found
abbrev pub OnMeanings : Site → (Basis → Type 0) → Type 0
OnMeanings site P = (on : ℕ → List ℕ → Bool) → AreMeanings on site.scopes.now site.meanings.now → P (basis_of on site)

abbrev pub link_to : (path : ℕ) → LeafrefEnd → Link
link_to path end = record { reference = path; target = end.target }

-- where the `path` statement of a number leads from a data node
abbrev pub link_of : Scoping → Tables → (leaf path : ℕ) → Option Link
link_of scoping given leaf path =
    option_map (link_to path) (option_and_then (leads scoping given leaf) (slice_get scoping.located path))

-- where several lead
abbrev pub links_of : Scoping → Tables → (leaf : ℕ) → List ℕ → List Link
links_of scoping given leaf paths = flat_map (λ path. option_to_list (link_of scoping given leaf path)) paths

-- the links of a data node
pub record AreLinks (b : Basis) (leaf : ℕ) (links : List Link) : Type 0 where
  pub only : (link : Link) → Contains links link → (l : Located) × (slice_get b.scoping.located link.reference ≡ Some l)
      × Refers b leaf l link.target
  pub all : (l : Located) (target : ℕ) → Refers b leaf l target → (link : Link) × Contains links link × (link.target
      ≡ target)

-- those of all
abbrev pub AreAllLinks : Basis → List (List Link) → Type 0
AreAllLinks b = AreLinksOf (AreLinks b) (length b.given.nodes)
