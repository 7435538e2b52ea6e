-- For which data node types are made, and from what.
use Rattle.std.specs.Prelude.{ℕ, List}
use Rattle.nc_names.specs.declared.name.QName.{QName}
use Rattle.nc_yang_scopes.specs.Scopes.{Located}
use Rattle.nc_yang_leafs.specs.declared.site.Site.{Site}
use Rattle.nc_yang_scopes.specs.Prefixes.{ArePrefixes}
use Rattle.nc_yang_leafs.specs.inner.Firsts.{AreFirsts}
use Rattle.nc_yang_leafs.specs.inner.Tables.{Work}

-- from what the type of one data node is made
abbrev pub work : Site → (node : ℕ) → Work
work site node = record {
  scoping = site.scopes.now;
  given = site.schema.now;
  meanings = site.meanings.now;
  marks = site.marks.now;
  firsts = site.firsts.now;
  node = node;
}

-- the prefixes are those that the texts declare
abbrev pub HasPrefixes : Site → Type 0
HasPrefixes site = ArePrefixes site.scopes.now.texts site.prefixes.now

-- of each plan one has the entry: the plan itself, or one whose names are the same
abbrev pub HasFirsts : (derived : List Located → List QName → Type 0) → Site → Type 0
HasFirsts derived site =
    AreFirsts derived site.scopes.now.located site.meanings.now.plans site.marks.now site.firsts.now
