-- What a module says of itself (RFC 7950 7.1, 7.1.9, 7.20.1).
use Rattle.std.specs.Prelude.{ℕ, ◌+◌, ◌&&◌, Bool, true, false, if◌then◌else◌, List, [], ◌∷◌, map, filter}
use Rattle.std.specs.Cmp.Lexicographic.{slice_cmp}
use Rattle.std.specs.Ordering.{nat_cmp}
use Rattle.std.specs.declared.cmp.Ordering.{Ordering}
use Rattle.std.specs.declared.cmp.Ordering.TheVariants.{Less}
use Rattle.nc_names.specs.declared.name.Module.{Module}
use Rattle.nc_yang_words.specs.declared.statement.Statement.{Statement}
use Rattle.nc_yang_statements.specs.Keywords.{is_same_keyword}
use Rattle.nc_yang_statements.specs.Statements.{below, kind, name}
use Rattle.nc_yang_statements.specs.declared.keyword.Keyword.TheVariants.{Feature, Revision}
use Rattle.nc_yang_scopes.specs.Prefixes.{namespace_in}
use Rattle.nc_yang_nodes.specs.Roles.{FeatureTest}

-- the first of two comes before the other
abbrev pub is_less : Ordering → Bool
is_less Less = true
is_less order = false

-- a date is before another one
abbrev pub is_earlier : List ℕ → List ℕ → Bool
is_earlier date other = is_less (slice_cmp nat_cmp date other)

-- the later of a date and that of a `revision` statement
abbrev pub later : List ℕ → Statement → List ℕ
later date s = if is_same_keyword Revision (kind s) && is_earlier date (name s) then name s else date

-- the latest of a date and those of revisions (RFC 7950 7.1.9)
abbrev pub latest : List ℕ → List Statement → List ℕ
latest date [] = date
latest date (s ∷ ss) = latest (later date s) ss

-- the statement defines a feature that is on
abbrev pub is_on_feature : FeatureTest → ℕ → Statement → Bool
is_on_feature on text s = is_same_keyword Feature (kind s) && on text (name s)

-- the features of the module that are on, in the order of its statements (RFC 7950 7.20.1)
abbrev pub features_in : FeatureTest → ℕ → List Statement → List (List ℕ)
features_in on text ss = map name (filter (is_on_feature on text) ss)

-- the module of a text
abbrev pub module_of : FeatureTest → ℕ → Statement → Module
module_of on text root = record {
  name = name root;
  space = namespace_in root;
  revision = latest [] (below root);
  features = features_in on text (below root);
}

-- the modules of texts, of which the first has that number
abbrev pub modules_from : FeatureTest → ℕ → List Statement → List Module
modules_from on text [] = []
modules_from on text (root ∷ roots) = module_of on text root ∷ modules_from on (text + 1) roots
