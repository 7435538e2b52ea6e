-- What prefixes stand for (Namespaces in XML 1.0, 3).
use Rattle.std.specs.Prelude.{ℕ, List, [], ◌∷◌, Option, Some, None, if◌then◌else◌}
use Rattle.nc_names.specs.declared.name.Bound.{Bound}
use Rattle.nc_names.specs.Same.{is_same_text}

-- the namespace to which a prefix is bound; of two bindings of one prefix the first counts. The empty prefix
-- is the default namespace
abbrev pub space_of : (prefix : List ℕ) → List Bound → Option (List ℕ)
space_of prefix [] = None
space_of prefix (b ∷ more) = if is_same_text prefix b.prefix then Some b.space else space_of prefix more
