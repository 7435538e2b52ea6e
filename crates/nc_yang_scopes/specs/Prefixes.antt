-- What prefixes stand for in the texts of modules, as namespaces (RFC 7950 7.1.3, 7.1.4, 7.1.5).
use Rattle.std.specs.Prelude.{◌≡◌, ℕ, List, [], ◌∷◌, ◌++◌, Some, filter, length, option_map, slice_get}
use Rattle.std.specs.List.{flat_map}
use Rattle.std.specs.Option.{option_map_or}
use Rattle.nc_names.specs.declared.name.Bound.{Bound}
use Rattle.nc_yang_words.specs.declared.statement.Statement.{Statement}
use Rattle.nc_yang_statements.specs.declared.keyword.Keyword.TheVariants.{Import, Namespace, Prefix}
use Rattle.nc_yang_statements.specs.Keywords.{is_same_keyword}
use Rattle.nc_yang_statements.specs.Statements.{below, kind, name, part}
use Rattle.nc_yang_scopes.specs.Scopes.{text_of, top}

-- the namespace of a module (RFC 7950 7.1.3)
abbrev pub namespace_in : Statement → List ℕ
namespace_in root = option_map_or name (part Namespace (below root)) []

-- the namespace of the module of a text
abbrev pub namespace_at : List Statement → ℕ → List ℕ
namespace_at texts text = option_map_or namespace_in (slice_get texts text) []

-- the prefix that a module or an import says, which stands for the namespace of a text
abbrev pub prefix_bound : List Statement → ℕ → Statement → List Bound
prefix_bound texts text s =
    option_map_or (λ p. record { prefix = name p; space = namespace_at texts text } ∷ []) (part Prefix (below s)) []

-- the prefix of an import whose module is there
abbrev pub import_bound : List Statement → Statement → List Bound
import_bound texts s = option_map_or (λ text. prefix_bound texts text s) (text_of texts (name s)) []

-- the prefixes of a text's imports, in their order
abbrev pub import_bounds : List Statement → List Statement → List Bound
import_bounds texts ss = flat_map (import_bound texts) (filter (λ s. is_same_keyword Import (kind s)) ss)

-- the prefixes of a text: no prefix, and that of its own module, stand for its module; those of its imports for theirs
abbrev pub prefixes_in : List Statement → ℕ → List Bound
prefixes_in texts text =
    record { prefix = []; space = namespace_at texts text }
    ∷ option_map_or (prefix_bound texts text) (slice_get texts text) []
    ++ import_bounds texts (top texts text)

-- those are the prefixes of each text
pub record ArePrefixes (texts : List Statement) (prefixes : List (List Bound)) : Type 0 where
  pub counted : length prefixes ≡ length texts
  pub each : (text : ℕ) (bounds : List Bound) → slice_get prefixes text ≡ Some bounds → bounds ≡ prefixes_in texts text
