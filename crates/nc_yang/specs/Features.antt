-- The features of modules, as lines name them: each line is `module:feature` (RFC 7950 7.20.1).
use Rattle.std.specs.Prelude.{◌≡◌, ℕ, ◌&&◌, not, Bool, true, false, List, [], ◌∷◌, Some, is_some, slice_get, take, IsSomeAnd}
use Rattle.std.specs.List.{All, list_any}
use Rattle.std.specs.Option.{option_map_or}
use Rattle.nc_names.specs.Same.{is_same_text}
use Rattle.nc_schema.specs.Children.{is_same_number}
use Rattle.nc_yang_words.specs.declared.statement.Statement.{Statement}
use Rattle.nc_yang_statements.specs.declared.keyword.Keyword.TheVariants.{Feature}
use Rattle.nc_yang_scopes.specs.Scopes.{Place, has_colon, local_of, prefix_of, resolved, text_of, top}
use Rattle.nc_yang_nodes.specs.Roles.{FeatureTest}
use Rattle.nc_yang.specs.declared.text.ModuleText.{ModuleText}
use Rattle.nc_yang.specs.Access.{HaveStatements}

-- a line names that feature of the module of a text
abbrev pub names_it : List Statement → ℕ → List ℕ → List ℕ → Bool
names_it texts text feature line =
    has_colon line && (is_same_number (text_of texts (prefix_of line)) (Some text)
    && is_same_text (local_of line) feature)

-- the features that lines name: each by the text of its module and its name
abbrev pub is_given : List Statement → List (List ℕ) → FeatureTest
is_given texts lines text feature = list_any (names_it texts text feature) lines

-- directly in the module of a text
abbrev pub at_top : List Statement → ℕ → Place
at_top texts text = record { text = text; blocks = top texts text ∷ [] }

-- the module of a text defines that feature; a name has no colon
abbrev pub has_feature : List Statement → List ℕ → ℕ → Bool
has_feature texts feature text = not (has_colon feature) && is_some (resolved texts Feature feature (at_top texts text))

-- a line names a feature of one of the modules
abbrev pub is_feature : List Statement → List ℕ → Bool
is_feature texts line =
    has_colon line && option_map_or (has_feature texts (local_of line)) (text_of texts (prefix_of line)) false

-- the first of these lines that names no feature of one of these modules
pub record IsFirstOther (texts : List Statement) (lines : List (List ℕ)) (place : ℕ) : Type 0 where
  pub before : All (λ line. is_feature texts line ≡ true) (take place lines)
  pub other : IsSomeAnd (slice_get lines place) (λ line. is_feature texts line ≡ false)

-- a line names a feature of the modules
pub record NamesFeature (modules : List ModuleText) (line : List ℕ) : Type 0 where
  pub texts : List Statement
  pub have : HaveStatements modules texts
  pub names : is_feature texts line ≡ true

-- the first of these lines that names no feature of the modules
pub record IsFirstUnknown (modules : List ModuleText) (lines : List (List ℕ)) (place : ℕ) : Type 0 where
  pub before : All (NamesFeature modules) (take place lines)
  pub unknown : IsSomeAnd (slice_get lines place) (λ line. NamesFeature modules line → ⊥)
