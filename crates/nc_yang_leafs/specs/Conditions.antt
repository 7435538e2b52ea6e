-- Which `if-feature` statements hold in a text (RFC 7950 7.20.2).
use Rattle.std.specs.Prelude.{ℕ, Bool, false, List, [], ◌∷◌}
use Rattle.std.specs.Option.{option_map_or}
use Rattle.nc_yang_words.specs.declared.statement.Statement.{Statement}
use Rattle.nc_yang_statements.specs.declared.keyword.Keyword.TheVariants.{Feature}
use Rattle.nc_yang_statements.specs.Statements.{name}
use Rattle.nc_yang_scopes.specs.Scopes.{resolved, top}
use Rattle.nc_yang_nodes.specs.Roles.{FeatureTest}

-- the feature is on to which the argument of an `if-feature` leads in the text of that number
abbrev pub holds : List Statement → FeatureTest → (text : ℕ) → (argument : List ℕ) → Bool
holds texts features text argument =
    option_map_or (λ f. features f.place.text (name f.statement))
    (resolved texts Feature argument (record { text = text; blocks = top texts text ∷ [] })) false
