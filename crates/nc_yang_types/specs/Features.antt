-- What stands there under features (RFC 7950 7.20.2). `on` says of the number of a text and of an argument whether an
-- `if-feature` of that argument holds in that text.
use Rattle.std.specs.Prelude.{ℕ, ◌||◌, not, Bool, List}
use Rattle.std.specs.List.{list_all}
use Rattle.nc_yang_words.specs.declared.statement.Statement.{Statement}
use Rattle.nc_yang_statements.specs.declared.keyword.Keyword.TheVariants.{IfFeature}
use Rattle.nc_yang_statements.specs.Keywords.{is_same_keyword}
use Rattle.nc_yang_statements.specs.Statements.{below, kind, name}

-- a statement is no `if-feature`, or it holds
abbrev pub lets : (on : ℕ → List ℕ → Bool) → (text : ℕ) → Statement → Bool
lets on text s = not (is_same_keyword IfFeature (kind s)) || on text (name s)

-- every `if-feature` directly in a statement holds
abbrev pub stands : (on : ℕ → List ℕ → Bool) → (text : ℕ) → Statement → Bool
stands on text s = list_all (lets on text) (below s)
