-- What is looked up by name.
use Rattle.std.specs.Prelude.{◌≡◌, ℕ, List}
use Rattle.std.specs.List.{position_from}
use Rattle.nc_names.specs.Same.{is_same_text}
use Rattle.nc_yang_words.specs.declared.statement.Statement.{Statement}
use Rattle.nc_yang_statements.specs.declared.keyword.Keyword.TheVariants.{Feature, Grouping, Identity, Import, Revision, Typedef}
use Rattle.nc_yang_statements.specs.Statements.{name}
use Rattle.nc_yang_scopes.specs.declared.names.Names.{Names}
use Rattle.nc_yang_scopes.specs.declared.table.Table.{Table}
use Rattle.nc_yang_scopes.specs.Numbers.{Entry}
use Rattle.nc_yang_scopes.specs.inner.Frames.{IsTable}
use Rattle.nc_yang_scopes.specs.Tables.{number_at}

-- the table has the first text of each module's name
abbrev pub IsModules : List Statement → Table → Type 0
IsModules texts table =
    (word : List ℕ) → number_at table 0 word ≡ position_from (λ t. is_same_text (name t) word) 0 texts

-- the tables have what the texts and their statements define
pub record AreNames (texts : List Statement) (entries : List Entry) (names : Names) : Type 0 where
  pub typedefs : IsTable Typedef entries names.typedefs
  pub groupings : IsTable Grouping entries names.groupings
  pub identities : IsTable Identity entries names.identities
  pub features : IsTable Feature entries names.features
  pub imports : IsTable Import entries names.imports
  pub revisions : IsTable Revision entries names.revisions
  pub modules : IsModules texts names.modules
