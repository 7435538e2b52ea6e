-- The place of an identity: that of the first one of its module and name among the identities of the texts.
use Rattle.std.specs.Prelude.{◌≡◌, ℕ, Bool, List, Option, option_and_then}
use Rattle.std.specs.List.{position_from}
use Rattle.nc_yang_words.specs.declared.statement.Statement.{Statement}
use Rattle.nc_yang_statements.specs.declared.keyword.Keyword.TheVariants.{Identity}
use Rattle.nc_yang_statements.specs.Statements.{name}
use Rattle.nc_yang_scopes.specs.Scopes.{Located, Scoping, resolved}
use Rattle.nc_yang_scopes.specs.Tables.{is_key, number_at}
use Rattle.nc_yang_scopes.specs.declared.table.Table.{Table}
use Rattle.nc_yang_scopes.specs.Numbers.{AreNumbers}
use Rattle.nc_yang_nodes.specs.Identities.{identities}

-- a statement stands in that text and has that name
abbrev pub is_known : ℕ → List ℕ → Located → Bool
is_known text word l = is_key l.place.text (name l.statement) text word

-- the place of the first of these that has the module and name of an identity
abbrev pub place_in : List Located → Located → Option ℕ
place_in ls l = position_from (is_known l.place.text (name l.statement)) 0 ls

-- that place among the identities of the texts
abbrev pub place_of : List Statement → Located → Option ℕ
place_of texts l = place_in (identities texts) l

-- the place of the identity that a `base` statement names
abbrev pub place_named : List Statement → Located → Option ℕ
place_named texts base = option_and_then (place_of texts) (resolved texts Identity (name base.statement) base.place)

-- a table has the place of each
abbrev pub AreFirsts : List Located → Table → Type 0
AreFirsts ls table = (text : ℕ) (word : List ℕ) → number_at table text word ≡ position_from (is_known text word) 0 ls

-- the identities, and where they stand among each other
pub record ArePlaces (scoping : Scoping) (list : List ℕ) (names : Table) : Type 0 where
  pub listed : AreNumbers scoping.located list (identities scoping.texts)
  pub named : AreFirsts (identities scoping.texts) names
