-- What a get or get-config shows of a datastore (RFC 6241 6, 7.1 and 7.7; RFC 8341 3.2.4).
use Rattle.std.specs.Prelude.{◌≡◌, ℕ, Bool, true, List, Option, Some, None}
use Rattle.std.specs.List.{All, filter}
use Rattle.nc_names.specs.declared.path.Row.{Row}
use Rattle.nc_message.specs.declared.tree.Elem.{Elem}
use Rattle.nc_protocol.specs.declared.asked.Asked.{Asked}
use Rattle.nc_protocol.specs.declared.asked.Asked.TheVariants.{Get, GetConfig}
use Rattle.nc_protocol.specs.declared.datastore.Datastore.{Datastore}
use Rattle.nc_protocol.specs.declared.datastore.Datastore.TheVariants.{Running}
use Rattle.nc_model.specs.Access.{sees_of, visible}
use Rattle.nc_model.specs.State.{State}
use Rattle.nc_model.specs.Verdict.{filtered, stored}

-- a datastore that is read, and the filter through which it is, if there is one
pub record Look : Type 0 where
  pub store : Datastore
  pub through : Option Elem

-- what is read, where reading is asked for: by get running, and by get-config its source (RFC 6241 7.1, 7.7)
abbrev pub look_of : Asked → Option Look
look_of (Get filter) = Some (record { store = Running; through = filter })
look_of (GetConfig source filter) = Some (record { store = source; through = filter })
look_of asked = None

-- the rows that are shown: a filter is applied to those of the datastore that the session sees, and without a filter
-- these are all (RFC 6241 6.4.1; RFC 8341 3.2.4)
abbrev pub shown_to : State → ℕ → Look → List Row
shown_to s session look = filtered s.schema look.through (visible s session (stored s look.store))

-- rows of a datastore, in their order, each of which the session sees
pub record AreSeenIn (s : State) (session : ℕ) (store : Datastore) (rows : List Row) : Type 0 where
  pub keeps : Row → Bool
  pub are : rows ≡ filter keeps (stored s store)
  pub seen : All (λ row. sees_of s session row.path ≡ true) rows
