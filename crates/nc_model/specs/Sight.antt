-- What a user sees of a configuration (RFC 8341 3.2.4, 3.4.5).
use Rattle.std.specs.Prelude.{◌||◌, not, Bool, List, [], ◌∷◌, map}
use Rattle.std.specs.List.{filter, list_all}
use Rattle.nc_names.specs.declared.path.Right.TheVariants.{Read}
use Rattle.nc_names.specs.declared.path.Row.{Row}
use Rattle.nc_names.specs.declared.path.Step.{Step}
use Rattle.nc_schema.specs.Tables.{Tables}
use Rattle.nc_protocol.specs.declared.peer.Peer.{Peer}
use Rattle.nc_model.specs.Decision.{data_decision}
use Rattle.nc_model.specs.declared.policy.Policy.{Policy}

-- the steps to a node and to each node above it, from the top
abbrev pub beginnings : List Step → List (List Step)
beginnings [] = []
beginnings (step ∷ rest) = (step ∷ []) ∷ map (λ above. step ∷ above) (beginnings rest)

-- reading is permitted at the node (RFC 8341 3.4.5)
abbrev pub may_read : Tables → Policy → Peer → List Step → Bool
may_read tables policy peer steps = (data_decision tables policy peer steps Read).permit

-- reading is permitted at the node and at each node above it, whether or not it exists (RFC 8341 3.2.4)
abbrev pub may_see : Tables → Policy → Peer → List Step → Bool
may_see tables policy peer steps = list_all (may_read tables policy peer) (beginnings steps)

-- the rows that are seen (RFC 8341 3.2.4)
abbrev pub visible_rows : Tables → Policy → Peer → List Row → List Row
visible_rows tables policy peer rows = filter (λ row. may_see tables policy peer row.path.steps) rows

-- whose access to what is decided
pub record Viewer : Type 0 where
  pub tables : Tables
  pub policy : Policy
  pub peer : Peer

-- a user for whom nothing is denied: access control is off, or it is a recovery session (RFC 8341 3.3.4.1, 3.3.3)
abbrev pub is_open : Policy → Peer → Bool
is_open policy peer = not policy.on || peer.recovery
