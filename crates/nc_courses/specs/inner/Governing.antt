-- The configuration that is running, and the policies by which the server decides.
use Rattle.std.specs.Prelude.{◌≡◌, ℕ, List, Option, Some, None, option_map}
use Rattle.std.specs.Option.{option_map_or}
use Rattle.nc_names.specs.declared.path.Row.{Row}
use Rattle.nc_schema.specs.Tables.{Tables}
use Rattle.nc_protocol.specs.declared.peer.Peer.{Peer}
use Rattle.nc_model.specs.Access as access
use Rattle.nc_model.specs.Policy.{policy_of}
use Rattle.nc_model.specs.Sight.{Viewer}
use Rattle.nc_model.specs.State.{Pending, State}
use Rattle.nc_model.specs.declared.policy.Policy.{Policy}
use Rattle.nc_courses.specs.declared.course.Change.{Change}
use Rattle.nc_courses.specs.declared.course.Change.TheVariants.{Confirm}

-- what is running, and what waits to be confirmed
pub record Governing : Type 0 where
  pub tables : Tables
  pub running : List Row
  pub pending : Option Pending

-- the policy of the base of a pending commit
abbrev pub policy_of_base : Tables → Option Pending → Option Policy
policy_of_base tables pending = option_map (λ found. policy_of tables found.base) pending

-- what is kept beside is what these rows say: the policy of running and that of the base; and who is nobody
pub record IsGoverned (tables : Tables) (running : List Row) (pending : Option Pending) (policy : Policy)
    (earlier : Option Policy) (nobody : Peer) : Type 0 where
  pub policy_is : policy ≡ policy_of tables running
  pub earlier_is : earlier ≡ policy_of_base tables pending
  pub nobody_is : nobody ≡ access.nobody

-- the pending commit is reverted
abbrev pub base_running : Governing → Governing
base_running g = record g { running = option_map_or (λ found. found.base) g.pending g.running; pending = None }

-- the policy of a configuration that a change makes running
abbrev pub policy_after : Tables → Change → Option Policy
policy_after tables (Confirm rows timeout persist) = Some (policy_of tables rows)
policy_after tables change = None

-- a session, as its access is decided
abbrev pub viewer_of : State → ℕ → Viewer
viewer_of s session =
    record { tables = s.schema; policy = access.access_policy s; peer = access.peer_of s session }
