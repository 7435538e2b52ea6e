-- What a session may do, and what it sees: the decisions of access control for its client (RFC 8341 3.4).
use Rattle.std.specs.Prelude.{◌==◌, ℕ, Bool, false, List, []}
use Rattle.std.specs.List.{find}
use Rattle.std.specs.Option.{option_map_or}
use Rattle.nc_names.specs.declared.path.Path.{Path}
use Rattle.nc_names.specs.declared.path.Right.{Right}
use Rattle.nc_names.specs.declared.path.Row.{Row}
use Rattle.nc_protocol.specs.Words as w
use Rattle.nc_protocol.specs.declared.access.Decision.{Decision}
use Rattle.nc_protocol.specs.declared.asked.Operation.{Operation}
use Rattle.nc_protocol.specs.declared.asked.Operation.TheVariants.{Get, GetConfig, EditConfig, CopyConfig, DeleteConfig, Lock, Unlock, CloseSession, KillSession, Commit, DiscardChanges, CancelCommit, Validate, PartialLock, PartialUnlock}
use Rattle.nc_protocol.specs.declared.peer.Peer.{Peer}
use Rattle.nc_model.specs.Decision.{data_decision, exec_decision}
use Rattle.nc_model.specs.Policy.{policy_of}
use Rattle.nc_model.specs.Sight.{may_see, visible_rows}
use Rattle.nc_model.specs.State.{State}
use Rattle.nc_model.specs.Words.{netconf_module, partial_lock_module}
use Rattle.nc_model.specs.declared.called.Called.{Called}
use Rattle.nc_model.specs.declared.policy.Policy.{Policy}

-- an operation of RFC 6241
abbrev pub netconf_operation : List ℕ → Called
netconf_operation name = record { «module» = netconf_module; name = name; denied = false }

-- an operation of RFC 5717
abbrev pub partial_lock_operation : List ℕ → Called
partial_lock_operation name = record { «module» = partial_lock_module; name = name; denied = false }

-- the names under which rules are about an operation (RFC 6241 appendix C; RFC 5717 appendix B). None of them has
-- `default-deny-all`
abbrev pub called : Operation → Called
called Get = netconf_operation w.get_word
called GetConfig = netconf_operation w.get_config_word
called EditConfig = netconf_operation w.edit_config_word
called CopyConfig = netconf_operation w.copy_config_word
called DeleteConfig = netconf_operation w.delete_config_word
called Lock = netconf_operation w.lock_word
called Unlock = netconf_operation w.unlock_word
called CloseSession = netconf_operation w.close_session_word
called KillSession = netconf_operation w.kill_session_word
called Commit = netconf_operation w.commit_word
called DiscardChanges = netconf_operation w.discard_changes_word
called CancelCommit = netconf_operation w.cancel_commit_word
called Validate = netconf_operation w.validate_word
called PartialLock = partial_lock_operation w.partial_lock_word
called PartialUnlock = partial_lock_operation w.partial_unlock_word

-- nobody: a user of no name, in no group
abbrev pub nobody : Peer
nobody = record { user = []; groups = []; recovery = false }

-- the client of a live session
abbrev pub peer_of : State → ℕ → Peer
peer_of s number =
    option_map_or (λ session. session.peer) (find (λ session. session.number == number) s.sessions) nobody

-- the policy by which the server decides: that of the running configuration in force (RFC 8341 3.4.1, 3.5.2)
unfoldable pub access_policy : State → Policy
access_policy s = policy_of s.schema s.running

-- whether a session may ask for an operation (RFC 8341 3.4.4)
abbrev pub exec_of : State → ℕ → Operation → Decision
exec_of s session operation = exec_decision (access_policy s) (peer_of s session) (called operation)

-- the rights of a session to data nodes (RFC 8341 3.4.5)
abbrev pub rights_of : State → ℕ → Path → Right → Decision
rights_of s session path right = data_decision s.schema (access_policy s) (peer_of s session) path.steps right

-- whether a session sees a data node (RFC 8341 3.2.4)
abbrev pub sees_of : State → ℕ → Path → Bool
sees_of s session path = may_see s.schema (access_policy s) (peer_of s session) path.steps

-- the rows that it sees (RFC 8341 3.2.4)
abbrev pub visible : State → ℕ → List Row → List Row
visible s session rows = visible_rows s.schema (access_policy s) (peer_of s session) rows
