-- Threads may hand over a machine where they may hand over its keeper. `search` finds this of each field, and not of the
-- whole: so each type on the way has its lemma, lowest first, by its list of fields.
use denote.RattleType.{RattleType}
use denote.Struct.Field
use denote.Param.Send.{IsSend, AllSend, sendable}
use Rattle.std.proofs.Crossing.{crosses}
use Rattle.nc_schema.proofs.Sent.{schema_send, schema_sync}
use Rattle.nc_branches.proofs.tree.Tree.TheLaws.TheKnot.{crosses as tree_crosses}
use Rattle.nc_tree.specs.contracts.config.Config as Config
use Rattle.nc_tree.specs.declared.keeper.Keeper as keeper
use Rattle.nc_partial.specs.contracts.locks.PartialLocks as PartialLocks
use Rattle.nc_pending.specs.contracts.pending.Pending as Pending
use Rattle.nc_model.specs.contracts.policy.Policy as PlainPolicy
use Rattle.nc_model.specs.contracts.policy.Rule as Rule
use Rattle.nc_model.specs.contracts.policy.RuleList as RuleList
use Rattle.nc_nacm.specs.contracts.policy.Policy as Policy
use Rattle.nc_courses.specs.contracts.governed.Governed as Governed
use Rattle.nc_machine.specs.contracts.server.Server as Server
use Rattle.nc_machine.specs.contracts.machine.Machine as Machine

config_fields : AllSend (denote.Struct.Field.rows (Config.TheInside.the_type).parts)
config_fields = search (tree_crosses, sendable, crosses) depth 100 fits 8000

config_inside : IsSend Config.TheInside.the_row
config_inside = search (config_fields, sendable) depth 10

pub config_send : IsSend Config.the_row
config_send = search (config_inside, sendable) depth 10

partial_fields : AllSend (denote.Struct.Field.rows (PartialLocks.TheInside.the_type).parts)
partial_fields = search (sendable, crosses) depth 100 fits 8000

partial_inside : IsSend PartialLocks.TheInside.the_row
partial_inside = search (partial_fields, sendable) depth 10

pub partial_send : IsSend PartialLocks.the_row
partial_send = search (partial_inside, sendable) depth 10

pending_fields : AllSend (denote.Struct.Field.rows (Pending.TheInside.the_type).parts)
pending_fields = search (config_send, sendable, crosses) depth 100 fits 8000

pending_inside : IsSend Pending.TheInside.the_row
pending_inside = search (pending_fields, sendable) depth 10

pub pending_send : IsSend Pending.the_row
pending_send = search (pending_inside, sendable) depth 10

rule_send : IsSend Rule.the_row
rule_send = search (sendable, crosses) depth 100 fits 8000

rules_send : IsSend RuleList.the_row
rules_send = search (rule_send, sendable, crosses) depth 100 fits 8000

-- (the row of the one field of a policy, which computes to that of its type and is not found by it)
plain_send : IsSend (PlainPolicy.the_field).row
plain_send = search (rules_send, sendable, crosses) depth 100 fits 8000

policy_fields : AllSend (denote.Struct.Field.rows (Policy.TheInside.the_type).parts)
policy_fields = search (plain_send, sendable, crosses) depth 100 fits 8000

policy_inside : IsSend Policy.TheInside.the_row
policy_inside = search (policy_fields, sendable) depth 10

pub policy_send : IsSend Policy.the_row
policy_send = search (policy_inside, sendable) depth 10

governed_fields : AllSend (denote.Struct.Field.rows (Governed.TheInside.the_type).parts)
governed_fields =
    search (config_send, schema_send, schema_sync, pending_send, policy_send, sendable, crosses) depth 100 fits 8000

governed_inside : IsSend Governed.TheInside.the_row
governed_inside = search (governed_fields, sendable) depth 10

pub governed_send : IsSend Governed.the_row
governed_send = search (governed_inside, sendable) depth 10

server_fields : AllSend (denote.Struct.Field.rows (Server.TheInside.the_type).parts)
server_fields = search (governed_send, config_send, partial_send, sendable, crosses) depth 100 fits 8000

server_inside : IsSend Server.TheInside.the_row
server_inside = search (server_fields, sendable) depth 10

pub server_send : IsSend Server.the_row
server_send = search (server_inside, sendable) depth 10

module _ (K A : RattleType) (k : keeper.Ghosts K.Denot A.Denot) where
  machine_fields : IsSend K → AllSend (denote.Struct.Field.rows (Machine.TheInside.the_type K A k).parts)
  machine_fields keeper_send = search (server_send, sendable, crosses) depth 100 fits 8000

  machine_inside : IsSend K → IsSend (Machine.TheInside.the_row K A k)
  machine_inside keeper_send = let fields = machine_fields keeper_send in search (fields, sendable) depth 10

  pub machine_send : IsSend K → IsSend (Machine.the_row K A k)
  machine_send keeper_send = let inside = machine_inside keeper_send in search (inside, sendable) depth 10
