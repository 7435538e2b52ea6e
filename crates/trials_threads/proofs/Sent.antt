-- Threads may hand over a keeper in memory, and so a machine that has one.
use denote.Struct.Field
use denote.Param.Send.{IsSend, AllSend, sendable}
use Rattle.std.proofs.Crossing.{crosses}
use Rattle.nc_shared.proofs.Sent.{config_send}
use Rattle.nc_tree.specs.contracts.mem_keeper.MemKeeper as MemKeeper

keeper_fields : AllSend (denote.Struct.Field.rows (MemKeeper.TheInside.the_type).parts)
keeper_fields = search (config_send, sendable, crosses) depth 100 fits 8000

keeper_inside : IsSend MemKeeper.TheInside.the_row
keeper_inside = search (keeper_fields, sendable) depth 10

pub keeper_send : IsSend MemKeeper.the_row
keeper_send = search (keeper_inside, sendable) depth 10
