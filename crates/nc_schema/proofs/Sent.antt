-- Threads may share and hand over a schema. `search` finds this of its other fields by itself, and not of the patterns.
use denote.Struct.Field
use denote.Param.Send.{IsSend, IsSync, AllSend, AllSync, sendable}
use Rattle.std.proofs.Crossing.{crosses}
use Rattle.std.proofs.MapsCrossing.{crosses as map_crosses}
use Rattle.nc_patterns.proofs.Sent.{built_send, built_sync}
use Rattle.nc_schema.specs.contracts.schema.Schema as Schema

fields_send : AllSend (denote.Struct.Field.rows (Schema.TheInside.the_type).parts)
fields_send = search (built_send, map_crosses, sendable, crosses) depth 100 fits 8000

inside_send : IsSend Schema.TheInside.the_row
inside_send = search (fields_send, sendable) depth 10

pub schema_send : IsSend Schema.the_row
schema_send = search (inside_send, sendable) depth 10

fields_sync : AllSync (denote.Struct.Field.rows (Schema.TheInside.the_type).parts)
fields_sync = search (built_sync, map_crosses, sendable, crosses) depth 100 fits 8000

inside_sync : IsSync Schema.TheInside.the_row
inside_sync = search (fields_sync, sendable) depth 10

pub schema_sync : IsSync Schema.the_row
schema_sync = search (inside_sync, sendable) depth 10
