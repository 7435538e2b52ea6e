use denote.Param.Send.{sendable}
use Rattle.nc_schema.proofs.Sent.{schema_sync}
use Rattle.nc_server.proofs.serving.fn.serve.scope.Goals as goal

pub serve_in-end-requires-sync-X : goal.serve_in-end-requires-sync-X
serve_in-end-requires-sync-X g c κs within = search (schema_sync, sendable) depth 8
