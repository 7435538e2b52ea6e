-- Threads may hand over a store where they may hand over its disk.
use denote.RattleType.{RattleType}
use denote.Struct.Field
use denote.Param.Send.{IsSend, AllSend, sendable}
use Rattle.std.proofs.Crossing.{crosses}
use Rattle.nc_schema.proofs.Sent.{schema_send, schema_sync}
use Rattle.nc_shared.proofs.Sent.{config_send}
use Rattle.nc_journal.specs.contracts.journal.Journal as Journal
use Rattle.nc_names.specs.contracts.bytes.Bytes as Bytes
use Rattle.nc_store.specs.contracts.store.Store as Store
use Rattle.nc_outside.specs.declared.disk.Disk as disk

bytes_fields : AllSend (denote.Struct.Field.rows (Bytes.TheInside.the_type).parts)
bytes_fields = search (sendable, crosses) depth 100 fits 8000

bytes_inside : IsSend Bytes.TheInside.the_row
bytes_inside = search (bytes_fields, sendable) depth 10

bytes_send : IsSend Bytes.the_row
bytes_send = search (bytes_inside, sendable) depth 10

module _ (D : RattleType) (d : disk.Ghosts D.Denot) where
  journal_send : IsSend D → IsSend (Journal.the_field D).row
  journal_send disk_send = search (sendable, crosses) depth 100 fits 8000

  store_fields : IsSend D → AllSend (denote.Struct.Field.rows (Store.TheInside.the_type D d).parts)
  store_fields disk_send = (
    search (sendable, crosses) depth 20,
    (
      journal_send disk_send,
      (
        bytes_send,
        (
          search (schema_send, schema_sync, sendable, crosses) depth 100 fits 8000,
          (
            config_send,
            (
              config_send,
              (search (config_send, sendable, crosses) depth 40, tt),
            ),
          ),
        ),
      ),
    ),
  )

  store_inside : IsSend D → IsSend (Store.TheInside.the_row D d)
  store_inside disk_send = let fields = store_fields disk_send in search (fields, sendable) depth 10

  pub store_send : IsSend D → IsSend (Store.the_row D d)
  store_send disk_send = let inside = store_inside disk_send in search (inside, sendable) depth 10
