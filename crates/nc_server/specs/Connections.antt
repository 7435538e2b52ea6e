-- A connection: the line that names its peer, and then the session of that peer.
use Rattle.std.specs.Prelude.{◌≡◌, ℕ, false, List, ◌∷◌}
use Rattle.std.specs.Io.KnownBytes.{prepend_known}
use Rattle.nc_outside.specs.Streams.{SameCounts, Streams}
use Rattle.nc_schema.specs.Tables.{Tables}
use Rattle.nc_model.specs.declared.entry.Entry.{Entry}
use Rattle.nc_protocol.specs.declared.peer.Peer.{Peer}
use Rattle.nc_model.specs.Desks.{Home}
use Rattle.nc_session.specs.declared.end.SessionEnd.{SessionEnd}
use Rattle.nc_session.specs.Serves.{Serves, called}
use Rattle.nc_peer.specs.Lines.{IsPeerLine}

-- these bytes were read, which name the peer, and nothing was written; the end of input was not met, and no read failed
pub record NamesPeer (peer : Peer) (before between : Streams) : Type 0 where
  pub bytes : List ℕ
  pub read : before.left ≡ prepend_known bytes between.left
  pub line : IsPeerLine (peer.user ∷ peer.groups) bytes
  pub plain : peer.recovery ≡ false
  pub taken : between.taken ≡ before.taken
  pub same : SameCounts before between

-- a peer was read, and its session was served on what stands behind its line
pub record ServesConnection (schema : Tables) (Before Now : Home → List Entry → List Entry → Type 0)
    (IsSpent : ℕ → Type 0) (before now : Streams) (end : SessionEnd) : Type 0 where
  pub peer : Peer
  pub between : Streams
  pub names : NamesPeer peer before between
  pub serves : (home : Home) (seen mine : List Entry) → Before home seen mine →
      Serves schema (called peer home seen mine between) (Now home) IsSpent now end
