-- What reading a peer comes to.
use Rattle.std.specs.Prelude.{◌≡◌, ◌≤◌, ◌+◌, ℕ, false, List, ◌∷◌, Option, Result, Ok, Err, length}
use Rattle.std.specs.Io.KnownBytes.{prepend_known, IsAtEnd}
use Rattle.nc_names.specs.Counts.{Rose}
use Rattle.nc_peer.specs.Lines.{IsPeerLine, BeginsNone, GoesOn, GoesOnToLast, StopsAtFeed, bad_place, peer_limit}
use Rattle.nc_protocol.specs.declared.peer.Peer.{Peer}
use Rattle.nc_peer.specs.declared.fault.PeerFault.{PeerFault}
use Rattle.nc_peer.specs.declared.fault.PeerFault.TheVariants.{BadPeer, InputEnded, ReadFault, Memory}

-- How often a source has given the end of input, and how often it has failed.
pub record Counts : Type 0 where
  pub ends : ℕ
  pub faults : ℕ

-- these two
abbrev pub counts : (ends faults : ℕ) → Counts
counts ends faults = record { ends = ends; faults = faults }

-- the end of input was given, and nothing failed
abbrev pub HasEnded : (before now : Counts) → Type 0
HasEnded before now = Rose before.ends now.ends × (now.faults ≡ before.faults)

-- a read failed, and the end of input was not given
abbrev pub HasFailed : (before now : Counts) → Type 0
HasFailed before now = (now.ends ≡ before.ends) × Rose before.faults now.faults

-- What reading came to, by the bytes that were taken of the source, those that are left, and the counts of the source.
-- No byte was taken past the one that shows that no line begins so, and nothing was read past the end or a fault.
abbrev pub ReadsAs : (bytes : List ℕ) → (left : Option (List ℕ)) → (before now : Counts) → Result Peer PeerFault →
    Type 0
ReadsAs bytes left before now (Ok peer) =
    IsPeerLine (peer.user ∷ peer.groups) bytes × (peer.recovery ≡ false) × (now ≡ before)
ReadsAs bytes left before now (Err (BadPeer at)) =
    BeginsNone bytes × GoesOnToLast bytes × (at ≡ bad_place bytes) × (now ≡ before)
ReadsAs bytes left before now (Err InputEnded) = IsAtEnd left × GoesOn bytes × HasEnded before now
ReadsAs bytes left before now (Err ReadFault) = GoesOn bytes × HasFailed before now
ReadsAs bytes left before now (Err Memory) = now ≡ before

-- These bytes were taken of the source, and nothing beyond them: not more than a line has, and none past its end.
pub record ReadsPeer (left_before left_now : Option (List ℕ)) (before now : Counts) (result : Result Peer PeerFault) :
    Type 0 where
  pub bytes : List ℕ
  pub taken : left_before ≡ prepend_known bytes left_now
  pub few : length bytes ≤ peer_limit + 1
  pub stops : StopsAtFeed bytes
  pub reads : ReadsAs bytes left_now before now result

-- reading one byte came to no byte
abbrev pub Stops : (left : Option (List ℕ)) → (before now : Counts) → PeerFault → Type 0
Stops left before now InputEnded = IsAtEnd left × HasEnded before now
Stops left before now ReadFault = HasFailed before now
Stops left before now (BadPeer at) = ⊥
Stops left before now Memory = ⊥
