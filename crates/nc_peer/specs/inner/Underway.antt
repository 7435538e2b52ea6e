-- A peer's line that is being read.
use Rattle.std.specs.Prelude.{◌≡◌, ◌<◌, ◌≤◌, ◌+◌, ℕ, Bool, true, false, List, ◌++◌, length, All, Option, Result, Ok, Err}
use Rattle.std.specs.Io.KnownBytes.{prepend_known, IsAtEnd}
use Rattle.std.specs.List.{flat_map}
use Rattle.nc_peer.specs.Lines.{peer_limit, and_space, IsName, IsNameByte, IsPeerLine, BeginsNone, GoesOn, GoesOnToLast, StopsAtFeed, bad_place}
use Rattle.nc_peer.specs.Faults.{Counts, HasEnded, HasFailed}
use Rattle.nc_peer.specs.declared.fault.PeerFault.{PeerFault}
use Rattle.nc_peer.specs.declared.fault.PeerFault.TheVariants.{BadPeer, InputEnded, ReadFault, Memory}

-- the bytes so far are whole names, each with its space, and a beginning of the next name
pub record IsUnderway (bytes : List ℕ) (names : List (List ℕ)) (word : List ℕ) : Type 0 where
  pub bytes_are : bytes ≡ flat_map and_space names ++ word
  pub whole : All IsName names
  pub begun : All IsNameByte word
  pub short : length bytes ≤ peer_limit

-- what one byte more comes to: the line is whole, or goes on, or is none
abbrev pub Takes : (bytes : List ℕ) → (names : List (List ℕ)) → (word : List ℕ) → Result Bool PeerFault → Type 0
Takes bytes names word (Ok true) = IsPeerLine names bytes × (0 < length names)
Takes bytes names word (Ok false) = IsUnderway bytes names word
Takes bytes names word (Err (BadPeer at)) = BeginsNone bytes × (at ≡ bad_place bytes)
Takes bytes names word (Err Memory) = Unit {0}
Takes bytes names word (Err InputEnded) = ⊥
Takes bytes names word (Err ReadFault) = ⊥

-- what reading the names came to, as `ReadsAs` says it of the peer
abbrev pub NamesReadAs : (bytes : List ℕ) → (left : Option (List ℕ)) → (before now : Counts) →
    Result (List (List ℕ)) PeerFault → Type 0
NamesReadAs bytes left before now (Ok names) = IsPeerLine names bytes × (0 < length names) × (now ≡ before)
NamesReadAs bytes left before now (Err (BadPeer at)) =
    BeginsNone bytes × GoesOnToLast bytes × (at ≡ bad_place bytes) × (now ≡ before)
NamesReadAs bytes left before now (Err InputEnded) = IsAtEnd left × GoesOn bytes × HasEnded before now
NamesReadAs bytes left before now (Err ReadFault) = GoesOn bytes × HasFailed before now
NamesReadAs bytes left before now (Err Memory) = now ≡ before

-- these bytes were taken of the source, and the names come of them
pub record ReadsNames (left_before left_now : Option (List ℕ)) (before now : Counts)
    (result : Result (List (List ℕ)) PeerFault) : Type 0 where
  pub bytes : List ℕ
  pub taken : left_before ≡ prepend_known bytes left_now
  pub few : length bytes ≤ peer_limit + 1
  pub stops : StopsAtFeed bytes
  pub reads : NamesReadAs bytes left_now before now result
