-- The words of a command line, and what they ask for.
use Rattle.std.specs.Prelude.{◌≡◌, ◌≢◌, ◌≤◌, ◌==◌, ◌&&◌, ℕ, Bool, false, not, if◌then◌else◌, List, [], ◌∷◌, length, codes}
use Rattle.std.specs.Fmt.{decimal}
use Rattle.std.specs.List.{filter, list_any}
use Rattle.std.specs.Str.{bytes_eq}
use Rattle.nc_edge.specs.Addresses.{IsAddress}
use Rattle.nc_protocol.specs.declared.peer.Peer.{Peer}

-- what a command line asks for
pub data Task : Type 0 where
  -- one session on standard input and output, for that peer
  Stdio : (folder : List ℕ) → (peer : Peer) → Task
  -- the connections of an address, each for the peer that its first line names
  Serve : (folder address : List ℕ) → Task
  -- the script of a file
  Script : (folder file : List ℕ) → Task
  -- the folder and its store, looked at
  Check : (folder : List ℕ) → Task
  -- the script of a load test with so many edits
  Load : (edits : ℕ) → Task

-- `-`
abbrev pub hyphen : ℕ
hyphen = 45

-- a flag: no other word begins so
abbrev pub begins_with_hyphen : List ℕ → Bool
begins_with_hyphen [] = false
begins_with_hyphen (c ∷ cs) = c == hyphen

-- ---- stdio

-- the flag that asks for a recovery session
abbrev pub is_recovery : List ℕ → Bool
is_recovery word = bytes_eq word (codes "--recovery")

-- a flag, but for that one
abbrev pub is_unknown_flag : List ℕ → Bool
is_unknown_flag word = begins_with_hyphen word && not (is_recovery word)

-- the words that are no flag, in their order
abbrev pub arguments : List (List ℕ) → List (List ℕ)
arguments words = filter (λ word. not (is_recovery word)) words

-- how often the flag stands there
abbrev pub count_recovery : List (List ℕ) → ℕ
count_recovery words = length (filter is_recovery words)

-- once, where it is asked for
abbrev pub zero_or_one : Bool → ℕ
zero_or_one b = if b then 1 else 0

-- These words name the folder, the user and the groups; among them the flag stands at most once, at any place.
pub record AreArguments (words : List (List ℕ)) (folder : List ℕ) (peer : Peer) : Type 0 where
  pub arguments : arguments words ≡ folder ∷ peer.user ∷ peer.groups
  pub recovery : count_recovery words ≡ zero_or_one peer.recovery

-- `stdio [--recovery] DIR USER [GROUP]...`
pub record IsStdio (words : List (List ℕ)) (folder : List ℕ) (peer : Peer) : Type 0 where
  pub behind : List (List ℕ)
  pub command : words ≡ codes "stdio" ∷ behind
  pub known : list_any is_unknown_flag behind ≡ false
  pub are : AreArguments behind folder peer

-- ---- the other commands

-- the name of a command and its arguments, none of which is a flag
pub record IsCommand (name : List ℕ) (words arguments : List (List ℕ)) : Type 0 where
  pub command : words ≡ name ∷ arguments
  pub plain : list_any begins_with_hyphen arguments ≡ false

-- `serve DIR ADDRESS`
pub record IsServe (words : List (List ℕ)) (folder address : List ℕ) : Type 0 where
  pub is : IsCommand (codes "serve") words (folder ∷ address ∷ [])
  pub address_is : IsAddress address

-- so many edits a load test has at most
abbrev pub most_edits : ℕ
most_edits = 10000

-- `script DIR FILE`
abbrev pub IsScript : List (List ℕ) → List ℕ → List ℕ → Type 0
IsScript words folder file = IsCommand (codes "script") words (folder ∷ file ∷ [])

-- `check DIR`
abbrev pub IsCheck : List (List ℕ) → List ℕ → Type 0
IsCheck words folder = IsCommand (codes "check") words (folder ∷ [])

-- `load N`
pub record IsLoad (words : List (List ℕ)) (edits : ℕ) : Type 0 where
  pub is : IsCommand (codes "load") words (decimal edits ∷ [])
  pub some : edits ≢ 0
  pub few : edits ≤ most_edits

-- ---- all of them

-- the words are a command line that asks for this
abbrev pub Asks : List (List ℕ) → Task → Type 0
Asks words (Stdio folder peer) = IsStdio words folder peer
Asks words (Serve folder address) = IsServe words folder address
Asks words (Script folder file) = IsScript words folder file
Asks words (Check folder) = IsCheck words folder
Asks words (Load edits) = IsLoad words edits

-- they are no command line
abbrev pub HasNoReading : List (List ℕ) → Type 0
HasNoReading words = (task : Task) → ¬ Asks words task

-- the folder of a task on a device
pub data IsIn (folder : List ℕ) : Task → Type 0 where
  served : (peer : Peer) → IsIn folder (Stdio folder peer)
  listened : (address : List ℕ) → IsIn folder (Serve folder address)
  scripted : (file : List ℕ) → IsIn folder (Script folder file)
  checked : IsIn folder (Check folder)
