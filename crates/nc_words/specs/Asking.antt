-- What a command line asks for, as it is read.
use Rattle.std.specs.Prelude.{map, string_bytes, ℕ, List, Option, Some, None}
use Rattle.nc_protocol.specs.declared.peer.Peer.{Peer}
use Rattle.nc_words.specs.Words.{HasNoReading, IsCheck, IsLoad, IsScript, IsServe, IsStdio, arguments}
use Rattle.nc_words.specs.declared.words.Command.{Command}
use Rattle.nc_words.specs.declared.words.Command.TheVariants.{Folder, Load, Stdio}
use Rattle.nc_words.specs.declared.words.Work.{Work}
use Rattle.nc_words.specs.declared.words.Work.TheVariants.{Check, Script, Serve}

-- they ask for no session on standard input and output
abbrev pub IsNoStdio : List (List ℕ) → Type 0
IsNoStdio words = (folder : List ℕ) (peer : Peer) → ¬ IsStdio words folder peer

-- they ask for no load test
abbrev pub IsNoLoad : List (List ℕ) → Type 0
IsNoLoad words = (edits : ℕ) → ¬ IsLoad words edits

-- they ask for none of what is done with a folder, but a session
pub record IsNoFolder (words : List (List ℕ)) : Type 0 where
  pub check : (folder : List ℕ) → ¬ IsCheck words folder
  pub script : (folder file : List ℕ) → ¬ IsScript words folder file
  pub serve : (folder address : List ℕ) → ¬ IsServe words folder address

-- they ask for this work, done with a folder
abbrev pub AsksIn : List (List ℕ) → List ℕ → Work → Type 0
AsksIn words folder Check = IsCheck words folder
AsksIn words folder (Script file) = IsScript words folder file.now
AsksIn words folder (Serve address) = IsServe words folder address.now

-- they ask for this command, or are none
abbrev pub AsksFor : List (List ℕ) → Option Command → Type 0
AsksFor words None = HasNoReading words
AsksFor words (Some (Stdio it)) = IsStdio words it.folder.now (record {
  user = it.user.now;
  groups = arguments (map string_bytes it.others.now);
  recovery = it.recovery;
})
AsksFor words (Some (Folder it)) = AsksIn words it.folder.now it.work
AsksFor words (Some (Load edits)) = IsLoad words edits
