-- Scripts as texts.
use Rattle.std.specs.Prelude.{◌≡◌, ◌≢◌, ◌<◌, ◌≤◌, ◌+◌, ℕ, Bool, true, if◌then◌else◌, List, [], ◌∷◌, ◌++◌, length, codes, Result, Ok, Err}
use Rattle.std.specs.Fmt.{decimal}
use Rattle.std.specs.List.{All, flat_map, join_with_byte}
use Rattle.std.specs.Str.{is_utf8}
use Rattle.nc_names.specs.Limits.{message_limit}
use Rattle.nc_names.specs.Signs.{blank, line_feed}
use Rattle.nc_outside.specs.Clocks.{last_reading}
use Rattle.nc_protocol.specs.declared.peer.Peer.{Peer}
use Rattle.nc_script_text.specs.declared.step.ScriptStep.{ScriptStep}
use Rattle.nc_script_text.specs.declared.step.ScriptStep.TheVariants.{Begin, Piece, End, Reading}
use Rattle.nc_script_text.specs.declared.fault.ScriptTextFault.{ScriptTextFault}
use Rattle.nc_script_text.specs.declared.fault.ScriptTextFault.TheVariants.{Bad, Memory}

-- the highest number of a connection
abbrev pub last_connection : ℕ
last_connection = 4294967295

-- a session is begun: a recovery session (RFC 8341 3.3.3), or another
abbrev pub begin_word : Bool → List ℕ
begin_word recovery = if recovery then codes "recover" else codes "open"

-- the words of a step: `open C USER GROUP..`, `recover C USER GROUP..`, `send C LENGTH`, `end C`, `clock MS`
abbrev pub words_of : ScriptStep → List (List ℕ)
words_of (Begin connection peer) = begin_word peer.recovery ∷ decimal connection ∷ peer.user ∷ peer.groups
words_of (Piece connection bytes) = codes "send" ∷ decimal connection ∷ decimal (length bytes) ∷ []
words_of (End connection) = codes "end" ∷ decimal connection ∷ []
words_of (Reading at) = codes "clock" ∷ decimal at ∷ []

-- what follows them: the bytes that are sent
abbrev pub body_of : ScriptStep → List ℕ
body_of (Piece connection bytes) = bytes ++ line_feed ∷ []
body_of step = []

-- words with single spaces between them
abbrev pub spaced : List (List ℕ) → List ℕ
spaced words = join_with_byte blank words

-- the line of a step
abbrev pub line_of : ScriptStep → List ℕ
line_of step = spaced (words_of step) ++ line_feed ∷ body_of step

-- a byte of a name
abbrev pub IsNameByte : ℕ → Type 0
IsNameByte byte = (byte ≢ blank) × (byte ≢ line_feed)

-- the name of a user or of a group
pub record IsName (name : List ℕ) : Type 0 where
  pub some : 0 < length name
  pub bytes : All IsNameByte name

-- the numbers of a step are within their limits, and its names are names
abbrev pub IsWithin : ScriptStep → Type 0
IsWithin (Begin connection peer) = (connection ≤ last_connection) × IsName peer.user × All IsName peer.groups
IsWithin (Piece connection bytes) = (connection ≤ last_connection) × (length bytes ≤ message_limit)
IsWithin (End connection) = connection ≤ last_connection
IsWithin (Reading at) = at ≤ last_reading

-- a step that has a line
pub record IsProper (step : ScriptStep) : Type 0 where
  pub within : IsWithin step
  pub text : is_utf8 (spaced (words_of step)) ≡ true

-- the text is the lines of these steps
pub record IsScript (text : List ℕ) (steps : List ScriptStep) : Type 0 where
  pub proper : All IsProper steps
  pub text_is : text ≡ flat_map line_of steps

-- no line of a step stands first
abbrev pub BeginsNone : List ℕ → Type 0
BeginsNone text = (step : ScriptStep) (more : List ℕ) → IsProper step → text ≢ line_of step ++ more

-- The text has lines of steps, and then something that is none: the line with that number, from 1. The bytes that a
-- step sends, with the line feed after them, belong to its line.
pub record IsBadAt (text : List ℕ) (line : ℕ) : Type 0 where
  pub steps : List ScriptStep
  pub rest : List ℕ
  pub proper : All IsProper steps
  pub text_is : text ≡ flat_map line_of steps ++ rest
  pub line_is : line ≡ length steps + 1
  pub some : 0 < length rest
  pub none : BeginsNone rest

-- the steps that a text is, or the first line that is none
abbrev pub IsReading : List ℕ → Result (List ScriptStep) ScriptTextFault → Type 0
IsReading text (Ok steps) = IsScript text steps
IsReading text (Err (Bad line)) = IsBadAt text line
IsReading text (Err Memory) = Unit {0}
