-- The words of a line, as they are read.
use Rattle.std.specs.Prelude.{◌≡◌, ◌≢◌, ◌<◌, ◌≤◌, ◌+◌, ◌==◌, ℕ, Bool, List, [], ◌∷◌, ◌++◌, length, codes, drop, take, Option, Some, None, Result, Ok, Err}
use Rattle.std.specs.Fmt.{decimal}
use Rattle.std.specs.List.{All, slice_split}
use Rattle.nc_names.specs.Limits.{message_limit}
use Rattle.nc_names.specs.Signs.{blank, line_feed}
use Rattle.nc_outside.specs.Clocks.{last_reading}
use Rattle.nc_script_text.specs.Lines.{BeginsNone, IsName, IsProper, IsWithin, begin_word, body_of, last_connection, line_of, words_of}
use Rattle.nc_script_text.specs.declared.step.ScriptStep.{ScriptStep}
use Rattle.nc_script_text.specs.declared.step.ScriptStep.TheVariants.{Begin as StepBegin, Piece, End as StepEnd, Reading}
use Rattle.nc_script_text.specs.declared.fault.LineFault.{LineFault}
use Rattle.nc_script_text.specs.declared.fault.LineFault.TheVariants.{Bad, Memory}
use Rattle.nc_script_text.specs.declared.head.Head.{Head}
use Rattle.nc_script_text.specs.declared.head.Head.TheVariants.{Begin, Send, End, Clock}
use Rattle.nc_script_text.specs.declared.line.Found.{Found}

-- a byte is the one between words
abbrev pub is_blank : ℕ → Bool
is_blank byte = byte == blank

-- the words of a text
abbrev pub cut : List ℕ → List (List ℕ)
cut text = slice_split is_blank text

-- the words of what is left of a line
abbrev pub words_in : Option (List ℕ) → List (List ℕ)
words_in None = []
words_in (Some text) = cut text

-- a line feed is the first at that place, or there is none
abbrev pub EndsAt : List ℕ → Option ℕ → Type 0
EndsAt text None = All (λ x. x ≢ line_feed) text
EndsAt text (Some end) =
    (end < length text) × All (λ x. x ≢ line_feed) (take end text)
    × (text ≡ take end text ++ line_feed ∷ drop (end + 1) text)

-- the words of a line
abbrev pub head_words : Head → List (List ℕ)
head_words (Begin connection peer) = begin_word peer.recovery ∷ decimal connection ∷ peer.user ∷ peer.groups
head_words (Send connection size) = codes "send" ∷ decimal connection ∷ decimal size ∷ []
head_words (End connection) = codes "end" ∷ decimal connection ∷ []
head_words (Clock at) = codes "clock" ∷ decimal at ∷ []

-- a word is not empty
abbrev pub IsSome : List ℕ → Type 0
IsSome word = 0 < length word

-- its numbers are within their limits, and no name is empty
abbrev pub IsHead : Head → Type 0
IsHead (Begin connection peer) = (connection ≤ last_connection) × IsSome peer.user × All IsSome peer.groups
IsHead (Send connection size) = (connection ≤ last_connection) × (size ≤ message_limit)
IsHead (End connection) = connection ≤ last_connection
IsHead (Clock at) = at ≤ last_reading

-- what words come to
abbrev pub Reads : List (List ℕ) → Result Head LineFault → Type 0
Reads words (Ok head) = IsHead head × (words ≡ head_words head)
Reads words (Err Bad) = (head : Head) → IsHead head → words ≢ head_words head
Reads words (Err Memory) = Unit {0}

-- names
abbrev pub ReadsNames : List (List ℕ) → Result (List (List ℕ)) LineFault → Type 0
ReadsNames words (Ok names) = (words ≡ names) × All IsSome names
ReadsNames words (Err Bad) = All IsSome words → ⊥
ReadsNames words (Err Memory) = Unit {0}

-- one name
abbrev pub ReadsName : List ℕ → Result (List ℕ) LineFault → Type 0
ReadsName word (Ok name) = (word ≡ name) × IsSome name
ReadsName word (Err Bad) = IsSome word → ⊥
ReadsName word (Err Memory) = Unit {0}

-- so many bytes stand first, and a line feed after them
abbrev pub IsBody : List ℕ → ℕ → Result (List ℕ) LineFault → Type 0
IsBody text size (Ok bytes) = (text ≡ bytes ++ line_feed ∷ drop (size + 1) text) × (length bytes ≡ size)
IsBody text size (Err Bad) = (bytes more : List ℕ) → length bytes ≡ size → text ≢ bytes ++ line_feed ∷ more
IsBody text size (Err Memory) = Unit {0}

-- the step of the words of a line, with the bytes that it sends
abbrev pub step_of : Head → List ℕ → ScriptStep
step_of (Begin connection peer) bytes = StepBegin connection peer
step_of (Send connection size) bytes = Piece connection bytes
step_of (End connection) bytes = StepEnd connection
step_of (Clock at) bytes = Reading at

-- how many bytes come after the line: those that are sent, or none
abbrev pub size_of : Head → ℕ
size_of (Send connection size) = size
size_of head = 0

-- a step of these words, whose body stands first
pub record IsCompleted (head : Head) (after : List ℕ) (found : Found) : Type 0 where
  pub bytes : List ℕ
  pub size_is : length bytes ≡ size_of head
  pub step_is : found.step ≡ step_of head bytes
  pub few : found.len ≤ length after
  pub body : after ≡ body_of found.step ++ drop found.len after

-- what stands after a line comes to: the step of its words, whose body is first, or that it begins with none
abbrev pub Completes : Head → List ℕ → Result Found LineFault → Type 0
Completes head after (Ok found) = IsCompleted head after found
Completes head after (Err Bad) =
    (step : ScriptStep) (more : List ℕ) → IsHead head → IsWithin step → words_of step ≡ head_words head
    → after ≢ body_of step ++ more
Completes head after (Err Memory) = Unit {0}

-- a step stands first, with so many bytes
pub record IsFound (text : List ℕ) (found : Found) : Type 0 where
  pub proper : IsProper found.step
  pub few : found.len ≤ length text
  pub some : 0 < found.len
  pub text_is : text ≡ line_of found.step ++ drop found.len text

-- what a text comes to: the step that stands first, or that none does
abbrev pub Finds : List ℕ → Result Found LineFault → Type 0
Finds text (Ok found) = IsFound text found
Finds text (Err Bad) = BeginsNone text
Finds text (Err Memory) = Unit {0}
