-- The tree of statements that tokens spell.
use Rattle.std.specs.Prelude.{◌≡◌, ℕ, Bool, ◌&&◌, if◌then◌else◌, nat_lt, List, [], ◌∷◌, ◌++◌, length, Option, Some, None, Result, Ok, Err}
use Rattle.nc_yang_words.specs.Keywords.{is_keyword, is_plus}
use Rattle.nc_yang_words.specs.Tokens.{tokens_of}
use Rattle.nc_yang_words.specs.Spelling.{deepest, statement}
use Rattle.nc_yang_words.specs.declared.fault.WordFault.{WordFault}
use Rattle.nc_yang_words.specs.declared.fault.WordFault.TheVariants.{Bad, Memory}
use Rattle.nc_yang_words.specs.declared.begun.Begun.{Begun}
use Rattle.nc_yang_words.specs.declared.statement.Statement.{Statement}
use Rattle.nc_yang_words.specs.declared.token.Token.{Token}
use Rattle.nc_yang_words.specs.declared.token.Kind.{Kind}
use Rattle.nc_yang_words.specs.declared.token.Kind.TheVariants.{Word, Quoted, Semicolon, Open, Close, End, Torn}

-- the statement, once it has ended
abbrev pub closed : Begun → Statement
closed b = statement b.keyword b.argument b.line b.below

-- a statement at its argument's end
abbrev pub begun : List ℕ → Option (List ℕ) → ℕ → Begun
begun keyword argument line = record { keyword = keyword; argument = argument; line = line; below = [] }

-- with one more statement below it
abbrev pub with_child : Begun → Statement → Begun
with_child b s = record { keyword = b.keyword; argument = b.argument; line = b.line; below = b.below ++ (s ∷ []) }

-- what is to come, by the rules of RFC 7950 6.3: the keyword of a statement or the end of the
-- one that it would stand in; an argument or the end of a keyword's statement; after a quoted string
-- a `+` or that end; after a `+` a quoted string; the end of a statement; the end of the text; nothing
pub data Expect : Type 0 where
  Begins : Expect
  Argues : (keyword : List ℕ) (line : ℕ) → Expect
  Joins : (keyword argument : List ℕ) (line : ℕ) → Expect
  Quotes : (keyword argument : List ℕ) (line : ℕ) → Expect
  Ends : (keyword argument : List ℕ) (line : ℕ) → Expect
  Done : (root : Statement) → Expect
  Over : (root : Statement) → Expect

-- what is to come, and the statements whose `}` is to come, nearest first
pub record State : Type 0 where
  pub expect : Expect
  pub above : List Begun

-- what is to come, below statements that are open
abbrev pub state : Expect → List Begun → State
state expect above = record { expect = expect; above = above }

-- a statement has ended
abbrev pub ended : Begun → List Begun → State
ended b [] = state (Done (closed b)) []
ended b (parent ∷ above) = state Begins (with_child parent (closed b) ∷ above)

-- a statement ends with `;`, or its block begins with `{`
abbrev pub at_end : Begun → List Begun → Kind → Option State
at_end b above (Word w) = None
at_end b above (Quoted q) = None
at_end b above Semicolon = Some (ended b above)
at_end b above Open = Some (state Begins (b ∷ above))
at_end b above Close = None
at_end b above End = None
at_end b above Torn = None

-- a block ends with `}`
abbrev pub at_close : List Begun → Option State
at_close [] = None
at_close (b ∷ above) = Some (ended b above)

-- a keyword, below fewer statements than may stand inside one another, or the end of a block
abbrev pub at_begin : List Begun → ℕ → Kind → Option State
at_begin above line (Word w) =
    if is_keyword w && nat_lt (length above) deepest then Some (state (Argues w line) above) else None
at_begin above line (Quoted q) = None
at_begin above line Semicolon = None
at_begin above line Open = None
at_begin above line Close = at_close above
at_begin above line End = None
at_begin above line Torn = None

-- an argument, which white space or a comment parts from its keyword, or the end
abbrev pub at_argument : List ℕ → ℕ → List Begun → Bool → Kind → Option State
at_argument keyword line above apart (Word w) = Some (state (Ends keyword w line) above)
at_argument keyword line above apart (Quoted q) = if apart then Some (state (Joins keyword q line) above) else None
at_argument keyword line above apart Semicolon = Some (ended (begun keyword None line) above)
at_argument keyword line above apart Open = Some (state Begins (begun keyword None line ∷ above))
at_argument keyword line above apart Close = None
at_argument keyword line above apart End = None
at_argument keyword line above apart Torn = None

-- RFC 7950 6.1.3: quoted strings are joined by `+`
abbrev pub at_join : List ℕ → List ℕ → ℕ → List Begun → Kind → Option State
at_join keyword text line above (Word w) = if is_plus w then Some (state (Quotes keyword text line) above) else None
at_join keyword text line above (Quoted q) = None
at_join keyword text line above Semicolon = Some (ended (begun keyword (Some text) line) above)
at_join keyword text line above Open = Some (state Begins (begun keyword (Some text) line ∷ above))
at_join keyword text line above Close = None
at_join keyword text line above End = None
at_join keyword text line above Torn = None

-- after a `+` comes a quoted string, and nothing else
abbrev pub at_quote : List ℕ → List ℕ → ℕ → List Begun → Kind → Option State
at_quote keyword text line above (Word w) = None
at_quote keyword text line above (Quoted q) = Some (state (Joins keyword (text ++ q) line) above)
at_quote keyword text line above Semicolon = None
at_quote keyword text line above Open = None
at_quote keyword text line above Close = None
at_quote keyword text line above End = None
at_quote keyword text line above Torn = None

-- nothing follows the root
abbrev pub at_done : Statement → Kind → Option State
at_done root (Word w) = None
at_done root (Quoted q) = None
at_done root Semicolon = None
at_done root Open = None
at_done root Close = None
at_done root End = Some (state (Over root) [])
at_done root Torn = None

-- where the token leads, if a statement text has it here
abbrev pub at_token : Expect → List Begun → Token → Option State
at_token Begins above t = at_begin above t.line t.kind
at_token (Argues keyword line) above t = at_argument keyword line above t.apart t.kind
at_token (Joins keyword text line) above t = at_join keyword text line above t.kind
at_token (Quotes keyword text line) above t = at_quote keyword text line above t.kind
at_token (Ends keyword text line) above t = at_end (begun keyword (Some text) line) above t.kind
at_token (Done root) above t = at_done root t.kind
at_token (Over root) above t = None

-- the root, where the text has ended after it
abbrev pub root_of : Expect → Result Statement ℕ
root_of Begins = Err 0
root_of (Argues keyword line) = Err 0
root_of (Joins keyword text line) = Err 0
root_of (Quotes keyword text line) = Err 0
root_of (Ends keyword text line) = Err 0
root_of (Done root) = Err 0
root_of (Over root) = Ok root

-- the tree that the tokens spell, or the line of the first that no statement text has there
abbrev pub reads : State → List Token → Result Statement ℕ
reads s [] = root_of s.expect
reads s (t ∷ ts) = elim (at_token s.expect s.above t) [ None ↦ Err t.line | Some next ↦ reads next ts ]

-- the tree that the characters of a text spell, or the line of its fault
abbrev pub reading : List ℕ → Result Statement ℕ
reading cs = reads (state Begins []) (tokens_of cs)

-- a fault other than want of memory is the line of the text's
abbrev pub Faults : WordFault → Result Statement ℕ → Type 0
Faults (Bad line) it = it ≡ Err line
Faults Memory it = Unit {0}

-- after the `{` or the `;` of a statement
abbrev pub entered : Begun → (opens : Bool) → List Begun → State
entered b opens above = if opens then state Begins (b ∷ above) else ended b above

-- where this is to come, the tokens before lead to a statement's `;` or `{` with the rest of the
-- tokens left, wherever the statement stands
abbrev pub Enters : Expect → List Token → Begun → (opens : Bool) → List Token → Type 0
Enters e before b opens rest =
    (above : List Begun) → reads (state e above) before ≡ reads (entered b opens above) rest

-- where this is to come, the tokens before are as good as the rest where that is to come
abbrev pub Moves : Expect → List Token → Expect → List Token → Type 0
Moves e before next rest = (above : List Begun) → reads (state e above) before ≡ reads (state next above) rest

-- where this is to come, the tokens have this fault
abbrev pub Stops : Expect → List Token → WordFault → Type 0
Stops e before fault = (above : List Begun) → Faults fault (reads (state e above) before)

-- after the end of a statement: of the root, or of one under others
abbrev pub risen : (root : Option Statement) → List Begun → State
risen None above = state Begins above
risen (Some root) above = state (Done root) []

-- a word
abbrev pub word_token : (line : ℕ) (apart : Bool) → List ℕ → Token
word_token line apart w = record { line = line; apart = apart; kind = Word w }
