-- A pattern read token by token.
use Rattle.std.specs.Prelude.{ℕ, zero, suc, ◌+◌, ◌-◌, Bool, true, false, ◌&&◌, ◌==◌, nat_lt, List, [], ◌∷◌, take, Result, Ok, Err, IsOk, chars, if◌then◌else◌}
use Rattle.nc_patterns.specs.Characters.{Text}
use Rattle.nc_patterns.specs.Tokens.{outside, inside, deepest_group}
use Rattle.nc_patterns.specs.declared.token.Token.{Token}
use Rattle.nc_patterns.specs.declared.token.Token.TheVariants.{Opens, Closes, Bar, Repeats, ClassOpens, ClassCloses}
use Rattle.nc_patterns.specs.declared.token.Front.{Front}
use Rattle.nc_patterns.specs.declared.token.Front.TheVariants.{Fits, Bad, Unsupported}
use Rattle.nc_patterns.specs.declared.state.Place.{Place}
use Rattle.nc_patterns.specs.declared.state.Place.TheVariants.{Outside, ClassStart, Class}
use Rattle.nc_patterns.specs.declared.state.State.{State}
use Rattle.nc_patterns.specs.declared.fault.ReadFault.{ReadFault}
use Rattle.nc_patterns.specs.declared.fault.ReadFault.TheVariants as fault

-- before the first token: no group is open, and nothing stands there that could be repeated
abbrev pub start : State
start = record { depth = 0; repeatable = false; place = Outside }

-- a group may be opened, closed and repeated only where the tokens before allow it
unfoldable pub allowed : State → Front → Front
allowed s (Fits Opens n) = if nat_lt s.depth deepest_group then Fits Opens n else Unsupported
allowed s (Fits Closes n) = if nat_lt 0 s.depth then Fits Closes n else Bad
allowed s (Fits Repeats n) = if s.repeatable then Fits Repeats n else Bad
allowed s other = other

-- the token at the front, by the place in a pattern
unfoldable pub front_at : Place → State → Text → Front
front_at Outside s t = allowed s (outside t)
front_at ClassStart s t = inside true t
front_at Class s t = inside false t

-- the token at the front of the text
abbrev pub front : State → Text → Front
front s t = front_at s.place s t

-- the place after a member of a class
abbrev pub place_after : Place → Place
place_after Outside = Outside
place_after ClassStart = Class
place_after Class = Class

-- how things stand after a token
unfoldable pub next : State → Token → State
next s Opens = record { depth = s.depth + 1; repeatable = false; place = Outside }
next s Closes = record { depth = s.depth - 1; repeatable = true; place = Outside }
next s Bar = record s { repeatable = false }
next s Repeats = record s { repeatable = false }
next s ClassOpens = record s { place = ClassStart }
next s ClassCloses = record s { repeatable = true; place = Outside }
next s _ = record s { repeatable = true; place = place_after s.place }

-- no class is open
abbrev pub is_outside : Place → Bool
is_outside Outside = true
is_outside _ = false

-- the pattern may end: no group and no class is open
unfoldable pub may_end : State → Bool
may_end s = s.depth == 0 && is_outside s.place

-- a token with the characters that spell it
pub record Spelled : Type 0 where
  pub token : Token
  pub text : Text

-- tokens with their characters, or a fault
abbrev pub Reading : Type 0
Reading = Result (List Spelled) ReadFault

-- with one token before
abbrev pub after_token : Spelled → Reading → Reading
after_token token (Ok later) = Ok (token ∷ later)
after_token token (Err f) = Err f

-- the tokens from a place on, where so many characters of the last token are still to be passed over, or the first
-- fault
unfoldable pub reading : State → ℕ → ℕ → Text → Reading
reading s place k [] = if may_end s then Ok [] else Err (fault.BadArgument place)
reading s place (suc k) (c ∷ t) = reading s (place + 1) k t
reading s place zero (c ∷ t) = elim (front s (c ∷ t)) [
  | Fits token n ↦ after_token (record { token = token; text = c ∷ take (n - 1) t })
      (reading (next s token) (place + 1) (n - 1) t)
  | Bad ↦ Err (fault.BadArgument place)
  | Unsupported ↦ Err (fault.Unsupported place)
]

-- the tokens of a pattern in UTF-8, or its first fault, whose place counts characters from 0
abbrev pub tokens : List ℕ → Reading
tokens pattern = reading start 0 0 (chars pattern)

-- a pattern that is read
abbrev pub IsPattern : List ℕ → Type 0
IsPattern pattern = IsOk (tokens pattern)
