-- The tokens of a pattern (XML Schema part 2, appendix F), and which of them stands at the front of a text.
-- Lengths are in characters.
use Rattle.std.specs.Prelude.{ℕ, ◌+◌, ◌*◌, ◌-◌, Bool, false, ◌||◌, ◌&&◌, ◌==◌, nat_le, nat_lt, min, [], ◌∷◌, drop, length, fold, take_while, if◌then◌else◌}
use Rattle.std.specs.Char.{is_ascii_digit}
use Rattle.nc_patterns.specs.Characters.{Text, ◌∈◌, at}
use Rattle.nc_patterns.specs.declared.token.Token.{Token}
use Rattle.nc_patterns.specs.declared.token.Token.TheVariants.{Ordinary, Any, Digit, Space, Category, Opens, Closes, Bar, Repeats, ClassOpens, Range, ClassCloses}
use Rattle.nc_patterns.specs.declared.token.Front.{Front}
use Rattle.nc_patterns.specs.declared.token.Front.TheVariants.{Fits, Bad, Unsupported}

-- the greatest count of a repetition, and how deep groups may nest
abbrev pub greatest_count : ℕ
greatest_count = 1000

-- so deep groups nest
abbrev pub deepest_group : ℕ
deepest_group = 60

-- one letter names a general category of Unicode, or two do
unfoldable pub is_major : ℕ → Bool
is_major c = c ∈ "LMNPZSC"

-- the second letter of a category of characters
unfoldable pub is_minor : ℕ → ℕ → Bool
is_minor c d =
    if c ∈ "L" then d ∈ "ultmo"
    else if c ∈ "M" then d ∈ "nce"
    else if c ∈ "N" then d ∈ "dlo"
    else if c ∈ "P" then d ∈ "cdseifo"
    else if c ∈ "Z" then d ∈ "slp"
    else if c ∈ "S" then d ∈ "mcko"
    else if c ∈ "C" then d ∈ "cfon"
    else false

-- after `\p` or `\P`: a category in braces. Names of blocks are not supported.
unfoldable pub category : Text → Front
category t =
    if at t 0 ∈ "{" && at t 2 ∈ "}" && is_major (at t 1) then Fits Category 5
    else if at t 0 ∈ "{" && at t 3 ∈ "}" && is_minor (at t 1) (at t 2) then Fits Category 6
    else Unsupported

-- an escape of one character
unfoldable pub escape_of : ℕ → Front
escape_of c =
    if c ∈ "\\|.-^?*+{}()[]" then Fits (Ordinary c) 2
    else if c ∈ "n" then Fits (Ordinary 0x0A) 2
    else if c ∈ "r" then Fits (Ordinary 0x0D) 2
    else if c ∈ "t" then Fits (Ordinary 0x09) 2
    else if c ∈ "d" then Fits Digit 2
    else if c ∈ "s" then Fits Space 2
    else Unsupported

-- from the character after the backslash on
unfoldable pub escape : Text → Front
escape [] = Bad
escape (c ∷ t) = if c ∈ "pP" then category t else escape_of c

-- the digits at the front, and their number, or 1,001 where it is greater
abbrev pub digits : Text → Text
digits = take_while is_ascii_digit

-- the number that digits spell, or one past the greatest
unfoldable pub number : Text → ℕ
number ds = fold (λ n d. min (greatest_count + 1) (n * 10 + (d - 0x30))) 0 ds

-- after the first number, which has so many digits: nothing, a comma, or a comma and a number not below the first
unfoldable pub second_count : ℕ → ℕ → Text → Front
second_count low n t =
    let high = digits (drop 1 t) in
    let is_fit = length high == 0 || (nat_le low (number high) && nat_le (number high) greatest_count) in
    if at t 0 ∈ "}" then Fits Repeats (n + 2)
    else if at t 0 ∈ "," && at t (length high + 1) ∈ "}" && is_fit then Fits Repeats (n + length high + 3)
    else Bad

-- after the brace: `n}`, `n,}` or `n,m}`
unfoldable pub counted : Text → Front
counted t =
    let low = digits t in
    if length low == 0 || nat_lt greatest_count (number low) then Bad
    else second_count (number low) (length low) (drop (length low) t)

-- the token of one character
unfoldable pub one_character : ℕ → Token
one_character c =
    if c ∈ "." then Any
    else if c ∈ "(" then Opens
    else if c ∈ ")" then Closes
    else if c ∈ "|" then Bar
    else if c ∈ "?*+" then Repeats
    else Ordinary c

-- the token at the front, outside classes
unfoldable pub outside : Text → Front
outside [] = Bad
outside (c ∷ t) =
    if c ∈ "\\" then escape t
    else if c ∈ "[" then Fits ClassOpens (if at t 0 ∈ "^" then 2 else 1)
    else if c ∈ "{" then counted t
    else if c ∈ "]}" then Bad
    else Fits (one_character c) 1

-- a character of a class, which may be an end of a range, or an escape
unfoldable pub member : Text → Front
member [] = Bad
member (c ∷ t) =
    if c ∈ "\\" then escape t
    else if c ∈ "-[]" then Bad
    else Fits (Ordinary c) 1

-- `low` of length n, and the range from it where a hyphen and a character not below it follow
unfoldable pub range_from : ℕ → ℕ → Front → Front
range_from low n (Fits (Ordinary high) m) =
    if nat_le low high then Fits (Range low high) (n + 1 + m) else Fits (Ordinary low) n
range_from low n _ = Fits (Ordinary low) n

-- with the range that a hyphen begins
unfoldable pub with_range : Front → Text → Front
with_range (Fits (Ordinary low) n) t =
    if at t n ∈ "-" then range_from low n (member (drop (n + 1) t)) else Fits (Ordinary low) n
with_range other t = other

-- what follows a hyphen that is in no range: it stands for itself at the front of a class and at its end
unfoldable pub hyphen : Bool → ℕ → Front
hyphen first c =
    if first || c ∈ "]" then Fits (Ordinary 0x2D) 1
    else if c ∈ "[" then Unsupported
    else Bad

-- the token at the front within a class, where the flag says that it is the first
unfoldable pub inside : Bool → Text → Front
inside first t =
    if at t 0 ∈ "]" then (if first then Bad else Fits ClassCloses 1)
    else if at t 0 ∈ "-" then hyphen first (at t 1)
    else with_range (member t) t
