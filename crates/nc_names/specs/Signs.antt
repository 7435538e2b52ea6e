-- Characters by their codes (ASCII), and the characters of identifiers and of white space.
use Rattle.std.specs.Prelude.{ℕ, Bool, ◌==◌, ◌||◌}
use Rattle.std.specs.Char.{is_ascii_alphabetic, is_ascii_digit}

-- a horizontal tab
abbrev pub tab : ℕ
tab = 9

-- the end of a line
abbrev pub line_feed : ℕ
line_feed = 10

-- before a line feed in some texts
abbrev pub carriage_return : ℕ
carriage_return = 13

-- a space
abbrev pub blank : ℕ
blank = 32

-- `!`
abbrev pub exclamation : ℕ
exclamation = 33

-- `"`
abbrev pub quote : ℕ
quote = 34

-- `#`
abbrev pub number_sign : ℕ
number_sign = 35

-- `&`
abbrev pub ampersand : ℕ
ampersand = 38

-- `'`
abbrev pub apostrophe : ℕ
apostrophe = 39

-- `*`
abbrev pub asterisk : ℕ
asterisk = 42

-- `+`
abbrev pub plus : ℕ
plus = 43

-- `-`
abbrev pub hyphen : ℕ
hyphen = 45

-- `.`
abbrev pub dot : ℕ
dot = 46

-- `/`
abbrev pub slash : ℕ
slash = 47

-- `:`
abbrev pub colon : ℕ
colon = 58

-- `;`
abbrev pub semicolon : ℕ
semicolon = 59

-- `<`
abbrev pub less_than : ℕ
less_than = 60

-- `=`
abbrev pub equals : ℕ
equals = 61

-- `>`
abbrev pub greater_than : ℕ
greater_than = 62

-- `?`
abbrev pub question : ℕ
question = 63

-- `[`
abbrev pub opening_bracket : ℕ
opening_bracket = 91

-- `\`
abbrev pub backslash : ℕ
backslash = 92

-- `]`
abbrev pub closing_bracket : ℕ
closing_bracket = 93

-- `_`
abbrev pub underscore : ℕ
underscore = 95

-- `{`
abbrev pub opening_brace : ℕ
opening_brace = 123

-- `|`
abbrev pub bar : ℕ
bar = 124

-- `}`
abbrev pub closing_brace : ℕ
closing_brace = 125

-- an identifier begins with an ASCII letter or `_` (RFC 7950 6.2; `identifier` of 14)
abbrev pub begins_identifier : ℕ → Bool
begins_identifier sign = is_ascii_alphabetic sign || sign == underscore

-- and goes on with these, digits, `-` and `.` (RFC 7950 6.2; `identifier` of 14)
abbrev pub is_in_identifier : ℕ → Bool
is_in_identifier sign = begins_identifier sign || is_ascii_digit sign || sign == hyphen || sign == dot

-- a space, a tab, a line feed or a carriage return: white space (`S` of XML 1.0, 2.3), and what may
-- stand between the words of a module text (`sep` of RFC 7950 14)
abbrev pub is_white : ℕ → Bool
is_white sign = sign == blank || sign == tab || sign == line_feed || sign == carriage_return
