-- Double-quoted strings (RFC 7950 6.1.3).
use Rattle.std.specs.Prelude.{ℕ, ◌+◌, ◌-◌, Bool, true, false, ◌==◌, ◌||◌, ◌&&◌, if◌then◌else◌, List, [], ◌∷◌, ◌++◌, map, Option, Some, None, replicate}
use Rattle.nc_names.specs.Signs.{tab, line_feed, carriage_return, blank, quote, backslash}
use Rattle.nc_yang_words.specs.Signs.{is_yang_char, is_blank, starts_with, columns, utf8}
use Rattle.nc_yang_words.specs.declared.double.Quoted.{Quoted}

-- a part of a double-quoted string: a character that stands for itself, the CR of a line break, or the
-- character that a backslash and another one stand for
pub data Sign : Type 0 where
  Plain : (c : ℕ) → Sign
  Return : Sign
  Meant : (c : ℕ) → Sign

-- the character that a backslash and this one stand for: `\n`, `\t`, `\"` and `\\`, and no others
abbrev pub escape : ℕ → Option ℕ
escape c =
    if c == 110 then Some line_feed
    else (if c == 116 then Some tab
    else (if c == quote || c == backslash then Some c else None))

-- one more part before others
abbrev pub with_sign : Sign → Option (List Sign) → Option (List Sign)
with_sign sign None = None
with_sign sign (Some signs) = Some (sign ∷ signs)

-- the parts of a string up to its closing mark. None where that mark is missing, where a backslash
-- stands before another character, or where a character may not stand in a module text. `escaped` says
-- whether a backslash stands just before
abbrev pub signs_of : (escaped : Bool) → List ℕ → Option (List Sign)
signs_of escaped [] = None
signs_of true (c ∷ cs) = elim (escape c) [ None ↦ None | Some x ↦ with_sign (Meant x) (signs_of false cs) ]
signs_of false (c ∷ cs) =
    if c == quote then Some []
    else (if c == backslash then signs_of true cs
    else (if c == carriage_return && starts_with line_feed cs then with_sign Return (signs_of false cs)
    else (if is_yang_char c then with_sign (Plain c) (signs_of false cs) else None)))

-- how many characters of the text the part takes, and how many these parts take
abbrev pub characters : Sign → ℕ
characters (Plain c) = 1
characters Return = 1
characters (Meant c) = 2

-- of how many characters signs are made
abbrev pub characters_of : List Sign → ℕ
characters_of [] = 0
characters_of (sign ∷ signs) = characters sign + characters_of signs

-- the character that it stands for
abbrev pub meaning : Sign → ℕ
meaning (Plain c) = c
meaning Return = carriage_return
meaning (Meant c) = c

-- a line feed as it is written
abbrev pub is_line_feed : Sign → Bool
is_line_feed (Plain c) = c == line_feed
is_line_feed Return = false
is_line_feed (Meant c) = false

-- a return before a line feed
abbrev pub is_return : Sign → Bool
is_return (Plain c) = false
is_return Return = true
is_return (Meant c) = false

-- white space that a line break or a margin may drop; none that a backslash gives
abbrev pub is_blank_sign : Sign → Bool
is_blank_sign (Plain c) = is_blank c
is_blank_sign Return = false
is_blank_sign (Meant c) = false

-- the first line, and the later ones
abbrev pub first_line : List Sign → List Sign
first_line [] = []
first_line (sign ∷ signs) = if is_line_feed sign then [] else sign ∷ first_line signs

-- the lines after the first
abbrev pub later_lines : List Sign → List (List Sign)
later_lines [] = []
later_lines (sign ∷ signs) = if is_line_feed sign then first_line signs ∷ later_lines signs else later_lines signs

-- a part before what is left of its line, unless it is white space before the line break
abbrev pub before_end : Sign → List Sign → List Sign
before_end sign [] = if is_blank_sign sign then [] else sign ∷ []
before_end sign (next ∷ signs) = if is_blank_sign sign && is_return next then next ∷ signs else sign ∷ next ∷ signs

-- the line without the white space before its line break
abbrev pub strip_end : List Sign → List Sign
strip_end [] = []
strip_end (sign ∷ signs) = before_end sign (strip_end signs)

-- the line without that white space at its front which stands in the first `room` columns. A tab that
-- is cut leaves the spaces that remain of it
abbrev pub cut : (room : ℕ) → List Sign → List Sign
cut room [] = []
cut room (Plain c ∷ signs) =
    if is_blank c then (if room == 0 then Plain c ∷ signs
    else replicate (columns c - room) (Plain blank) ++ cut (room - columns c) signs)
    else Plain c ∷ signs
cut room (Return ∷ signs) = Return ∷ signs
cut room (Meant c ∷ signs) = Meant c ∷ signs

-- white space before a line break is stripped, and so is that before a later line, up to and with the
-- column of the opening quotation mark, which is the last of `width` columns
abbrev pub laid_out : (width : ℕ) (first : List Sign) (later : List (List Sign)) → List Sign
laid_out width first [] = first
laid_out width first (line ∷ later) = strip_end first ++ Plain line_feed ∷ laid_out width (cut width line) later

-- the value of the string
abbrev pub value : (width : ℕ) → List Sign → List ℕ
value width signs = utf8 (map meaning (laid_out width (first_line signs) (later_lines signs)))

-- the double-quoted string that goes on after its opening mark, which stands in the last of `width`
-- columns: its value, and how many characters stand before its closing mark
abbrev pub double_string : (width : ℕ) → List ℕ → Option Quoted
double_string width cs =
    elim (signs_of false cs) [
      | None ↦ None
      | Some signs ↦ Some (record { text = value width signs; count = characters_of signs })
    ]
