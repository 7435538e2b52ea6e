-- What the bytes of text, of a quoted value and of a CDATA section stand for (XML 1.0, 2.2, 2.4, 2.7,
-- 2.11, 3.3.3, 4.1, 4.6).
use Rattle.std.specs.Prelude.{ℕ, zero, suc, ◌==◌, ◌||◌, ◌&&◌, Bool, true, false, nat_eq, nat_le, ◌+◌, List, [], ◌∷◌, ◌++◌, take, drop, codes, encode_utf8, Option, None, Some, option_and_then, option_map, if◌then◌else◌, is_some}
use Rattle.std.specs.Char.{is_digit}
use Rattle.std.specs.List.{prefix_len, starts_with, list_all}
use Rattle.std.specs.Str.Parse.{digits_value}
use Rattle.std.specs.Str.{is_utf8, chars}
use Rattle.nc_names.specs.Signs.{ampersand, apostrophe, blank, greater_than, less_than, number_sign, quote, semicolon, tab}
use Rattle.nc_names.specs.Signs as signs
use Rattle.nc_message.specs.Pieces.{section_end, up_to}

-- a character that may stand in a message (2.2)
abbrev pub is_char : ℕ → Bool
is_char c =
    c == tab || c == signs.line_feed || c == signs.carriage_return || (nat_le 0x20 c && nat_le c 0xD7FF)
    || (nat_le 0xE000 c && nat_le c 0xFFFD) || (nat_le 0x10000 c && nat_le c 0x10FFFF)

-- the text is UTF-8 of such characters
abbrev pub is_allowed : List ℕ → Bool
is_allowed text = is_utf8 text && list_all is_char (chars text)

-- one of the five predefined entities after its `&`: the character that it stands for, and how many bytes it has
-- (4.6)
unfoldable pub named : List ℕ → Option (ℕ × ℕ)
named cs =
    if starts_with nat_eq cs (codes "amp;") then Some (ampersand, 4)
    else if starts_with nat_eq cs (codes "lt;") then Some (less_than, 3)
    else if starts_with nat_eq cs (codes "gt;") then Some (greater_than, 3)
    else if starts_with nat_eq cs (codes "quot;") then Some (quote, 5)
    else if starts_with nat_eq cs (codes "apos;") then Some (apostrophe, 5)
    else None

-- the character of a reference's digits, where it may stand in a message, and how many bytes the reference has
-- with `marks` besides its digits (4.1)
unfoldable pub numbered : (radix : ℕ) → (marks : ℕ) → List ℕ → Option (ℕ × ℕ)
numbered radix marks cs =
    let count = prefix_len (λ c. is_digit c radix) cs in
    let number = digits_value radix (take count cs) in
    if nat_le 1 count && starts_with nat_eq (drop count cs) (semicolon ∷ []) && is_char number
    then Some (number, marks + count)
    else None

-- a reference after its `&`: the character that it stands for, and how many bytes it has (4.1, 4.6)
unfoldable pub reference : List ℕ → Option (ℕ × ℕ)
reference cs =
    if starts_with nat_eq cs (codes "#x") then numbered 16 3 (drop 2 cs)
    else if starts_with nat_eq cs (number_sign ∷ []) then numbered 10 2 (drop 1 cs)
    else named cs

-- a tab and the end of a line in a value are spaces (3.3.3)
abbrev pub plain : (in_value : Bool) → ℕ → ℕ
plain in_value c = if in_value && (c == tab || c == signs.line_feed) then blank else c

-- how many bytes of a line's end follow its CR (2.11)
abbrev pub line_feed : List ℕ → ℕ
line_feed cs = if starts_with nat_eq cs (signs.line_feed ∷ []) then 1 else 0

-- these bytes, and those that follow
abbrev pub onto : {X : Type 0} → List X → Option (List X) → Option (List X)
onto xs o = option_map (λ ys. xs ++ ys) o

-- what bytes stand for; the first `skip` of them belong to what stands before
abbrev pub resolved : (refers in_value : Bool) → (skip : ℕ) → List ℕ → Option (List ℕ)
resolved refers in_value skip [] = Some []
resolved refers in_value (suc n) (c ∷ cs) = resolved refers in_value n cs
resolved refers in_value zero (c ∷ cs) =
    if refers && c == ampersand
    then option_and_then (λ r. onto (encode_utf8 r.0) (resolved refers in_value r.1 cs)) (reference cs)
    else if c == signs.carriage_return
    then onto (plain in_value signs.line_feed ∷ []) (resolved refers in_value (line_feed cs) cs)
    else onto (plain in_value c ∷ []) (resolved refers in_value 0 cs)

-- what they stand for, where it is UTF-8 of characters that may stand in a message
abbrev pub meant : (refers in_value : Bool) → List ℕ → Option (List ℕ)
meant refers in_value raw =
    option_and_then (λ t. if is_allowed t then Some t else None) (resolved refers in_value 0 raw)

-- a run of text, in which `]]>` does not stand (2.4)
unfoldable pub text_of : List ℕ → Option (List ℕ)
text_of raw = if is_some (up_to section_end raw) then None else meant true false raw

-- a quoted value, in which white space is written as spaces (3.3.3)
abbrev pub value_of : List ℕ → Option (List ℕ)
value_of raw = meant true true raw

-- a CDATA section, in which no reference stands (2.7)
abbrev pub section_of : List ℕ → Option (List ℕ)
section_of raw = meant false false raw
