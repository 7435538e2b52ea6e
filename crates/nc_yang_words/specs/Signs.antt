-- The characters of a module text.
use Rattle.std.specs.Prelude.{ℕ, ◌%◌, Bool, false, ◌==◌, ◌||◌, ◌&&◌, if◌then◌else◌, nat_le, nat_lt, List, [], ◌∷◌, encode_utf8}
use Rattle.std.specs.List.{flat_map}
use Rattle.nc_names.specs.Signs.{tab, line_feed, carriage_return, blank, quote, apostrophe, semicolon, opening_brace, closing_brace}

-- RFC 7950 14, yang-char: tab, LF, CR, and every character from space on but for surrogates
-- and noncharacters
abbrev pub is_yang_char : ℕ → Bool
is_yang_char c =
    c == tab || c == line_feed || c == carriage_return
    || (nat_le 0x20 c && nat_le c 0xd7ff)
    || (nat_le 0xe000 c && nat_le c 0xfdcf)
    || (nat_le 0xfdf0 c && nat_le c 0xfffd)
    || (nat_le 0x1_0000 c && nat_lt (c % 0x1_0000) 0xfffe)

-- RFC 7950 6.1.3: what no unquoted string has: white space, quotation marks, `;` and braces
abbrev pub ends_word : ℕ → Bool
ends_word c =
    c == blank || c == tab || c == line_feed || c == carriage_return || c == quote || c == apostrophe || c == semicolon
    || c == opening_brace || c == closing_brace

-- a space or a tab
abbrev pub is_blank : ℕ → Bool
is_blank c = c == blank || c == tab

-- RFC 7950 6.1.3: a tab is eight columns, any other character one
abbrev pub columns : ℕ → ℕ
columns c = if c == tab then 8 else 1

-- the characters go on with this one
abbrev pub starts_with : ℕ → List ℕ → Bool
starts_with c [] = false
starts_with c (x ∷ xs) = x == c

-- the bytes of characters
abbrev pub utf8 : List ℕ → List ℕ
utf8 cs = flat_map encode_utf8 cs
