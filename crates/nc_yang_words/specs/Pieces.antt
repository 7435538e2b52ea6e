-- What stands first in a text.
use Rattle.std.specs.Prelude.{ℕ, ◌+◌, Bool, true, false, ◌==◌, ◌||◌, ◌&&◌, if◌then◌else◌, List, [], ◌∷◌, take, drop, ◌++◌, encode_utf8, Option, Some, None}
use Rattle.nc_names.specs.Signs.{line_feed, carriage_return, quote, apostrophe, asterisk, slash, semicolon, opening_brace, closing_brace}
use Rattle.nc_yang_words.specs.Signs.{is_yang_char, is_blank, ends_word, starts_with, utf8}
use Rattle.nc_yang_words.specs.Doubles.{double_string}
use Rattle.nc_yang_words.specs.declared.double.Quoted.{Quoted}
use Rattle.nc_yang_words.specs.declared.piece.Piece.{Piece}
use Rattle.nc_yang_words.specs.declared.piece.Piece.TheVariants.{Gap, Whole, Torn}
use Rattle.nc_yang_words.specs.declared.token.Kind.{Kind}
use Rattle.nc_yang_words.specs.declared.token.Kind.TheVariants.{Word, Quoted as TheQuoted, Semicolon, Open, Close, End, Torn as NoToken}

-- RFC 7950 6.1.1: a `//` comment goes to the end of its line. How many characters it
-- has after its `//`, where n of them are before these
abbrev pub line_comment : ℕ → List ℕ → Option ℕ
line_comment n [] = Some n
line_comment n (c ∷ cs) =
    if c == line_feed then Some n
    else (if is_yang_char c then line_comment (n + 1) cs else None)

-- RFC 7950 6.1.1: a `/*` comment goes to the nearest `*/`
abbrev pub block_comment : ℕ → List ℕ → Option ℕ
block_comment n [] = None
block_comment n (c ∷ cs) =
    if c == asterisk && starts_with slash cs then Some (n + 2)
    else (if is_yang_char c then block_comment (n + 1) cs else None)

-- the characters begin with `//` or `/*`
abbrev pub begins_comment : ℕ → List ℕ → Bool
begins_comment c cs = c == slash && (starts_with slash cs || starts_with asterisk cs)

-- RFC 7950 6.1.3: an unquoted string goes on to white space, a quotation mark, `;`, a brace or
-- the beginning of a comment, and has no `*/`
abbrev pub word : ℕ → List ℕ → Option ℕ
word n [] = Some n
word n (c ∷ cs) =
    if ends_word c || begins_comment c cs then Some n
    else (if is_yang_char c then (if c == asterisk && starts_with slash cs then None else word (n + 1) cs) else None)

-- RFC 7950 6.1.3: a single-quoted string goes to the nearest single quotation mark
abbrev pub single : ℕ → List ℕ → Option ℕ
single n [] = None
single n (c ∷ cs) =
    if c == apostrophe then Some n
    else (if is_yang_char c then single (n + 1) cs else None)

-- the characters begin with this pair
abbrev pub is_pair : (a b c : ℕ) → List ℕ → Bool
is_pair a b c cs = c == a && starts_with b cs

-- white space: a space, a tab, or a line break, which is LF or CR LF (RFC 7950 14)
abbrev pub is_space : ℕ → List ℕ → Bool
is_space c cs = is_blank c || c == line_feed || is_pair carriage_return line_feed c cs

-- a comment of so many characters after its first and `before` more
abbrev pub comment : (before : ℕ) → Option ℕ → Piece
comment before None = Torn
comment before (Some n) = Gap (n + before)

-- a word of so many characters after its first
abbrev pub unquoted_of : ℕ → List ℕ → Option ℕ → Piece
unquoted_of c cs None = Torn
unquoted_of c cs (Some n) = Whole (Word (encode_utf8 c ++ utf8 (take n cs))) n

-- a word
abbrev pub unquoted : ℕ → List ℕ → Piece
unquoted c cs =
    if c == carriage_return || is_pair asterisk slash c cs then Torn
    else (if is_yang_char c then unquoted_of c cs (word 0 cs) else Torn)

-- a single-quoted string of so many characters
abbrev pub single_quoted : List ℕ → Option ℕ → Piece
single_quoted cs None = Torn
single_quoted cs (Some n) = Whole (TheQuoted (utf8 (take n cs))) (n + 1)

-- a double-quoted string
abbrev pub double_quoted : Option Quoted → Piece
double_quoted None = Torn
double_quoted (Some q) = Whole (TheQuoted q.text) (q.count + 1)

-- a mark, a string or a word
abbrev pub token : (width : ℕ) → ℕ → List ℕ → Piece
token width c cs =
    if c == semicolon then Whole Semicolon 0
    else (if c == opening_brace then Whole Open 0
    else (if c == closing_brace then Whole Close 0
    else (if c == apostrophe then single_quoted cs (single 0 cs)
    else (if c == quote then double_quoted (double_string width cs)
    else unquoted c cs))))

-- RFC 7950 6.1.1 to 6.1.3: what stands first in a text. `width` is how many columns there are
-- up to and with its first character
abbrev pub piece : (width : ℕ) → ℕ → List ℕ → Piece
piece width c cs =
    if is_space c cs then Gap 0
    else (if is_pair slash slash c cs then comment 0 (line_comment 0 cs)
    else (if is_pair slash asterisk c cs then comment 1 (block_comment 0 (drop 1 cs))
    else token width c cs))

-- no token follows the end of a text, or what is no whole token
abbrev pub is_last : Kind → Bool
is_last (Word w) = false
is_last (TheQuoted q) = false
is_last Semicolon = false
is_last Open = false
is_last Close = false
is_last End = true
is_last NoToken = true
